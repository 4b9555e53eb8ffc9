-- A hold that a tree shows has a good part: what is held below a node rests on the positions of the path above it.
use Rattle.std.proofs.Common.{◌≡◌, ℕ, ◌⊎◌, inl, inr, List, [], ◌∷◌, ◌++◌, refl, sym, ◌∙◌, subst, true, Option, Some, None, map}
use Rattle.std.specs.Prelude.{Contains, All}
use Rattle.std.proofs.lemmas.Bool.{false≢true}
use Rattle.std.proofs.lemmas.List.Elements.{All-contains, All-weaker, All-cons, All-nil}
use Rattle.draughts_board.specs.Board.{Board, IsLawful, other}
use Rattle.draughts_board.specs.Rules.{after}
use Rattle.draughts_board.specs.Play.{successors_of}
use Rattle.draughts_board.specs.Draughts.{draughts}
use Rattle.draughts_board.specs.declared.pieces.Side.{Side}
use Rattle.draughts_board.proofs.Truth.{other-other}
use Rattle.draughts_board.proofs.Members.{Contains-head, Contains-tail, Contains-nil, Contains-cons_cases}
use Rattle.draughts_board.proofs.Successors.{path-to_successor}
use Rattle.strategy_certificate.specs.declared.oracle.Answer.{Answer}
use Rattle.strategy_certificate.specs.declared.certificates.Certificate.{Certificate}
use Rattle.strategy_certificate.specs.Tables.{IsSoundTable, TableHolds}
use Rattle.strategy_certificate.specs.Parts.{HoldList}
use Rattle.strategy_certificate.specs.Certificates.{HasDueMove, due_positions}
use Rattle.strategy_certificate.specs.Laws.{merged_hold_list}
use Rattle.proof_numbers.specs.Known.{knows_hold}
use Rattle.proof_numbers.specs.Numbers.{least_of, total_of}
use Rattle.proof_tree.specs.Forest.{Own, Forest, no_node, node, Node, nodes, numbers, numbers_at}
use Rattle.proof_tree.specs.Sound.{EachNode, IsSoundNode}
use Rattle.certificate_joiner.specs.Growing.{IsHeldOrOpen, HoldsAllBut}
use Rattle.certificate_joiner.specs.Shelf.{Put, certificates_of}
use Rattle.certificate_joiner.specs.Certified.{IsCertified, IsShelved}
use Rattle.certificate_joiner.specs.Strategy.{FromNode}
use Rattle.certificate_joiner.proofs.Nodes.{position_of, facts_of, is_disproved}
use Rattle.certificate_joiner.proofs.Holds.{HoldsAllBut-held, HoldsAllBut-entry, HoldsAllBut-merged, HoldsAllBut-weaker, HoldsAllBut-none}
use Rattle.certificate_joiner.proofs.AtSight.{at_sight_cases, table_holds, theirs_without_move}
use Rattle.certificate_joiner.proofs.Given.{GivesHold, gives_hold}
use Rattle.certificate_joiner.proofs.Numbers.{least_zero, total_zero, some_disproved, all_disproved, disproved_by}

-- the side that holds is the other than the goal
module _ (k : ℕ) (puts : List Put) (goal : Side) where
  -- a part that holds these positions, but for the waiting ones
  pub record Held (waiting ps : List Board) : Type 0 where
    pub part : HoldList
    pub side : part.side ≡ other goal
    pub holds : (answer : Board → Option Answer) → IsSoundTable draughts k answer → HoldsAllBut answer waiting ps part

  abbrev Grown : List Board → List Board → (List Board → Type 0) → Type 0
  Grown path ps F = (qs : List Board) × (Held path qs × (((q : Board) → Contains ps q → Contains qs q) × F qs))

  -- ---- one position

  held_by : (path ps : List Board) (p : Board) (held : Held path ps) → ((answer : Board → Option Answer) → IsSoundTable draughts k answer → IsHeldOrOpen held.part answer path p) → Held path (p ∷ ps)
  held_by path ps p held here = record {
    part = held.part;
    side = held.side;
    holds = λ answer sound. HoldsAllBut-held answer path path ps held.part p (λ q there. inr there) (here answer sound) (held.holds answer sound);
  }

  held_by_part : (path ps : List Board) (p : Board) (c : Certificate) (shelved : IsShelved k p c) → GivesHold k p c shelved (other goal) → Held path ps → Held path (p ∷ ps)
  held_by_part path ps p c shelved gives held = record {
    part = merged_hold_list held.part gives.list;
    side = held.side;
    holds = λ answer sound. HoldsAllBut-merged answer held.part gives.list (held.side ∙ sym gives.side) path path ps p (λ q there. inr there)
        (held.holds answer sound) (gives.good answer sound) (gives.here answer sound);
  }

  held_by_entry : (path ps : List Board) (p : Board) (chosen : Option (List ℕ)) → IsLawful p → HasDueMove (other goal) p chosen
      → All (λ q. Contains ps q ⊎ Contains (p ∷ path) q) (due_positions p chosen) → Held (p ∷ path) ps → Held path (p ∷ ps)
  held_by_entry path ps p chosen lawful move due held = record {
    part = record { side = held.part.side; entries = held.part.entries ++ (p, chosen) ∷ [] };
    side = held.side;
    holds = λ answer sound. HoldsAllBut-entry answer (p ∷ path) path ps held.part p (Contains-cons_cases p path) chosen lawful
        (subst (λ t. HasDueMove t p chosen) (sym held.side) move) due (held.holds answer sound);
  }

  held_above : (path ps : List Board) (p : Board) → Held path ps → Held (p ∷ path) ps
  held_above path ps p held = record {
    part = held.part;
    side = held.side;
    holds = λ answer sound. HoldsAllBut-weaker answer path (p ∷ path) ps held.part (λ q there. Contains-tail p q path there) (held.holds answer sound);
  }

  -- ---- a node whose hold is known

  held_known : (path : List Board) (x : Node) (ps : List Board) → IsSoundNode path x → IsCertified k puts x → knows_hold (other goal) (facts_of x) ≡ true → Held path ps → Held path (position_of x ∷ ps)
  held_known path x ps tree cert known held =
      elim (cert.holds (other goal) known) [
        | inl (inl none) ↦ absurd (Contains-nil (position_of x) none)
        | inl (inr sight) ↦ (elim (at_sight_cases k (position_of x) sight.0) [
          | inl none ↦ (
              held_by_entry path ps (position_of x) None tree.lawful (theirs_without_move (other goal) (position_of x) none sight.1)
              (subst (All (λ q. Contains ps q ⊎ Contains (position_of x ∷ path) q)) (sym none) (All-nil (λ q. Contains ps q ⊎ Contains (position_of x ∷ path) q))) (held_above path ps (position_of x) held))
          | inr few ↦ (
              held_by path ps (position_of x) held (λ answer sound. inl (inr (subst (λ t. TableHolds draughts answer t (position_of x)) (sym held.side)
              (table_holds k answer sound (other goal) (position_of x) tree.lawful few sight.1)))))
        ])
        | inr shown ↦ (
            let shelved = All-contains (IsShelved k (position_of x)) (certificates_of x.own.number puts) shown.0 cert.shelved shown.1.0 in
            held_by_part path ps (position_of x) shown.0 shelved (gives_hold k (position_of x) shown.0 shelved (other goal) shown.1.1) held)
      ]

  -- ---- every node

  abbrev HasSome : Forest → List Board → Type 0
  HasSome xs qs = (q : Board) × (Contains (map position_of (nodes xs)) q × Contains qs q)

  abbrev HasAll : Forest → List Board → Type 0
  HasAll xs qs = All (Contains qs) (map position_of (nodes xs))

  played : (path ps : List Board) (x : Node) (chosen : Option (List ℕ)) (qs : List Board) → ((q : Board) → Contains ps q → Contains qs q) → IsSoundNode path x
      → HasDueMove (other goal) (position_of x) chosen → All (Contains qs) (due_positions (position_of x) chosen) → Held (position_of x ∷ path) qs → Grown path ps (λ rs. Contains rs (position_of x))
  played path ps x chosen qs more tree move due held =
      (position_of x ∷ qs, (held_by_entry path qs (position_of x) chosen tree.lawful move (All-weaker (Contains qs) (λ q. Contains qs q ⊎ Contains (position_of x ∷ path) q) (λ q there. inl there) (due_positions (position_of x) chosen) due) held, (λ q there. Contains-tail (position_of x) q qs (more q there), Contains-head (position_of x) qs)))

  hold_step : (own : Own) (xs : Forest) (path : List Board) → FromNode IsSoundNode path (record { own = own; children = xs })
      → FromNode (λ path. IsCertified k puts) path (record { own = own; children = xs }) → is_disproved goal (record { own = own; children = xs }) ≡ true
      → (ps : List Board) → Held path ps → (some_disproved goal xs ≡ true → Grown (own.position ∷ path) ps (HasSome xs))
      → (all_disproved goal xs ≡ true → Grown (own.position ∷ path) ps (HasAll xs)) → Grown path ps (λ qs. Contains qs own.position)
  hold_step own xs path tree cert t ps held below_some below_all =
      let p = own.position in
      let x : Node = record { own = own; children = xs } in
      elim (disproved_by goal own xs t) [
        | inl known ↦ (p ∷ ps, (held_known path x ps tree.0 cert.0 known held, (λ q there. Contains-tail p q ps there, Contains-head p ps)))
        | inr (inl is) ↦ (p ∷ ps, (held_by path ps p held (λ answer sound. inr (tree.0.repeats.0 is)), (λ q there. Contains-tail p q ps there, Contains-head p ps)))
        | inr (inr (is, inl (theirs, all))) ↦ (
            let g = below_all all in
            played path ps x None g.0 g.1.1.0 tree.0 (theirs ∙ sym (other-other goal)) (subst (All (Contains g.0)) (tree.0.expanded is) g.1.1.1) g.1.0)
        | inr (inr (is, inr (mine, some))) ↦ (
            let g = below_some some in
            let q = g.1.1.1.0 in
            let next : Contains (successors_of p) q = subst (λ ys. Contains ys q) (tree.0.expanded is) g.1.1.1.1.0 in
            let move = path-to_successor p q tree.0.lawful next in
            played path ps x (Some move.0) g.0 g.1.1.0 tree.0 (mine, move.1.0)
            (All-cons (Contains g.0) (after p move.0) [] (subst (Contains g.0) (sym move.1.1) g.1.1.1.1.1) (All-nil (Contains g.0))) g.1.0)
      ]

  mutual
    hold_some : (xs : Forest) (path : List Board) → EachNode IsSoundNode path xs → EachNode (λ path. IsCertified k puts) path xs → some_disproved goal xs ≡ true
        → (ps : List Board) → Held path ps → Grown path ps (HasSome xs)
    hold_some no_node path tree cert t ps held = absurd (false≢true t)
    hold_some (node own children xs) path tree cert t ps held =
        elim (least_zero (numbers_at goal own (numbers goal children)).disproof (least_of (map (λ n. n.disproof) (numbers goal xs))) t) [
          | inl here ↦ (let g = hold_step own children path (tree.0, tree.1.0) (cert.0, cert.1.0) here ps held (λ u. hold_some children (own.position ∷ path) tree.1.0 cert.1.0 u ps (held_above path ps own.position held)) (λ u. hold_all children (own.position ∷ path) tree.1.0 cert.1.0 u ps (held_above path ps own.position held)) in (g.0, (g.1.0, (g.1.1.0, (own.position, (Contains-head own.position (map position_of (nodes xs)), g.1.1.1))))))
          | inr rest ↦ (let g = hold_some xs path tree.1.1 cert.1.1 rest ps held in (g.0, (g.1.0, (g.1.1.0, (g.1.1.1.0, (Contains-tail own.position g.1.1.1.0 (map position_of (nodes xs)) g.1.1.1.1.0, g.1.1.1.1.1))))))
        ]

    hold_all : (xs : Forest) (path : List Board) → EachNode IsSoundNode path xs → EachNode (λ path. IsCertified k puts) path xs → all_disproved goal xs ≡ true
        → (ps : List Board) → Held path ps → Grown path ps (HasAll xs)
    hold_all no_node path tree cert t ps held = (ps, (held, (λ q there. there, All-nil (Contains ps))))
    hold_all (node own children xs) path tree cert t ps held =
        let both = total_zero (numbers_at goal own (numbers goal children)).disproof (total_of (map (λ n. n.disproof) (numbers goal xs))) t in
        let f = hold_step own children path (tree.0, tree.1.0) (cert.0, cert.1.0) both.0 ps held (λ u. hold_some children (own.position ∷ path) tree.1.0 cert.1.0 u ps (held_above path ps own.position held)) (λ u. hold_all children (own.position ∷ path) tree.1.0 cert.1.0 u ps (held_above path ps own.position held)) in
        let g = hold_all xs path tree.1.1 cert.1.1 both.1 f.0 f.1.0 in
        (g.0, (g.1.0, (λ q there. g.1.1.0 q (f.1.1.0 q there), All-cons (Contains g.0) own.position (map position_of (nodes xs)) (g.1.1.0 own.position f.1.1.1) g.1.1.1)))

  -- a node whose disproof number is 0 has a part that holds its position, with nothing waiting
  pub held_part : (x : Node) → FromNode IsSoundNode [] x → FromNode (λ path. IsCertified k puts) [] x → is_disproved goal x ≡ true → (qs : List Board) × (Held [] qs × Contains qs (position_of x))
  held_part x tree cert t =
      let none : Held [] [] = record {
        part = record { side = other goal; entries = [] };
        side = refl;
        holds = λ answer sound. HoldsAllBut-none answer [] (record { side = other goal; entries = [] }) refl;
      } in
      let above = held_above [] [] x.own.position none in
      let g = hold_step x.own x.children [] tree cert t [] none (λ u. hold_some x.children (x.own.position ∷ []) tree.1 cert.1 u [] above) (λ u. hold_all x.children (x.own.position ∷ []) tree.1 cert.1 u [] above) in
      (g.0, (g.1.0, g.1.1.1))
