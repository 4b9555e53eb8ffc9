-- A win that a tree shows has a good part.
use Rattle.std.proofs.Common.{◌≡◌, ℕ, suc, ◌≤◌, inl, inr, List, [], ◌∷◌, ◌++◌, refl, sym, ◌∙◌, subst, true, Option, Some, None, map, arith}
use Rattle.std.specs.Prelude.{Contains, All}
use Rattle.std.proofs.lemmas.Bool.{false≢true}
use Rattle.std.proofs.lemmas.List.Elements.{All-contains, All-weaker, All-cons, All-nil}
use Rattle.draughts_board.specs.Board.{Board, IsLawful}
use Rattle.draughts_board.specs.Rules.{after}
use Rattle.draughts_board.specs.Play.{successors_of}
use Rattle.draughts_board.specs.Draughts.{draughts}
use Rattle.draughts_board.specs.declared.pieces.Side.{Side}
use Rattle.draughts_board.proofs.Truth.{Wins-holds}
use Rattle.draughts_board.proofs.Members.{Contains-head, Contains-tail}
use Rattle.draughts_board.proofs.Successors.{path-to_successor}
use Rattle.strategy_certificate.specs.declared.oracle.Answer.{Answer}
use Rattle.strategy_certificate.specs.declared.certificates.Certificate.{Certificate}
use Rattle.strategy_certificate.specs.Tables.{IsSoundTable, TableWins}
use Rattle.strategy_certificate.specs.Parts.{WinList}
use Rattle.strategy_certificate.specs.Certificates.{HasDueMove, due_positions}
use Rattle.strategy_certificate.specs.declared.entries.TheConstants.{MOST_FOUND_RANK}
use Rattle.proof_numbers.specs.Known.{knows_win}
use Rattle.proof_numbers.specs.Numbers.{least_of, total_of}
use Rattle.proof_tree.specs.Forest.{Own, Forest, no_node, node, Node, nodes, numbers, numbers_at}
use Rattle.proof_tree.specs.Sound.{EachNode, IsSoundNode}
use Rattle.certificate_joiner.specs.Growing.{IsReachedWithin, WinsAll}
use Rattle.certificate_joiner.specs.Shelf.{Put, certificates_of}
use Rattle.certificate_joiner.specs.Certified.{IsCertified, IsShelved}
use Rattle.certificate_joiner.specs.Strategy.{FromNode}
use Rattle.certificate_joiner.proofs.Nodes.{position_of, facts_of, is_proved}
use Rattle.certificate_joiner.proofs.Wins.{WinsAll-one_more, WinsAll-entry, WinsAll-both, WinsAll-none}
use Rattle.certificate_joiner.proofs.AtSight.{at_sight_cases, table_wins, theirs_without_move}
use Rattle.certificate_joiner.proofs.Given.{GivesWin, gives_told_win, root_within}
use Rattle.certificate_joiner.proofs.LowRanks.{RanksAreLow}
use Rattle.certificate_joiner.proofs.Numbers.{least_zero, total_zero, some_proved, all_proved, proved_by}

module _ (k : ℕ) (low : RanksAreLow k) (puts : List Put) (s : Side) where
  -- a part that wins these positions
  pub record Won (ps : List Board) : Type 0 where
    pub n : ℕ
    pub high : MOST_FOUND_RANK ≤ n
    pub part : WinList
    pub side : part.side ≡ s
    pub wins : (answer : Board → Option Answer) → IsSoundTable draughts k answer → WinsAll answer n ps part

  -- a part that wins as much, and F
  abbrev Grown : List Board → (List Board → Type 0) → Type 0
  Grown ps F = (qs : List Board) × (Won qs × (((q : Board) → Contains ps q → Contains qs q) × F qs))

  -- ---- one position

  won_by_table : (ps : List Board) (p : Board) → Won ps → ((answer : Board → Option Answer) → IsSoundTable draughts k answer → (r : ℕ) × TableWins draughts answer s r p) → Won (p ∷ ps)
  won_by_table ps p won table = record {
    n = won.n;
    high = won.high;
    part = won.part;
    side = won.side;
    wins = λ answer sound. WinsAll-one_more answer won.n ps won.part p (within answer sound) (won.wins answer sound);
  }
    where
      within : (answer : Board → Option Answer) → IsSoundTable draughts k answer → IsReachedWithin won.part answer won.n p
      within answer sound =
          let shown = table answer sound in
          let le = low answer sound s shown.0 p shown.1 in
          let high = won.high in
          (shown.0, (omega arith, inr (subst (λ t. TableWins draughts answer t shown.0 p) (sym won.side) shown.1)))

  won_by_part : (ps : List Board) (p : Board) (c : Certificate) (shelved : IsShelved k p c) → GivesWin k p c shelved s → Won ps → Won (p ∷ ps)
  won_by_part ps p c shelved gives won = record {
    n = won.n;
    high = won.high;
    part = record { side = won.part.side; entries = won.part.entries ++ gives.list.entries };
    side = won.side;
    wins = λ answer sound.
        WinsAll-both answer won.part gives.list (won.side ∙ sym gives.side) won.n ps p (won.wins answer sound) (gives.good answer sound)
        (All-weaker (λ row. row.1.rank ≤ MOST_FOUND_RANK) (λ row. row.1.rank ≤ won.n) (λ row le. let high = won.high in omega arith) gives.list.entries gives.short)
        (let root = root_within k p c shelved s low gives answer sound in let le = root.1.0 in let high = won.high in (root.0, (omega arith, root.1.1)));
  }

  won_by_entry : (ps : List Board) (p : Board) (chosen : Option (List ℕ)) → IsLawful p → HasDueMove s p chosen → All (Contains ps) (due_positions p chosen) → Won ps → Won (p ∷ ps)
  won_by_entry ps p chosen lawful move due won = record {
    n = suc won.n;
    high = (let high = won.high in omega arith);
    part = record { side = won.part.side; entries = won.part.entries ++ (p, record { rank = suc won.n; chosen = chosen }) ∷ [] };
    side = won.side;
    wins = λ answer sound. WinsAll-entry answer won.n ps won.part p chosen (won.wins answer sound) lawful (subst (λ t. HasDueMove t p chosen) (sym won.side) move) due;
  }

  -- ---- a node whose win is known

  won_known : (path : List Board) (x : Node) (ps : List Board) → IsSoundNode path x → IsCertified k puts x → knows_win s (facts_of x) ≡ true → Won ps → Won (position_of x ∷ ps)
  won_known path x ps tree cert known won =
      elim (cert.wins s known) [
        | inl sight ↦ (elim (at_sight_cases k (position_of x) sight.0) [
          | inl none ↦ (
              won_by_entry ps (position_of x) None tree.lawful (theirs_without_move s (position_of x) none (Wins-holds draughts s (position_of x) sight.1))
              (subst (All (Contains ps)) (sym none) (All-nil (Contains ps))) won)
          | inr few ↦ won_by_table ps (position_of x) won (λ answer sound. table_wins k answer sound s (position_of x) tree.lawful few sight.1)
        ])
        | inr shown ↦ (
            let shelved = All-contains (IsShelved k (position_of x)) (certificates_of x.own.number puts) shown.0 cert.shelved shown.1.0 in
            won_by_part ps (position_of x) shown.0 shelved (gives_told_win k (position_of x) shown.0 shelved s shown.1.1) won)
      ]

  -- ---- every node

  abbrev HasSome : Forest → List Board → Type 0
  HasSome xs qs = (q : Board) × (Contains (map position_of (nodes xs)) q × Contains qs q)

  abbrev HasAll : Forest → List Board → Type 0
  HasAll xs qs = All (Contains qs) (map position_of (nodes xs))

  played : (path ps : List Board) (x : Node) (chosen : Option (List ℕ)) (qs : List Board) → ((q : Board) → Contains ps q → Contains qs q) → IsSoundNode path x
      → HasDueMove s (position_of x) chosen → All (Contains qs) (due_positions (position_of x) chosen) → Won qs → Grown ps (λ rs. Contains rs (position_of x))
  played path ps x chosen qs more tree move due won =
      (position_of x ∷ qs, (won_by_entry qs (position_of x) chosen tree.lawful move due won, (λ q there. Contains-tail (position_of x) q qs (more q there), Contains-head (position_of x) qs)))

  win_step : (own : Own) (xs : Forest) (path : List Board) → FromNode IsSoundNode path (record { own = own; children = xs })
      → FromNode (λ path. IsCertified k puts) path (record { own = own; children = xs }) → is_proved s (record { own = own; children = xs }) ≡ true
      → (ps : List Board) → Won ps → (some_proved s xs ≡ true → Grown ps (HasSome xs)) → (all_proved s xs ≡ true → Grown ps (HasAll xs))
      → Grown ps (λ qs. Contains qs own.position)
  win_step own xs path tree cert t ps won below_some below_all =
      let p = own.position in
      let x : Node = record { own = own; children = xs } in
      elim (proved_by s own xs t) [
        | inl known ↦ (p ∷ ps, (won_known path x ps tree.0 cert.0 known won, (λ q there. Contains-tail p q ps there, Contains-head p ps)))
        | inr (is, inl (mine, some)) ↦ (
            let g = below_some some in
            let q = g.1.1.1.0 in
            let next : Contains (successors_of p) q = subst (λ ys. Contains ys q) (tree.0.expanded is) g.1.1.1.1.0 in
            let move = path-to_successor p q tree.0.lawful next in
            played path ps x (Some move.0) g.0 g.1.1.0 tree.0 (mine, move.1.0)
            (All-cons (Contains g.0) (after p move.0) [] (subst (Contains g.0) (sym move.1.1) g.1.1.1.1.1) (All-nil (Contains g.0))) g.1.0)
        | inr (is, inr (theirs, all)) ↦ (
            let g = below_all all in
            played path ps x None g.0 g.1.1.0 tree.0 theirs (subst (All (Contains g.0)) (tree.0.expanded is) g.1.1.1) g.1.0)
      ]

  mutual
    win_some : (xs : Forest) (path : List Board) → EachNode IsSoundNode path xs → EachNode (λ path. IsCertified k puts) path xs → some_proved s xs ≡ true
        → (ps : List Board) → Won ps → Grown ps (HasSome xs)
    win_some no_node path tree cert t ps won = absurd (false≢true t)
    win_some (node own children xs) path tree cert t ps won =
        elim (least_zero (numbers_at s own (numbers s children)).proof (least_of (map (λ n. n.proof) (numbers s xs))) t) [
          | inl here ↦ (let g = win_step own children path (tree.0, tree.1.0) (cert.0, cert.1.0) here ps won (λ u. win_some children (own.position ∷ path) tree.1.0 cert.1.0 u ps won) (λ u. win_all children (own.position ∷ path) tree.1.0 cert.1.0 u ps won) in (g.0, (g.1.0, (g.1.1.0, (own.position, (Contains-head own.position (map position_of (nodes xs)), g.1.1.1))))))
          | inr rest ↦ (let g = win_some xs path tree.1.1 cert.1.1 rest ps won in (g.0, (g.1.0, (g.1.1.0, (g.1.1.1.0, (Contains-tail own.position g.1.1.1.0 (map position_of (nodes xs)) g.1.1.1.1.0, g.1.1.1.1.1))))))
        ]

    win_all : (xs : Forest) (path : List Board) → EachNode IsSoundNode path xs → EachNode (λ path. IsCertified k puts) path xs → all_proved s xs ≡ true
        → (ps : List Board) → Won ps → Grown ps (HasAll xs)
    win_all no_node path tree cert t ps won = (ps, (won, (λ q there. there, All-nil (Contains ps))))
    win_all (node own children xs) path tree cert t ps won =
        let both = total_zero (numbers_at s own (numbers s children)).proof (total_of (map (λ n. n.proof) (numbers s xs))) t in
        let f = win_step own children path (tree.0, tree.1.0) (cert.0, cert.1.0) both.0 ps won (λ u. win_some children (own.position ∷ path) tree.1.0 cert.1.0 u ps won) (λ u. win_all children (own.position ∷ path) tree.1.0 cert.1.0 u ps won) in
        let g = win_all xs path tree.1.1 cert.1.1 both.1 f.0 f.1.0 in
        (g.0, (g.1.0, (λ q there. g.1.1.0 q (f.1.1.0 q there), All-cons (Contains g.0) own.position (map position_of (nodes xs)) (g.1.1.0 own.position f.1.1.1) g.1.1.1)))

  -- a node whose proof number is 0 has a part that wins its position
  pub won_part : (x : Node) → FromNode IsSoundNode [] x → FromNode (λ path. IsCertified k puts) [] x → is_proved s x ≡ true → (qs : List Board) × (Won qs × Contains qs (position_of x))
  won_part x tree cert t =
      let none : Won [] = record {
        n = MOST_FOUND_RANK;
        high = omega arith;
        part = record { side = s; entries = [] };
        side = refl;
        wins = λ answer sound. WinsAll-none answer (MOST_FOUND_RANK) (record { side = s; entries = [] }) refl;
      } in
      let g = win_step x.own x.children [] tree cert t [] none (λ u. win_some x.children (x.own.position ∷ []) tree.1 cert.1 u [] none) (λ u. win_all x.children (x.own.position ∷ []) tree.1 cert.1 u [] none) in
      (g.0, (g.1.0, g.1.1.1))
