-- However a forest grows, each node knows what is seen at sight; so no open leaf is decided at sight.
use Rattle.std.proofs.Common.{◌≡◌, ℕ, suc, ◌⊎◌, inl, inr, Bool, true, false, cond, eqb, List, [], ◌∷◌, Option, Some, None, refl, sym, ◌∙◌, subst}
use Rattle.std.specs.Prelude.{All, IfSome, IsSomeAnd}
use Rattle.std.proofs.lemmas.Bool.{true≢false, false_from_ne_true, or_left}
use Rattle.std.proofs.lemmas.List.Elements.{All-head, All-tail}
use Rattle.draughts_board.specs.Board.{Board, other}
use Rattle.draughts_board.specs.declared.pieces.Side.{Side}
use Rattle.draughts_board.specs.declared.pieces.Side.TheVariants.{Black, White}
use Rattle.draughts_board.specs.Draughts.{draughts}
use Rattle.draughts_board.specs.Game.{Wins, ShowsWin, ShowsHold, is_at_sight}
use Rattle.draughts_board.proofs.Truth.{other-other}
use Rattle.proof_numbers.specs.declared.leaves.Child.{Child}
use Rattle.proof_numbers.specs.declared.numbers.Numbers.{Numbers}
use Rattle.proof_numbers.specs.Facts.{known}
use Rattle.proof_numbers.specs.Known.{Known, knows_win, knows_hold, joined}
use Rattle.proof_numbers.specs.Numbers.{proved, refuted, is_resolved}
use Rattle.proof_numbers.specs.Sight.{AreFactsAtSight}
use Rattle.proof_tree.specs.declared.rows.Mark.TheVariants.{Unexpanded, Expanded}
use Rattle.proof_tree.specs.Forest.{Own, Forest, no_node, node, Node, node_at, forest, size, numbers, numbers_by_mark, node_numbers}
use Rattle.proof_tree.specs.Changes.{changed, learn, new_nodes, expanded}
use Rattle.proof_tree.specs.Sound.{EachNode}
use Rattle.proof_tree.specs.Picking.{IsOpenLeaf}
use Rattle.proof_tree.proofs.EachNode.{EachNode-at, EachNode-appended}
use Rattle.certificate_checker.specs.Sight.{IsAtSight, AreChildren}
use Rattle.bench_records.specs.declared.records.BenchRecord.{BenchRecord}
use Rattle.bench_records.specs.declared.records.BenchRecord.TheVariants.{Begin, Solve, Expand}
use Rattle.certificate_checker.specs.Told.{facts_shown}
use Rattle.bench_core.specs.Growing.{GrowsWith}
use Rattle.bench_core.specs.States.{CoreState, node_position, KnowsSight}
use Rattle.bench_core.proofs.SoundGrowth.{some_of}

-- ---- a forest that grows

module _ (k : ℕ) where
  abbrev AreSeen : List Board → Forest → Type 0
  AreSeen path f = EachNode (λ above. KnowsSight k) path f

  -- a node whose facts are those at sight
  seen : (x : Node) → AreFactsAtSight k x.own.position x.own.facts → KnowsSight k x
  seen x sight = record { wins = wins; holds = holds }
    where
      wins : (s : Side) → ShowsWin draughts k s 0 x.own.position → knows_win s x.own.facts ≡ true
      wins Black shown = sight.black_wins.1 shown
      wins White shown = sight.white_wins.1 shown

      holds : (s : Side) → ShowsHold draughts k s 0 [] x.own.position → knows_hold s x.own.facts ≡ true
      holds Black shown = sight.black_holds.1 shown
      holds White shown = sight.white_holds.1 shown

  -- a node that learns more
  win_stays : (s : Side) (a b : Known) → knows_win s a ≡ true → knows_win s (joined a b) ≡ true
  win_stays Black a b t = or_left a.black_wins b.black_wins t
  win_stays White a b t = or_left a.white_wins b.white_wins t

  hold_stays : (s : Side) (a b : Known) → knows_hold s a ≡ true → knows_hold s (joined a b) ≡ true
  hold_stays Black a b t = or_left a.black_holds b.black_holds t
  hold_stays White a b t = or_left a.white_holds b.white_holds t

  learnt_by : (facts : Known) (own : Own) (below after : Forest) (b : Bool) → KnowsSight k (record { own = own; children = below })
      → KnowsSight k (record { own = cond b (record own { facts = joined own.facts facts }) own; children = after })
  learnt_by facts own below after true old = record {
    wins = λ s shown. win_stays s own.facts facts (old.wins s shown);
    holds = λ s shown. hold_stays s own.facts facts (old.holds s shown);
  }
  learnt_by facts own below after false old = record { wins = old.wins; holds = old.holds }

  learnt_position : (facts : Known) (b : Bool) (own : Own) → (cond b (record own { facts = joined own.facts facts }) own).position ≡ own.position
  learnt_position facts true own = refl
  learnt_position facts false own = refl

  learnt_seen : (n : ℕ) (facts : Known) (path : List Board) (f : Forest) → AreSeen path f → AreSeen path (changed (learn n facts) f)
  learnt_seen n facts path no_node each = tt
  learnt_seen n facts path (node own below others) each = (
    learnt_by facts own below (changed (learn n facts) below) (eqb own.number n) each.0,
    (
      subst (λ (p : Board). AreSeen (p ∷ path) (changed (learn n facts) below)) (sym (learnt_position facts (eqb own.number n) own))
          (learnt_seen n facts (own.position ∷ path) below each.1.0),
      learnt_seen n facts path others each.1.1,
    ),
  )

  -- new children
  new_seen : (path : List Board) (next : ℕ) (children : List Child) → All (IsAtSight k) children → AreSeen path (forest (new_nodes path next children))
  new_seen path next [] sight = tt
  new_seen path next (child ∷ more) sight =
      (seen _ (All-head (IsAtSight k) child more sight), (tt, new_seen path (suc next) more (All-tail (IsAtSight k) child more sight)))

  expanded_by : (next : ℕ) (children : List Child) (path : List Board) (own : Own) (below : Forest) (rest : Forest) (b : Bool) → All (IsAtSight k) children
      → KnowsSight k (record { own = own; children = below }) → AreSeen (own.position ∷ path) rest
      → let new = cond b (forest (new_nodes (own.position ∷ path) next children)) rest in
      KnowsSight k (record { own = cond b (record own { mark = Expanded }) own; children = new })
      × AreSeen ((cond b (record own { mark = Expanded }) own).position ∷ path) new
  expanded_by next children path own below rest true sight old each =
      (record { wins = old.wins; holds = old.holds }, new_seen (own.position ∷ path) next children sight)
  expanded_by next children path own below rest false sight old each = (record { wins = old.wins; holds = old.holds }, each)

  expanded_seen : (n : ℕ) (children : List Child) (next : ℕ) (path : List Board) (f : Forest) → All (IsAtSight k) children → AreSeen path f → AreSeen path (expanded n children next path f)
  expanded_seen n children next path no_node sight each = tt
  expanded_seen n children next path (node own below others) sight each =
      let here = expanded_by next children path own below (expanded n children next (own.position ∷ path) below) (eqb own.number n) sight each.0
      (expanded_seen n children next (own.position ∷ path) below sight each.1.0) in
      (here.0, (here.1, expanded_seen n children next path others sight each.1.1))

pub grown_seen : (k : ℕ) (f g : Forest) (r : BenchRecord) → EachNode (λ path. KnowsSight k) [] f → GrowsWith k f r g → EachNode (λ path. KnowsSight k) [] g
grown_seen k f g (Begin p) each grows =
    let by = grows.applied in
    let own : Own = record { number = size f; position = by.0.position; facts = known by.0.facts; mark = Unexpanded } in
    subst (EachNode (λ path. KnowsSight k) []) (sym by.1.1.1)
    (EachNode-appended (λ path. KnowsSight k) [] f (node own no_node no_node) each (seen k (record { own = own; children = no_node }) by.1.1.0, (tt, tt)))
grown_seen k f g (Solve n p shown) each grows = subst (EachNode (λ path. KnowsSight k) []) (sym grows.applied) (learnt_seen k n (facts_shown shown) [] f each)
grown_seen k f g (Expand n) each grows =
    let l = grows.lawful in
    let by = grows.applied in
    let are = some_of (λ x. AreChildren k x.own.position by.0) (node_at n f) l.leaf l.there by.1.0 in
    subst (EachNode (λ path. KnowsSight k) []) (sym by.1.1) (expanded_seen k n by.0 (size f) [] f are.facts each)

-- ---- an open leaf

resolved_by : (a b : Bool) (rest : Numbers) → (a ≡ true) ⊎ (b ≡ true) → is_resolved (cond a proved (cond b refuted rest)) ≡ true
resolved_by true b rest h = refl
resolved_by false true rest h = refl
resolved_by false false rest (inl h) = absurd (true≢false (sym h))
resolved_by false false rest (inr h) = absurd (true≢false (sym h))

module _ (k : ℕ) (goal : Side) (x : Node) (knows : KnowsSight k x) where
  -- at sight the goal wins or the other side holds, and the node knows which
  decided : (b : Bool) → knows_win goal x.own.facts ≡ b → is_at_sight draughts k x.own.position ≡ true → (knows_win goal x.own.facts ≡ true) ⊎ (knows_hold (other goal) x.own.facts ≡ true)
  decided true is sight = inl is
  decided false is sight =
      inr (knows.holds (other goal) (inr (
        sight,
        λ wins.
            true≢false (sym (knows.wins goal (sight, subst (λ s. Wins draughts s x.own.position) (other-other goal) wins)) ∙ is),
      )))

  pub undecided : is_resolved (node_numbers goal x) ≡ false → is_at_sight draughts k x.own.position ≡ false
  undecided unresolved =
      false_from_ne_true (is_at_sight draughts k x.own.position) (λ sight.
      true≢false (sym (resolved_by (knows_win goal x.own.facts) (knows_hold (other goal) x.own.facts) (numbers_by_mark goal x.own.mark x.own.position (numbers goal x.children))
      (decided (knows_win goal x.own.facts) refl sight)) ∙ unresolved))

-- the position of an open leaf that a number names
pub leaf_undecided : (s : CoreState) (goal : Side) (n : ℕ) (taken : ℕ → Bool) → EachNode (λ path. KnowsSight s.settings.pieces) [] s.forest → IsSomeAnd (node_at n s.forest) (IsOpenLeaf goal taken)
    → is_at_sight draughts s.settings.pieces (node_position s.forest n) ≡ false
leaf_undecided s goal n taken each found = by (node_at n s.forest) refl found
  where
    place : (x : Node) → node_at n s.forest ≡ Some x → node_position s.forest n ≡ x.own.position
    place x there = rw there refl

    by : (o : Option Node) → node_at n s.forest ≡ o → IsSomeAnd o (IsOpenLeaf goal taken) → is_at_sight draughts s.settings.pieces (node_position s.forest n) ≡ false
    by None e h = absurd h
    by (Some x) e h =
        subst (λ p. is_at_sight draughts s.settings.pieces p ≡ false) (sym (place x e))
        (undecided s.settings.pieces goal x (EachNode-at (λ path. KnowsSight s.settings.pieces) n [] s.forest x each e).1 h.unresolved)
