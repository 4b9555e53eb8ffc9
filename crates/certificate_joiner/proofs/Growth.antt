-- Every fact of a forest stays certified while it grows.
use Rattle.std.proofs.Common.{◌≡◌, ℕ, suc, ◌⊎◌, inl, inr, Bool, true, false, cond, eqb, List, [], ◌∷◌, ◌++◌, Option, Some, None, refl, sym, ◌∙◌, ap, subst, arith}
use Rattle.std.specs.Prelude.{Contains, All, IfSome}
use Rattle.std.specs.List.{flat_map}
use Rattle.std.proofs.lemmas.Bool.{eqb-true, or_cases}
use Rattle.std.proofs.lemmas.Bool.Decides.{nat_tests}
use Rattle.std.proofs.lemmas.Grind.{flat_map-append}
use Rattle.std.proofs.lemmas.List.{append-nil}
use Rattle.std.proofs.lemmas.List.Concat.{flat_map-cons}
use Rattle.std.proofs.lemmas.List.Elements.{All-nil, All-head, All-tail, All-append, Contains-append_left, Contains-append_right}
use Rattle.draughts_board.specs.Board.{Board}
use Rattle.draughts_board.specs.declared.pieces.Side.{Side}
use Rattle.draughts_board.specs.declared.pieces.Side.TheVariants.{Black, White}
use Rattle.draughts_board.specs.Draughts.{draughts}
use Rattle.draughts_board.specs.Game.{ShowsWin, ShowsHold}
use Rattle.strategy_certificate.specs.declared.certificates.Certificate.{Certificate}
use Rattle.strategy_certificate.specs.Claims.{TellsWin, TellsHold}
use Rattle.proof_numbers.specs.declared.leaves.Child.{Child}
use Rattle.proof_numbers.specs.Facts.{known}
use Rattle.proof_numbers.specs.Known.{Known, knows_win, knows_hold, joined}
use Rattle.proof_numbers.specs.Sight.{AreFactsAtSight}
use Rattle.proof_tree.specs.declared.rows.Mark.TheVariants.{Unexpanded, Expanded}
use Rattle.proof_tree.specs.Changes.{changed, learn, new_nodes, expanded}
use Rattle.proof_tree.specs.Forest.{Own, Forest, no_node, node, Node, forest, node_at, size}
use Rattle.proof_tree.specs.Sound.{EachNode, IsSoundForest}
use Rattle.proof_tree.proofs.EachNode.{EachNode-appended, EachNode-map, no_node-with, missing_occurs, only_node}
use Rattle.certificate_joiner.specs.Shelf.{Put, batches_of, certificates_of}
use Rattle.certificate_joiner.specs.Certified.{IsShelved, IsCertified}
use Rattle.certificate_joiner.specs.Growth.{HasNoneFrom, AreShownBy, RootsStayCertified, ChildrenStayCertified, FactsStayCertified}
use Rattle.certificate_joiner.proofs.Named.{at_one_place}
use Rattle.certificate_joiner.proofs.ShelfLemmas.{batches-put}

-- ---- nodes whose facts are those at sight

module _ (k : ℕ) (puts : List Put) where
  seen : (x : Node) → certificates_of x.own.number puts ≡ [] → AreFactsAtSight k x.own.position x.own.facts → IsCertified k puts x
  seen x none sight = record {
    shelved = subst (All (IsShelved k x.own.position)) (sym none) (All-nil (IsShelved k x.own.position));
    wins = λ s t. inl (wins s t);
    holds = λ s t. inl (holds s t);
  }
    where
      wins : (s : Side) → knows_win s x.own.facts ≡ true → ShowsWin draughts k s 0 x.own.position
      wins Black t = sight.black_wins.0 t
      wins White t = sight.white_wins.0 t

      holds : (s : Side) → knows_hold s x.own.facts ≡ true → ShowsHold draughts k s 0 [] x.own.position
      holds Black t = sight.black_holds.0 t
      holds White t = sight.white_holds.0 t

  new_certified : (path : List Board) (next : ℕ) (children : List Child) → HasNoneFrom next puts
      → All (λ child. AreFactsAtSight k child.position (known child.facts)) children
      → EachNode (λ above. IsCertified k puts) path (forest (new_nodes path next children))
  new_certified path next [] none sight = tt
  new_certified path next (child ∷ more) none sight = (
    seen _ (none next (omega arith)) (All-head (λ (c : Child). AreFactsAtSight k c.position (known c.facts)) child more sight),
    (
      tt,
      new_certified path (suc next) more (λ m le. none m (omega arith)) (All-tail (λ (c : Child). AreFactsAtSight k c.position (known c.facts)) child more sight),
    ),
  )

  expanded_by : (next : ℕ) (children : List Child) (path : List Board) (own : Own) (below : Forest) (rest : Forest) (b : Bool) → HasNoneFrom next puts
      → All (λ child. AreFactsAtSight k child.position (known child.facts)) children
      → IsCertified k puts (record { own = own; children = below }) → EachNode (λ above. IsCertified k puts) (own.position ∷ path) rest
      → let new = cond b (forest (new_nodes (own.position ∷ path) next children)) rest in
      IsCertified k puts (record { own = cond b (record own { mark = Expanded }) own; children = new })
      × EachNode (λ above. IsCertified k puts) ((cond b (record own { mark = Expanded }) own).position ∷ path) new
  expanded_by next children path own below rest true none sight old each =
      (record { shelved = old.shelved; wins = old.wins; holds = old.holds }, new_certified (own.position ∷ path) next children none sight)
  expanded_by next children path own below rest false none sight old each =
      (record { shelved = old.shelved; wins = old.wins; holds = old.holds }, each)

  expanded_certified : (n : ℕ) (children : List Child) (next : ℕ) (path : List Board) (t : Forest) → HasNoneFrom next puts
      → All (λ child. AreFactsAtSight k child.position (known child.facts)) children
      → EachNode (λ above. IsCertified k puts) path t → EachNode (λ above. IsCertified k puts) path (expanded n children next path t)
  expanded_certified n children next path no_node none sight each = tt
  expanded_certified n children next path (node own below others) none sight each =
      let here = expanded_by next children path own below (expanded n children next (own.position ∷ path) below) (eqb own.number n) none sight each.0
      (expanded_certified n children next (own.position ∷ path) below none sight each.1.0) in
      (here.0, (here.1, expanded_certified n children next path others none sight each.1.1))

pub roots_stay_certified : RootsStayCertified
roots_stay_certified k puts roots p facts none sight each =
    let own : Own = record { number = size roots; position = p; facts = facts; mark = Unexpanded } in
    EachNode-appended (λ above. IsCertified k puts) [] roots (node own no_node no_node) each
    (seen k puts (record { own = own; children = no_node }) (none (size roots) (omega arith)) sight, (tt, tt))

pub children_stay_certified : ChildrenStayCertified
children_stay_certified k puts roots n children none sight each = expanded_certified k puts n children (size roots) [] roots none sight each

-- ---- one batch more

flat_one : (bs : List (List Certificate)) (b : List Certificate) → flat_map (λ l. l) (bs ++ b ∷ []) ≡ flat_map (λ l. l) bs ++ b
flat_one bs b =
    flat_map-append (λ l. l) bs (b ∷ []) ∙ ap (λ l. flat_map (λ l. l) bs ++ l) (flat_map-cons (λ l. l) b [] ∙ append-nil b)

pub certificates-put : (m : ℕ) (puts : List Put) (put : Put)
    → certificates_of m (puts ++ put ∷ []) ≡ cond (eqb put.0 m) (certificates_of m puts ++ put.1) (certificates_of m puts)
certificates-put m puts put = ap (flat_map (λ l. l)) (batches-put m puts put) ∙ by (eqb put.0 m)
  where
    by : (b : Bool) → flat_map (λ l. l) (cond b (batches_of m puts ++ put.1 ∷ []) (batches_of m puts)) ≡ cond b (certificates_of m puts ++ put.1) (certificates_of m puts)
    by true = flat_one (batches_of m puts) put.1
    by false = refl

module _ (k : ℕ) (puts : List Put) (n : ℕ) (facts : Known) (batch : List Certificate) where
  more : List Put
  more = puts ++ (n, batch) ∷ []

  same_number : (m : ℕ) → m ≡ n → certificates_of m (puts ++ (n, batch) ∷ []) ≡ certificates_of m puts ++ batch
  same_number m is =
      let t : eqb n m ≡ true = grind (arith, nat_tests, is) in
      certificates-put m puts (n, batch) ∙ ap (λ b. cond b (certificates_of m puts ++ batch) (certificates_of m puts)) t

  other_number : (m : ℕ) → eqb m n ≡ false → certificates_of m (puts ++ (n, batch) ∷ []) ≡ certificates_of m puts
  other_number m is =
      let t : eqb n m ≡ false = grind (arith, nat_tests, is) in
      certificates-put m puts (n, batch) ∙ ap (λ b. cond b (certificates_of m puts ++ batch) (certificates_of m puts)) t

  win_of : (s : Side) (a : Known) → knows_win s (joined a facts) ≡ true → (knows_win s a ≡ true) ⊎ (knows_win s facts ≡ true)
  win_of Black a t = or_cases a.black_wins facts.black_wins t
  win_of White a t = or_cases a.white_wins facts.white_wins t

  hold_of : (s : Side) (a : Known) → knows_hold s (joined a facts) ≡ true → (knows_hold s a ≡ true) ⊎ (knows_hold s facts ≡ true)
  hold_of Black a t = or_cases a.black_holds facts.black_holds t
  hold_of White a t = or_cases a.white_holds facts.white_holds t

  -- a fact that was certified stays so, and a new one is
  module _ (old new : List Certificate) (same : new ≡ old ++ batch) where
    widened : (c : Certificate) → Contains old c → Contains new c
    widened c there = subst (λ l. Contains l c) (sym same) (Contains-append_left old batch c there)

    added : (c : Certificate) → Contains batch c → Contains new c
    added c there = subst (λ l. Contains l c) (sym same) (Contains-append_right old batch c there)

    fact_of : (Seen Old New Now : Type 0) (Tells : Certificate → Type 0) → (Now → Old ⊎ New)
        → (Old → Seen ⊎ ((c : Certificate) × (Contains old c × Tells c))) → (New → (c : Certificate) × (Contains batch c × Tells c))
        → Now → Seen ⊎ ((c : Certificate) × (Contains new c × Tells c))
    fact_of Seen Old New Now Tells split before shown t =
        elim (split t) [
          | inl o ↦ (elim (before o) [ inl sight ↦ inl sight | inr found ↦ inr (found.0, (widened found.0 found.1.0, found.1.1)) ])
          | inr w ↦ (let found = shown w in inr (found.0, (added found.0 found.1.0, found.1.1)))
        ]

  learnt_by : (own : Own) (below after : Forest) (b : Bool) → eqb own.number n ≡ b → IsCertified k puts (record { own = own; children = below })
      → (own.number ≡ n → AreShownBy k own.position facts batch)
      → IsCertified k (puts ++ (n, batch) ∷ []) (record { own = cond b (record own { facts = joined own.facts facts }) own; children = after })
  learnt_by own below after true t old shown =
      let is = eqb-true own.number n t in
      let new = shown is in
      let same = same_number own.number is in
      let was = certificates_of own.number puts in
      let now = certificates_of own.number (puts ++ (n, batch) ∷ []) in
      record {
        shelved = subst (All (IsShelved k own.position)) (sym same) (All-append (IsShelved k own.position) was batch old.shelved new.shelved);
        wins = λ s. fact_of was now same (ShowsWin draughts k s 0 own.position) (knows_win s own.facts ≡ true) (knows_win s facts ≡ true) (knows_win s (joined own.facts facts) ≡ true)
            (λ c. TellsWin s c.claim) (win_of s own.facts) (old.wins s) (new.wins s);
        holds = λ s. fact_of was now same (ShowsHold draughts k s 0 [] own.position) (knows_hold s own.facts ≡ true) (knows_hold s facts ≡ true) (knows_hold s (joined own.facts facts) ≡ true)
            (λ c. TellsHold s c.claim) (hold_of s own.facts) (old.holds s) (new.holds s);
      }
  learnt_by own below after false t old shown =
      let same = other_number own.number t in
      record {
        shelved = subst (All (IsShelved k own.position)) (sym same) old.shelved;
        wins = λ s u. subst (λ l. ShowsWin draughts k s 0 own.position ⊎ ((c : Certificate) × (Contains l c × TellsWin s c.claim))) (sym same) (old.wins s u);
        holds = λ s u. subst (λ l. ShowsHold draughts k s 0 [] own.position ⊎ ((c : Certificate) × (Contains l c × TellsHold s c.claim))) (sym same) (old.holds s u);
      }

  learnt_position : (b : Bool) (own : Own) → (cond b (record own { facts = joined own.facts facts }) own).position ≡ own.position
  learnt_position true own = refl
  learnt_position false own = refl

  learnt_certified : (path : List Board) (t : Forest) → EachNode (λ above x. x.own.number ≡ n → AreShownBy k x.own.position facts batch) path t
      → EachNode (λ above. IsCertified k puts) path t → EachNode (λ above. IsCertified k (puts ++ (n, batch) ∷ [])) path (changed (learn n facts) t)
  learnt_certified path no_node shown each = tt
  learnt_certified path (node own below others) shown each = (
    learnt_by own below (changed (learn n facts) below) (eqb own.number n) refl each.0 shown.0,
    (
      subst (λ (p : Board). EachNode (λ above. IsCertified k (puts ++ (n, batch) ∷ [])) (p ∷ path) (changed (learn n facts) below)) (sym (learnt_position (eqb own.number n) own))
          (learnt_certified (own.position ∷ path) below shown.1.0 each.1.0),
      learnt_certified path others shown.1.1 each.1.1,
    ),
  )

  shown_where : (roots : Forest) → IsSoundForest roots → (o : Option Node) → node_at n roots ≡ o → IfSome o (λ x. AreShownBy k x.own.position facts batch)
      → EachNode (λ above x. x.own.number ≡ n → AreShownBy k x.own.position facts batch) [] roots
  shown_where roots sound None is shown =
      EachNode-map (λ above y. y.own.number ≡ n → ⊥) (λ above y. y.own.number ≡ n → AreShownBy k y.own.position facts batch) (λ above y h e. absurd (h e)) [] roots
      (no_node-with n [] roots (missing_occurs n roots is))
  shown_where roots sound (Some x) is shown =
      EachNode-map (λ above y. y.own.number ≡ n → y ≡ x) (λ above y. y.own.number ≡ n → AreShownBy k y.own.position facts batch)
      (λ above y h e. subst (λ (z : Node). AreShownBy k z.own.position facts batch) (sym (h e)) shown) [] roots (only_node n [] roots x is (at_one_place roots sound n))

pub facts_stay_certified : FactsStayCertified
facts_stay_certified k puts roots n facts batch sound shown each =
    learnt_certified k puts n facts batch [] roots (shown_where k puts n facts batch roots sound (node_at n roots) refl shown) each
