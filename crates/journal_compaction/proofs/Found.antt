-- A node that is named is found in both forests, and stands in the same place of both.
use Rattle.std.proofs.Common.{◌≡◌, ℕ, zero, suc, Bool, true, false, cond, eqb, ◌⊎◌, inl, inr, ⊎_elim, List, [], ◌∷◌, Option, Some, None, IsSome, refl, sym, ap, ◌∙◌, subst}
use Rattle.std.proofs.lemmas.Bool.{false≢true, true≢false, eqb-true}
use Rattle.draughts_board.specs.declared.pieces.Value.{Value}
use Rattle.proof_tree.specs.Forest.{Own, Forest, no_node, node, Node, node_at, or_else}
use Rattle.proof_tree.proofs.EachNode.{found_where}
use Rattle.journal_compaction.specs.Names.{Names, IsNamed, IsUnnamed, IsSame, AreAlike, AreUnnamed, IsRootAlike, AreRootsAlike}
use Rattle.journal_compaction.specs.Places.{number_at, IsBelow, AreAtOnePlace}
use Rattle.journal_compaction.proofs.Alike.{AreApart, same_test, not_true, named_not_unnamed}

-- ---- by number

abbrev pub AreSomeAlike : Names → Option Node → Option Node → Type 0
AreSomeAlike names None None = Unit {0}
AreSomeAlike names None (Some y) = ⊥
AreSomeAlike names (Some x) None = ⊥
AreSomeAlike names (Some x) (Some y) = IsSame x.own y.own × AreAlike names x.children y.children

or_alike : (names : Names) (o p v w : Option Node) → AreSomeAlike names o v → AreSomeAlike names p w → AreSomeAlike names (or_else o p) (or_else v w)
or_alike names None p None w h i = i
or_alike names None p (Some y) w h i = absurd h
or_alike names (Some x) p None w h i = absurd h
or_alike names (Some x) p (Some y) w h i = h

either_alike : (names : Names) (t u : Bool) (x y : Node) (o v : Option Node) → t ≡ u → AreSomeAlike names (Some x) (Some y) → AreSomeAlike names o v
    → AreSomeAlike names (cond t (Some x) o) (cond u (Some y) v)
either_alike names true true x y o v e h i = h
either_alike names true false x y o v e h i = absurd (true≢false e)
either_alike names false true x y o v e h i = absurd (false≢true e)
either_alike names false false x y o v e h i = i

pub past : (t : Bool) (x : Node) (o p : Option Node) → t ≡ false → o ≡ None → cond t (Some x) (or_else o p) ≡ p
past true x o p e none = absurd (true≢false e)
past false x None p e none = refl
past false x (Some y) p e none = absurd cc

module _ (names : Names) (n m : ℕ) (apart : AreApart names) (is : IsNamed names n m) where
  found_below : (f g : Forest) → AreAlike names f g → AreSomeAlike names (node_at n f) (node_at m g)
  found_below no_node no_node h = tt
  found_below no_node (node b under rest) h = absurd h
  found_below (node a below others) no_node h = absurd h
  found_below (node a below others) (node b under rest) h =
      either_alike names (eqb a.number n) (eqb b.number m) (record { own = a; children = below }) (record { own = b; children = under })
      (or_else (node_at n below) (node_at n others)) (or_else (node_at m under) (node_at m rest))
      (same_test names n m a.number b.number apart is h.0.0) (h.0.1, h.1.0)
      (or_alike names (node_at n below) (node_at n others) (node_at m under) (node_at m rest) (found_below below under h.1.0) (found_below others rest h.1.1))

  missing : (f : Forest) → AreUnnamed names f → node_at n f ≡ None
  missing no_node h = refl
  missing (node a below others) h =
      past (eqb a.number n) (record { own = a; children = below }) (node_at n below) (node_at n others)
      (not_true (eqb a.number n) (λ e. named_not_unnamed names n m is (subst (IsUnnamed names) (eqb-true a.number n e) h.0)))
      (missing below h.1.0)
      ∙ missing others h.1.1

  module _ (k count : ℕ) where
    found_root : (e : Option Value) (a : Own) (below : Forest) (b : Own) (under : Forest) (o v : Option Node) → IsRootAlike k names count e a below b under → AreSomeAlike names o v
        → AreSomeAlike names (cond (eqb a.number n) (Some (record { own = a; children = below })) (or_else (node_at n below) o))
        (cond (eqb b.number m) (Some (record { own = b; children = under })) (or_else (node_at m under) v))
    found_root None a below b under o v h i =
        either_alike names (eqb a.number n) (eqb b.number m) (record { own = a; children = below }) (record { own = b; children = under })
        (or_else (node_at n below) o) (or_else (node_at m under) v)
        (same_test names n m a.number b.number apart is h.0.0) (h.0.1, h.1)
        (or_alike names (node_at n below) o (node_at m under) v (found_below below under h.1) i)
    found_root (Some value) a below b under o v h i =
        let old = past (eqb a.number n) (record { own = a; children = below }) (node_at n below) o
        (not_true (eqb a.number n) (λ e. named_not_unnamed names n m is (subst (IsUnnamed names) (eqb-true a.number n e) h.dropped))) (missing below h.dropped_below) in
        let new = past (eqb b.number m) (record { own = b; children = under }) (node_at m under) v
        (not_true (eqb b.number m) (λ e. h.own n (subst (λ x. IsNamed names n x) (sym (eqb-true b.number m e)) is))) (ap (node_at m) h.alone) in
        subst (λ (x : Option Node). AreSomeAlike names x (cond (eqb b.number m) (Some (record { own = b; children = under })) (or_else (node_at m under) v))) (sym old)
        (subst (λ (y : Option Node). AreSomeAlike names o y) (sym new) i)

    found_among : (ends : ℕ → Option Value) (f g : Forest) → AreRootsAlike k names count ends f g → AreSomeAlike names (node_at n f) (node_at m g)
    found_among ends no_node no_node h = tt
    found_among ends no_node (node b under rest) h = absurd h
    found_among ends (node a below others) no_node h = absurd h
    found_among ends (node a below others) (node b under rest) h =
        found_root (ends 0) a below b under (node_at n others) (node_at m rest) h.0 (found_among (λ i. ends (suc i)) others rest h.1)

    found_by : (x : Node) (o : Option Node) (g : Forest) → node_at m g ≡ o → AreSomeAlike names (Some x) o → (y : Node) × ((node_at m g ≡ Some y) × (IsSame x.own y.own × AreAlike names x.children y.children))
    found_by x None g e h = absurd h
    found_by x (Some y) g e h = (y, (e, h))

    -- the node in the new forest
    pub found : (ends : ℕ → Option Value) (f g : Forest) (x : Node) → AreRootsAlike k names count ends f g → node_at n f ≡ Some x
        → (y : Node) × ((node_at m g ≡ Some y) × (IsSame x.own y.own × AreAlike names x.children y.children))
    found ends f g x h there = found_by x (node_at m g) g refl (subst (λ (o : Option Node). AreSomeAlike names o (node_at m g)) there (found_among ends f g h))

-- ---- by place

named_there : (names : Names) (n m i : ℕ) (down : List ℕ) (f g : Forest) → AreAlike names f g → number_at i down f ≡ Some n → number_at i down g ≡ Some m → IsNamed names n m
named_there names n m i down no_node g h p q = absurd cc
named_there names n m i down (node a below others) no_node h p q = absurd h
named_there names n m zero [] (node a below others) (node b under rest) h p q =
    let e : a.number ≡ n = cc in let d : b.number ≡ m = cc in subst (λ x. IsNamed names x m) e (subst (λ x. IsNamed names a.number x) d h.0.0)
named_there names n m zero (j ∷ down) (node a below others) (node b under rest) h p q = named_there names n m j down below under h.1.0 p q
named_there names n m (suc i) down (node a below others) (node b under rest) h p q = named_there names n m i down others rest h.1.1 p q

unnamed_there : (names : Names) (n i : ℕ) (down : List ℕ) (f : Forest) → AreUnnamed names f → number_at i down f ≡ Some n → IsUnnamed names n
unnamed_there names n i down no_node h p = absurd cc
unnamed_there names n zero [] (node a below others) h p = let e : a.number ≡ n = cc in subst (IsUnnamed names) e h.0
unnamed_there names n zero (j ∷ down) (node a below others) h p = unnamed_there names n j down below h.1.0 p
unnamed_there names n (suc i) down (node a below others) h p = unnamed_there names n i down others h.1.1 p

module _ (k : ℕ) (names : Names) (count : ℕ) where
  pub named_place : (n m i : ℕ) (down : List ℕ) (ends : ℕ → Option Value) (f g : Forest) → AreRootsAlike k names count ends f g → ends i ≡ None
      → number_at i down f ≡ Some n → number_at i down g ≡ Some m → IsNamed names n m
  named_place n m i down ends no_node g h end p q = absurd cc
  named_place n m i down ends (node a below others) no_node h end p q = absurd h
  named_place n m zero [] ends (node a below others) (node b under rest) h end p q =
      let e : a.number ≡ n = cc in let d : b.number ≡ m = cc in
      let r = subst (λ (x : Option Value). IsRootAlike k names count x a below b under) end h.0 in
      subst (λ x. IsNamed names x m) e (subst (λ x. IsNamed names a.number x) d r.0.0)
  named_place n m zero (j ∷ down) ends (node a below others) (node b under rest) h end p q =
      let r = subst (λ (x : Option Value). IsRootAlike k names count x a below b under) end h.0 in named_there names n m j down below under r.1 p q
  named_place n m (suc i) down ends (node a below others) (node b under rest) h end p q =
      named_place n m i down (λ j. ends (suc j)) others rest h.1 end p q

  pub unnamed_place : (n i : ℕ) (down : List ℕ) (v : Value) (ends : ℕ → Option Value) (f g : Forest) → AreRootsAlike k names count ends f g → ends i ≡ Some v
      → number_at i down f ≡ Some n → IsUnnamed names n
  unnamed_place n i down v ends no_node g h end p = absurd cc
  unnamed_place n i down v ends (node a below others) no_node h end p = absurd h
  unnamed_place n zero [] v ends (node a below others) (node b under rest) h end p =
      let e : a.number ≡ n = cc in
      let r = subst (λ (x : Option Value). IsRootAlike k names count x a below b under) end h.0 in
      subst (IsUnnamed names) e r.dropped
  unnamed_place n zero (j ∷ down) v ends (node a below others) (node b under rest) h end p =
      let r = subst (λ (x : Option Value). IsRootAlike k names count x a below b under) end h.0 in unnamed_there names n j down below r.dropped_below p
  unnamed_place n (suc i) down v ends (node a below others) (node b under rest) h end p =
      unnamed_place n i down v (λ j. ends (suc j)) others rest h.1 end p

-- ---- the place of a number

-- it stands at the same place of both forests
pub record IsPlaced (names : Names) (f g : Forest) (n : ℕ) : Type 0 where
  pub i : ℕ
  pub down : List ℕ
  pub m : ℕ
  pub here : number_at i down f ≡ Some n
  pub there : number_at i down g ≡ Some m
  pub name : IsNamed names n m

placed_below : (names : Names) (n : ℕ) (f g : Forest) (x : Node) → AreAlike names f g → node_at n f ≡ Some x → IsPlaced names f g n
placed_below names n no_node g x h e = absurd cc
placed_below names n (node a below others) no_node x h e = absurd h
placed_below names n (node a below others) (node b under rest) x h e =
    ⊎_elim
    (λ first.
    let is = eqb-true a.number n first.0 in
    record { i = 0; down = []; m = b.number; here = ap Some is; there = refl; name = subst (λ o. IsNamed names o b.number) is h.0.0 })
    (λ second. ⊎_elim
    (λ found. let p = placed_below names n below under x h.1.0 found in record { i = 0; down = p.i ∷ p.down; m = p.m; here = p.here; there = p.there; name = p.name })
    (λ found. let p = placed_below names n others rest x h.1.1 found.1 in record { i = suc p.i; down = p.down; m = p.m; here = p.here; there = p.there; name = p.name }) second.1)
    (found_where (eqb a.number n) (record { own = a; children = below }) x (node_at n below) (node_at n others) e)

pub record IsPlacedUnnamed (names : Names) (f : Forest) (n : ℕ) : Type 0 where
  pub i : ℕ
  pub down : List ℕ
  pub here : number_at i down f ≡ Some n
  pub none : IsUnnamed names n

placed_unnamed : (names : Names) (n : ℕ) (f : Forest) (x : Node) → AreUnnamed names f → node_at n f ≡ Some x → IsPlacedUnnamed names f n
placed_unnamed names n no_node x h e = absurd cc
placed_unnamed names n (node a below others) x h e =
    ⊎_elim
    (λ first. let is = eqb-true a.number n first.0 in record { i = 0; down = []; here = ap Some is; none = subst (IsUnnamed names) is h.0 })
    (λ second. ⊎_elim
    (λ found. let p = placed_unnamed names n below x h.1.0 found in record { i = 0; down = p.i ∷ p.down; here = p.here; none = p.none })
    (λ found. let p = placed_unnamed names n others x h.1.1 found.1 in record { i = suc p.i; down = p.down; here = p.here; none = p.none }) second.1)
    (found_where (eqb a.number n) (record { own = a; children = below }) x (node_at n below) (node_at n others) e)

-- by the value that its root has in the end
pub record IsPlacedOpen (names : Names) (ends : ℕ → Option Value) (f g : Forest) (n : ℕ) : Type 0 where
  pub i : ℕ
  pub open_root : ends i ≡ None
  pub m : ℕ
  pub place : AreAtOnePlace f g i n m
  pub name : IsNamed names n m

pub record IsPlacedSettled (names : Names) (ends : ℕ → Option Value) (f : Forest) (n : ℕ) : Type 0 where
  pub i : ℕ
  pub settled_root : IsSome (ends i)
  pub place : IsBelow f i n
  pub none : IsUnnamed names n

abbrev pub Placed : Names → (ℕ → Option Value) → Forest → Forest → ℕ → Type 0
Placed names ends f g n = IsPlacedOpen names ends f g n ⊎ IsPlacedSettled names ends f n

module _ (k : ℕ) (names : Names) (count n : ℕ) where
  root_placed : (ends : ℕ → Option Value) (e : Option Value) → ends 0 ≡ e → (a : Own) (below : Forest) (b : Own) (under others rest : Forest) (x : Node) → IsRootAlike k names count e a below b under
      → ((eqb a.number n ≡ true) ⊎ (node_at n below ≡ Some x)) → Placed names ends (node a below others) (node b under rest) n
  root_placed ends None end a below b under others rest x h (inl t) =
      let is = eqb-true a.number n t in
      inl (record { i = 0; open_root = end; m = b.number; place = record { down = []; in_old = ap Some is; in_new = refl }; name = subst (λ o. IsNamed names o b.number) is h.0.0 })
  root_placed ends None end a below b under others rest x h (inr found) =
      let p = placed_below names n below under x h.1 found in
      inl (record { i = 0; open_root = end; m = p.m; place = record { down = p.i ∷ p.down; in_old = p.here; in_new = p.there }; name = p.name })
  root_placed ends (Some v) end a below b under others rest x h (inl t) =
      let is = eqb-true a.number n t in
      inr (record { i = 0; settled_root = subst IsSome (sym end) refl; place = record { down = []; is = ap Some is }; none = subst (IsUnnamed names) is h.dropped })
  root_placed ends (Some v) end a below b under others rest x h (inr found) =
      let p = placed_unnamed names n below x h.dropped_below found in
      inr (record { i = 0; settled_root = subst IsSome (sym end) refl; place = record { down = p.i ∷ p.down; is = p.here }; none = p.none })

  later : (ends : ℕ → Option Value) (a : Own) (below : Forest) (b : Own) (under others rest : Forest) → Placed names (λ i. ends (suc i)) others rest n → Placed names ends (node a below others) (node b under rest) n
  later ends a below b under others rest (inl p) =
      inl (record { i = suc p.i; open_root = p.open_root; m = p.m; place = record { down = p.place.down; in_old = p.place.in_old; in_new = p.place.in_new }; name = p.name })
  later ends a below b under others rest (inr p) =
      inr (record { i = suc p.i; settled_root = p.settled_root; place = record { down = p.place.down; is = p.place.is }; none = p.none })

  -- a node that is there stands below an open root, and has a name, or below a settled one, and has none
  pub placed : (ends : ℕ → Option Value) (f g : Forest) (x : Node) → AreRootsAlike k names count ends f g → node_at n f ≡ Some x → Placed names ends f g n
  placed ends no_node g x h e = absurd cc
  placed ends (node a below others) no_node x h e = absurd h
  placed ends (node a below others) (node b under rest) x h e =
      ⊎_elim (λ first. root_placed ends (ends 0) refl a below b under others rest x h.0 (inl first.0))
      (λ second. ⊎_elim (λ found. root_placed ends (ends 0) refl a below b under others rest x h.0 (inr found))
      (λ found. later ends a below b under others rest (placed (λ i. ends (suc i)) others rest x h.1 found.1)) second.1)
      (found_where (eqb a.number n) (record { own = a; children = below }) x (node_at n below) (node_at n others) e)
