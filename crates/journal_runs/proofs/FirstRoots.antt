-- Roots of which each is leased once, before any is leased a second time.
use Rattle.std.proofs.Common.{◌≡◌, ◌≤◌, ◌+◌, ℕ, zero, suc, Bool, true, false, cond, eqb, List, [], ◌∷◌, length, Option, Some, None, is_some, IsSome, refl, ap, sym, ◌∙◌, subst, inl, inr, ⊎_elim, arith}
use Rattle.std.specs.Prelude.{◌⊎◌, ◌||◌, not}
use Rattle.std.specs.List.{list_any, AllByRecursion as Each}
use Rattle.std.proofs.lemmas.Bool.{true≢false, false≢true, eqb-true, eq-eqb}
use Rattle.std.proofs.lemmas.List.Elements.{All-head}
use Rattle.draughts_board.specs.declared.pieces.Side.{Side}
use Rattle.draughts_board.specs.declared.pieces.Value.{Value}
use Rattle.proof_numbers.specs.Numbers.{is_resolved}
use Rattle.proof_tree.specs.declared.rows.Mark.{Mark}
use Rattle.proof_tree.specs.declared.rows.Mark.TheVariants.{Unexpanded}
use Rattle.proof_tree.specs.Forest.{Own, Forest, no_node, node, Node, nodes, numbers, numbers_at, value_of, goal_of, or_else}
use Rattle.proof_tree.specs.Picking.{Way, best_way, open_by, pick_by, pick_at, pick_from}
use Rattle.proof_tree.proofs.OpenLeaves.{all_settled}
use Rattle.draughts_board.specs.Board.{same_side}
use Rattle.journal_runs.specs.FirstPass.{IsUnsettledRoot}
use Rattle.journal_runs.proofs.AmpleRoots.{IsLeafOrSettled, left}

-- ---- numbers, of which each stands once

abbrev pub has : ℕ → List ℕ → Bool
has m ns = list_any (eqb m) ns

abbrev pub AreOnce : List ℕ → Type 0
AreOnce [] = Unit {0}
AreOnce (n ∷ ns) = (has n ns ≡ false) × AreOnce ns

abbrev dropped : ℕ → List ℕ → List ℕ
dropped m [] = []
dropped m (n ∷ ns) = cond (eqb m n) (dropped m ns) (n ∷ dropped m ns)

pub neither : (a b : Bool) → a || b ≡ false → (a ≡ false) × (b ≡ false)
neither true b e = absurd (true≢false e)
neither false b e = (refl, e)

has_not : (m : ℕ) (ns : List ℕ) (P : List ℕ → Type 0) → has m ns ≡ false → P ns → P (dropped m ns)
has_not m [] P none p = p
has_not m (n ∷ ns) P none p =
    let both = neither (eqb m n) (has m ns) none in
    subst (λ b. P (cond b (dropped m ns) (n ∷ dropped m ns))) (sym both.0) (has_not m ns (λ rest. P (n ∷ rest)) both.1 p)

length_dropped : (m : ℕ) (ns : List ℕ) → AreOnce ns → length ns ≤ suc (length (dropped m ns))
length_dropped m [] once = omega arith
length_dropped m (n ∷ ns) once = by (eqb m n) refl (length_dropped m ns once.1)
  where
    by : (b : Bool) → eqb m n ≡ b → length ns ≤ suc (length (dropped m ns)) → suc (length ns) ≤ suc (length (cond b (dropped m ns) (n ∷ dropped m ns)))
    by true e rest = has_not m ns (λ kept. suc (length ns) ≤ suc (length kept)) (subst (λ k. has k ns ≡ false) (sym (eqb-true m n e)) once.0) (omega arith)
    by false e rest = omega (arith, rest)

none_dropped : (m k : ℕ) (ns : List ℕ) → has k ns ≡ false → has k (dropped m ns) ≡ false
none_dropped m k [] none = none
none_dropped m k (n ∷ ns) none =
    let both = neither (eqb k n) (has k ns) none in
    let rest = none_dropped m k ns both.1 in
    by (eqb m n) both.0 rest
  where
    by : (b : Bool) → eqb k n ≡ false → has k (dropped m ns) ≡ false → has k (cond b (dropped m ns) (n ∷ dropped m ns)) ≡ false
    by true here rest = rest
    by false here rest = λ i. here i || rest i

once_dropped : (m : ℕ) (ns : List ℕ) → AreOnce ns → AreOnce (dropped m ns)
once_dropped m [] once = tt
once_dropped m (n ∷ ns) once = by (eqb m n) (none_dropped m n ns once.0) (once_dropped m ns once.1)
  where
    by : (b : Bool) → has n (dropped m ns) ≡ false → AreOnce (dropped m ns) → AreOnce (cond b (dropped m ns) (n ∷ dropped m ns))
    by true none rest = rest
    by false none rest = (none, rest)

each_dropped : (P Q : ℕ → Type 0) (m : ℕ) (ns : List ℕ) → ((n : ℕ) → (m ≡ n → ⊥) → P n → Q n) → Each P ns → Each Q (dropped m ns)
each_dropped P Q m [] f each = tt
each_dropped P Q m (n ∷ ns) f each = by (eqb m n) refl (each_dropped P Q m ns f each.1)
  where
    by : (b : Bool) → eqb m n ≡ b → Each Q (dropped m ns) → Each Q (cond b (dropped m ns) (n ∷ dropped m ns))
    by true e rest = rest
    by false e rest = (f n (λ same. true≢false (sym (eq-eqb m n same) ∙ e)) each.0, rest)

had : (m k : ℕ) (ns : List ℕ) → has k (dropped m ns) ≡ true → has k ns ≡ true
had m k [] h = h
had m k (n ∷ ns) h = by (eqb m n) (had m k ns) h
  where
    or_right : (a b : Bool) → b ≡ true → a || b ≡ true
    or_right true b e = refl
    or_right false b e = e

    either : (a : Bool) → (has k (dropped m ns) ≡ true → has k ns ≡ true) → a || has k (dropped m ns) ≡ true → a || has k ns ≡ true
    either true f e = refl
    either false f e = f e

    by : (b : Bool) → (has k (dropped m ns) ≡ true → has k ns ≡ true) → has k (cond b (dropped m ns) (n ∷ dropped m ns)) ≡ true → (eqb k n || has k ns) ≡ true
    by true f e = or_right (eqb k n) (has k ns) (f e)
    by false f e = either (eqb k n) f e

-- ---- as many of them as there are unsettled roots

abbrev AreUnsettled : Forest → List ℕ → Type 0
AreUnsettled t ns = Each (λ n. IsUnsettledRoot n t) ns

abbrev pub IsSettledOrOf : List ℕ → Node → Type 0
IsSettledOrOf ns root = IsSome (value_of root) ⊎ (has root.own.number ns ≡ true)

each_map : (P Q : ℕ → Type 0) (ns : List ℕ) → ((n : ℕ) → P n → Q n) → Each P ns → Each Q ns
each_map P Q [] f each = tt
each_map P Q (n ∷ ns) f each = (f n each.0, each_map P Q ns f each.1)

each_node : (P Q : Node → Type 0) (xs : List Node) → ((x : Node) → P x → Q x) → Each P xs → Each Q xs
each_node P Q [] f each = tt
each_node P Q (x ∷ xs) f each = (f x each.0, each_node P Q xs f each.1)

module _ (own : Own) (children others : Forest) where
  abbrev root : Node
  root = record { own = own; children = children }

  left_is_by : (b : Bool) → is_some (value_of root) ≡ b → left (node own children others) ≡ cond b (left others) (suc (left others))
  left_is_by b e = ap (λ c. cond c (left others) (suc (left others))) e

  -- of a settled root, all are others
  rest_of : (n : ℕ) → is_some (value_of root) ≡ true → IsUnsettledRoot n (node own children others) → IsUnsettledRoot n others
  rest_of n settled (inl h) = absurd (false≢true (sym (ap is_some h.1) ∙ settled))
  rest_of n settled (inr h) = h

  rest_but : (n : ℕ) → (own.number ≡ n → ⊥) → IsUnsettledRoot n (node own children others) → IsUnsettledRoot n others
  rest_but n differs (inl h) = absurd (differs h.0)
  rest_but n differs (inr h) = h

most_unsettled : (t : Forest) (ns : List ℕ) → AreOnce ns → AreUnsettled t ns → length ns ≤ left t
most_unsettled no_node [] once each = omega arith
most_unsettled no_node (n ∷ ns) once each = absurd each.0
most_unsettled (node own children others) ns once each =
    let settled : is_some (value_of (root own children others)) ≡ true → length ns ≤ left others = λ e. most_unsettled others ns once (each_map (λ n. IsUnsettledRoot n (node own children others)) (λ n. IsUnsettledRoot n others) ns (λ n h. rest_of own children others n e h) each) in
    let rest = most_unsettled others (dropped own.number ns) (once_dropped own.number ns once)
    (each_dropped (λ n. IsUnsettledRoot n (node own children others)) (λ n. IsUnsettledRoot n others) own.number ns (λ n differs h. rest_but own children others n differs h) each) in
    by (is_some (value_of (root own children others))) refl settled rest
  where
    by : (b : Bool) → is_some (value_of (root own children others)) ≡ b → (is_some (value_of (root own children others)) ≡ true → length ns ≤ left others) → length (dropped own.number ns) ≤ left others → length ns ≤ left (node own children others)
    by true e settled rest = subst (λ m. length ns ≤ m) (sym (left_is_by own children others true e)) (settled e)
    by false e settled rest =
        let few = length_dropped own.number ns once in
        subst (λ m. length ns ≤ m) (sym (left_is_by own children others false e)) (omega (arith, rest, few))

-- .. so each unsettled root is one of them
pub all_covered : (t : Forest) (ns : List ℕ) → AreOnce ns → AreUnsettled t ns → left t ≤ length ns → Each (IsSettledOrOf ns) (nodes t)
all_covered no_node ns once each few = tt
all_covered (node own children others) ns once each few =
    let settled : is_some (value_of (root own children others)) ≡ true → left others ≤ length ns → Each (IsSettledOrOf ns) (nodes others) = λ e few'. all_covered others ns once (each_map (λ n. IsUnsettledRoot n (node own children others)) (λ n. IsUnsettledRoot n others) ns (λ n h. rest_of own children others n e h) each) few' in
    let unsettled = each_dropped (λ n. IsUnsettledRoot n (node own children others)) (λ n. IsUnsettledRoot n others) own.number ns (λ n differs h. rest_but own children others n differs h) each in
    let rest : left others ≤ length (dropped own.number ns) → Each (IsSettledOrOf (dropped own.number ns)) (nodes others) = λ few'. all_covered others (dropped own.number ns) (once_dropped own.number ns once) unsettled few' in
    by (is_some (value_of (root own children others))) refl settled rest (most_unsettled others (dropped own.number ns) (once_dropped own.number ns once) unsettled)
  where
    here : (c : Bool) → has own.number ns ≡ c → suc (left others) ≤ length ns → length (dropped own.number ns) ≤ left others → has own.number ns ≡ true
    here true is few' most = is
    here false is few' most =
        let short : length ns ≤ left others = has_not own.number ns (λ kept. length kept ≤ left others → length ns ≤ left others) is (λ le. le) most in
        absurd (omega (arith, short, few'))

    by : (b : Bool) → is_some (value_of (root own children others)) ≡ b
        → (is_some (value_of (root own children others)) ≡ true → left others ≤ length ns → Each (IsSettledOrOf ns) (nodes others))
        → (left others ≤ length (dropped own.number ns) → Each (IsSettledOrOf (dropped own.number ns)) (nodes others))
        → length (dropped own.number ns) ≤ left others → Each (IsSettledOrOf ns) (nodes (node own children others))
    by true e settled rest most = (inl e, settled e (subst (λ m. m ≤ length ns) (left_is_by own children others true e) few))
    by false e settled rest most =
        let few' : suc (left others) ≤ length ns = subst (λ m. m ≤ length ns) (left_is_by own children others false e) few in
        let short = length_dropped own.number ns once in (
          inr (here (has own.number ns) refl few' most),
          each_node (IsSettledOrOf (dropped own.number ns)) (IsSettledOrOf ns) (nodes others) (λ x h. ⊎_elim (λ is. inl is) (λ of. inr (had own.number x.own.number ns of)) h) (rest (omega (arith, few', short))),
        )

-- ---- none is left to lease

or_none : (a b : Option (ℕ × Side)) → or_else a b ≡ None → (a ≡ None) × (b ≡ None)
or_none None b e = (refl, e)
or_none (Some x) b e = absurd (cc e)

or_nothing : (a : Option (ℕ × Side)) → a ≡ None → or_else a None ≡ None
or_nothing a e = ap (λ o. or_else o None) e

-- an unexpanded root without a value is open for its goal
module _ (x : Node) (fresh : x.own.mark ≡ Unexpanded) (none : value_of x ≡ None) where
  abbrev its : Bool
  its = is_resolved (numbers_at (goal_of x) x.own (numbers (goal_of x) x.children))

  at : (taken : ℕ → Bool) (r : Bool) → its ≡ r → taken x.own.number ≡ false → pick_at taken x ≡ cond r None (Some (x.own.number, goal_of x))
  at taken true e free = λ i. pick_by (none i) (cond (e i) None (open_by x.own.mark (taken x.own.number) x.own.number (best_way (goal_of x) taken (same_side (goal_of x) x.own.position.to_move) x.children))) (goal_of x)
  at taken false e free = λ i. pick_by (none i) (cond (e i) None (open_by (fresh i) (free i) x.own.number (best_way (goal_of x) taken (same_side (goal_of x) x.own.position.to_move) x.children))) (goal_of x)

  unresolved : (r : Bool) → its ≡ r → its ≡ false
  unresolved false e = e
  unresolved true e =
      let all = all_settled (x ∷ []) (or_nothing (pick_at (λ n. false) x) (at (λ n. false) true e refl)) in
      absurd (false≢true (sym (ap is_some none) ∙ All-head (λ root. IsSome (value_of root)) x [] all))

  pub is_picked : (taken : ℕ → Bool) → taken x.own.number ≡ false → pick_at taken x ≡ None → ⊥
  is_picked taken free e = let some : Some (x.own.number, goal_of x) ≡ None = sym (at taken false (unresolved its refl) free) ∙ e in cc some

pub none_open : (taken : ℕ → Bool) (t : Forest) → Each IsLeafOrSettled (nodes t) → pick_from taken (nodes t) ≡ None → Each (λ root. IsSome (value_of root) ⊎ (taken root.own.number ≡ true)) (nodes t)
none_open taken no_node each e = tt
none_open taken (node own children others) each e =
    let x = root own children others in
    let both = or_none (pick_at taken x) (pick_from taken (nodes others)) e in
    (⊎_elim (λ settled. inl settled) (λ fresh. by (value_of x) refl (taken own.number) refl fresh both.0) each.0, none_open taken others each.1 both.1)
  where
    by : (v : Option Value) → value_of (root own children others) ≡ v → (b : Bool) → taken own.number ≡ b → own.mark ≡ Unexpanded → pick_at taken (root own children others) ≡ None
        → IsSome (value_of (root own children others)) ⊎ (taken own.number ≡ true)
    by (Some v) is b free fresh e = inl (ap is_some is)
    by None is true free fresh e = inr free
    by None is false free fresh e = absurd (is_picked (root own children others) fresh is taken free e)
