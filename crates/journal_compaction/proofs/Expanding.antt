-- Forests that are alike stay so when the same node of both is expanded, or one without a name.
use Rattle.std.proofs.Common.{◌≡◌, ℕ, suc, ◌+◌, ◌<◌, ◌≤◌, Bool, true, false, cond, eqb, List, [], ◌∷◌, length, Option, Some, None, refl, sym, ap, ◌∙◌, subst, arith}
use Rattle.std.proofs.lemmas.Bool.{false≢true, true≢false, eqb-true}
use Rattle.draughts_board.specs.Board.{Board}
use Rattle.draughts_board.specs.declared.pieces.Value.{Value}
use Rattle.proof_numbers.specs.declared.leaves.Child.{Child}
use Rattle.proof_tree.specs.declared.rows.Mark.TheVariants.{Expanded}
use Rattle.proof_tree.specs.Forest.{Own, Forest, no_node, node, forest}
use Rattle.proof_tree.specs.Changes.{new_nodes, expand_own, expanded}
use Rattle.journal_compaction.specs.Names.{Names, IsNamed, IsUnnamed, IsSame, AreAlike, AreUnnamed, StandsForSettled, IsRootAlike, AreRootsAlike, AreExtended}
use Rattle.journal_compaction.proofs.Alike.{Keep, AreApart, stands_more, same_test, not_true, named_not_unnamed}

-- ---- new nodes

place_zero : (next : ℕ) → next + 0 ≡ next
place_zero next = omega arith

place_next : (next j : ℕ) → next + suc j ≡ suc next + j
place_next next j = omega arith

abbrev AreNewNamed : Names → ℕ → ℕ → ℕ → Type 0
AreNewNamed more next fresh c = (j : ℕ) → j < c → IsNamed more (next + j) (fresh + j)

abbrev AreNewUnnamed : Names → ℕ → ℕ → Type 0
AreNewUnnamed more next c = (j : ℕ) → j < c → IsUnnamed more (next + j)

alike_new : (more : Names) (path : List Board) (next fresh : ℕ) (children : List Child) → AreNewNamed more next fresh (length children)
    → AreAlike more (forest (new_nodes path next children)) (forest (new_nodes path fresh children))
alike_new more path next fresh [] h = tt
alike_new more path next fresh (c ∷ children) h = (
  (
    subst (λ x. IsNamed more x fresh) (place_zero next) (subst (λ x. IsNamed more (next + 0) x) (place_zero fresh) (h 0 (omega arith))),
    record { position = refl; facts = refl; mark = refl },
  ),
  (
    tt,
    alike_new more path (suc next) (suc fresh) children (λ j l.
        subst (λ x. IsNamed more x (suc fresh + j)) (place_next next j) (subst (λ x. IsNamed more (next + suc j) x) (place_next fresh j) (h (suc j) (omega arith)))),
  ),
)

unnamed_new : (more : Names) (path : List Board) (next : ℕ) (children : List Child) → AreNewUnnamed more next (length children) → AreUnnamed more (forest (new_nodes path next children))
unnamed_new more path next [] h = tt
unnamed_new more path next (c ∷ children) h = (
  subst (IsUnnamed more) (place_zero next) (h 0 (omega arith)),
  (tt, unnamed_new more path (suc next) children (λ j l. subst (IsUnnamed more) (place_next next j) (h (suc j) (omega arith)))),
)

-- ---- a node and what stands below it

abbrev opened : (t : Bool) (own : Own) → Own
opened t own = cond t (record own { mark = Expanded }) own

opened_pair : (names more : Names) → Keep names more → (t u : Bool) → t ≡ u → (a b : Own) → IsNamed names a.number b.number × IsSame a b
    → IsNamed more (opened t a).number (opened u b).number × IsSame (opened t a) (opened u b)
opened_pair names more keep true true e a b h =
    let s = h.1 in (keep a.number (Some b.number) h.0, record { position = s.position; facts = s.facts; mark = refl })
opened_pair names more keep true false e a b h = absurd (true≢false e)
opened_pair names more keep false true e a b h = absurd (false≢true e)
opened_pair names more keep false false e a b h = (keep a.number (Some b.number) h.0, h.1)

opened_other : (t : Bool) (own : Own) → t ≡ false → opened t own ≡ own
opened_other true own e = absurd (true≢false e)
opened_other false own e = refl

opened_number : (t : Bool) (own : Own) → (opened t own).number ≡ own.number
opened_number true own = refl
opened_number false own = refl

opened_position : (t : Bool) (own : Own) → (opened t own).position ≡ own.position
opened_position true own = refl
opened_position false own = refl

either_pair : (P : Forest → Forest → Type 0) (t u : Bool) (x y v w : Forest) → t ≡ u → (t ≡ true → P x v) → P y w → P (cond t x y) (cond u v w)
either_pair P true true x y v w e p q = p refl
either_pair P true false x y v w e p q = absurd (true≢false e)
either_pair P false true x y v w e p q = absurd (false≢true e)
either_pair P false false x y v w e p q = q

either : (P : Forest → Type 0) (t : Bool) (x y : Forest) → (t ≡ true → P x) → (t ≡ false → P y) → P (cond t x y)
either P true x y p q = p refl
either P false x y p q = q refl

-- ---- the same node of both

module _ (names more : Names) (keep : Keep names more) (n m next fresh : ℕ) (children : List Child) (apart : AreApart names) (is : IsNamed names n m)
    (new : AreNewNamed more next fresh (length children)) where
  pub alike_expanded : (path above : List Board) → path ≡ above → (f g : Forest) → AreAlike names f g
      → AreAlike more (expanded n children next path f) (expanded m children fresh above g)
  alike_expanded path above e no_node no_node h = tt
  alike_expanded path above e no_node (node b under rest) h = absurd h
  alike_expanded path above e (node a below others) no_node h = absurd h
  alike_expanded path above e (node a below others) (node b under rest) h =
      let t = same_test names n m a.number b.number apart is h.0.0 in
      let lines : a.position ∷ path ≡ b.position ∷ above = (λ i. h.0.1.position i ∷ e i) in (
        opened_pair names more keep (eqb a.number n) (eqb b.number m) t a b h.0,
        (
          either_pair (AreAlike more) (eqb a.number n) (eqb b.number m)
              (forest (new_nodes (a.position ∷ path) next children)) (expanded n children next (a.position ∷ path) below)
              (forest (new_nodes (b.position ∷ above) fresh children)) (expanded m children fresh (b.position ∷ above) under) t
              (λ yes. subst (λ (l : List Board). AreAlike more (forest (new_nodes (a.position ∷ path) next children)) (forest (new_nodes l fresh children))) lines
              (alike_new more (a.position ∷ path) next fresh children new))
              (alike_expanded (a.position ∷ path) (b.position ∷ above) lines below under h.1.0),
          alike_expanded path above e others rest h.1.1,
        ),
      )

-- ---- nodes without names

module _ (names more : Names) (keep : Keep names more) (n next : ℕ) (children : List Child) (new : IsUnnamed names n → AreNewUnnamed more next (length children)) where
  unnamed_below : (path : List Board) (a : Own) (below : Forest) → IsUnnamed names a.number → AreUnnamed more (expanded n children next (a.position ∷ path) below)
      → AreUnnamed more (cond (eqb a.number n) (forest (new_nodes (a.position ∷ path) next children)) (expanded n children next (a.position ∷ path) below))
  unnamed_below path a below none rest =
      either (AreUnnamed more) (eqb a.number n) (forest (new_nodes (a.position ∷ path) next children)) (expanded n children next (a.position ∷ path) below)
      (λ e. unnamed_new more (a.position ∷ path) next children (new (subst (IsUnnamed names) (eqb-true a.number n e) none))) (λ e. rest)

  pub unnamed_expanded : (path : List Board) (f : Forest) → AreUnnamed names f → AreUnnamed more (expanded n children next path f)
  unnamed_expanded path no_node h = tt
  unnamed_expanded path (node a below others) h = (
    subst (IsUnnamed more) (sym (opened_number (eqb a.number n) a)) (keep a.number None h.0),
    (unnamed_below path a below h.0 (unnamed_expanded (a.position ∷ path) below h.1.0), unnamed_expanded path others h.1.1),
  )

-- a node without a name is expanded
module _ (names more : Names) (keep : Keep names more) (n next : ℕ) (children : List Child) (none : IsUnnamed names n) where
  pub not_it : (a b : ℕ) → IsNamed names a b → eqb a n ≡ false
  not_it a b is = not_true (eqb a n) (λ e. named_not_unnamed names n b (subst (λ x. IsNamed names x b) (eqb-true a n e) is) none)

  pub alike_expanded_dropped : (path : List Board) (f g : Forest) → AreAlike names f g → AreAlike more (expanded n children next path f) g
  alike_expanded_dropped path no_node no_node h = tt
  alike_expanded_dropped path no_node (node b under rest) h = absurd h
  alike_expanded_dropped path (node a below others) no_node h = absurd h
  alike_expanded_dropped path (node a below others) (node b under rest) h =
      let other = not_it a.number b.number h.0.0 in (
        subst (λ (x : Own). IsNamed more x.number b.number × IsSame x b) (sym (opened_other (eqb a.number n) a other)) (keep a.number (Some b.number) h.0.0, h.0.1),
        (
          either (λ (x : Forest). AreAlike more x under) (eqb a.number n) (forest (new_nodes (a.position ∷ path) next children)) (expanded n children next (a.position ∷ path) below)
              (λ e. absurd (true≢false (sym e ∙ other))) (λ e. alike_expanded_dropped (a.position ∷ path) below under h.1.0),
          alike_expanded_dropped path others rest h.1.1,
        ),
      )

-- ---- roots

module _ (k : ℕ) (names more : Names) (top count grown : ℕ) (ext : AreExtended names more top count) (larger : count ≤ grown)
    (n next : ℕ) (children : List Child) where
  stands_expanded : (new : IsUnnamed names n → AreNewUnnamed more next (length children)) (v : Value) (a : Own) (below : Forest) (b : Own) (under : Forest)
      → StandsForSettled k names count v a below b under
      → StandsForSettled k more grown v (expand_own n a) (cond (eqb a.number n) (forest (new_nodes (a.position ∷ []) next children)) (expanded n children next (a.position ∷ []) below)) b under
  stands_expanded new v a below b under s =
      let m = stands_more k names more top count grown ext larger v a below b under s in
      record {
        position = opened_position (eqb a.number n) a ∙ s.position;
        dropped = subst (IsUnnamed more) (sym (opened_number (eqb a.number n) a)) m.dropped;
        dropped_below = unnamed_below names more ext.keeps n next children new [] a below s.dropped (unnamed_expanded names more ext.keeps n next children new (a.position ∷ []) below s.dropped_below);
        unexpanded = m.unexpanded;
        alone = m.alone;
        decided = m.decided;
        low = m.low;
        own = m.own;
      }

  -- in both forests
  module _ (m fresh : ℕ) (apart : AreApart names) (is : IsNamed names n m) (new : AreNewNamed more next fresh (length children)) where
    not_own : (b : Own) → ((o : ℕ) → ¬ IsNamed names o b.number) → eqb b.number m ≡ false
    not_own b own = not_true (eqb b.number m) (λ e. own n (subst (λ x. IsNamed names n x) (sym (eqb-true b.number m e)) is))

    abbrev below_of : ℕ → ℕ → Own → Forest → Forest
    below_of n next a below = cond (eqb a.number n) (forest (new_nodes (a.position ∷ []) next children)) (expanded n children next (a.position ∷ []) below)

    below_other : (b : Own) (under : Forest) → eqb b.number m ≡ false → under ≡ no_node → no_node ≡ below_of m fresh b under
    below_other b under e none = sym (
        ap (λ (t : Bool). cond t (forest (new_nodes (b.position ∷ []) fresh children)) (expanded m children fresh (b.position ∷ []) under)) e
        ∙ ap (expanded m children fresh (b.position ∷ [])) none)

    root_expanded : (e : Option Value) (a : Own) (below : Forest) (b : Own) (under : Forest) → IsRootAlike k names count e a below b under
        → IsRootAlike k more grown e (expand_own n a) (below_of n next a below) (expand_own m b) (below_of m fresh b under)
    root_expanded None a below b under h =
        let t = same_test names n m a.number b.number apart is h.0.0 in
        let lines : a.position ∷ [] ≡ b.position ∷ [] = (λ i. h.0.1.position i ∷ []) in (
          opened_pair names more ext.keeps (eqb a.number n) (eqb b.number m) t a b h.0,
          either_pair (AreAlike more) (eqb a.number n) (eqb b.number m)
              (forest (new_nodes (a.position ∷ []) next children)) (expanded n children next (a.position ∷ []) below)
              (forest (new_nodes (b.position ∷ []) fresh children)) (expanded m children fresh (b.position ∷ []) under) t
              (λ yes. subst (λ (l : List Board). AreAlike more (forest (new_nodes (a.position ∷ []) next children)) (forest (new_nodes l fresh children))) lines
              (alike_new more (a.position ∷ []) next fresh children new))
              (alike_expanded names more ext.keeps n m next fresh children apart is new (a.position ∷ []) (b.position ∷ []) lines below under h.1),
        )
    root_expanded (Some v) a below b under h =
        let s = stands_expanded (λ none. absurd (named_not_unnamed names n m is none)) v a below b under h in
        let other = not_own b h.own in
        subst (λ (x : Own). StandsForSettled k more grown v (expand_own n a) (below_of n next a below) x (below_of m fresh b under)) (sym (opened_other (eqb b.number m) b other))
        (subst (λ (x : Forest). StandsForSettled k more grown v (expand_own n a) (below_of n next a below) b x) (h.alone ∙ below_other b under other h.alone) s)

    pub roots_expanded : (ends : ℕ → Option Value) (f g : Forest) → AreRootsAlike k names count ends f g
        → AreRootsAlike k more grown ends (expanded n children next [] f) (expanded m children fresh [] g)
    roots_expanded ends no_node no_node h = tt
    roots_expanded ends no_node (node b under rest) h = absurd h
    roots_expanded ends (node a below others) no_node h = absurd h
    roots_expanded ends (node a below others) (node b under rest) h =
        (root_expanded (ends 0) a below b under h.0, roots_expanded (λ i. ends (suc i)) others rest h.1)

  -- in the old one alone
  module _ (none : IsUnnamed names n) (new : AreNewUnnamed more next (length children)) where
    root_expanded_dropped : (e : Option Value) (a : Own) (below : Forest) (b : Own) (under : Forest) → IsRootAlike k names count e a below b under
        → IsRootAlike k more grown e (expand_own n a) (cond (eqb a.number n) (forest (new_nodes (a.position ∷ []) next children)) (expanded n children next (a.position ∷ []) below)) b under
    root_expanded_dropped None a below b under h =
        let other = not_it names more ext.keeps n next children none a.number b.number h.0.0 in (
          subst (λ (x : Own). IsNamed more x.number b.number × IsSame x b) (sym (opened_other (eqb a.number n) a other)) (ext.keeps a.number (Some b.number) h.0.0, h.0.1),
          either (λ (x : Forest). AreAlike more x under) (eqb a.number n) (forest (new_nodes (a.position ∷ []) next children)) (expanded n children next (a.position ∷ []) below)
              (λ e. absurd (true≢false (sym e ∙ other))) (λ e. alike_expanded_dropped names more ext.keeps n next children none (a.position ∷ []) below under h.1),
        )
    root_expanded_dropped (Some v) a below b under h = stands_expanded (λ e. new) v a below b under h

    pub roots_expanded_dropped : (ends : ℕ → Option Value) (f g : Forest) → AreRootsAlike k names count ends f g
        → AreRootsAlike k more grown ends (expanded n children next [] f) g
    roots_expanded_dropped ends no_node no_node h = tt
    roots_expanded_dropped ends no_node (node b under rest) h = absurd h
    roots_expanded_dropped ends (node a below others) no_node h = absurd h
    roots_expanded_dropped ends (node a below others) (node b under rest) h =
        (root_expanded_dropped (ends 0) a below b under h.0, roots_expanded_dropped (λ i. ends (suc i)) others rest h.1)
