-- Forests that are alike: what more names, learning and expanding leave of that.
use Rattle.std.proofs.Common.{◌≡◌, ℕ, suc, ◌≤◌, Bool, true, false, cond, eqb, ⊎_elim, List, ◌∷◌, length, Option, Some, None, refl, sym, ap, ◌∙◌, subst, arith}
use Rattle.std.specs.Prelude.{slice_get}
use Rattle.std.proofs.lemmas.Bool.{false≢true, true≢false, eqb-true, eq-eqb}
use Rattle.draughts_board.specs.declared.pieces.Side.{Side}
use Rattle.draughts_board.specs.declared.pieces.Value.{Value}
use Rattle.proof_numbers.specs.declared.numbers.Numbers.{Numbers}
use Rattle.proof_numbers.specs.Known.{Known, joined}
use Rattle.proof_tree.specs.Forest.{Own, Forest, no_node, node, nodes, numbers, numbers_at}
use Rattle.proof_tree.specs.Changes.{appended, learn, with_facts}
use Rattle.journal_compaction.specs.Names.{Names, IsNamed, IsUnnamed, IsSame, AreAlike, AreUnnamed, StandsForSettled, IsRootAlike, AreRootsAlike, AreExtended}

-- ---- the same numbers

pub same_numbers : (goal : Side) (a b : Own) (xs ys : List Numbers) → IsSame a b → xs ≡ ys → numbers_at goal a xs ≡ numbers_at goal b ys
same_numbers goal a b xs ys s e = λ i. numbers_at goal (record { number = a.number; position = s.position i; facts = s.facts i; mark = s.mark i }) (e i)

pub alike_numbers : (names : Names) (goal : Side) (f g : Forest) → AreAlike names f g → numbers goal f ≡ numbers goal g
alike_numbers names goal no_node no_node h = refl
alike_numbers names goal no_node (node b under more) h = absurd h
alike_numbers names goal (node a below others) no_node h = absurd h
alike_numbers names goal (node a below others) (node b under more) h =
    λ i. same_numbers goal a b (numbers goal below) (numbers goal under) h.0.1 (alike_numbers names goal below under h.1.0) i ∷ alike_numbers names goal others more h.1.1 i

-- ---- more names

abbrev pub Keep : Names → Names → Type 0
Keep names more = (n : ℕ) (x : Option ℕ) → slice_get names n ≡ Some x → slice_get more n ≡ Some x

pub alike_more : (names more : Names) → Keep names more → (f g : Forest) → AreAlike names f g → AreAlike more f g
alike_more names more keep no_node no_node h = tt
alike_more names more keep no_node (node b under rest) h = absurd h
alike_more names more keep (node a below others) no_node h = absurd h
alike_more names more keep (node a below others) (node b under rest) h =
    ((keep a.number (Some b.number) h.0.0, h.0.1), (alike_more names more keep below under h.1.0, alike_more names more keep others rest h.1.1))

pub unnamed_more : (names more : Names) → Keep names more → (f : Forest) → AreUnnamed names f → AreUnnamed more f
unnamed_more names more keep no_node h = tt
unnamed_more names more keep (node a below others) h =
    (keep a.number None h.0, (unnamed_more names more keep below h.1.0, unnamed_more names more keep others h.1.1))

module _ (k : ℕ) (names more : Names) (top count grown : ℕ) (ext : AreExtended names more top count) (larger : count ≤ grown) where
  pub stands_more : (v : Value) (a : Own) (below : Forest) (b : Own) (under : Forest) → StandsForSettled k names count v a below b under → StandsForSettled k more grown v a below b under
  stands_more v a below b under s = record {
    position = s.position;
    dropped = ext.keeps a.number None s.dropped;
    dropped_below = unnamed_more names more ext.keeps below s.dropped_below;
    unexpanded = s.unexpanded;
    alone = s.alone;
    decided = s.decided;
    low = (let l = s.low in omega (arith, l));
    own = λ n e. ⊎_elim (s.own n) (λ h. let l = s.low in let is = h.1.1 in omega (arith, l, is)) (ext.fresh n b.number e);
  }

  root_more : (e : Option Value) (a : Own) (below : Forest) (b : Own) (under : Forest) → IsRootAlike k names count e a below b under → IsRootAlike k more grown e a below b under
  root_more None a below b under h = ((ext.keeps a.number (Some b.number) h.0.0, h.0.1), alike_more names more ext.keeps below under h.1)
  root_more (Some v) a below b under h = stands_more v a below b under h

  pub roots_more : (ends : ℕ → Option Value) (f g : Forest) → AreRootsAlike k names count ends f g → AreRootsAlike k more grown ends f g
  roots_more ends no_node no_node h = tt
  roots_more ends no_node (node b under rest) h = absurd h
  roots_more ends (node a below others) no_node h = absurd h
  roots_more ends (node a below others) (node b under rest) h =
      (root_more (ends 0) a below b under h.0, roots_more (λ i. ends (suc i)) others rest h.1)

-- ---- one root more

module _ (k : ℕ) (names : Names) (count : ℕ) (a b : Own) where
  pub roots_appended : (ends : ℕ → Option Value) (f g : Forest) → AreRootsAlike k names count ends f g → IsRootAlike k names count (ends (length (nodes f))) a no_node b no_node
      → AreRootsAlike k names count ends (appended f (node a no_node no_node)) (appended g (node b no_node no_node))
  roots_appended ends no_node no_node h one = (one, tt)
  roots_appended ends no_node (node y under rest) h one = absurd h
  roots_appended ends (node x below others) no_node h one = absurd h
  roots_appended ends (node x below others) (node y under rest) h one = (h.0, roots_appended (λ i. ends (suc i)) others rest h.1 one)

-- ---- tests of numbers

pub test_true : (m n : ℕ) → m ≡ n → eqb m n ≡ true
test_true m n e = eq-eqb m n e

true_or_false : (b c : Bool) → (b ≡ true → c ≡ true) → (c ≡ true → b ≡ true) → b ≡ c
true_or_false true true f g = refl
true_or_false true false f g = absurd (false≢true (f refl))
true_or_false false true f g = absurd (false≢true (g refl))
true_or_false false false f g = refl

pub not_true : (b : Bool) → (b ≡ true → ⊥) → b ≡ false
not_true true h = absurd (h refl)
not_true false h = refl

pub one_name : (names : Names) (n m o : ℕ) → IsNamed names n m → IsNamed names n o → m ≡ o
one_name names n m o p q = let e : Some (Some m) ≡ Some (Some o) = sym p ∙ q in cc

abbrev pub AreApart : Names → Type 0
AreApart names = (n o m : ℕ) → IsNamed names n m → IsNamed names o m → n ≡ o

pub same_test : (names : Names) (n m a b : ℕ) → AreApart names → IsNamed names n m → IsNamed names a b → eqb a n ≡ eqb b m
same_test names n m a b apart p q =
    true_or_false (eqb a n) (eqb b m)
    (λ e. test_true b m (one_name names n b m (subst (λ x. IsNamed names x b) (eqb-true a n e) q) p))
    (λ e. test_true a n (apart a n m (subst (λ x. IsNamed names a x) (eqb-true b m e) q) p))

pub named_not_unnamed : (names : Names) (n m : ℕ) → IsNamed names n m → IsUnnamed names n → ⊥
named_not_unnamed names n m p q = let e : Some (Some m) ≡ Some None = sym p ∙ q in cc

-- ---- learning

abbrev learnt : (t : Bool) (facts : Known) (own : Own) → Own
learnt t facts own = cond t (record own { facts = joined own.facts facts }) own

learnt_pair : (names : Names) (facts : Known) (t u : Bool) → t ≡ u → (a b : Own) → IsNamed names a.number b.number × IsSame a b
    → IsNamed names (learnt t facts a).number (learnt u facts b).number × IsSame (learnt t facts a) (learnt u facts b)
learnt_pair names facts true true e a b h =
    let s = h.1 in (h.0, record { position = s.position; facts = ap (λ (x : Known). joined x facts) s.facts; mark = s.mark })
learnt_pair names facts true false e a b h = absurd (true≢false e)
learnt_pair names facts false true e a b h = absurd (false≢true e)
learnt_pair names facts false false e a b h = h

pub alike_learnt : (names : Names) (n m : ℕ) (facts : Known) → AreApart names → IsNamed names n m → (f g : Forest) → AreAlike names f g
    → AreAlike names (with_facts n facts f) (with_facts m facts g)
alike_learnt names n m facts apart is no_node no_node h = tt
alike_learnt names n m facts apart is no_node (node b under rest) h = absurd h
alike_learnt names n m facts apart is (node a below others) no_node h = absurd h
alike_learnt names n m facts apart is (node a below others) (node b under rest) h = (
  learnt_pair names facts (eqb a.number n) (eqb b.number m) (same_test names n m a.number b.number apart is h.0.0) a b h.0,
  (alike_learnt names n m facts apart is below under h.1.0, alike_learnt names n m facts apart is others rest h.1.1),
)

learnt_other : (t : Bool) (facts : Known) (own : Own) → t ≡ false → learnt t facts own ≡ own
learnt_other true facts own e = absurd (true≢false e)
learnt_other false facts own e = refl

-- a node without a name learns
pub alike_learnt_dropped : (names : Names) (n : ℕ) (facts : Known) → IsUnnamed names n → (f g : Forest) → AreAlike names f g → AreAlike names (with_facts n facts f) g
alike_learnt_dropped names n facts none no_node no_node h = tt
alike_learnt_dropped names n facts none no_node (node b under rest) h = absurd h
alike_learnt_dropped names n facts none (node a below others) no_node h = absurd h
alike_learnt_dropped names n facts none (node a below others) (node b under rest) h =
    let other : eqb a.number n ≡ false =
    not_true (eqb a.number n) (λ e. named_not_unnamed names n b.number (subst (λ x. IsNamed names x b.number) (eqb-true a.number n e) h.0.0) none) in (
      subst (λ (x : Own). IsNamed names x.number b.number × IsSame x b) (sym (learnt_other (eqb a.number n) facts a other)) h.0,
      (alike_learnt_dropped names n facts none below under h.1.0, alike_learnt_dropped names n facts none others rest h.1.1),
    )

learnt_number : (t : Bool) (facts : Known) (own : Own) → (learnt t facts own).number ≡ own.number
learnt_number true facts own = refl
learnt_number false facts own = refl

learnt_position : (t : Bool) (facts : Known) (own : Own) → (learnt t facts own).position ≡ own.position
learnt_position true facts own = refl
learnt_position false facts own = refl

unnamed_learnt : (names : Names) (n : ℕ) (facts : Known) (f : Forest) → AreUnnamed names f → AreUnnamed names (with_facts n facts f)
unnamed_learnt names n facts no_node h = tt
unnamed_learnt names n facts (node a below others) h = (
  subst (IsUnnamed names) (sym (learnt_number (eqb a.number n) facts a)) h.0,
  (unnamed_learnt names n facts below h.1.0, unnamed_learnt names n facts others h.1.1),
)

module _ (k : ℕ) (names : Names) (count : ℕ) (n : ℕ) (facts : Known) where
  stands_learnt : (v : Value) (a : Own) (below : Forest) (b : Own) (under : Forest) → StandsForSettled k names count v a below b under
      → StandsForSettled k names count v (learn n facts a) (with_facts n facts below) b under
  stands_learnt v a below b under s = record {
    position = learnt_position (eqb a.number n) facts a ∙ s.position;
    dropped = subst (IsUnnamed names) (sym (learnt_number (eqb a.number n) facts a)) s.dropped;
    dropped_below = unnamed_learnt names n facts below s.dropped_below;
    unexpanded = s.unexpanded;
    alone = s.alone;
    decided = s.decided;
    low = s.low;
    own = s.own;
  }

  -- in both forests, the node and the one that it names
  module _ (m : ℕ) (apart : AreApart names) (is : IsNamed names n m) where
    not_own : (b : Own) → ((o : ℕ) → ¬ IsNamed names o b.number) → eqb b.number m ≡ false
    not_own b own = not_true (eqb b.number m) (λ e. own n (subst (λ x. IsNamed names n x) (sym (eqb-true b.number m e)) is))

    root_learnt : (e : Option Value) (a : Own) (below : Forest) (b : Own) (under : Forest) → IsRootAlike k names count e a below b under
        → IsRootAlike k names count e (learn n facts a) (with_facts n facts below) (learn m facts b) (with_facts m facts under)
    root_learnt None a below b under h =
        (learnt_pair names facts (eqb a.number n) (eqb b.number m) (same_test names n m a.number b.number apart is h.0.0) a b h.0, alike_learnt names n m facts apart is below under h.1)
    root_learnt (Some v) a below b under h =
        let s = stands_learnt v a below b under h in
        subst (λ (x : Own). StandsForSettled k names count v (learn n facts a) (with_facts n facts below) x (with_facts m facts under)) (sym (learnt_other (eqb b.number m) facts b (not_own b h.own)))
        (subst (λ (x : Forest). StandsForSettled k names count v (learn n facts a) (with_facts n facts below) b x) (h.alone ∙ sym (ap (with_facts m facts) h.alone)) s)

    pub roots_learnt : (ends : ℕ → Option Value) (f g : Forest) → AreRootsAlike k names count ends f g → AreRootsAlike k names count ends (with_facts n facts f) (with_facts m facts g)
    roots_learnt ends no_node no_node h = tt
    roots_learnt ends no_node (node b under rest) h = absurd h
    roots_learnt ends (node a below others) no_node h = absurd h
    roots_learnt ends (node a below others) (node b under rest) h =
        (root_learnt (ends 0) a below b under h.0, roots_learnt (λ i. ends (suc i)) others rest h.1)

  -- in the old one alone
  module _ (none : IsUnnamed names n) where
    root_learnt_dropped : (e : Option Value) (a : Own) (below : Forest) (b : Own) (under : Forest) → IsRootAlike k names count e a below b under
        → IsRootAlike k names count e (learn n facts a) (with_facts n facts below) b under
    root_learnt_dropped None a below b under h =
        let other : eqb a.number n ≡ false =
        not_true (eqb a.number n) (λ e. named_not_unnamed names n b.number (subst (λ x. IsNamed names x b.number) (eqb-true a.number n e) h.0.0) none) in
        (subst (λ (x : Own). IsNamed names x.number b.number × IsSame x b) (sym (learnt_other (eqb a.number n) facts a other)) h.0, alike_learnt_dropped names n facts none below under h.1)
    root_learnt_dropped (Some v) a below b under h = stands_learnt v a below b under h

    pub roots_learnt_dropped : (ends : ℕ → Option Value) (f g : Forest) → AreRootsAlike k names count ends f g → AreRootsAlike k names count ends (with_facts n facts f) g
    roots_learnt_dropped ends no_node no_node h = tt
    roots_learnt_dropped ends no_node (node b under rest) h = absurd h
    roots_learnt_dropped ends (node a below others) no_node h = absurd h
    roots_learnt_dropped ends (node a below others) (node b under rest) h =
        (root_learnt_dropped (ends 0) a below b under h.0, roots_learnt_dropped (λ i. ends (suc i)) others rest h.1)
