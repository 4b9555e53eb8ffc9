-- A root by its number, and the root with a position.
use Rattle.std.proofs.Common.{◌≡◌, ◌∙◌, ◌+◌, ◌-◌, ◌≤◌, ◌<◌, ℕ, zero, suc, Bool, true, false, cond, List, [], ◌∷◌, map, length, Option, Some, None, refl, sym, ap, subst, slice_get, arith}
use Rattle.std.specs.Prelude.{Contains, IfSome, IsSome, IsTrue, ◌↔◌, ◌||◌, is_some, nat_lt}
use Rattle.std.specs.List.{AllByRecursion as Each, IsDistinct}
use Rattle.std.specs.Option.{option_map}
use Rattle.std.proofs.lemmas.Bool.{false≢true, le-ltb, lt-ltb}
use Rattle.std.proofs.lemmas.List.{length-map}
use Rattle.std.proofs.lemmas.Map.Keys.{IsDistinct-head, IsDistinct-tail}
use Rattle.std.proofs.lemmas.Option.{none-some, same_Some, slice_get-map, slice_get_within}
use Rattle.draughts_board.specs.Board.{Board, same_board}
use Rattle.draughts_board.specs.Same.{same_board-Decides}
use Rattle.draughts_board.specs.Draughts.{draughts}
use Rattle.draughts_board.specs.Game.{is_at_sight}
use Rattle.draughts_board.proofs.Members.{Contains-head, Contains-tail}
use Rattle.strategy_certificate.specs.declared.claims.Claim.{Claim}
use Rattle.strategy_certificate.specs.declared.certificates.Certificate.{Certificate}
use Rattle.draughts_board.specs.declared.pieces.Value.{Value}
use Rattle.certificate_checker.specs.Told.{facts_claimed}
use Rattle.proof_numbers.specs.Known.{Known, includes}
use Rattle.proof_tree.specs.Forest.{Forest, Node, nodes, node_at, size, value_of}
use Rattle.proof_tree.specs.declared.rows.Mark.{Mark}
use Rattle.proof_tree.specs.declared.tree.TheConstants.{MOST_ROOTS}
use Rattle.proof_tree.specs.Sound.{IsSoundForest, root_positions}
use Rattle.certificate_joiner.specs.Strategy.{named, IsNamed}
use Rattle.certificate_joiner.proofs.Named.{root_is, said_of}
use Rattle.journal_lessons.specs.declared.lessons.Lesson.{Lesson}
use Rattle.journal_lessons.specs.declared.lessons.Lesson.TheVariants as lesson
use Rattle.journal_lessons.specs.Lessons.{covers, is_expanded, lesson_at, lesson_of, root_from, root_with, taught_by}

-- ---- a root by its number

module _ (roots : Forest) (sound : IsSoundForest roots) (root n : ℕ) (first : 1 ≤ root) (there : root ≤ length (nodes roots)) (number : IfSome (slice_get (nodes roots) (root - 1)) (λ x. n ≡ x.own.number)) where
  within : root - 1 < length (nodes roots)
  within = omega (arith, first, there)

  stands : IsNamed roots n × ((slice_get (nodes roots) (root - 1) ≡ Some (named roots n)) × Contains (nodes roots) (named roots n))
  stands = root_is roots sound (root - 1) n within number

  pub root_there : IsSome (node_at n roots)
  root_there = stands.0

  -- what is said of the node is said of the root
  pub node_said : (P : Node → Type 0) → IfSome (node_at n roots) P → P (named roots n)
  node_said P at = said_of roots n P stands.0 at

  pub root_said : (P : Node → Type 0) → IfSome (slice_get (nodes roots) (root - 1)) P → P (named roots n)
  root_said P has = subst (λ (o : Option Node). IfSome o P) stands.1.0 has

  pub of_root : (P : Node → Type 0) → P (named roots n) → IfSome (slice_get (nodes roots) (root - 1)) P
  of_root P p = subst (λ (o : Option Node). IfSome o P) (sym stands.1.0) p

  -- whether it covers a claim
  pub covers_from : (claim : Claim) (v : Option Value) (facts told : Known) (settled tells result : Bool) → IfSome (slice_get (nodes roots) (root - 1)) (λ x. v ≡ value_of x) → IfSome (node_at n roots) (λ x. facts ≡ x.own.facts)
      → settled ≡ is_some v → told ≡ facts_claimed claim → tells ≡ includes facts told → result ≡ (settled || tells) → IfSome (slice_get (nodes roots) (root - 1)) (λ x. result ≡ covers x claim)
  covers_from claim v facts told settled tells result value known settled_is told_is tells_is result_is =
      let value_is : v ≡ value_of (named roots n) = root_said (λ x. v ≡ value_of x) value in
      let facts_are : facts ≡ (named roots n).own.facts = node_said (λ x. facts ≡ x.own.facts) known in
      let first_is : settled ≡ is_some (value_of (named roots n)) = settled_is ∙ ap (λ (o : Option Value). is_some o) value_is in
      let second_is : tells ≡ includes (named roots n).own.facts (facts_claimed claim) =
      tells_is ∙ (ap (λ (f : Known). includes f told) facts_are ∙ ap (λ (t : Known). includes (named roots n).own.facts t) told_is) in
      of_root (λ x. result ≡ covers x claim) (result_is ∙ (ap (λ (b : Bool). b || tells) first_is ∙ ap (λ (b : Bool). is_some (value_of (named roots n)) || b) second_is))

  abbrev pub open_lesson : Mark → ℕ → Lesson
  open_lesson m k = cond (is_expanded m) (lesson.RootExpanded root) (lesson.Solves root k)

  -- what is taught by it, where it covers the claim ..
  pub on_known : (claim : Claim) (b : Bool) → IfSome (slice_get (nodes roots) (root - 1)) (λ x. b ≡ covers x claim) → b ≡ true
      → IfSome (slice_get (nodes roots) (root - 1)) (λ x. lesson.Known root ≡ taught_by root x claim)
  on_known claim b has sure =
      let covered : covers (named roots n) claim ≡ true = sym (root_said (λ x. b ≡ covers x claim) has) ∙ sure in
      of_root (λ x. lesson.Known root ≡ taught_by root x claim)
      (sym (ap (λ (d : Bool). cond d (lesson.Known root) (open_lesson (named roots n).own.mark (named roots n).own.number)) covered))

  -- .. and where it does not
  pub on_mark : (claim : Claim) (b : Bool) (m : Mark) → IfSome (slice_get (nodes roots) (root - 1)) (λ x. b ≡ covers x claim) → b ≡ false → IfSome (node_at n roots) (λ x. m ≡ x.own.mark)
      → (l : Lesson) → l ≡ open_lesson m n → IfSome (slice_get (nodes roots) (root - 1)) (λ x. l ≡ taught_by root x claim)
  on_mark claim b m has unsure marked l is =
      let lacking : covers (named roots n) claim ≡ false = sym (root_said (λ x. b ≡ covers x claim) has) ∙ unsure in
      let mark_is : m ≡ (named roots n).own.mark = node_said (λ x. m ≡ x.own.mark) marked in
      let number_is : n ≡ (named roots n).own.number = root_said (λ x. n ≡ x.own.number) number in
      of_root (λ x. l ≡ taught_by root x claim)
      (is ∙ (ap (λ (x : Mark). open_lesson x n) mark_is ∙ (ap (λ (k : ℕ). open_lesson (named roots n).own.mark k) number_is
      ∙ sym (ap (λ (d : Bool). cond d (lesson.Known root) (open_lesson (named roots n).own.mark (named roots n).own.number)) lacking))))

-- ---- the root with a position

each_at : {A : Type 0} (P : A → Type 0) (xs : List A) (i : ℕ) (x : A) → Each P xs → slice_get xs i ≡ Some x → P x
each_at P [] i x each at = absurd (none-some x at)
each_at P (y ∷ ys) zero x each at = subst P (same_Some y x at) each.0
each_at P (y ∷ ys) (suc i) x each at = each_at P ys i x each.1 at

abbrev positions : List Node → List Board
positions = map (λ x. x.own.position)

module _ (p : Board) where
  place_next : (n i : ℕ) (x : Node) → ◌≡◌ {A = Option (ℕ × Node)} (Some (suc n + i, x)) (Some (n + suc i, x))
  place_next n i x = let same : suc n + i ≡ n + suc i = omega arith in ap (λ (m : ℕ). Some (m, x)) same

  first_at : (n : ℕ) (xs : List Node) (i : ℕ) (x : Node) → IsDistinct same_board (positions xs) → slice_get xs i ≡ Some x → x.own.position ≡ p → root_from n p xs ≡ Some (n + i, x)
  first_at n [] i x apart at is = absurd (none-some x at)
  first_at n (y ∷ ys) zero x apart at is =
      let same : y ≡ x = same_Some y x at in
      let sure : same_board y.own.position p ≡ true = (same_board-Decides y.own.position p).1 (ap (λ (z : Node). z.own.position) same ∙ is) in
      let place : n ≡ n + 0 = omega arith in
      ap (λ (b : Bool). cond b (Some (n, y)) (root_from (suc n) p ys)) sure ∙ (ap (λ (z : Node). Some (n, z)) same ∙ ap (λ (m : ℕ). Some (m, x)) place)
  first_at n (y ∷ ys) (suc i) x apart at is =
      let other : same_board y.own.position x.own.position ≡ false =
      each_at (λ q. same_board y.own.position q ≡ false) (positions ys) i x.own.position (IsDistinct-head same_board y.own.position (positions ys) apart) (slice_get-map (λ (z : Node). z.own.position) ys i ∙ ap (option_map (λ (z : Node). z.own.position)) at) in
      let unsure : same_board y.own.position p ≡ false = subst (λ (q : Board). same_board y.own.position q ≡ false) is other in
      ap (λ (b : Bool). cond b (Some (n, y)) (root_from (suc n) p ys)) unsure ∙ (first_at (suc n) ys i x (IsDistinct-tail same_board y.own.position (positions ys) apart) at is ∙ place_next n i x)

-- the number that stands for a root with the position
pub found_within : (roots : Forest) (p : Board) (root : ℕ) → 1 ≤ root → slice_get (root_positions roots) (root - 1) ≡ Some p → root ≤ length (nodes roots)
found_within roots p root first at =
    let within = slice_get_within (root_positions roots) (root - 1) p at in
    let long = length-map (nodes roots) (λ (x : Node). x.own.position) in
    omega (arith, first, within, long)

pub found_root : (roots : Forest) → IsSoundForest roots → (p : Board) (root : ℕ) → 1 ≤ root → slice_get (root_positions roots) (root - 1) ≡ Some p
    → (x : Node) → slice_get (nodes roots) (root - 1) ≡ Some x → root_with p roots ≡ Some (root, x)
found_root roots sound p root first at x here =
    let is : x.own.position ≡ p =
    same_Some x.own.position p (sym (slice_get-map (λ (z : Node). z.own.position) (nodes roots) (root - 1) ∙ ap (option_map (λ (z : Node). z.own.position)) here) ∙ at) in
    let number : 1 + (root - 1) ≡ root = omega (arith, first) in
    first_at p 1 (nodes roots) (root - 1) x sound.apart here is ∙ ap (λ (m : ℕ). Some (m, x)) number

-- .. and where none has it
pub none_found : (roots : Forest) (p : Board) → ¬ Contains (root_positions roots) p → root_with p roots ≡ None
none_found roots p absent = none_in 1 (nodes roots) absent
  where
    none_in : (n : ℕ) (xs : List Node) → ¬ Contains (positions xs) p → root_from n p xs ≡ None
    none_in n [] none = refl
    none_in n (y ∷ ys) none =
        let unsure : same_board y.own.position p ≡ false = by (same_board y.own.position p) refl in
        ap (λ (b : Bool). cond b (Some (n, y)) (root_from (suc n) p ys)) unsure ∙ none_in (suc n) ys (λ there. none (Contains-tail y.own.position p (positions ys) there))
      where
        by : (b : Bool) → same_board y.own.position p ≡ b → b ≡ false
        by true same = absurd (none (subst (λ (q : Board). Contains (q ∷ positions ys) p) (sym ((same_board-Decides y.own.position p).0 same)) (Contains-head p (positions ys))))
        by false same = refl

-- ---- the lesson

-- what is taught by the root is the lesson
pub lesson_there : (roots : Forest) → IsSoundForest roots → (c : Certificate) (root : ℕ) (l : Lesson) → 1 ≤ root → slice_get (root_positions roots) (root - 1) ≡ Some c.position
    → IfSome (slice_get (nodes roots) (root - 1)) (λ x. l ≡ taught_by root x c.claim) → l ≡ lesson_of c.pieces roots c
lesson_there roots sound c root l first at taught = by (slice_get (nodes roots) (root - 1)) refl taught
  where
    by : (o : Option Node) → slice_get (nodes roots) (root - 1) ≡ o → IfSome o (λ x. l ≡ taught_by root x c.claim) → l ≡ lesson_of c.pieces roots c
    by None none said =
        absurd (none-some c.position (sym (slice_get-map (λ (z : Node). z.own.position) (nodes roots) (root - 1) ∙ ap (option_map (λ (z : Node). z.own.position)) none) ∙ at))
    by (Some x) here said = said ∙ sym (ap (lesson_at c.pieces roots c) (found_root roots sound c.position root first at x here))

-- of a position that is no root
module _ (roots : Forest) (c : Certificate) (absent : ¬ Contains (root_positions roots) c.position) where
  lesson_none : (l : Lesson) → l ≡ lesson_at c.pieces roots c None → l ≡ lesson_of c.pieces roots c
  lesson_none l is = is ∙ sym (ap (lesson_at c.pieces roots c) (none_found roots c.position absent))

  abbrev sight : Bool
  sight = is_at_sight draughts c.pieces c.position

  pub full_lesson : MOST_ROOTS ≤ length (nodes roots) → lesson.TooManyRoots ≡ lesson_of c.pieces roots c
  full_lesson full =
      lesson_none lesson.TooManyRoots
      (sym (ap (λ (b : Bool). cond b (cond sight (lesson.Begins (suc (length (nodes roots)))) (lesson.BeginsAndSolves (suc (length (nodes roots))) (size roots))) lesson.TooManyRoots) (le-ltb (length (nodes roots)) MOST_ROOTS full)))

  module _ (few : length (nodes roots) < MOST_ROOTS) (root : ℕ) (next : root ≡ length (nodes roots) + 1) (undecided : Bool) (says : IsTrue undecided ↔ (sight ≡ false)) where
    next_is : suc (length (nodes roots)) ≡ root
    next_is = omega (arith, next)

    room : nat_lt (length (nodes roots)) MOST_ROOTS ≡ true
    room = lt-ltb (length (nodes roots)) MOST_ROOTS few

    by_room : (l : Lesson) → l ≡ cond sight (lesson.Begins root) (lesson.BeginsAndSolves root (size roots)) → l ≡ lesson_of c.pieces roots c
    by_room l is =
        lesson_none l
        (is
        ∙ (ap (λ (m : ℕ). cond sight (lesson.Begins m) (lesson.BeginsAndSolves m (size roots))) (sym next_is)
        ∙ sym (ap (λ (b : Bool). cond b (cond sight (lesson.Begins (suc (length (nodes roots)))) (lesson.BeginsAndSolves (suc (length (nodes roots))) (size roots))) lesson.TooManyRoots) room)))

    pub sight_lesson : undecided ≡ false → lesson.Begins root ≡ lesson_of c.pieces roots c
    sight_lesson unsure = by_room (lesson.Begins root) (sym (ap (λ (b : Bool). cond b (lesson.Begins root) (lesson.BeginsAndSolves root (size roots))) (seen sight refl)))
      where
        seen : (b : Bool) → sight ≡ b → sight ≡ true
        seen true is = is
        seen false is = absurd (false≢true (sym unsure ∙ says.1 is))

    pub both_lesson : undecided ≡ true → lesson.BeginsAndSolves root (size roots) ≡ lesson_of c.pieces roots c
    both_lesson sure = by_room (lesson.BeginsAndSolves root (size roots)) (sym (ap (λ (b : Bool). cond b (lesson.Begins root) (lesson.BeginsAndSolves root (size roots))) (says.0 sure)))
