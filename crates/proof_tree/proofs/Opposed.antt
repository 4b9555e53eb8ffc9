-- What is proved for the one side is refuted for the other, so a settled root is resolved for both goals, and its numbers are
-- fixed by its value.
use Rattle.std.proofs.Common.{◌≡◌, ℕ, ◌<◌, min, length, Bool, true, false, ◌||◌, ◌&&◌, cond, eqb, List, [], ◌∷◌, map, Some, None, IsSome, refl, sym, ap, ◌∙◌, arith}
use Rattle.std.specs.Prelude.{◌↔◌, All}
use Rattle.std.proofs.lemmas.Bool.{false≢true, eqb-true}
use Rattle.std.proofs.lemmas.Bool.Decides.{nat_tests}
use Rattle.std.proofs.lemmas.List.Elements.{All-nil, All-cons}
use Rattle.draughts_board.specs.Board.{Board, other, same_side}
use Rattle.draughts_board.specs.Play.{successors_of}
use Rattle.draughts_board.specs.declared.pieces.Side.{Side}
use Rattle.draughts_board.specs.declared.pieces.Side.TheVariants.{Black, White}
use Rattle.draughts_board.specs.declared.pieces.Value.{Value}
use Rattle.draughts_board.specs.declared.pieces.Value.TheVariants.{BlackWins, WhiteWins, Draw}
use Rattle.proof_numbers.specs.declared.numbers.Number.{Number}
use Rattle.proof_numbers.specs.declared.numbers.Number.TheVariants.{Finite, Infinite}
use Rattle.proof_numbers.specs.declared.numbers.Numbers.{Numbers}
use Rattle.proof_numbers.specs.Known.{Known, IsConsistent, knows_win, knows_hold}
use Rattle.proof_numbers.specs.Numbers.{least, total, least_of, total_of, is_zero, is_resolved, proved, refuted, unknown, counted_moves, mobility}
use Rattle.proof_tree.specs.declared.rows.Mark.{Mark}
use Rattle.proof_tree.specs.declared.rows.Mark.TheVariants.{Unexpanded, Expanded, Repeats}
use Rattle.proof_tree.specs.Forest.{Own, Forest, no_node, node, nodes, folded, numbers_by_mark, numbers_at, numbers, value_by}
use Rattle.proof_tree.specs.Sound.{EachNode, IsSoundNode, IsSoundForest}
use Rattle.proof_tree.specs.Laws.{IsSettledWhereResolved}
use Rattle.proof_tree.proofs.OpenLeaves.{least_zero, total_zero}

-- ---- where the one number is 0 the other is infinite

abbrev Apart : Number → Number → Type 0
Apart a b = (is_zero a ≡ true → b ≡ Infinite) × (is_zero b ≡ true → a ≡ Infinite)

zero_is : (a : Number) → is_zero a ≡ true → a ≡ Finite 0
zero_is (Finite n) e = ap Finite (eqb-true n 0 e)
zero_is Infinite e = absurd (false≢true e)

total_infinite : (a : Number) → total a Infinite ≡ Infinite
total_infinite (Finite n) = refl
total_infinite Infinite = refl

or_cases : (P : Type 0) (a b : Bool) → (a ≡ true → P) → (b ≡ true → P) → (a || b) ≡ true → P
or_cases P true b f g e = f refl
or_cases P false b f g e = g e

both : (a b : Bool) → (a && b) ≡ true → (a ≡ true) × (b ≡ true)
both true b e = (refl, e)
both false b e = absurd (false≢true e)

apart_sums : (a b c d : Number) → Apart a b → Apart c d → Apart (least a c) (total b d)
apart_sums a b c d p q = (
  λ e. or_cases (total b d ≡ Infinite) (is_zero a) (is_zero c) (λ z. ap (λ x. total x d) (p.0 z)) (λ z. ap (total b) (q.0 z) ∙ total_infinite b) (sym (least_zero a c) ∙ e),
  λ e. let z = both (is_zero b) (is_zero d) (sym (total_zero b d) ∙ e) in ap (λ x. least x c) (p.1 z.0) ∙ q.1 z.1,
)

abbrev AllApart : List Numbers → Type 0
AllApart [] = Unit {0}
AllApart (x ∷ xs) = Apart x.proof x.disproof × AllApart xs

turned : (a b : Number) → Apart a b → Apart b a
turned a b p = (p.1, p.0)

apart_none : Apart Infinite (Finite 0)
apart_none = (λ e. absurd (false≢true e), λ e. refl)

by_proof : (xs : List Numbers) → AllApart xs → Apart (least_of (map (λ (x : Numbers). x.proof) xs)) (total_of (map (λ (x : Numbers). x.disproof) xs))
by_proof [] all = apart_none
by_proof (x ∷ xs) all =
    apart_sums x.proof x.disproof (least_of (map (λ (x : Numbers). x.proof) xs)) (total_of (map (λ (x : Numbers). x.disproof) xs)) all.0 (by_proof xs all.1)

by_disproof : (xs : List Numbers) → AllApart xs → Apart (least_of (map (λ (x : Numbers). x.disproof) xs)) (total_of (map (λ (x : Numbers). x.proof) xs))
by_disproof [] all = apart_none
by_disproof (x ∷ xs) all =
    apart_sums x.disproof x.proof (least_of (map (λ (x : Numbers). x.disproof) xs)) (total_of (map (λ (x : Numbers). x.proof) xs)) (turned x.proof x.disproof all.0) (by_disproof xs all.1)

abbrev IsApart : Numbers → Type 0
IsApart x = Apart x.proof x.disproof

apart_folded : (moves : Bool) (xs : List Numbers) → AllApart xs → IsApart (folded moves xs)
apart_folded true xs all = by_proof xs all
apart_folded false xs all = turned (least_of (map (λ (x : Numbers). x.disproof) xs)) (total_of (map (λ (x : Numbers). x.proof) xs)) (by_disproof xs all)

apart_proved : IsApart proved
apart_proved = (λ e. refl, λ e. absurd (false≢true e))

apart_refuted : IsApart refuted
apart_refuted = (λ e. absurd (false≢true e), λ e. refl)

some_moves : (n : ℕ) → is_zero (Finite (counted_moves n)) ≡ true → ⊥
some_moves n t = by (eqb n 0) refl (eqb-true (counted_moves n) 0 t)
  where
    by : (b : Bool) → eqb n 0 ≡ b → cond b 1 (min n 64) ≡ 0 → ⊥
    by true e is = omega arith
    by false e is = let more : 0 < n = grind (arith, nat_tests, e) in omega arith

-- an unexpanded node has no 0
abbrev HasNoZero : Numbers → Type 0
HasNoZero x = (is_zero x.proof ≡ true → ⊥) × (is_zero x.disproof ≡ true → ⊥)

unknown_by : (b : Bool) (n : ℕ)
    → HasNoZero (cond b (record { proof = Finite 1; disproof = Finite (counted_moves n) }) (record { proof = Finite (counted_moves n); disproof = Finite 1 }))
unknown_by true n = (λ e. false≢true e, λ e. some_moves n e)
unknown_by false n = (λ e. some_moves n e, λ e. false≢true e)

no_zero : (goal : Side) (p : Board) → HasNoZero (unknown goal p.to_move (mobility p))
no_zero goal p = unknown_by (same_side goal p.to_move) (length (successors_of p))

apart_by_mark : (goal : Side) (m : Mark) (p : Board) (xs : List Numbers) → AllApart xs → IsApart (numbers_by_mark goal m p xs)
apart_by_mark goal Repeats p xs all = apart_refuted
apart_by_mark goal Unexpanded p xs all = (λ e. absurd ((no_zero goal p).0 e), λ e. absurd ((no_zero goal p).1 e))
apart_by_mark goal Expanded p xs all = apart_folded (same_side goal p.to_move) xs all

apart_by_facts : (w h : Bool) (x : Numbers) → IsApart x → IsApart (cond w proved (cond h refuted x))
apart_by_facts true h x p = apart_proved
apart_by_facts false true x p = apart_refuted
apart_by_facts false false x p = p

apart_at : (goal : Side) (own : Own) (xs : List Numbers) → AllApart xs → IsApart (numbers_at goal own xs)
apart_at goal own xs all =
    apart_by_facts (knows_win goal own.facts) (knows_hold (other goal) own.facts) (numbers_by_mark goal own.mark own.position xs) (apart_by_mark goal own.mark own.position xs all)

apart_numbers : (goal : Side) (f : Forest) → AllApart (numbers goal f)
apart_numbers goal no_node = tt
apart_numbers goal (node own below others) = (apart_at goal own (numbers goal below) (apart_numbers goal below), apart_numbers goal others)

-- a number that is 0 says what the other is
numbers_are : (x : Numbers) (a b : Number) → x.proof ≡ a → x.disproof ≡ b → x ≡ record { proof = a; disproof = b }
numbers_are x a b e f = λ i. record { proof = e i; disproof = f i }

is_proved : (x : Numbers) → IsApart x → is_zero x.proof ≡ true → x ≡ proved
is_proved x p e = numbers_are x (Finite 0) Infinite (zero_is x.proof e) (p.0 e)

is_refuted : (x : Numbers) → IsApart x → is_zero x.disproof ≡ true → x ≡ refuted
is_refuted x p e = numbers_are x Infinite (Finite 0) (p.1 e) (zero_is x.disproof e)

-- ---- what is proved for the one side is refuted for the other

abbrev AreOpposed : List Numbers → List Numbers → Type 0
AreOpposed [] [] = Unit {0}
AreOpposed [] (y ∷ ys) = ⊥
AreOpposed (x ∷ xs) [] = ⊥
AreOpposed (x ∷ xs) (y ∷ ys) = (is_zero x.proof ≡ true → is_zero y.disproof ≡ true) × AreOpposed xs ys

or_also : (a b c d : Bool) → (a ≡ true → c ≡ true) → (b ≡ true → d ≡ true) → (a || b) ≡ true → (c || d) ≡ true
or_also true b c d f g e = ap (λ x. x || d) (f refl)
or_also false b true d f g e = refl
or_also false b false d f g e = g e

and_also : (a b c d : Bool) → (a ≡ true → c ≡ true) → (b ≡ true → d ≡ true) → (a && b) ≡ true → (c && d) ≡ true
and_also true b c d f g e = λ i. f refl i && g e i
and_also false b c d f g e = absurd (false≢true e)

opposed_least : (xs ys : List Numbers) → AreOpposed xs ys → is_zero (least_of (map (λ (x : Numbers). x.proof) xs)) ≡ true
    → is_zero (least_of (map (λ (x : Numbers). x.disproof) ys)) ≡ true
opposed_least [] [] all e = e
opposed_least [] (y ∷ ys) all e = absurd all
opposed_least (x ∷ xs) [] all e = absurd all
opposed_least (x ∷ xs) (y ∷ ys) all e =
    least_zero y.disproof (least_of (map (λ (x : Numbers). x.disproof) ys))
    ∙ or_also (is_zero x.proof) (is_zero (least_of (map (λ (x : Numbers). x.proof) xs))) (is_zero y.disproof) (is_zero (least_of (map (λ (x : Numbers). x.disproof) ys)))
    all.0 (opposed_least xs ys all.1) (sym (least_zero x.proof (least_of (map (λ (x : Numbers). x.proof) xs))) ∙ e)

opposed_total : (xs ys : List Numbers) → AreOpposed xs ys → is_zero (total_of (map (λ (x : Numbers). x.proof) xs)) ≡ true
    → is_zero (total_of (map (λ (x : Numbers). x.disproof) ys)) ≡ true
opposed_total [] [] all e = e
opposed_total [] (y ∷ ys) all e = absurd all
opposed_total (x ∷ xs) [] all e = absurd all
opposed_total (x ∷ xs) (y ∷ ys) all e =
    total_zero y.disproof (total_of (map (λ (x : Numbers). x.disproof) ys))
    ∙ and_also (is_zero x.proof) (is_zero (total_of (map (λ (x : Numbers). x.proof) xs))) (is_zero y.disproof) (is_zero (total_of (map (λ (x : Numbers). x.disproof) ys)))
    all.0 (opposed_total xs ys all.1) (sym (total_zero x.proof (total_of (map (λ (x : Numbers). x.proof) xs))) ∙ e)

opposed_folded : (goal mover : Side) (xs ys : List Numbers) → AreOpposed xs ys → is_zero (folded (same_side goal mover) xs).proof ≡ true
    → is_zero (folded (same_side (other goal) mover) ys).disproof ≡ true
opposed_folded Black Black xs ys all e = opposed_least xs ys all e
opposed_folded Black White xs ys all e = opposed_total xs ys all e
opposed_folded White Black xs ys all e = opposed_total xs ys all e
opposed_folded White White xs ys all e = opposed_least xs ys all e

opposed_by_mark : (goal : Side) (m : Mark) (p : Board) (xs ys : List Numbers) → AreOpposed xs ys → is_zero (numbers_by_mark goal m p xs).proof ≡ true
    → is_zero (numbers_by_mark (other goal) m p ys).disproof ≡ true
opposed_by_mark goal Repeats p xs ys all e = refl
opposed_by_mark goal Unexpanded p xs ys all e = absurd ((no_zero goal p).0 e)
opposed_by_mark goal Expanded p xs ys all e = opposed_folded goal p.to_move xs ys all e

-- w, h: the goal's win and the other side's hold are known; v, l: the other side's win and the goal's hold
opposed_by_facts : (w h v l : Bool) (x y : Numbers) → (w ≡ true → (l ≡ true) × (h ≡ false)) → (v ≡ true → (h ≡ true) × (l ≡ false))
    → (is_zero x.proof ≡ true → is_zero y.disproof ≡ true) → is_zero (cond w proved (cond h refuted x)).proof ≡ true
    → is_zero (cond v proved (cond l refuted y)).disproof ≡ true
opposed_by_facts true h true l x y p q r e = absurd (false≢true (sym (q refl).1 ∙ (p refl).0))
opposed_by_facts true h false true x y p q r e = refl
opposed_by_facts true h false false x y p q r e = absurd (false≢true (p refl).0)
opposed_by_facts false true v l x y p q r e = absurd (false≢true e)
opposed_by_facts false false true l x y p q r e = absurd (false≢true (q refl).0)
opposed_by_facts false false false true x y p q r e = refl
opposed_by_facts false false false false x y p q r e = r e

pub consistent_wins : (s : Side) (facts : Known) → IsConsistent facts → knows_win s facts ≡ true → (knows_hold s facts ≡ true) × (knows_hold (other s) facts ≡ false)
consistent_wins Black facts c e = c.black e
consistent_wins White facts c e = c.white e

twice_other : (s : Side) → other (other s) ≡ s
twice_other Black = refl
twice_other White = refl

opposed_at : (goal : Side) (own : Own) (xs ys : List Numbers) → IsConsistent own.facts → AreOpposed xs ys → is_zero (numbers_at goal own xs).proof ≡ true
    → is_zero (numbers_at (other goal) own ys).disproof ≡ true
opposed_at goal own xs ys c all e =
    opposed_by_facts (knows_win goal own.facts) (knows_hold (other goal) own.facts) (knows_win (other goal) own.facts) (knows_hold (other (other goal)) own.facts)
    (numbers_by_mark goal own.mark own.position xs) (numbers_by_mark (other goal) own.mark own.position ys)
    (λ w. let a = consistent_wins goal own.facts c w in (ap (λ s. knows_hold s own.facts) (twice_other goal) ∙ a.0, a.1))
    (λ v. let a = consistent_wins (other goal) own.facts c v in (a.0, a.1))
    (opposed_by_mark goal own.mark own.position xs ys all) e

-- each node is consistent
abbrev pub AreConsistent : Forest → Type 0
AreConsistent no_node = Unit {0}
AreConsistent (node own below others) = IsConsistent own.facts × (AreConsistent below × AreConsistent others)

opposed_numbers : (goal : Side) (f : Forest) → AreConsistent f → AreOpposed (numbers goal f) (numbers (other goal) f)
opposed_numbers goal no_node c = tt
opposed_numbers goal (node own below others) c =
    (opposed_at goal own (numbers goal below) (numbers (other goal) below) c.0 (opposed_numbers goal below c.1.0), opposed_numbers goal others c.1.1)

-- ---- a settled root

-- the numbers of a root of this value
abbrev pub fixed : Value → Side → Numbers
fixed BlackWins Black = proved
fixed BlackWins White = refuted
fixed WhiteWins Black = refuted
fixed WhiteWins White = proved
fixed Draw goal = refuted

-- by whether the proof number for Black, that for White and their disproof numbers are 0
resolved_by : (a b d e : Bool) → (a ≡ true → e ≡ true) → (b ≡ true → d ≡ true)
    → IsSome (cond a (Some BlackWins) (cond b (Some WhiteWins) (cond (d && e) (Some Draw) None))) ↔ (((a || d) && (b || e)) ≡ true)
resolved_by true true d e p q = (λ s. refl, λ r. refl)
resolved_by true false d e p q = (λ s. p refl, λ r. refl)
resolved_by false true d e p q = (λ s. ap (λ x. x && true) (q refl), λ r. refl)
resolved_by false false true true p q = (λ s. refl, λ r. refl)
resolved_by false false true false p q = (λ s. absurd (false≢true s), λ r. absurd (false≢true r))
resolved_by false false false e p q = (λ s. absurd (false≢true s), λ r. absurd (false≢true r))

module _ (own : Own) (below : Forest) (c : IsConsistent own.facts) (cs : AreConsistent below) where
  abbrev at : Side → Numbers
  at goal = numbers_at goal own (numbers goal below)

  at_apart : (goal : Side) → IsApart (at goal)
  at_apart goal = apart_at goal own (numbers goal below) (apart_numbers goal below)

  at_opposed : (goal : Side) → is_zero (at goal).proof ≡ true → is_zero (at (other goal)).disproof ≡ true
  at_opposed goal e = opposed_at goal own (numbers goal below) (numbers (other goal) below) c (opposed_numbers goal below cs) e

  by_zeros : (v : Value) (a b d e : Bool) → is_zero (at Black).proof ≡ a → is_zero (at White).proof ≡ b → is_zero (at Black).disproof ≡ d → is_zero (at White).disproof ≡ e
      → cond a (Some BlackWins) (cond b (Some WhiteWins) (cond (d && e) (Some Draw) None)) ≡ Some v → (goal : Side) → at goal ≡ fixed v goal
  by_zeros BlackWins true b d e p q r s is Black = is_proved (at Black) (at_apart Black) p
  by_zeros BlackWins true b d e p q r s is White = is_refuted (at White) (at_apart White) (at_opposed Black p)
  by_zeros WhiteWins true b d e p q r s is goal = absurd cc
  by_zeros Draw true b d e p q r s is goal = absurd cc
  by_zeros WhiteWins false true d e p q r s is Black = is_refuted (at Black) (at_apart Black) (at_opposed White q)
  by_zeros WhiteWins false true d e p q r s is White = is_proved (at White) (at_apart White) q
  by_zeros BlackWins false true d e p q r s is goal = absurd cc
  by_zeros Draw false true d e p q r s is goal = absurd cc
  by_zeros Draw false false true true p q r s is Black = is_refuted (at Black) (at_apart Black) r
  by_zeros Draw false false true true p q r s is White = is_refuted (at White) (at_apart White) s
  by_zeros BlackWins false false true true p q r s is goal = absurd cc
  by_zeros WhiteWins false false true true p q r s is goal = absurd cc
  by_zeros v false false true false p q r s is goal = absurd cc
  by_zeros v false false false e p q r s is goal = absurd cc

  pub settled_numbers : (v : Value) → value_by (at Black) (at White) ≡ Some v → (goal : Side) → at goal ≡ fixed v goal
  settled_numbers v is goal =
      by_zeros v (is_zero (at Black).proof) (is_zero (at White).proof) (is_zero (at Black).disproof) (is_zero (at White).disproof) refl refl refl refl is goal

  pub settled_resolved : IsSome (value_by (at Black) (at White)) ↔ ((is_resolved (at Black) && is_resolved (at White)) ≡ true)
  settled_resolved =
      resolved_by (is_zero (at Black).proof) (is_zero (at White).proof) (is_zero (at Black).disproof) (is_zero (at White).disproof) (at_opposed Black) (at_opposed White)

-- ---- every root

pub are_consistent : (path : List Board) (f : Forest) → EachNode IsSoundNode path f → AreConsistent f
are_consistent path no_node h = tt
are_consistent path (node own below others) h = ((let s = h.0 in s.consistent), (are_consistent (own.position ∷ path) below h.1.0, are_consistent path others h.1.1))

each_resolved : (f : Forest) → AreConsistent f → All IsSettledWhereResolved (nodes f)
each_resolved no_node c = All-nil IsSettledWhereResolved
each_resolved (node own below others) c =
    All-cons IsSettledWhereResolved (record { own = own; children = below }) (nodes others) (settled_resolved own below c.0 c.1.0) (each_resolved others c.1.1)

pub settled_roots_are_resolved : (f : Forest) → IsSoundForest f → All IsSettledWhereResolved (nodes f)
settled_roots_are_resolved f sound = each_resolved f (are_consistent [] f sound.each)
