-- Where nothing is taken, an unresolved node leads to an open leaf.
use Rattle.std.proofs.Common.{◌≡◌, ℕ, zero, suc, ◌+◌, ◌<◌, min, Bool, true, false, cond, eqb, ◌||◌, ◌&&◌, List, [], ◌∷◌, map, Option, Some, None, IsSome, refl, sym, ap, ◌∙◌, subst, arith, ◌⊎◌, inl, inr, ⊎_elim}
use Rattle.std.specs.Prelude.{All}
use Rattle.std.proofs.lemmas.Bool.{false≢true}
use Rattle.std.proofs.lemmas.Bool.Decides.{nat_tests}
use Rattle.std.proofs.lemmas.List.Elements.{All-nil, All-cons}
use Rattle.draughts_board.specs.Board.{Board, other, same_side}
use Rattle.draughts_board.specs.declared.pieces.Side.{Side}
use Rattle.draughts_board.specs.declared.pieces.Side.TheVariants.{Black, White}
use Rattle.draughts_board.specs.declared.pieces.Value.{Value}
use Rattle.draughts_board.specs.declared.pieces.Value.TheVariants.{BlackWins, WhiteWins, Draw}
use Rattle.proof_numbers.specs.declared.numbers.Number.{Number}
use Rattle.proof_numbers.specs.declared.numbers.Number.TheVariants.{Finite, Infinite}
use Rattle.proof_numbers.specs.declared.numbers.Numbers.{Numbers}
use Rattle.proof_numbers.specs.Known.{knows_win, knows_hold}
use Rattle.proof_numbers.specs.Numbers.{least, total, least_of, total_of, proved, refuted, is_zero, is_resolved}
use Rattle.proof_tree.specs.declared.rows.Mark.{Mark}
use Rattle.proof_tree.specs.declared.rows.Mark.TheVariants.{Unexpanded, Expanded, Repeats}
use Rattle.proof_tree.specs.Forest.{Own, Forest, no_node, node, Node, folded, numbers_by_mark, numbers_at, numbers, node_numbers, goal_of, value_of, or_else}
use Rattle.proof_tree.specs.Picking.{Way, better, is_below, left_to_show, leaf_of, way_of, open_by, leaf_at, best_way, leaf_below, pick_by, pick_at, pick_from}

abbrev pub free : ℕ → Bool
free n = false

-- ---- one of some numbers is unresolved

abbrev AnyOpen : List Numbers → Type 0
AnyOpen [] = ⊥
AnyOpen (x ∷ xs) = (is_resolved x ≡ false) ⊎ AnyOpen xs

zero_test : (k : ℕ) → k ≡ 0 → eqb k 0 ≡ true
zero_test k e = grind (arith, nat_tests, e)

nonzero_test : (k : ℕ) → 0 < k → eqb k 0 ≡ false
nonzero_test k l = grind (arith, nat_tests, l)

or_true : (b : Bool) → (b || true) ≡ true
or_true true = refl
or_true false = refl

min_zero : (m n : ℕ) → eqb (min m n) 0 ≡ (eqb m 0 || eqb n 0)
min_zero zero n = zero_test (min 0 n) (omega arith)
min_zero (suc m) zero = zero_test (min (suc m) 0) (omega arith) ∙ sym (or_true (eqb (suc m) 0))
min_zero (suc m) (suc n) =
    nonzero_test (min (suc m) (suc n)) (omega arith) ∙ sym (λ i. nonzero_test (suc m) (omega arith) i || nonzero_test (suc n) (omega arith) i)

or_nothing : (b : Bool) → b ≡ (b || false)
or_nothing true = refl
or_nothing false = refl

and_nothing : (b : Bool) → false ≡ (b && false)
and_nothing true = refl
and_nothing false = refl

pub least_zero : (a b : Number) → is_zero (least a b) ≡ (is_zero a || is_zero b)
least_zero Infinite b = refl
least_zero (Finite m) Infinite = or_nothing (eqb m 0)
least_zero (Finite m) (Finite n) = min_zero m n

sum_zero : (m n : ℕ) → eqb (m + n) 0 ≡ (eqb m 0 && eqb n 0)
sum_zero zero n = ap (λ (k : ℕ). eqb k 0) (let e : 0 + n ≡ n = omega arith in e)
sum_zero (suc m) n = nonzero_test (suc m + n) (omega arith) ∙ sym (λ i. nonzero_test (suc m) (omega arith) i && eqb n 0)

pub total_zero : (a b : Number) → is_zero (total a b) ≡ (is_zero a && is_zero b)
total_zero Infinite b = refl
total_zero (Finite m) Infinite = and_nothing (eqb m 0)
total_zero (Finite m) (Finite n) = sum_zero m n

or_false : (b c : Bool) → (b || c) ≡ false → (b ≡ false) × (c ≡ false)
or_false true c e = absurd (false≢true (sym e))
or_false false c e = (refl, e)

and_false : (b c : Bool) → (b && c) ≡ false → (b ≡ false) ⊎ (c ≡ false)
and_false true c e = inr e
and_false false c e = inl refl

both_false : (b c : Bool) → b ≡ false → c ≡ false → (b || c) ≡ false
both_false b c e f = λ i. e i || f i

swapped : (b c : Bool) → (b || c) ≡ (c || b)
swapped true true = refl
swapped true false = refl
swapped false true = refl
swapped false false = refl

-- by the numbers of which the least counts, and those of which the sum counts
open_by_folds : (f g : Numbers → Number) → ((x : Numbers) → is_resolved x ≡ (is_zero (f x) || is_zero (g x))) → (xs : List Numbers)
    → is_zero (least_of (map f xs)) ≡ false → is_zero (total_of (map g xs)) ≡ false → AnyOpen xs
open_by_folds f g are [] l t = absurd (false≢true (sym t))
open_by_folds f g are (x ∷ xs) l t =
    let ls = or_false (is_zero (f x)) (is_zero (least_of (map f xs))) (sym (least_zero (f x) (least_of (map f xs))) ∙ l) in
    ⊎_elim (λ e. inl (are x ∙ both_false (is_zero (f x)) (is_zero (g x)) ls.0 e)) (λ e. inr (open_by_folds f g are xs ls.1 e))
    (and_false (is_zero (g x)) (is_zero (total_of (map g xs))) (sym (total_zero (g x) (total_of (map g xs))) ∙ t))

folded_open : (moves : Bool) (xs : List Numbers) → is_resolved (folded moves xs) ≡ false → AnyOpen xs
folded_open true xs e =
    let h = or_false (is_zero (least_of (map (λ x. x.proof) xs))) (is_zero (total_of (map (λ x. x.disproof) xs))) e in
    open_by_folds (λ x. x.proof) (λ x. x.disproof) (λ x. refl) xs h.0 h.1
folded_open false xs e =
    let h = or_false (is_zero (total_of (map (λ x. x.proof) xs))) (is_zero (least_of (map (λ x. x.disproof) xs))) e in
    open_by_folds (λ x. x.disproof) (λ x. x.proof) (λ x. swapped (is_zero x.proof) (is_zero x.disproof)) xs h.1 h.0

-- ---- the walk

way_is_some : (left : Number) (o : Option ℕ) → IsSome o → IsSome (way_of left o)
way_is_some left None h = absurd (false≢true h)
way_is_some left (Some l) h = refl

leaf_is_some : (o : Option Way) → IsSome o → IsSome (leaf_of o)
leaf_is_some None h = absurd (false≢true h)
leaf_is_some (Some w) h = refl

some_if : (b : Bool) (a c : Option Way) → IsSome a → IsSome c → IsSome (cond b a c)
some_if true a c h k = h
some_if false a c h k = k

better_first : (a b : Option Way) → IsSome a → IsSome (better a b)
better_first None b h = absurd (false≢true h)
better_first (Some v) None h = refl
better_first (Some v) (Some w) h = some_if (is_below w.left v.left) (Some w) (Some v) refl refl

better_second : (a b : Option Way) → IsSome b → IsSome (better a b)
better_second None b h = h
better_second (Some v) None h = refl
better_second (Some v) (Some w) h = some_if (is_below w.left v.left) (Some w) (Some v) refl refl

by_mark : (goal : Side) (mark : Mark) (p : Board) (below : List Numbers) (n : ℕ) (best : Option Way)
    → is_resolved (numbers_by_mark goal mark p below) ≡ false → (AnyOpen below → IsSome best) → IsSome (open_by mark false n best)
by_mark goal Unexpanded p below n best e h = refl
by_mark goal Expanded p below n best e h = leaf_is_some best (h (folded_open (same_side goal p.to_move) below e))
by_mark goal Repeats p below n best e h = absurd (false≢true (sym e))

undecided : (w k : Bool) (x : Numbers) → is_resolved (cond w proved (cond k refuted x)) ≡ false → is_resolved x ≡ false
undecided true k x e = absurd (false≢true (sym e))
undecided false true x e = absurd (false≢true (sym e))
undecided false false x e = e

-- an unresolved node, where one among its children leads on if one is unresolved
leads_on : (goal : Side) (own : Own) (below : List Numbers) (best : Option Way) → is_resolved (numbers_at goal own below) ≡ false
    → (AnyOpen below → IsSome best) → IsSome (leaf_at free own (numbers_at goal own below) best)
leads_on goal own below best e h =
    subst (λ (b : Bool). IsSome (cond b None (open_by own.mark false own.number best))) (sym e)
    (by_mark goal own.mark own.position below own.number best
    (undecided (knows_win goal own.facts) (knows_hold (other goal) own.facts) (numbers_by_mark goal own.mark own.position below) e) h)

pub leads : (goal : Side) (by_proof : Bool) (t : Forest) → AnyOpen (numbers goal t) → IsSome (best_way goal free by_proof t)
leads goal by_proof no_node h = absurd h
leads goal by_proof (node own children others) h =
    let its = numbers_at goal own (numbers goal children) in
    let moves = same_side goal own.position.to_move in
    let first = way_of (left_to_show by_proof its) (leaf_at free own its (best_way goal free moves children)) in
    ⊎_elim
    (λ e.
    better_first first (best_way goal free by_proof others)
    (way_is_some (left_to_show by_proof its) (leaf_at free own its (best_way goal free moves children))
    (leads_on goal own (numbers goal children) (best_way goal free moves children) e (leads goal moves children))))
    (λ o. better_second first (best_way goal free by_proof others) (leads goal by_proof others o)) h

open_root : (goal : Side) (x : Node) → is_resolved (node_numbers goal x) ≡ false → IsSome (leaf_below goal free x)
open_root goal x e =
    leads_on goal x.own (numbers goal x.children) (best_way goal free (same_side goal x.own.position.to_move) x.children) e
    (leads goal (same_side goal x.own.position.to_move) x.children)

-- ---- the roots

-- where there is no value, the numbers for the goal are unresolved
goal_open : (black white : Numbers) (bp bd wp wd : Bool) → is_zero black.proof ≡ bp → is_zero black.disproof ≡ bd → is_zero white.proof ≡ wp
    → is_zero white.disproof ≡ wd
    → cond bp (Some BlackWins) (cond wp (Some WhiteWins) (cond (bd && wd) (Some Draw) None)) ≡ None
    → ((cond (bp || bd) White Black ≡ Black) × (is_resolved black ≡ false)) ⊎ ((cond (bp || bd) White Black ≡ White) × (is_resolved white ≡ false))
goal_open black white true bd wp wd a b c d e = absurd cc
goal_open black white false bd true wd a b c d e = absurd cc
goal_open black white false true false true a b c d e = absurd cc
goal_open black white false true false false a b c d e = inr (refl, λ i. c i || d i)
goal_open black white false false false wd a b c d e = inl (refl, λ i. a i || b i)

root_open : (x : Node) → value_of x ≡ None → IsSome (leaf_below (goal_of x) free x)
root_open x e =
    let black = node_numbers Black x in
    let white = node_numbers White x in
    ⊎_elim (λ h. subst (λ (g : Side). IsSome (leaf_below g free x)) (sym h.0) (open_root Black x h.1))
    (λ h. subst (λ (g : Side). IsSome (leaf_below g free x)) (sym h.0) (open_root White x h.1))
    (goal_open black white (is_zero black.proof) (is_zero black.disproof) (is_zero white.proof) (is_zero white.disproof) refl refl refl refl e)

picked : (v : Option Value) (o : Option ℕ) (g : Side) → (v ≡ None → IsSome o) → pick_by v o g ≡ None → IsSome v
picked (Some w) o g h e = refl
picked None None g h e = absurd (false≢true (h refl))
picked None (Some l) g h e = absurd cc

or_none : (a b : Option (ℕ × Side)) → or_else a b ≡ None → (a ≡ None) × (b ≡ None)
or_none None b e = (refl, e)
or_none (Some x) b e = absurd cc

pub all_settled : (xs : List Node) → pick_from free xs ≡ None → All (λ root. IsSome (value_of root)) xs
all_settled [] e = All-nil (λ root. IsSome (value_of root))
all_settled (x ∷ xs) e =
    let h = or_none (pick_at free x) (pick_from free xs) e in
    All-cons (λ root. IsSome (value_of root)) x xs (picked (value_of x) (leaf_below (goal_of x) free x) (goal_of x) (root_open x) h.0) (all_settled xs h.1)
