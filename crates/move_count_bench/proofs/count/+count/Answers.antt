use Rattle.std.proofs.Common.{◌≡◌, ℕ, suc, ◌-◌, ◌∙◌, List, [], ◌∷◌, length, take, refl, sym, ap, arith}
use Rattle.std.specs.Prelude.{sum_by}
use Rattle.std.proofs.lemmas.List.{take_all}
use Rattle.std.proofs.lemmas.List.Sums.{sum_by-append}
use Rattle.draughts_board.specs.Board.{Board}
use Rattle.draughts_board.specs.Rules.{after}
use Rattle.draughts_board.specs.Play.{legal_paths}
use Rattle.move_count_bench.specs.Lists.{lists_of}
use Rattle.move_count_bench.proofs.count.+count.Goals as goal

ones : {X : Type 0} (xs : List X) → sum_by (λ x. 1) xs ≡ length xs
ones [] = refl
ones (x ∷ xs) = sum_by-append (λ y. 1) (x ∷ []) xs ∙ (let e = ones xs in omega (arith, e))

lists-none : (p : Board) → lists_of 0 p ≡ 1
unfolding lists_of
lists-none p = refl

lists-one : (p : Board) → lists_of 1 p ≡ length (legal_paths p)
unfolding lists_of
lists-one p = ones (legal_paths p)

lists-more : (n k : ℕ) (p : Board) → n ≡ suc k → lists_of n p ≡ sum_by (λ path. lists_of (n - 1) (after p path)) (legal_paths p)
unfolding lists_of
lists-more n k p e =
    let less : k ≡ n - 1 = omega arith in
    ap (λ m. lists_of m p) e ∙ ap (λ m. sum_by (λ path. lists_of m (after p path)) (legal_paths p)) less

pub returns-then-n-eq0 : goal.returns-then-n-eq0
returns-then-n-eq0 t c = sym (ap (λ n. lists_of n c.args.p.now) c.if-n-eq0.true ∙ lists-none c.args.p.now)

pub returns-then-n-eq1 : goal.returns-then-n-eq1
returns-then-n-eq1 t c =
    let counted : c.len.result ≡ length c.in_ok-moves.moves.items = omega (arith, c.len.ensures, c.in_ok-moves.moves.ok.0) in
    counted
    ∙ ap (λ (paths : List (List ℕ)). length paths) c.in_ok-moves.ensures.exact
    ∙ sym (ap (λ n. lists_of n c.args.p.now) c.if-n-eq1.true ∙ lists-one c.args.p.now)

pub returns : goal.returns
returns t c =
    let p : Board = c.args.p.now in
    let n : ℕ = c.args.n in
    let behind : List ℕ → ℕ = λ path. lists_of (n - 1) (after p path) in
    let all : take c.loop-m.m-index c.deref-m-items.result.now ≡ c.deref-m-items.result.now = take_all c.loop-m.m-index c.deref-m-items.result.now c.loop-m-test.false in
    c.loop-m.invariant
    ∙ ap (sum_by behind) (all ∙ c.deref-m-items.ensures.value ∙ c.in_ok-moves.ensures.exact)
    ∙ sym (lists-more n (n - 1) p (omega arith))
