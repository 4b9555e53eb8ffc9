use Rattle.std.proofs.Common.{◌≡◌, ◌∙◌, ℕ, true, List, length, take, arith, ap, sym, subst}
use Rattle.std.specs.List.{list_all}
use Rattle.std.proofs.Math.Seq.{take-length}
use Rattle.archive_words.specs.Runs.{is_square}
use Rattle.archive_words.proofs.Paths.{path_made}
use Rattle.archive_words.proofs.runs.path_of.Goals as goal

pub returns : goal.returns
returns c =
    let numbers : List ℕ = c.args.numbers.now in
    let squares : List ℕ = c.loop-place.squares in
    let is : c.loop-place.place ≡ length numbers = omega (arith, c.loop-place-test.false, c.loop-place.auto.place-end) in
    let whole : take (length numbers) numbers ≡ numbers = take-length numbers in
    let same : take (length numbers) squares ≡ numbers =
    subst (λ (k : ℕ). take k squares ≡ take k numbers) is c.loop-place.invariant.same ∙ whole in
    let all : list_all is_square numbers ≡ true =
    ap (list_all is_square) (sym whole) ∙ subst (λ (k : ℕ). list_all is_square (take k numbers) ≡ true) is c.loop-place.invariant.all in
    path_made c.of.result (take (length numbers) squares) numbers same c.if-numbers-lt2-2.false c.if-numbers-gt-MOST_NUMBERS.false
    all c.of.ensures.none.0 c.of.ensures.some
