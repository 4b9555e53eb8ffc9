use Rattle.std.proofs.Common.{◌≡◌, ◌∙◌, Some, sym, ℕ, List}
use Rattle.std.specs.Prelude.{slice_index}
use Rattle.std.proofs.lemmas.Result.{IfOk-weaker}
use Rattle.draughts_board.specs.Board.{Board}
use Rattle.table_index.specs.Order.{position_at}
use Rattle.endgame_table.specs.Numbers.{answer_of}
use Rattle.table_checker.proofs.RuleLemmas.{size-at_most, index-below_all, successors-kept, fits-at_position}
use Rattle.table_checker.proofs.entries.fits_at.Goals as goal

pub position_at-requires : goal.position_at-requires
position_at-requires c = index-below_all c.args.pieces c.args.index c.requires.size c.requires.index

pub fits_position-requires : goal.fits_position-requires
fits_position-requires c =
    let most = size-at_most c.args.pieces c.requires.size in
    successors-kept c.args.pieces c.args.numbers.now c.in-Some.p c.in-Some.ensures.lawful (c.in-Some.ensures.few c.args.pieces most c.requires.index) most c.requires.entries

pub returns-in-Some-answer_of : goal.returns-in-Some-answer_of
returns-in-Some-answer_of c =
    let k : ℕ = c.args.pieces in
    let numbers : List ℕ = c.args.numbers.now in
    let p : Board = c.in-Some.p in
    let few = c.in-Some.ensures.few k (size-at_most k c.requires.size) c.requires.index in
    let there : position_at c.args.index ≡ Some p = sym c.position_at.ensures.value ∙ c.in-Some.is in
    let number : answer_of (slice_index numbers c.args.index) ≡ Some c.in-Some-answer_of.answer = sym c.answer_of.ensures ∙ c.in-Some-answer_of.is in
    let fits = fits-at_position k numbers p c.in-Some.ensures.lawful few c.args.index c.in-Some-answer_of.answer there number in
    IfOk-weaker c.fits_position.result _ _ (λ b fit. ((λ t. fits.0 (fit.0 t)), (λ at. fit.1 (fits.1 at)))) c.fits_position.ensures
