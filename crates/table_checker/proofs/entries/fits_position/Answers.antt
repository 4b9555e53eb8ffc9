use Rattle.std.proofs.Common.{◌≡◌, ◌↔◌, true, map, ap, ◌∙◌, subst, List, Option}
use Rattle.draughts_board.specs.Play.{successors_of}
use Rattle.strategy_certificate.specs.declared.oracle.Answer.{Answer}
use Rattle.table_checker.specs.Fitting.{FitsNext}
use Rattle.table_checker.specs.Kept.{kept_answer}
use Rattle.table_checker.proofs.entries.fits_position.Goals as goal

pub returns : goal.returns
returns c =
    let next : c.deref.result.now ≡ successors_of c.args.p.now = c.deref.ensures.value ∙ c.in_ok-next.ensures.exact in
    let kept : c.deref-2.result.now ≡ map (kept_answer c.args.numbers.now) (successors_of c.args.p.now) =
    c.deref-2.ensures.value ∙ c.in_ok-answers.ensures ∙ ap (map (kept_answer c.args.numbers.now)) next in
    subst (λ (answers : List (Option Answer)). (c.fits_next.result ≡ true) ↔ FitsNext answers c.args.answer) kept c.fits_next.ensures
