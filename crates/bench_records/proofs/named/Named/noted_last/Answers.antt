use Rattle.std.proofs.Common.{◌≡◌, ◌∙◌, ap, sym, Some}
use Rattle.std.proofs.lemmas.Bool.{not-false}
use Rattle.draughts_board.specs.Same.{same_board-Decides}
use Rattle.bench_records.proofs.named.Named.noted_last.Goals as goal

pub returns : goal.returns
returns c =
    let here = c.position.result in
    let p = c.args.p.now in
    let same : here ≡ p = (same_board-Decides here p).0 (not-false _ (sym c.ne.ensures ∙ c.if-ne.false)) in
    c.position.ensures ∙ ap Some same
