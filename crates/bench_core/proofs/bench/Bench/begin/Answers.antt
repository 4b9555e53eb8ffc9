use Rattle.std.proofs.Common.{◌++◌, [], List, subst}
use Rattle.std.specs.Prelude.{IfOk}
use Rattle.draughts_board.specs.Board.{Board}
use Rattle.bench_records.specs.declared.records.BenchRecord.TheVariants as records
use Rattle.bench_records.specs.Texts.{IsShortText, named_in}
use Rattle.bench_core.proofs.NamingLemmas.{text_of_short}
use Rattle.bench_core.proofs.bench.Bench.begin.Goals as goal

pub returns-clause-text : goal.returns-clause-text
returns-clause-text g c =
    let core = c.args.self.now in
    let named : List Board = named_in [] (core.records ++ core.staged) in
    text_of_short c.stage_root.result (λ text. text.items) core.state.settings.pieces named (records.Begin c.args.p) tt c.in_ok-sheet.ensures.sound
    (subst (λ (q : Board). IfOk c.stage_root.result (λ text. IsShortText named (records.Begin q) text.items)) c.in_ok-root.ensures.position c.stage_root.ensures.short)
