use Rattle.std.proofs.Common.{◌++◌, [], ℕ, List, inr, subst}
use Rattle.draughts_board.specs.Board.{Board}
use Rattle.bench_records.specs.declared.records.BenchRecord.{BenchRecord}
use Rattle.bench_records.specs.Texts.{ShowsEnough, IsTextFor, named_in}
use Rattle.bench_core.specs.Cores.{record_of}
use Rattle.bench_core.specs.Results.{ResultState, outcome_of}
use Rattle.bench_core.proofs.bench.Bench.ready_result.Goals as goal

pub returns-clause-text : goal.returns-clause-text
returns-clause-text c =
    let core = c.args.self.now in
    let k : ℕ = core.state.settings.pieces in
    let named : List Board = named_in [] (core.records ++ core.staged) in
    let text : List ℕ = c.in_ok-stage_found.field-0.items in
    let r : BenchRecord = record_of c.found.inside.lease (outcome_of c.found.inside.found) in
    let is : IsTextFor k named r text = record {
      shows = subst (λ n. ShowsEnough n r) c.in_ok-stage_found.ensures.tables c.found.invariant.shows;
      sound = c.found.invariant.sound;
      spelled = inr c.in_ok-stage_found.ensures.short;
    } in
    subst (λ (x : ResultState). IsTextFor k named (record_of x.lease x.outcome) text) c.found.view_is is
