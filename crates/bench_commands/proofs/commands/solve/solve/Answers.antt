use Rattle.std.proofs.Common.{◌≡◌, inl, rules}
use Rattle.bench_commands.proofs.JournalLemmas.{run_all_accepts}
use Rattle.bench_commands.proofs.SolvingLemmas.{run_says}
use Rattle.bench_commands.proofs.commands.solve.solve.Goals as goal

pub returns-in-Ok-clause-says : goal.returns-in-Ok-clause-says
returns-in-Ok-clause-says g c = run_says _ c.run_by.result.1 (λ output. output.text.items) (λ output. output.is_settled) c.run_by.ensures.shows

pub returns-in-Ok-clause-accepted : goal.returns-in-Ok-clause-accepted
returns-in-Ok-clause-accepted g c =
    let same : c.as_slice.result.now ≡ c.in-Ok.positions = search rules in
    run_all_accepts g.D.Disk c.args.options.now c.args.text.now c.in-Ok.positions c.as_slice.result.now c.args.disk c.run_by.result.0 c.run_by.result.1
    c.in-Ok.ensures.read same c.run_by.ensures.refused

pub returns-in-Err-clause-refused : goal.returns-in-Err-clause-refused
returns-in-Err-clause-refused g c = inl c.in-Err.ensures.refused
