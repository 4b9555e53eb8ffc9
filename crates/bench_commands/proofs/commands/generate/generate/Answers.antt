use Rattle.bench_commands.proofs.CountingLemmas.{counts_say}
use Rattle.std.proofs.Common.{◌≡◌, inl, refl, rules}
use Rattle.std.proofs.lemmas.Result.{IfErr-weaker}
use Rattle.bench_commands.specs.Bench.{ComesBeforeDisk}
use Rattle.bench_commands.proofs.CauseLemmas.{counts_answer, counts_refuse}
use Rattle.bench_commands.proofs.commands.generate.generate.Goals as goal

pub run_by-requires-after_bounds : goal.run_by-requires-after_bounds
run_by-requires-after_bounds g c κs within = inl refl

pub returns-in-Ok-clause-unused : goal.returns-in-Ok-clause-unused
returns-in-Ok-clause-unused g c =
    IfErr-weaker c.run_by.result.1 (λ r. ComesBeforeDisk r → ⊥) _ (λ r none comes. absurd (none comes)) c.run_by.ensures.used

pub returns-in-Ok-clause-says : goal.returns-in-Ok-clause-says
returns-in-Ok-clause-says g c = counts_say _ c.run_by.result.1 (λ output. output.text.items) (λ output. output.is_settled) c.run_by.ensures.shows

pub returns-in-Ok-clause-answers : goal.returns-in-Ok-clause-answers
returns-in-Ok-clause-answers g c =
    let same : c.as_slice.result.now ≡ c.in-Ok.positions.keys = search rules in
    counts_answer g.D.Disk c.args.seed c.args.count c.in-Ok.positions.keys c.as_slice.result.now c.args.disk c.run_by.result.0 c.run_by.result.1 (λ output. output.text.items) (λ output. output.is_settled)
    c.in-Ok.ensures.openings same c.run_by.ensures.resumes c.run_by.ensures.shows

pub returns-in-Ok-clause-refused : goal.returns-in-Ok-clause-refused
returns-in-Ok-clause-refused g c =
    let same : c.as_slice.result.now ≡ c.in-Ok.positions.keys = search rules in
    counts_refuse g.D.Disk c.args.seed c.args.count c.in-Ok.positions.keys c.as_slice.result.now c.args.disk c.run_by.result.0 c.run_by.result.1
    c.in-Ok.ensures.openings same c.run_by.ensures.refused

pub returns-in-Err-clause-refused : goal.returns-in-Err-clause-refused
returns-in-Err-clause-refused g c = inl (inl refl)
