use Rattle.std.proofs.Common.{◌++◌}
use Rattle.journal_lessons.proofs.RecordedLemmas.{recorded_enough}
use Rattle.journal_lessons.proofs.TeachingLemmas.{solve_says}
use Rattle.journal_lessons.proofs.teaching.solve.Goals as goal

pub encode-requires : goal.encode-requires
encode-requires c = (c.args.c.pieces, recorded_enough c.args.node c.args.c c.in_ok-shown.shown c.requires.good c.in_ok-shown.ensures)

pub returns : goal.returns
returns c =
    solve_says (λ t. t.items) c.args.node c.args.c c.in_ok-shown.shown (c.args.bench.now.records ++ c.args.bench.now.staged) c.named.result.now c.encode.result
    c.named.ensures c.requires.good c.in_ok-shown.ensures c.encode.ensures.text
