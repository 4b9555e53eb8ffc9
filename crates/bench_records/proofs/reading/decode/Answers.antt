use Rattle.bench_records.proofs.Exact.{decodes_exactly}
use Rattle.bench_records.proofs.reading.decode.Goals as goal

pub returns : goal.returns
returns c = decodes_exactly c.args.named.now c.args.pieces c.args.bytes.now c.record.result c.record.ensures.named c.record.ensures.spelled c.record.ensures.refused
