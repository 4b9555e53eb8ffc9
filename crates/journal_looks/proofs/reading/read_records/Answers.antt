use Rattle.std.proofs.lemmas.Result.{err_from_is_err_and}
use Rattle.disk_journal.proofs.LooksLemmas.{reads_so}
use Rattle.journal_looks.proofs.ReadingLemmas.{given_unread, records_read}
use Rattle.journal_looks.proofs.reading.read_records.Goals as goal

pub returns-in_err-bench-clause-refused : goal.returns-in_err-bench-clause-refused
returns-in_err-bench-clause-refused g c honest =
    let p = err_from_is_err_and c.from_residual-in_err-bench.result c.from_residual-in_err-bench.ensures.1 in
    let said = (c.in_ok-pieces.ensures.exact honest).good.0 in
    rw (p.1, p.2) (given_unread c.in_ok-pieces.pieces (g.D.Disk.reads c.args.disk.now) c.in_ok-pieces.payloads.items c.deref.result.now c.in_err-bench.field-0.0 c.deref.ensures.value said.payloads said.places
    c.in_err-bench.ensures.refused)

pub returns-clause-read : goal.returns-clause-read
returns-clause-read g c honest =
    let said = (c.in_ok-pieces.ensures.exact honest).good.0 in
    let bench = c.in_ok-bench.bench in
    records_read c.in_ok-pieces.pieces c.in_ok-bench.table.pieces (g.D.Disk.reads c.args.disk.now) c.in_ok-pieces.payloads.items c.deref.result.now bench.records bench.state.forest c.deref.ensures.value
    said.payloads c.in_ok-bench.ensures.table c.in_ok-bench.ensures.forest c.in_ok-bench.ensures.spelled

pub returns-clause-reads : goal.returns-clause-reads
returns-clause-reads g c = reads_so g.D.Disk _ _ _ _ c.in_ok-pieces.ensures.reads (λ is. absurd cc)
