use Rattle.std.proofs.Common.{refl}
use Rattle.std.proofs.lemmas.Result.{err_from_is_err_and}
use Rattle.disk_journal.proofs.LooksLemmas.{reads_so}
use Rattle.journal_looks.proofs.FileLemmas.{explained_by_none}
use Rattle.journal_looks.proofs.LookLemmas.{report_read, report_unread}
use Rattle.journal_view.proofs.records.records.Goals as goal

pub returns-in_err-read-clause-causes : goal.returns-in_err-read-clause-causes
returns-in_err-read-clause-causes g c honest =
    let p = err_from_is_err_and c.from_residual.result c.from_residual.ensures.1 in
    rw (p.1, p.2) (report_unread _ (g.D.Disk.reads c.args.disk.now) c.in_err-read.field-0.0 (c.in_err-read.ensures.refused honest))

pub returns-in_err-read-clause-accepted : goal.returns-in_err-read-clause-accepted
returns-in_err-read-clause-accepted g c honest k records read =
    let p = err_from_is_err_and c.from_residual.result c.from_residual.ensures.1 in
    rw (p.1, p.2) (explained_by_none k (g.D.Disk.reads c.args.disk.now) records c.in_err-read.field-0.0 read (c.in_err-read.ensures.refused honest))

pub returns-clause-causes : goal.returns-clause-causes
returns-clause-causes g c honest =
    report_read _ c.in_ok-read.read.table.pieces (g.D.Disk.reads c.args.disk.now) c.in_ok-read.read.bench.state.forest _
    (record { records = c.in_ok-read.read.bench.records; read = c.in_ok-read.ensures.read honest; forest = c.in_ok-read.ensures.forest })

pub returns-clause-shows : goal.returns-clause-shows
returns-clause-shows g c honest = record {
  pieces = c.in_ok-read.read.table.pieces;
  roots = c.in_ok-read.read.bench.state.forest;
  has = record { records = c.in_ok-read.read.bench.records; read = c.in_ok-read.ensures.read honest; forest = c.in_ok-read.ensures.forest };
  text_is = rw c.settled.ensures.text c.in_ok-text.ensures;
}

pub returns-clause-values : goal.returns-clause-values
returns-clause-values g c = record {
  pieces = c.in_ok-read.read.table.pieces;
  records = c.in_ok-read.read.bench.records;
  roots = c.in_ok-read.read.bench.state.forest;
  lawful = c.in_ok-read.ensures.forest;
  text_is = rw c.settled.ensures.text c.in_ok-text.ensures;
}

pub returns-in_err-text-clause-refused : goal.returns-in_err-text-clause-refused
returns-in_err-text-clause-refused g c honest =
    let p = err_from_is_err_and c.from_residual-in_err-text.result c.from_residual-in_err-text.ensures.1 in
    rw (p.1, p.2) tt

pub returns-in_err-text-clause-causes : goal.returns-in_err-text-clause-causes
returns-in_err-text-clause-causes g c honest cause stands =
    let p = err_from_is_err_and c.from_residual-in_err-text.result c.from_residual-in_err-text.ensures.1 in
    rw (p.1, p.2) tt

pub returns-in_err-text-clause-accepted : goal.returns-in_err-text-clause-accepted
returns-in_err-text-clause-accepted g c honest k records read =
    let p = err_from_is_err_and c.from_residual-in_err-text.result c.from_residual-in_err-text.ensures.1 in
    rw (p.1, p.2) refl

pub returns-in_err-text-clause-reads : goal.returns-in_err-text-clause-reads
returns-in_err-text-clause-reads g c =
    let p = err_from_is_err_and c.from_residual-in_err-text.result c.from_residual-in_err-text.ensures.1 in
    reads_so g.D.Disk _ _ _ _ c.in_ok-read.ensures.reads (λ is. absurd (cc (p.1, p.2, is)))
