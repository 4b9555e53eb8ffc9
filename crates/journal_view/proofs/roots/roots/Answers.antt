use Rattle.std.proofs.Common.{refl}
use Rattle.std.proofs.lemmas.Result.{err_from_is_err_and}
use Rattle.disk_journal.proofs.LooksLemmas.{reads_so}
use Rattle.journal_looks.proofs.FileLemmas.{explained_by_none}
use Rattle.journal_looks.proofs.LookLemmas.{report_read, report_unread}
use Rattle.journal_view.proofs.roots.roots.Goals as goal

pub returns-in_err-bench-clause-causes : goal.returns-in_err-bench-clause-causes
returns-in_err-bench-clause-causes g c honest =
    let p = err_from_is_err_and c.from_residual.result c.from_residual.ensures.1 in
    rw (p.1, p.2) (report_unread _ (g.D.Disk.reads c.args.disk.now) c.in_err-bench.field-0.0 (c.in_err-bench.ensures.refused honest))

pub returns-in_err-bench-clause-accepted : goal.returns-in_err-bench-clause-accepted
returns-in_err-bench-clause-accepted g c honest k records read =
    let p = err_from_is_err_and c.from_residual.result c.from_residual.ensures.1 in
    rw (p.1, p.2) (explained_by_none k (g.D.Disk.reads c.args.disk.now) records c.in_err-bench.field-0.0 read (c.in_err-bench.ensures.refused honest))

pub returns-clause-causes : goal.returns-clause-causes
returns-clause-causes g c honest =
    report_read _ c.in_ok-bench.table.pieces (g.D.Disk.reads c.args.disk.now) c.in_ok-bench.bench.state.forest _ (c.in_ok-bench.ensures.forest honest)

pub returns-in_err-viewed-clause-refused : goal.returns-in_err-viewed-clause-refused
returns-in_err-viewed-clause-refused g c honest =
    let p = err_from_is_err_and c.from_residual-in_err-viewed.result c.from_residual-in_err-viewed.ensures.1 in
    rw (p.1, p.2) tt

pub returns-in_err-viewed-clause-causes : goal.returns-in_err-viewed-clause-causes
returns-in_err-viewed-clause-causes g c honest cause stands =
    let p = err_from_is_err_and c.from_residual-in_err-viewed.result c.from_residual-in_err-viewed.ensures.1 in
    rw (p.1, p.2) tt

pub returns-in_err-viewed-clause-accepted : goal.returns-in_err-viewed-clause-accepted
returns-in_err-viewed-clause-accepted g c honest k records read =
    let p = err_from_is_err_and c.from_residual-in_err-viewed.result c.from_residual-in_err-viewed.ensures.1 in
    rw (p.1, p.2) refl

pub returns-in_err-viewed-clause-reads : goal.returns-in_err-viewed-clause-reads
returns-in_err-viewed-clause-reads g c =
    let p = err_from_is_err_and c.from_residual-in_err-viewed.result c.from_residual-in_err-viewed.ensures.1 in
    reads_so g.D.Disk _ _ _ _ c.in_ok-bench.ensures.reads (λ is. absurd (cc (p.1, p.2, is)))
