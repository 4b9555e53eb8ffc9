use Rattle.std.proofs.lemmas.Result.{err_from_is_err_and}
use Rattle.strategy_certificate.specs.declared.certificates.Certificate.{Certificate}
use Rattle.disk_journal.proofs.LooksLemmas.{reads_so}
use Rattle.journal_looks.proofs.LookLemmas.{certifies_from, certify_accepted, certify_read, certify_unread, no_fault, refuses_from, size_from, unread_accepted}
use Rattle.journal_looks.proofs.looks.certify.Goals as goal

pub returns-clause-certifies : goal.returns-clause-certifies
returns-clause-certifies g c honest =
    certifies_from c.in_ok-bench.table.pieces c.in_ok-bench.bench.state.settings.pieces (g.D.Disk.reads c.args.disk.now) c.in_ok-bench.bench.state.forest c.args.root c.certified_root.result
    c.in_ok-bench.ensures.same (c.in_ok-bench.ensures.forest honest) c.certified_root.ensures.joined c.certified_root.ensures.settled

pub returns-clause-tables : goal.returns-clause-tables
returns-clause-tables g c =
    size_from c.in_ok-bench.table.pieces c.in_ok-bench.bench.state.settings.pieces c.in_ok-bench.bench.state.forest c.args.root c.certified_root.result
    c.in_ok-bench.ensures.same c.in_ok-bench.ensures.size c.certified_root.ensures.joined c.certified_root.ensures.settled

pub returns-clause-refused : goal.returns-clause-refused
returns-clause-refused g c honest =
    refuses_from c.in_ok-bench.table.pieces (g.D.Disk.reads c.args.disk.now) c.in_ok-bench.bench.state.forest c.args.root c.certified_root.result
    (c.in_ok-bench.ensures.forest honest) c.certified_root.ensures.refused

pub returns-clause-reads : goal.returns-clause-reads
returns-clause-reads g c =
    reads_so g.D.Disk _ _ _ _ c.in_ok-bench.ensures.reads
    (λ is. absurd (no_fault c.in_ok-bench.bench.state.forest c.args.root c.certified_root.result c.certified_root.ensures.refused is))

pub returns-in_err-bench-clause-causes : goal.returns-in_err-bench-clause-causes
returns-in_err-bench-clause-causes g c honest =
    let p = err_from_is_err_and c.from_residual.result c.from_residual.ensures.1 in
    rw (p.1, p.2) (certify_unread Certificate (g.D.Disk.reads c.args.disk.now) c.args.root c.in_err-bench.field-0.0 (c.in_err-bench.ensures.refused honest))

pub returns-in_err-bench-clause-accepted : goal.returns-in_err-bench-clause-accepted
returns-in_err-bench-clause-accepted g c honest there =
    let p = err_from_is_err_and c.from_residual.result c.from_residual.ensures.1 in
    rw (p.1, p.2) (unread_accepted Certificate there.pieces (g.D.Disk.reads c.args.disk.now) there.has.records c.in_err-bench.field-0.0 there.has.read (c.in_err-bench.ensures.refused honest))

pub returns-clause-causes : goal.returns-clause-causes
returns-clause-causes g c honest =
    certify_read c.in_ok-bench.table.pieces (g.D.Disk.reads c.args.disk.now) c.in_ok-bench.bench.state.forest c.args.root c.certified_root.result
    (c.in_ok-bench.ensures.forest honest) c.certified_root.ensures.settled c.certified_root.ensures.refused

pub returns-clause-accepted : goal.returns-clause-accepted
returns-clause-accepted g c honest there =
    certify_accepted c.in_ok-bench.table.pieces (g.D.Disk.reads c.args.disk.now) c.in_ok-bench.bench.state.forest c.args.root c.certified_root.result
    (c.in_ok-bench.ensures.forest honest) c.certified_root.ensures.refused there
