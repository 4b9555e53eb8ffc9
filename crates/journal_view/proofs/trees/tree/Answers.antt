use Rattle.std.proofs.lemmas.Result.{err_from_is_err_and}
use Rattle.disk_journal.proofs.LooksLemmas.{reads_so}
use Rattle.journal_looks.proofs.LookLemmas.{unread_accepted}
use Rattle.opening_report.specs.declared.written.Written.{Written}
use Rattle.journal_view.proofs.TreeLemmas.{no_fault, refuses_of, shows_of, tree_accepted, tree_read, tree_unread, true_of}
use Rattle.journal_view.proofs.trees.tree.Goals as goal

pub returns-clause-shows : goal.returns-clause-shows
returns-clause-shows g c honest =
    shows_of c.in_ok-bench._table.pieces (g.D.Disk.reads c.args.disk.now) c.in_ok-bench.bench.state.forest c.args.asked c.written_tree.result
    (c.in_ok-bench.ensures.forest honest) c.written_tree.ensures.shows

pub returns-clause-values : goal.returns-clause-values
returns-clause-values g c = true_of c.in_ok-bench.bench.state.forest c.args.asked c.written_tree.result c.written_tree.ensures.shows

pub returns-clause-refused : goal.returns-clause-refused
returns-clause-refused g c honest =
    refuses_of c.in_ok-bench._table.pieces (g.D.Disk.reads c.args.disk.now) c.in_ok-bench.bench.state.forest c.args.asked.root c.written_tree.result
    (c.in_ok-bench.ensures.forest honest) c.written_tree.ensures.refused

pub returns-clause-reads : goal.returns-clause-reads
returns-clause-reads g c =
    reads_so g.D.Disk _ _ _ _ c.in_ok-bench.ensures.reads
    (λ is. absurd (no_fault c.in_ok-bench.bench.state.forest c.args.asked.root c.written_tree.result c.written_tree.ensures.refused is))

pub returns-in_err-bench-clause-causes : goal.returns-in_err-bench-clause-causes
returns-in_err-bench-clause-causes g c honest =
    let p = err_from_is_err_and c.from_residual.result c.from_residual.ensures.1 in
    rw (p.1, p.2) (tree_unread (g.D.Disk.reads c.args.disk.now) c.args.asked.root c.in_err-bench.field-0.0 (c.in_err-bench.ensures.refused honest))

pub returns-in_err-bench-clause-accepted : goal.returns-in_err-bench-clause-accepted
returns-in_err-bench-clause-accepted g c honest there =
    let p = err_from_is_err_and c.from_residual.result c.from_residual.ensures.1 in
    rw (p.1, p.2) (unread_accepted Written there.pieces (g.D.Disk.reads c.args.disk.now) there.has.records c.in_err-bench.field-0.0 there.has.read (c.in_err-bench.ensures.refused honest))

pub returns-clause-causes : goal.returns-clause-causes
returns-clause-causes g c honest =
    tree_read c.in_ok-bench._table.pieces (g.D.Disk.reads c.args.disk.now) c.in_ok-bench.bench.state.forest c.args.asked c.written_tree.result
    (c.in_ok-bench.ensures.forest honest) c.written_tree.ensures.shows c.written_tree.ensures.refused

pub returns-clause-accepted : goal.returns-clause-accepted
returns-clause-accepted g c honest there =
    tree_accepted c.in_ok-bench._table.pieces (g.D.Disk.reads c.args.disk.now) c.in_ok-bench.bench.state.forest c.args.asked.root c.written_tree.result
    (c.in_ok-bench.ensures.forest honest) c.written_tree.ensures.refused there
