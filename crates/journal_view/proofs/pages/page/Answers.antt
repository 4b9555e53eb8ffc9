use Rattle.std.proofs.lemmas.Result.{err_from_is_err_and}
use Rattle.disk_journal.proofs.LooksLemmas.{reads_so}
use Rattle.journal_view.proofs.PageLemmas.{page_accepted, page_causes, page_no_fault, page_refuses, shows_page_of, true_page, unread_blamed, unread_causes, unread_page}
use Rattle.journal_view.proofs.pages.page.Goals as goal

pub returns-in_err-read-clause-refused : goal.returns-in_err-read-clause-refused
returns-in_err-read-clause-refused g c honest =
    let p = err_from_is_err_and c.from_residual.result c.from_residual.ensures.1 in
    rw (p.1, p.2) (unread_page (g.D.Disk.reads c.args.disk.now) c.args.asked.root c.in_err-read.field-0.0 (c.in_err-read.ensures.refused honest))

pub returns-in_err-read-clause-causes : goal.returns-in_err-read-clause-causes
returns-in_err-read-clause-causes g c honest =
    let p = err_from_is_err_and c.from_residual.result c.from_residual.ensures.1 in
    rw (p.1, p.2) (unread_causes (g.D.Disk.reads c.args.disk.now) c.args.asked.root c.in_err-read.field-0.0 (c.in_err-read.ensures.refused honest))

pub returns-in_err-read-clause-accepted : goal.returns-in_err-read-clause-accepted
returns-in_err-read-clause-accepted g c honest page =
    let p = err_from_is_err_and c.from_residual.result c.from_residual.ensures.1 in
    rw (p.1, p.2) (unread_blamed (g.D.Disk.reads c.args.disk.now) c.args.asked.root c.in_err-read.field-0.0 (c.in_err-read.ensures.refused honest) page)

pub returns-clause-shows : goal.returns-clause-shows
returns-clause-shows g c honest =
    let read = c.in_ok-read.read in
    shows_page_of read.table.pieces (g.D.Disk.reads c.args.disk.now) read.bench.records read.bench.state.forest c.args.asked c.written_page.result
    (c.in_ok-read.ensures.read honest) c.in_ok-read.ensures.forest c.written_page.ensures.shows

pub returns-clause-values : goal.returns-clause-values
returns-clause-values g c =
    let read = c.in_ok-read.read in
    true_page read.table.pieces read.bench.records read.bench.state.forest c.args.asked c.written_page.result c.written_page.ensures.shows

pub returns-clause-refused : goal.returns-clause-refused
returns-clause-refused g c honest =
    let read = c.in_ok-read.read in
    page_refuses read.table.pieces (g.D.Disk.reads c.args.disk.now) read.bench.state.forest c.args.asked.root c.written_page.result
    (record { records = read.bench.records; read = c.in_ok-read.ensures.read honest; forest = c.in_ok-read.ensures.forest }) c.written_page.ensures.refused

pub returns-clause-causes : goal.returns-clause-causes
returns-clause-causes g c honest =
    let read = c.in_ok-read.read in
    page_causes read.table.pieces (g.D.Disk.reads c.args.disk.now) read.bench.records read.bench.state.forest c.args.asked c.written_page.result
    (record { records = read.bench.records; read = c.in_ok-read.ensures.read honest; forest = c.in_ok-read.ensures.forest }) c.written_page.ensures.shows c.written_page.ensures.refused

pub returns-clause-accepted : goal.returns-clause-accepted
returns-clause-accepted g c honest page =
    let read = c.in_ok-read.read in
    page_accepted read.table.pieces (g.D.Disk.reads c.args.disk.now) read.bench.state.forest c.args.asked.root c.written_page.result
    (record { records = read.bench.records; read = c.in_ok-read.ensures.read honest; forest = c.in_ok-read.ensures.forest }) c.written_page.ensures.refused page

pub returns-clause-reads : goal.returns-clause-reads
returns-clause-reads g c =
    let read = c.in_ok-read.read in
    reads_so g.D.Disk _ _ _ _ c.in_ok-read.ensures.reads
    (λ is. absurd (page_no_fault read.bench.state.forest c.args.asked.root c.written_page.result c.written_page.ensures.refused is))
