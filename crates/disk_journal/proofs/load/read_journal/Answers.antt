use Rattle.std.specs.Prelude.{◌≡◌, Ok, IfOk, IfErr}
use Rattle.std.specs.Bool.{OnFalse}
use Rattle.std.proofs.Common.{rules}
use Rattle.disk_journal.specs.Contents.{HasContents, IsReadAs, contents_of, read_contents}
use Rattle.disk_journal.specs.Format.{IsFresh}
use Rattle.disk_journal.specs.Refusals.{ExplainsAny, says_nothing_of_file}
use Rattle.disk_journal.proofs.ExactLemmas.{reads_exactly}
use Rattle.disk_journal.proofs.LooksLemmas.{reads_then}
use Rattle.disk_journal.proofs.load.read_journal.Goals as goal

pub returns-clause-reads : goal.returns-clause-reads
returns-clause-reads g c =
    reads_then g.D.Disk g.met.D.Disk.now_counts g.met.D.Disk.earlier_counts _ _ _ _ _ _
    (reads_then g.D.Disk g.met.D.Disk.now_counts g.met.D.Disk.earlier_counts _ _ _ _ _ _ c.in_ok-len.ensures.reads c.in_ok-pieces.ensures.reads (λ is. is))
    c.in_ok-found.ensures.reads (λ is. absurd cc)

pub returns-in_err-pieces-clause-exact : goal.returns-in_err-pieces-clause-exact
returns-in_err-pieces-clause-exact g c = λ tells.
    let file = g.D.Disk.reads c.args.disk.now in
    let answer = read_contents c.from_residual-in_err-pieces.result in
    let good : IfOk answer (IsReadAs file) = search rules in
    let fault : IfErr answer (λ e. OnFalse (says_nothing_of_file e) (ExplainsAny file e)) = search rules in
    reads_exactly file answer good fault

pub returns-in_err-found-clause-exact : goal.returns-in_err-found-clause-exact
returns-in_err-found-clause-exact g c = λ tells.
    let file = g.D.Disk.reads c.args.disk.now in
    let answer = read_contents c.from_residual-in_err-found.result in
    let good : IfOk answer (IsReadAs file) = search rules in
    let fault : IfErr answer (λ e. OnFalse (says_nothing_of_file e) (ExplainsAny file e)) = search rules in
    reads_exactly file answer good fault

pub returns-clause-exact : goal.returns-clause-exact
returns-clause-exact g c = λ tells.
    let file = g.D.Disk.reads c.args.disk.now in
    let contents = contents_of c.in_ok-pieces.pieces c.in_ok-found.found.payloads.items in
    let has : HasContents file contents = record { payloads = search rules; places = search rules } in
    let fresh : IsFresh file → c.in_ok-pieces.pieces ≡ 2 = λ short. absurd (search rules) in
    reads_exactly file (Ok contents) (has, fresh) tt
