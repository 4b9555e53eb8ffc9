use Rattle.std.specs.Prelude.{refl}
use Rattle.bench_disk.specs.Runs.{leaves_weaker}
use Rattle.disk_journal.proofs.AtRestLemmas.{at_rest_next, either, frame_more}
use Rattle.disk_journal.proofs.append.append_frame.Goals as goal

pub returns-clause-at_rest : goal.returns-clause-at_rest
returns-clause-at_rest g c = λ tells pieces payloads staged is_frame is_text rest.
    at_rest_next g.D.Disk.reads g.D.Disk.images c.args.disk.now pieces c.args.gate payloads rest staged c.args.text.now is_frame is_text c.append_text.new.disk _ refl
    (c.in_ok-append_text.ensures.opened tells) (c.in_ok-append_text.ensures.durable tells)

pub returns-clause-frame : goal.returns-clause-frame
returns-clause-frame g c = λ tells pieces frames staged is_frame is_text place journal.
    frame_more pieces c.args.gate frames staged (g.D.Disk.reads c.args.disk.now) c.args.text.now (g.D.Disk.reads c.append_text.new.disk) is_frame is_text place journal (c.in_ok-append_text.ensures.opened tells)

pub returns-in_err-append_text-clause-crash : goal.returns-in_err-append_text-clause-crash
returns-in_err-append_text-clause-crash g c = λ tells pieces payloads staged is_frame is_text rest.
    leaves_weaker g.D.Disk.moment g.D.Disk.images_since _ _ _ _
    (λ image h. either g.D.Disk.reads g.D.Disk.images c.args.disk.now pieces c.args.gate payloads rest staged c.args.text.now is_frame is_text image h) (c.in_err-append_text.ensures.crash tells)

pub returns-clause-crash : goal.returns-clause-crash
returns-clause-crash g c = λ tells pieces payloads staged is_frame is_text rest.
    leaves_weaker g.D.Disk.moment g.D.Disk.images_since _ _ _ _
    (λ image h. either g.D.Disk.reads g.D.Disk.images c.args.disk.now pieces c.args.gate payloads rest staged c.args.text.now is_frame is_text image h) (c.in_ok-append_text.ensures.crash tells)
