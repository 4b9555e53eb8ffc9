use Rattle.std.specs.Prelude.{◌≡◌, length}
use Rattle.std.proofs.Common.{sym, ◌∙◌, ap, arith}
use Rattle.bench_disk.proofs.HandleLemmas.{wrote_and_paused, writes_of}
use Rattle.bench_disk.proofs.handle_disk.HandleDiskDisk.write_at.Goals as goal

pub returns-clause-writes : goal.returns-clause-writes
returns-clause-writes g c = λ tells.
    let old = c.args.self.now in
    let new = c.counted.new.self in
    let wrote = c.write_whole-outcome.ensures.writes tells in
    let paused = c.pause.ensures.pauses tells in
    let started : g.F.FileHandle.moment c.start.new.self.file ≡ old.moment = ap g.F.FileHandle.moment c.in_ok-start.ensures.file ∙ old.in_step tells in
    let ended : g.F.FileHandle.moment c.pause.new.self ≡ new.moment = omega (arith, paused.ends.ended, wrote.stays.within, started, c.in_ok-start.ensures.moment, c.counted.ensures.moment) in
    writes_of old new (λ disk. disk.file) (λ disk. disk.moment) g.F.FileHandle.images g.F.FileHandle.images_since g.F.FileHandle.moment c.args.at (length c.args.from.now) c.start.new.self.file c.pause.new.self
    c.in_ok-start.ensures.file (sym c.counted.ensures.file) started ended
    (wrote_and_paused g.F.FileHandle.reads g.F.FileHandle.images g.F.FileHandle.images_since g.F.FileHandle.moment (λ file t image. g.met.F.FileHandle.now_counts file t image tells) (λ file s t image. g.met.F.FileHandle.earlier_counts file s t image tells)
    c.args.at (length c.args.from.now) _ _ _ wrote.writes paused.looks)
