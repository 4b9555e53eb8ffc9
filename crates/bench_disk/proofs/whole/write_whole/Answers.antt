use Rattle.std.specs.Prelude.{◌+◌, ◌-◌, length, take, drop}
use Rattle.std.proofs.Common.{rules, ◌≡◌, ◌≤◌, ◌∙◌, ap, subst, arith, length-drop}
use Rattle.bench_disk.specs.Disk.{written}
use Rattle.bench_disk.specs.Handle.{Writes}
use Rattle.bench_disk.proofs.HandleLemmas.{writes_more}
use Rattle.bench_disk.proofs.WholeLemmas.{whole_rest, wrote_more}
use Rattle.bench_disk.proofs.whole.write_whole.Goals as goal

pub returns-in_err-wrote-clause-writes : goal.returns-in_err-wrote-clause-writes
returns-in_err-wrote-clause-writes g c = λ tells.
    writes_more g.F.FileHandle.reads g.F.FileHandle.images g.F.FileHandle.images_since g.F.FileHandle.moment g.F.FileHandle.is_entered (λ file t image. g.met.F.FileHandle.now_counts file t image tells) (λ file s t image. g.met.F.FileHandle.earlier_counts file s t image tells)
    c.args.at (length c.args.from.now) (c.args.at + c.loop-done.done) (length (drop c.loop-done.done c.args.from.now)) _ _ _ (omega arith) (omega (arith, length-drop c.loop-done.done c.args.from.now, c.loop-done.invariant.fits)) (c.loop-done.invariant.writes tells)
    (subst (λ l. Writes g.F.FileHandle.images g.F.FileHandle.images_since g.F.FileHandle.moment g.F.FileHandle.is_entered (c.args.at + c.loop-done.done) (length l) c.loop-done.file c.write_at.new.self) (whole_rest c.loop-done.done c.args.from.now) (c.write_at.ensures.writes tells))

pub returns-then-wrote-eq0-clause-writes : goal.returns-then-wrote-eq0-clause-writes
returns-then-wrote-eq0-clause-writes g c = λ tells.
    writes_more g.F.FileHandle.reads g.F.FileHandle.images g.F.FileHandle.images_since g.F.FileHandle.moment g.F.FileHandle.is_entered (λ file t image. g.met.F.FileHandle.now_counts file t image tells) (λ file s t image. g.met.F.FileHandle.earlier_counts file s t image tells)
    c.args.at (length c.args.from.now) (c.args.at + c.loop-done.done) (length (drop c.loop-done.done c.args.from.now)) _ _ _ (omega arith) (omega (arith, length-drop c.loop-done.done c.args.from.now, c.loop-done.invariant.fits)) (c.loop-done.invariant.writes tells)
    (subst (λ l. Writes g.F.FileHandle.images g.F.FileHandle.images_since g.F.FileHandle.moment g.F.FileHandle.is_entered (c.args.at + c.loop-done.done) (length l) c.loop-done.file c.write_at.new.self) (whole_rest c.loop-done.done c.args.from.now) (c.write_at.ensures.writes tells))

pub loop-done-preserved : goal.loop-done-preserved
loop-done-preserved g c =
    let done = c.loop-done.done in
    let from = c.args.from.now in
    let count = c.in_ok-wrote.wrote in
    let rest = take (length from - done) (drop done from) in
    let held = c.loop-done.invariant in
    let within : count ≤ length rest = search rules in
    record {
      fits = omega (arith, within, ap length (whole_rest done from), length-drop done from, held.fits);
      bytes = λ tells.
          let part : g.F.FileHandle.reads c.write_at.new.self ≡ written (g.F.FileHandle.reads c.loop-done.file) (c.args.at + done) (take count rest) = search rules in
          wrote_more (g.F.FileHandle.reads c.args.file.now) (g.F.FileHandle.reads c.loop-done.file) (g.F.FileHandle.reads c.write_at.new.self) from c.args.at done count (c.requires tells) held.fits (held.bytes tells)
          (part ∙ ap (λ l. written (g.F.FileHandle.reads c.loop-done.file) (c.args.at + done) (take count l)) (whole_rest done from));
      writes = λ tells.
          writes_more g.F.FileHandle.reads g.F.FileHandle.images g.F.FileHandle.images_since g.F.FileHandle.moment g.F.FileHandle.is_entered (λ file t image. g.met.F.FileHandle.now_counts file t image tells) (λ file s t image. g.met.F.FileHandle.earlier_counts file s t image tells)
          c.args.at (length from) (c.args.at + done) (length (drop done from)) _ _ _ (omega arith) (omega (arith, length-drop done from, held.fits)) (held.writes tells)
          (subst (λ l. Writes g.F.FileHandle.images g.F.FileHandle.images_since g.F.FileHandle.moment g.F.FileHandle.is_entered (c.args.at + done) (length l) c.loop-done.file c.write_at.new.self) (whole_rest done from) (c.write_at.ensures.writes tells));
    }
