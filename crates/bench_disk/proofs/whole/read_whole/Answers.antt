use Rattle.std.specs.Prelude.{◌+◌, ◌-◌, ◌++◌, length, take, drop}
use Rattle.std.proofs.Common.{rules, ◌≡◌, ◌≤◌, ◌∙◌, ap, arith, length-append, length-take, length-drop}
use Rattle.bench_disk.specs.Disk.{IsHonest}
use Rattle.bench_disk.specs.Handle.{HasReadSome}
use Rattle.bench_disk.proofs.HandleLemmas.{looks_more}
use Rattle.bench_disk.proofs.WholeLemmas.{more, more_there, put_back, some_of, whole_rest}
use Rattle.bench_disk.proofs.whole.read_whole.Goals as goal

pub loop-filled-preserved : goal.loop-filled-preserved
loop-filled-preserved g c =
    let filled = c.loop-filled.filled in
    let into = c.loop-filled.into in
    let part = c.read_at.new.into in
    let count = c.in_ok-count.count in
    let bytes = g.F.FileHandle.reads c.args.file.now in
    let held = c.loop-filled.invariant in
    let now = take filled into ++ (part ++ drop (length into - filled) (drop filled into)) in
    let whole : now ≡ take filled into ++ part = put_back filled into part in
    let within : count ≤ length (take (length into - filled) (drop filled into)) = search rules in
    let size : length now ≡ length into =
    omega (arith, ap length whole, length-append (take filled into) part, length-take filled into, c.read_at.auto.into, ap length (whole_rest filled into), length-drop filled into, held.fits) in
    let place : c.in_ok-place.place ≡ c.args.at + filled = search rules in
    let some : IsHonest g.F.FileHandle.TELLS → HasReadSome (c.args.at + filled) bytes count (drop filled into) part = λ tells.
    let found : HasReadSome c.in_ok-place.place (g.F.FileHandle.reads c.loop-filled.file) count (take (length into - filled) (drop filled into)) part = search rules in
    some_of c.in_ok-place.place (c.args.at + filled) (g.F.FileHandle.reads c.loop-filled.file) bytes _ _ count part place (held.looks tells).looks.same (whole_rest filled into) found in
    record {
      fits = omega (arith, size, within, ap length (whole_rest filled into), length-drop filled into, held.fits);
      size = size ∙ held.size;
      there = λ tells. more_there c.args.at filled bytes c.args.into.now into (held.there tells) (held.bytes tells) count part now (some tells) whole;
      bytes = λ tells. more c.args.at filled bytes c.args.into.now into (held.there tells) (held.bytes tells) count part now (some tells) whole;
      looks = λ tells. looks_more g.F.FileHandle.reads g.F.FileHandle.images g.F.FileHandle.images_since g.F.FileHandle.moment g.F.FileHandle.is_entered (λ file t image. g.met.F.FileHandle.now_counts file t image tells) (λ file s t image. g.met.F.FileHandle.earlier_counts file s t image tells) _ _ _ (held.looks tells) (c.read_at.ensures.looks tells);
    }
