use Rattle.std.proofs.Common.{◌≡◌, ◌+◌, ◌-◌, min, length, ap, sym, ◌∙◌, arith, length-append}
use Rattle.bench_core.specs.Grown.{most_logged, GrownState}
use Rattle.bench_core.proofs.GrownLemmas.{logged_begin, solves_begin, work_begin}
use Rattle.bench_core.proofs.grown.GrownTree.begin.Goals as goal

pub invariant_of-self : goal.invariant_of-self
invariant_of-self c =
    let more : length c.push.new.self ≡ length c.self.inside.log + 1 = rw c.push.ensures (length-append c.self.inside.log _) in
    record {
      shown = rw c.push.ensures (solves_begin c.self.inside.log c.args.root.position ∙ c.self.invariant.shown);
      counted = rw c.push.ensures (c.self.invariant.counted ∙ sym (work_begin c.self.inside.log c.args.root.position));
      few = omega (arith, c.self.invariant.few, more);
    }

pub returns-clause-records : goal.returns-clause-records
returns-clause-records c =
    rw (c.push.ensures, ← c.self.view_is) (logged_begin c.self.inside.log c.self.inside.shelf.puts c.args.root.position c.self.invariant.shown)

pub returns-clause-room : goal.returns-clause-room
returns-clause-room c =
    let g = c.self.inside in
    let seen : c.args.self.now.room ≡ min g.shelf.spare (most_logged - length g.log) = ap (λ (s : GrownState). s.room) (sym c.self.view_is) in
    let more : length c.push.new.self ≡ length g.log + 1 = rw c.push.ensures (length-append g.log _) in
    omega (arith, seen, more)
