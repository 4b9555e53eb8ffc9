use Rattle.std.proofs.Common.{◌≡◌, ◌+◌, ◌-◌, min, suc, [], ◌∷◌, ◌++◌, length, ap, sym, ◌∙◌, arith, length-append}
use Rattle.certificate_joiner.specs.Shelf.{ShelfState}
use Rattle.bench_core.specs.Grown.{most_logged, GrownState, solves}
use Rattle.bench_core.proofs.GrownLemmas.{logged_solve, solves_solve, work_solve}
use Rattle.bench_core.proofs.grown.GrownTree.solve.Goals as goal

puts_now : (c : goal.After-put) → c.put.new.self.puts ≡ c.self.inside.shelf.puts ++ (c.args.n, c.args.shown) ∷ []
puts_now c = ap (λ (s : ShelfState). s.puts) c.put.ensures ∙ ap (λ shown. c.self.inside.shelf.puts ++ (c.args.n, shown) ∷ []) c.into_vec.ensures

pub invariant_of-self : goal.invariant_of-self
invariant_of-self c =
    let longer : length (c.self.inside.shelf.puts ++ (c.args.n, c.args.shown) ∷ []) ≡ length c.self.inside.shelf.puts + 1 = length-append c.self.inside.shelf.puts _ in
    let all : suc (solves c.self.inside.log) ≡ length (c.self.inside.shelf.puts ++ (c.args.n, c.args.shown) ∷ []) = omega (arith, c.self.invariant.shown, longer) in
    let more : length c.push.new.self ≡ length c.self.inside.log + 1 = rw c.push.ensures (length-append c.self.inside.log _) in
    record {
      shown = rw (c.push.ensures, puts_now c) (solves_solve c.self.inside.log c.args.position ∙ all);
      counted = rw c.push.ensures (ap (λ n. n + 1) c.self.invariant.counted ∙ sym (work_solve c.self.inside.log c.args.position));
      few = omega (arith, c.self.invariant.few, more);
    }

pub returns-clause-records : goal.returns-clause-records
returns-clause-records c =
    rw (c.push.ensures, puts_now c, ← c.self.view_is)
    (logged_solve c.self.inside.log c.self.inside.shelf.puts c.args.n c.args.position c.args.shown c.self.invariant.shown)

pub returns-clause-room : goal.returns-clause-room
returns-clause-room c =
    let g = c.self.inside in
    let seen : c.args.self.now.room ≡ min g.shelf.spare (most_logged - length g.log) = ap (λ (s : GrownState). s.room) (sym c.self.view_is) in
    let more : length c.push.new.self ≡ length g.log + 1 = rw c.push.ensures (length-append g.log _) in
    let left : c.put.new.self.spare ≡ g.shelf.spare - 1 = ap (λ (s : ShelfState). s.spare) c.put.ensures in
    omega (arith, seen, more, left)
