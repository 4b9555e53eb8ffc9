use Rattle.std.proofs.Common.{◌-◌, ◌+◌, ◌∙◌, arith, sym, subst, List, ℕ, take, [], length, ◌<◌}
use Rattle.std.proofs.lemmas.List.{length-set}
use Rattle.bench_records.specs.Orders.{many, square_order}
use Rattle.std.proofs.lemmas.Result.{err_from_is_err_and}
use Rattle.bench_records.proofs.Spots.{GoesOn, one_more, next_refused, path_longer}
use Rattle.bench_records.proofs.reader.Reader.path.Goals as goal

pub loop-i-preserved : goal.loop-i-preserved
loop-i-preserved c =
    let path = c.loop-i.path in
    let i = c.loop-i.i in
    let s = c.in_ok-path.field-0 in
    let count = c.args.count in
    let whole = many count square_order [] in
    let within : i < length path = omega (arith, c.loop-i.invariant.full) in
    record {
      full = length-set path i s ∙ c.loop-i.invariant.full;
      on = subst (λ (p : List ℕ). GoesOn whole c.args.self.now (many (count - (i + 1)) square_order p) c.square.new.self) (sym (path_longer path i s within))
          (one_more whole square_order c.args.self.now c.loop-i.self c.square.new.self (count - i) (count - (i + 1)) (take i path) s (omega arith) c.loop-i.invariant.on c.in_ok-path.ensures.ok);
    }

pub returns-in_err-path-clause-err : goal.returns-in_err-path-clause-err
returns-in_err-path-clause-err c =
    let p = err_from_is_err_and c.from_residual.result c.from_residual.ensures.1 in
    let count = c.args.count in
    let i = c.loop-i.i in
    rw (p.1, p.2) (next_refused (many count square_order []) square_order c.args.self.now c.loop-i.self (count - i) (count - (i + 1)) (take i c.loop-i.path) c.in_err-path.field-0.0 (omega arith) c.loop-i.invariant.on c.in_err-path.ensures.err)
