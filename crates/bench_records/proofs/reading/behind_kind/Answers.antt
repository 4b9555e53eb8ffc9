use Rattle.std.proofs.Common.{◌≡◌, ℕ, sym, subst, arith}
use Rattle.std.specs.Prelude.{IfOk, IfErr}
use Rattle.std.proofs.lemmas.Result.{IfOk-weaker}
use Rattle.bench_records.specs.Names.{numbered}
use Rattle.bench_records.specs.Orders.{begin_order, solve_order, kind_order}
use Rattle.bench_records.specs.Reading.{Spot, ReadsValue, RefusesRecord, ReadsPlain, RefusesPlain}
use Rattle.bench_records.proofs.Spots.{plain_reads, plain_refuses, number_reads, number_refuses, err_weaker}
use Rattle.bench_records.proofs.reading.behind_kind.Goals as goal

pub returns-in-2-clause-ok : goal.returns-in-2-clause-ok
returns-in-2-clause-ok c =
    let old = c.args.reader.now in
    let new = c.solve.new.reader in
    subst (λ (k : ℕ). IfOk c.solve.result (λ r. ReadsPlain (kind_order old.named c.args.pieces k) old r new)) (sym (c.in-2.is))
    (IfOk-weaker c.solve.result (λ r. ReadsValue (solve_order c.args.pieces) old r new) (λ r. ReadsPlain (solve_order c.args.pieces) old r new) (λ r h. plain_reads (solve_order c.args.pieces) old new r c.requires.full h) c.solve.ensures.ok)

pub returns-in-2-clause-err : goal.returns-in-2-clause-err
returns-in-2-clause-err c =
    let old = c.args.reader.now in
    subst (λ (k : ℕ). IfErr c.solve.result (RefusesPlain (kind_order old.named c.args.pieces k) old)) (sym (c.in-2.is))
    (err_weaker c.solve.result (RefusesRecord (solve_order c.args.pieces) old) (RefusesPlain (solve_order c.args.pieces) old) (λ r h. plain_refuses (solve_order c.args.pieces) old r c.requires.full h) c.solve.ensures.err)

pub returns-in-4-clause-ok : goal.returns-in-4-clause-ok
returns-in-4-clause-ok c =
    let old = c.args.reader.now in
    let new = c.begin-in-4.new.reader in
    subst (λ (k : ℕ). IfOk c.begin-in-4.result (λ r. ReadsPlain (kind_order old.named c.args.pieces k) old r new)) (sym (c.in-4.is))
    (IfOk-weaker c.begin-in-4.result (λ r. ReadsValue (begin_order) c.take_numbers.new.self r new) (λ r. ReadsPlain (numbered old.named (begin_order)) old r new)
    (λ r h. number_reads (begin_order) old new r (subst (λ (s : Spot). ReadsValue (begin_order) s r new) c.take_numbers.ensures h)) c.begin-in-4.ensures.ok)

pub returns-in-4-clause-err : goal.returns-in-4-clause-err
returns-in-4-clause-err c =
    let old = c.args.reader.now in
    subst (λ (k : ℕ). IfErr c.begin-in-4.result (RefusesPlain (kind_order old.named c.args.pieces k) old)) (sym (c.in-4.is))
    (err_weaker c.begin-in-4.result (RefusesRecord (begin_order) c.take_numbers.new.self) (RefusesPlain (numbered old.named (begin_order)) old)
    (λ r h. number_refuses (begin_order) old r (subst (λ (s : Spot). RefusesRecord (begin_order) s r) c.take_numbers.ensures h)) c.begin-in-4.ensures.err)

pub returns-in_default-clause-ok : goal.returns-in_default-clause-ok
returns-in_default-clause-ok c =
    let other = c.in_default in
    let least = c.requires.least in
    let most = c.requires.most in
    let five : c.args.kind ≡ 5 = omega arith in
    let old = c.args.reader.now in
    let new = c.solve-in_default.new.reader in
    subst (λ (k : ℕ). IfOk c.solve-in_default.result (λ r. ReadsPlain (kind_order old.named c.args.pieces k) old r new)) (sym five)
    (IfOk-weaker c.solve-in_default.result (λ r. ReadsValue (solve_order c.args.pieces) c.take_numbers-in_default.new.self r new) (λ r. ReadsPlain (numbered old.named (solve_order c.args.pieces)) old r new)
    (λ r h. number_reads (solve_order c.args.pieces) old new r (subst (λ (s : Spot). ReadsValue (solve_order c.args.pieces) s r new) c.take_numbers-in_default.ensures h)) c.solve-in_default.ensures.ok)

pub returns-in_default-clause-err : goal.returns-in_default-clause-err
returns-in_default-clause-err c =
    let other = c.in_default in
    let least = c.requires.least in
    let most = c.requires.most in
    let five : c.args.kind ≡ 5 = omega arith in
    let old = c.args.reader.now in
    subst (λ (k : ℕ). IfErr c.solve-in_default.result (RefusesPlain (kind_order old.named c.args.pieces k) old)) (sym five)
    (err_weaker c.solve-in_default.result (RefusesRecord (solve_order c.args.pieces) c.take_numbers-in_default.new.self) (RefusesPlain (numbered old.named (solve_order c.args.pieces)) old)
    (λ r h. number_refuses (solve_order c.args.pieces) old r (subst (λ (s : Spot). RefusesRecord (solve_order c.args.pieces) s r) c.take_numbers-in_default.ensures h)) c.solve-in_default.ensures.err)
