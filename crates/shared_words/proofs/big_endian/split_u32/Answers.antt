use Rattle.std.proofs.Common.{arith}
use Rattle.shared_words.proofs.FrontBytes.{front_four}
use Rattle.shared_words.proofs.big_endian.split_u32.Goals as goal

pub returns-clause-some : goal.returns-clause-some
returns-clause-some c =
    let cases = c.in_ok-field.ensures.cases in
    (c.from_be_bytes.type_inv, front_four c.args.text.now c.in_ok-field.field.now c.in_ok-field.behind.now c.from_be_bytes.result (λ i. omega (arith, c.type_inv.text i)) (omega (arith, cases.2)) cases.0 cases.1 c.from_be_bytes.ensures)
