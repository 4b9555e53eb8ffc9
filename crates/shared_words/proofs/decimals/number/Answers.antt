use Rattle.std.proofs.Common.{arith, ◌≡◌, ◌<◌, ◌≢◌, subst, get_or, length}
use Rattle.std.proofs.lemmas.Grind.{common_steps}
use Rattle.std.specs.Result.{result_ok}
use Rattle.shared_words.proofs.Numerals.{IsRead, IsRead-parse, begins_as_number}
use Rattle.shared_words.proofs.decimals.number.Goals as goal

pub returns-then-is_empty-clause-other : goal.returns-then-is_empty-clause-other
returns-then-is_empty-clause-other c n small same =
    let begins = begins_as_number c.args.text.now n small same in grind (arith, common_steps)

pub returns-then-text-gt1-clause-other : goal.returns-then-text-gt1-clause-other
returns-then-text-gt1-clause-other c n small same =
    let begins = begins_as_number c.args.text.now n small same in grind (arith, common_steps)

pub returns-in_default-clause-other : goal.returns-in_default-clause-other
returns-in_default-clause-other c n small same =
    let begins = begins_as_number c.args.text.now n small same in c.in_default.ensures.cases.0 begins.utf8

pub returns : goal.returns
returns c =
    let bytes = c.in-Ok.digits.now in
    let whole : bytes ≡ c.args.text.now = c.in-Ok.ensures.cases.0 in
    let some : 0 < length bytes = grind (arith, common_steps) in
    let unsigned : get_or bytes 0 0 ≢ 43 = grind (arith, common_steps) in
    let alone : get_or bytes 0 0 ≡ 48 → length bytes ≡ 1 = grind (arith, common_steps) in
    let read = subst (λ b. IsRead b (result_ok c.parse.result)) whole (IsRead-parse bytes c.parse.result c.parse.ensures.value.0 some unsigned alone) in
    rw c.ok.ensures.value (record { digits = read.digits; other = read.other })
