use Rattle.std.specs.Prelude.{◌≡◌, ◌⊎◌, ◌+◌, ◌-◌, ◌<◌, ℕ, List, get_or, length}
use Rattle.std.specs.Int.{from_be_bytes, w64}
use Rattle.std.proofs.Common.{sym, ◌∙◌, ap, inl, inr, arith, length-take}
use Rattle.disk_journal.proofs.RestLemmas.{broken_length, broken_short, number_in, open_length}
use Rattle.disk_journal.proofs.gate.Gate.of.Goals as goal
use Rattle.disk_journal.proofs.gate.Gate.of.Goals.{then-len-eq0-via-then-len-eq0, then-len-eq0-via-else-len-eq0+then-len-left}

pub returns-then-left-lt9-clause-begins : goal.returns-then-left-lt9-clause-begins
returns-then-left-lt9-clause-begins c = λ rest e left. broken_short c.args.start.now rest e c.if-start-ne1.false (omega (arith, c.if-left-lt9.true, left))

pub returns-in_default-clause-begins : goal.returns-in_default-clause-begins
returns-in_default-clause-begins c = λ rest e left.
    broken_short c.args.start.now rest e c.if-start-ne1.false (omega (arith, c.in_default.ensures.none, c.split_at.ensures.back_len, c.if-left-lt9.false, left, ap length e, length-take 9 rest))

pub returns-then-len-eq0-clause-begins : goal.returns-then-len-eq0-clause-begins
returns-then-len-eq0-clause-begins c = λ rest e left.
    let field : List ℕ = c.split_at.result.1.now in
    let number : c.in-Some.len ≡ from_be_bytes w64 field = number_in field _ c.in-Some.len c.in-Some.ensures.some.0 c.in-Some.ensures.some.1 in
    let bad : (from_be_bytes w64 field ≡ 0) ⊎ (length rest - 9 < from_be_bytes w64 field) = elim c.then-len-eq0.branch [
      | then-len-eq0-via-then-len-eq0 w ↦ inl (sym number ∙ w.if-len-eq0.true)
      | then-len-eq0-via-else-len-eq0+then-len-left w ↦ inr (omega (arith, w.if-len-left.true, left, number))
    ] in
    broken_length c.args.start.now field rest e c.split_at.ensures.back c.if-start-ne1.false (omega (arith, c.if-left-lt9.false, left)) bad

pub returns-clause-begins : goal.returns-clause-begins
returns-clause-begins c = λ rest e left.
    let field : List ℕ = c.split_at.result.1.now in
    let number : c.in-Some.len ≡ from_be_bytes w64 field = number_in field _ c.in-Some.len c.in-Some.ensures.some.0 c.in-Some.ensures.some.1 in
    let fits : (i : ℕ) → get_or field i 0 < 256 = λ i. omega (arith, c.type_inv.start (1 + i)) in
    open_length c.args.start.now field rest c.in-Some.len e c.split_at.ensures.back c.if-start-ne1.false fits (omega (arith, c.if-left-lt9.false, left)) number
    (omega (arith, c.if-len-eq0.false)) (omega (arith, c.if-len-left.false, left))
