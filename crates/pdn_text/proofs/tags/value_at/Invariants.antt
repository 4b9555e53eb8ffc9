use Rattle.std.proofs.Common.{◌≡◌, drop, false}
use Rattle.pdn_text.specs.Scans.{value_at, with_front}
use Rattle.pdn_text.proofs.tags.value_at.Given as goal

-- the bytes so far, and then the value of what is left, are the value of the whole
abbrev pub invariant-loop-i : goal.invariant-loop-i
invariant-loop-i l = with_front l.value.items (value_at l.escaped (drop l.i l.rest)) ≡ value_at false l.rest
