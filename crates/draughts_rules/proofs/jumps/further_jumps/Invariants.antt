use Rattle.std.proofs.Common.{◌≡◌, take}
use Rattle.std.specs.Prelude.{filter}
use Rattle.draughts_rules.specs.Conditions.{is_open_further}
use Rattle.draughts_rules.proofs.jumps.further_jumps.Given as goal

abbrev pub invariant-loop-number : goal.invariant-loop-number
invariant-loop-number l = l.jumps ≡ filter (is_open_further l.p l.path) (take l.number-index l.number-items)
