use Rattle.std.proofs.Common.{◌≡◌, ◌++◌, drop}
use Rattle.terminal_text.specs.Shown.{shown}
use Rattle.terminal_text.proofs.texts.shown.Given as goal

abbrev pub invariant-loop-b : goal.invariant-loop-b
invariant-loop-b l = l.given.items ++ shown (drop l.b-index l.text) ≡ shown l.text
