use Rattle.std.proofs.Common.{◌≡◌, ◌++◌, drop}
use Rattle.page_text.specs.Markup.{escaped}
use Rattle.page_text.proofs.markup.push_text.Given as goal

abbrev pub invariant-loop-b : goal.invariant-loop-b
invariant-loop-b l = l.text.items ++ escaped (drop l.b-index l.words) ≡ l.initial.text.items ++ escaped l.words
