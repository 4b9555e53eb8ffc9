use Rattle.std.proofs.Common.{◌≡◌, ◌++◌, drop, map}
use Rattle.page_text.specs.Markup.{markup_text}
use Rattle.page_text.specs.Plays.{figures, step_words}
use Rattle.page_text.proofs.plays.push_figures.Given as goal

abbrev pub invariant-loop-step : goal.invariant-loop-step
invariant-loop-step l = l.text.items ++ markup_text (figures (map step_words (drop l.step-index l.steps))) ≡ l.initial.text.items ++ markup_text (figures (map step_words l.steps))
