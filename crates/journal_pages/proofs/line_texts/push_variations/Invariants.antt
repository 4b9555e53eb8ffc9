use Rattle.std.proofs.Common.{◌≡◌, ◌++◌, drop}
use Rattle.journal_pages.specs.LineTexts.{variations_text}
use Rattle.journal_pages.proofs.line_texts.push_variations.Given as goal

abbrev pub invariant-loop-variation : goal.invariant-loop-variation
invariant-loop-variation l = l.text.items ++ variations_text l.behind l.number l.side (drop l.variation-index l.variations) ≡ l.initial.text.items ++ variations_text l.behind l.number l.side l.variations
