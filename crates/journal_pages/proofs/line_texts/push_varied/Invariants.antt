use Rattle.std.proofs.Common.{◌≡◌, ◌≤◌, ◌+◌, ◌++◌, drop}
use Rattle.journal_pages.specs.LineTexts.{varied_text}
use Rattle.journal_pages.proofs.line_texts.push_varied.Given as goal

abbrev pub invariant-loop-path : goal.invariant-loop-path
invariant-loop-path l =
    (l.text.items ++ varied_text l.number l.side (drop l.path-index l.moves) ≡ l.initial.text.items ++ varied_text l.initial.number l.initial.side l.moves)
    × (l.number ≤ l.path-index + l.initial.number)
