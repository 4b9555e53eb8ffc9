use Rattle.std.proofs.Common.{◌≡◌, ◌≤◌, ◌+◌, ◌++◌, drop}
use Rattle.journal_pages.specs.LineTexts.{moves_text}
use Rattle.journal_pages.proofs.line_texts.push_moves.Given as goal

abbrev pub invariant-loop-behind : goal.invariant-loop-behind
invariant-loop-behind l =
    (l.text.items ++ moves_text l.behind l.number l.side (drop l.behind l.moves) l.variations ≡ l.initial.text.items ++ moves_text 0 1 l.initial.side l.moves l.variations)
    × (l.number ≤ l.behind + 1)
