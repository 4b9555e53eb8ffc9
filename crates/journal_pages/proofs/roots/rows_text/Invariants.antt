use Rattle.std.proofs.Common.{◌≡◌, ◌++◌, ◌+◌, drop}
use Rattle.journal_pages.specs.Roots.{row_lines}
use Rattle.journal_pages.proofs.roots.rows_text.Given as goal

abbrev pub invariant-loop-i : goal.invariant-loop-i
invariant-loop-i l = l.text.items ++ row_lines l.games (1 + l.i) (drop l.i l.rows) ≡ row_lines l.games 1 l.rows
