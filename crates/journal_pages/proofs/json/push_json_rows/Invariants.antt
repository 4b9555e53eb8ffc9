use Rattle.std.proofs.Common.{◌≡◌, ◌++◌, ◌+◌, drop}
use Rattle.journal_pages.specs.Json.{json_rows}
use Rattle.journal_pages.proofs.json.push_json_rows.Given as goal

abbrev pub invariant-loop-i : goal.invariant-loop-i
invariant-loop-i l = l.text.items ++ json_rows l.games (1 + l.i) (drop l.i l.rows) ≡ l.initial.text.items ++ json_rows l.games 1 l.rows
