-- Places of a source.
use Rattle.std.specs.Prelude.{ℕ, ◌+◌, if◌then◌else◌}
use Rattle.archive_text.specs.Lines.{is_line_end}
use Rattle.archive_text.specs.declared.places.Place.{Place}

-- the line and the column behind a character that stands there
abbrev pub line_behind : Place → ℕ → ℕ
line_behind place letter = if is_line_end letter then place.line + 1 else place.line

abbrev pub column_behind : Place → ℕ → ℕ
column_behind place letter = if is_line_end letter then 1 else place.column + 1
