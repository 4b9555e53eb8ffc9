-- A piece of a source round a place.
use Rattle.std.specs.Prelude.{◌≡◌, ℕ, ◌+◌, ◌≤◌, List, ◌++◌, length, codes, slice_range, if◌then◌else◌}
use Rattle.std.specs.List.{flat_map}
use Rattle.terminal_text.specs.Shown.{is_printable, quoted}
use Rattle.terminal_text.specs.declared.excerpts.TheConstants.{EXCERPT_WIDTH}

-- The piece from one place to another holds this place or ends there, and is narrow.
pub record IsExcerpt (source : List ℕ) (at first behind : ℕ) : Type 0 where
  pub starts : first ≤ at
  pub ends : at ≤ behind
  pub within : behind ≤ length source
  pub narrow : behind ≤ first + EXCERPT_WIDTH

-- a blank for each sign that a byte of a source is shown as
abbrev pub blanks_for : ℕ → List ℕ
blanks_for b = if is_printable b then codes " " else codes "    "

-- Two lines: a piece of a source from `first` to `behind`, and a mark under the byte at a place of it.
abbrev pub excerpt_text : List ℕ → ℕ → ℕ → ℕ → List ℕ
excerpt_text source at first behind =
    codes "  " ++ (quoted (slice_range source first behind) ++ (codes "\n  "
    ++ (flat_map blanks_for (slice_range source first at) ++ codes "^\n")))

-- this is an excerpt round the byte at a place
abbrev pub IsExcerptText : List ℕ → ℕ → List ℕ → Type 0
IsExcerptText source at text =
    (first behind : ℕ) × (IsExcerpt source at first behind
    × (text ≡ excerpt_text source at first behind))
