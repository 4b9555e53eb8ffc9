-- The games that were seen.
use Rattle.std.specs.Prelude.{◌≡◌, ℕ, List, ◌∷◌, ◌++◌, Contains, map, Option, Some, None}
use Rattle.game_reader.specs.declared.seen.Seen.{Seen}

-- the numbers of those that were the first with their text, in the order of their texts' keys
abbrev pub numbers_seen : Seen → List ℕ
numbers_seen seen = map (λ entry. entry.1) seen.games.entries

-- the new list is the old one with this number put in at some place
pub record IsPutIn (number : ℕ) (old new : List ℕ) : Type 0 where
  pub before : List ℕ
  pub behind : List ℕ
  pub was : old ≡ before ++ behind
  pub is : new ≡ before ++ number ∷ behind

-- A game that is the first with its text is kept with its number. Of another one the number that is
-- told is that of a game that was kept.
abbrev pub IsSeen : Seen → Seen → ℕ → Option ℕ → Type 0
IsSeen old new number None = IsPutIn number (numbers_seen old) (numbers_seen new)
IsSeen old new number (Some first) =
    Contains (numbers_seen old) first × (numbers_seen new ≡ numbers_seen old)
