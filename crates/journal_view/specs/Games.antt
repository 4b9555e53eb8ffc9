-- The games on standard input, for a request that shows which of them lead to a root.
use Rattle.std.specs.Prelude.{◌≡◌, ◌⊎◌, ℕ, List, Option, Some, None, IfSome, IsSomeAnd, unwrap_or}
use Rattle.opened_games.specs.Opened.{Opened}
use Rattle.opening_report.specs.declared.refusals.Refusal.{Refusal}
use Rattle.opening_report.specs.declared.refusals.Refusal.TheVariants as refusal
use Rattle.program_edges.specs.Games.{HasGamesFault, OpensGames}
use Rattle.program_edges.specs.Sources.{IsCutShort, IsInput}
use Rattle.program_edges.specs.declared.sources.TheConstants.{MOST_GAMES_BYTES}
use Rattle.view_words.specs.declared.requests.Request.{Request}
use Rattle.view_words.specs.declared.requests.Request.TheVariants.{Roots, Line, Tree, Page, Records}
use Rattle.view_words.specs.declared.requests.TheConstants.{MOST_PLAYED}

-- ---- of a source

-- the games of a source, which was read to its end
abbrev pub OpensSource : ℕ → Option (List ℕ) → Opened → Type 0
OpensSource plies source opened =
    (text : List ℕ) × (IsInput (Some MOST_GAMES_BYTES) source text
    × OpensGames plies text opened.games opened.openings)

-- The source was cut short; or it was read, and memory ran out or its text has no openings.
abbrev pub IsRefusedSource : ℕ → Option (List ℕ) → Option (List ℕ) → ℕ → ℕ → Refusal → Type 0
IsRefusedSource plies source rest before after r =
    IsCutShort (Some MOST_GAMES_BYTES) source rest before after r
    ⊎ ((text : List ℕ) × (IsInput (Some MOST_GAMES_BYTES) source text
    × ((r ≡ refusal.Memory) ⊎ HasGamesFault plies text r)))

-- ---- by what is asked

-- how many plies of each game are played; none where no games are asked
abbrev pub played : Request → Option ℕ
played (Roots asked) = Some (unwrap_or asked.plies MOST_PLAYED)
played (Line asked) = None
played (Tree asked) = None
played (Page asked) = None
played (Records asked) = None

-- the games of the source, where games are asked
abbrev pub HasGames : Request → Option (List ℕ) → Opened → Type 0
HasGames request source opened = IfSome (played request) (λ plies. OpensSource plies source opened)

-- games are asked, and those of the source are refused for this
abbrev pub HasNoGames : Request → Option (List ℕ) → Option (List ℕ) → ℕ → ℕ → Refusal → Type 0
HasNoGames request source rest before after r =
    IsSomeAnd (played request) (λ plies. IsRefusedSource plies source rest before after r)
