-- Results as the strict profile writes them.
use Rattle.std.specs.Prelude.{Option, Some, None}
use Rattle.archive_records.specs.declared.game.FoundResult.{FoundResult}
use Rattle.archive_words.specs.declared.outcome.Outcome.{Outcome}
use Rattle.archive_words.specs.declared.outcome.Outcome.TheVariants.{FirstWins, SecondWins, Draw, BlackWins, WhiteWins, Unfinished}
use Rattle.strict_games.specs.declared.printing.Score.{Score}
use Rattle.strict_games.specs.declared.printing.Score.TheVariants as score

-- `*` where the game was not finished, and where words alone name who won
abbrev pub score_of_outcome : Outcome → Score
score_of_outcome FirstWins = score.OneNil
score_of_outcome SecondWins = score.NilOne
score_of_outcome Draw = score.Halves
score_of_outcome BlackWins = score.Unknown
score_of_outcome WhiteWins = score.Unknown
score_of_outcome Unfinished = score.Unknown

abbrev pub score_of : Option FoundResult → Score
score_of None = score.Unknown
score_of (Some found) = score_of_outcome found.outcome
