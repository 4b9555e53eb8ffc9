-- What is counted of an archive.
use Rattle.std.specs.Prelude.{Bool, true, false}
use Rattle.shared_words.specs.Counts.{one_more}
use Rattle.archive_records.specs.declared.notes.Weight.{Weight}
use Rattle.archive_records.specs.declared.notes.Weight.TheVariants.{Fault, Doubt, Change}
use Rattle.game_reader.specs.declared.telling.Counts.{Counts}

abbrev pub no_counts : Counts
no_counts = record { games = 0; left_out = 0; faults = 0; doubts = 0; changes = 0 }

-- one game more, which is written or left out
abbrev pub with_game : Bool → Counts → Counts
with_game true counts = record counts { games = one_more counts.games }
with_game false counts =
    record counts { games = one_more counts.games; left_out = one_more counts.left_out }

-- one note more of this weight
abbrev pub with_note : Weight → Counts → Counts
with_note Fault counts = record counts { faults = one_more counts.faults }
with_note Doubt counts = record counts { doubts = one_more counts.doubts }
with_note Change counts = record counts { changes = one_more counts.changes }
