-- What becomes of a game on which a note is made.
use Rattle.archive_records.specs.declared.notes.Weight.{Weight}
use Rattle.archive_records.specs.declared.notes.Weight.TheVariants.{Fault, Doubt, Change}
use Rattle.archive_records.specs.declared.notes.NoteKind.{NoteKind}
use Rattle.archive_records.specs.declared.notes.NoteKind.TheVariants.{BadMove, HalfMove, OpenComment, OpenVariation, OtherGame, TwoPositions, BadPosition, EmptyGame, IllegalMove, SeveralMoves, BareTag, OddName, WordResult, OddGameType, BareFen, ChangedFen}

-- The game is left out where it cannot be read or played. It is written in other words where there is
-- one way to read it. All else may be read in another way.
abbrev pub weight_of : NoteKind → Weight
weight_of BadMove = Fault
weight_of HalfMove = Fault
weight_of OpenComment = Fault
weight_of OpenVariation = Fault
weight_of OtherGame = Fault
weight_of TwoPositions = Fault
weight_of BadPosition = Fault
weight_of EmptyGame = Fault
weight_of (IllegalMove ply) = Fault
weight_of (SeveralMoves ply) = Fault
weight_of BareTag = Change
weight_of OddName = Change
weight_of WordResult = Change
weight_of OddGameType = Change
weight_of BareFen = Change
weight_of ChangedFen = Change
weight_of other = Doubt
