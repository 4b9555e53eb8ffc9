-- The status of a refused run.
use Rattle.bench_edges.specs.declared.status.Status.{Status}
use Rattle.bench_edges.specs.declared.status.Status.TheVariants.{Words, Input, Disk, Journal, Memory, Read}
use Rattle.opening_report.specs.declared.refusals.Refusal.{Refusal}
use Rattle.opening_report.specs.declared.refusals.Refusal.TheVariants as refusal

-- the status of a run that is refused so
abbrev pub status_of : Refusal → Status
status_of (refusal.Words at) = Words
-- the source, and what it says
status_of refusal.TooLong = Input
status_of (refusal.PdnBadByte at) = Input
status_of (refusal.PdnOpenTag at) = Input
status_of (refusal.PdnOpenComment at) = Input
status_of (refusal.PdnOpenVariation at) = Input
status_of (refusal.PdnBadMove at) = Input
status_of refusal.PdnTooManyGames = Input
status_of (refusal.OtherGame game) = Input
status_of (refusal.Fen game why) = Input
status_of (refusal.Illegal game ply at) = Input
status_of (refusal.Ambiguous game ply at) = Input
status_of (refusal.TextBadLine line) = Input
status_of (refusal.TextBadFen line) = Input
status_of (refusal.TextDoubled line) = Input
status_of (refusal.TextAfterEnd line) = Input
status_of refusal.TextTruncated = Input
status_of refusal.ClaimNotMet = Input
status_of (refusal.BadRank part entry) = Input
status_of (refusal.BadMove part entry) = Input
status_of (refusal.Missing part entry) = Input
status_of (refusal.StuckHolder part entry) = Input
status_of (refusal.CheckNoRoot part) = Input
status_of refusal.TableBadHead = Input
status_of (refusal.TableWrongLength found due) = Input
status_of (refusal.TableBadEntry index kept) = Input
-- a root that is asked for, or one too many
status_of refusal.TooManyRoots = Input
status_of (refusal.NoRoot root) = Input
status_of (refusal.UnsettledRoot root) = Input
status_of (refusal.RootExpanded root) = Input
-- the disk, and the journal on it
status_of refusal.Disk = Disk
status_of refusal.NotAJournal = Journal
status_of (refusal.OtherTable found asked) = Journal
status_of (refusal.Damaged at) = Journal
status_of refusal.Memory = Memory
status_of refusal.Read = Read
