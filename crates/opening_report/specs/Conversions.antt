-- What a run is refused for, where a crate below refuses: each of its refusals is one of the run's.
use Rattle.bench_edges.specs.declared.source.ReadRefusal.{ReadRefusal}
use Rattle.bench_edges.specs.declared.source.ReadRefusal.TheVariants as read
use Rattle.certificate_checker.specs.declared.refusals.CheckRefusal.{CheckRefusal}
use Rattle.certificate_checker.specs.declared.refusals.CheckRefusal.TheVariants as check
use Rattle.certificate_text.specs.declared.refusal.TextRefusal.{TextRefusal}
use Rattle.certificate_text.specs.declared.refusal.TextRefusal.TheVariants as text
use Rattle.disk_journal.specs.declared.refusal.JournalRefusal.{JournalRefusal}
use Rattle.disk_journal.specs.declared.refusal.JournalRefusal.TheVariants as journal
use Rattle.pdn_openings.specs.declared.refusal.OpeningRefusal.{OpeningRefusal}
use Rattle.pdn_openings.specs.declared.refusal.OpeningRefusal.TheVariants as opening
use Rattle.pdn_text.specs.declared.refusal.PdnRefusal.{PdnRefusal}
use Rattle.pdn_text.specs.declared.refusal.PdnRefusal.TheVariants as pdn
use Rattle.table_checker.specs.declared.refusal.TableRefusal.{TableRefusal}
use Rattle.table_checker.specs.declared.refusal.TableRefusal.TheVariants as table
use Rattle.opening_report.specs.declared.refusals.Refusal.{Refusal}
use Rattle.opening_report.specs.declared.refusals.Refusal.TheVariants as refusal

-- of a source that was not read to its end
abbrev pub of_read : ReadRefusal → Refusal
of_read read.TooLong = refusal.TooLong
of_read (read.Fault fault) = refusal.Read
of_read (read.Memory error) = refusal.Memory

-- of a text that is no PDN
abbrev pub of_pdn : PdnRefusal → Refusal
of_pdn (pdn.BadByte at) = refusal.PdnBadByte at
of_pdn (pdn.OpenTag at) = refusal.PdnOpenTag at
of_pdn (pdn.OpenComment at) = refusal.PdnOpenComment at
of_pdn (pdn.OpenVariation at) = refusal.PdnOpenVariation at
of_pdn (pdn.BadMove at) = refusal.PdnBadMove at
of_pdn pdn.TooManyGames = refusal.PdnTooManyGames
of_pdn (pdn.Memory error) = refusal.Memory

-- of games without openings
abbrev pub of_openings : OpeningRefusal → Refusal
of_openings (opening.OtherGame game) = refusal.OtherGame game
of_openings (opening.Fen game fault) = refusal.Fen game fault
of_openings (opening.Illegal game ply at) = refusal.Illegal game ply at
of_openings (opening.Ambiguous game ply at) = refusal.Ambiguous game ply at
of_openings (opening.Memory error) = refusal.Memory

-- of bytes that are no certificate's text
abbrev pub of_text : TextRefusal → Refusal
of_text (text.BadLine n) = refusal.TextBadLine n
of_text (text.BadFen n) = refusal.TextBadFen n
of_text (text.Doubled n) = refusal.TextDoubled n
of_text text.Truncated = refusal.TextTruncated
of_text (text.AfterEnd n) = refusal.TextAfterEnd n
of_text (text.Memory error) = refusal.Memory

-- of a certificate that is not good
abbrev pub of_check : CheckRefusal → Refusal
of_check check.ClaimNotMet = refusal.ClaimNotMet
of_check (check.BadRank part entry) = refusal.BadRank part entry
of_check (check.BadMove part entry) = refusal.BadMove part entry
of_check (check.Missing part entry successor) = refusal.Missing part entry
of_check (check.StuckHolder part entry) = refusal.StuckHolder part entry
of_check (check.NoRoot part) = refusal.CheckNoRoot part
of_check (check.Memory error) = refusal.Memory

-- of bytes that are no sound table
abbrev pub of_table : TableRefusal → Refusal
of_table table.BadHead = refusal.TableBadHead
of_table (table.WrongLength found due) = refusal.TableWrongLength found due
of_table (table.BadEntry index kept) = refusal.TableBadEntry index kept
of_table (table.Memory error) = refusal.Memory

-- of a disk that is not read as a journal
abbrev pub of_journal : JournalRefusal → Refusal
of_journal journal.DiskFault = refusal.Disk
of_journal journal.NotAJournal = refusal.NotAJournal
of_journal (journal.OtherTable found asked) = refusal.OtherTable found asked
of_journal (journal.Damaged at) = refusal.Damaged at
of_journal (journal.Memory error) = refusal.Memory
