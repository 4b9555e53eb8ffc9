-- The line that a refused run writes, and its status.
use Rattle.std.specs.Prelude.{ℕ, List, [], ◌∷◌, ◌++◌, codes, decimal}
use Rattle.bench_edges.specs.declared.status.Status.{Status}
use Rattle.bench_edges.specs.declared.status.Status.TheVariants as status
use Rattle.journal_shortening.specs.declared.refusals.CompactRefusal.{CompactRefusal}
use Rattle.journal_shortening.specs.declared.refusals.CompactRefusal.TheVariants.{FromDisk, NotAJournal, Damaged, IntoDisk, NotFresh, Memory}
use Rattle.opening_report.specs.Refusals.{refusal_text}
use Rattle.opening_report.specs.declared.refusals.Refusal.TheVariants as refusal
use Rattle.journal_shorten.specs.declared.refusals.ShortenRefusal.{ShortenRefusal}
use Rattle.journal_shorten.specs.declared.refusals.ShortenRefusal.TheVariants.{Words, Journal}

abbrev pub not_fresh_line : ℕ → List ℕ
not_fresh_line length = codes "refused journal not-fresh " ++ (decimal length ++ 10 ∷ [])

-- of a journal that is refused, a disk that failed, or memory that ran out
abbrev pub journal_text : CompactRefusal → List ℕ
journal_text FromDisk = refusal_text refusal.Disk
journal_text NotAJournal = refusal_text refusal.NotAJournal
journal_text (Damaged at) = refusal_text (refusal.Damaged at)
journal_text IntoDisk = refusal_text refusal.Disk
journal_text (NotFresh length) = not_fresh_line length
journal_text (Memory error) = refusal_text refusal.Memory

abbrev pub journal_status : CompactRefusal → Status
journal_status FromDisk = status.Disk
journal_status NotAJournal = status.Journal
journal_status (Damaged at) = status.Journal
journal_status IntoDisk = status.Disk
journal_status (NotFresh length) = status.Journal
journal_status (Memory error) = status.Memory

abbrev pub shorten_text : ShortenRefusal → List ℕ
shorten_text (Words words) = refusal_text (refusal.Words words.at)
shorten_text (Journal cause) = journal_text cause

abbrev pub shorten_status : ShortenRefusal → Status
shorten_status (Words words) = status.Words
shorten_status (Journal cause) = journal_status cause
