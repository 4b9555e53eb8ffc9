-- The line that a refused run writes, and its status.
use Rattle.std.specs.Prelude.{ℕ, List, [], ◌∷◌, ◌++◌, codes, decimal}
use Rattle.bench_edges.specs.declared.status.Status.{Status}
use Rattle.bench_edges.specs.declared.status.Status.TheVariants.{Input}
use Rattle.certificate_text.specs.Lines.{side_word}
use Rattle.certificate_plays.specs.declared.refusals.LinesRefusal.{LinesRefusal}
use Rattle.certificate_plays.specs.declared.refusals.LinesRefusal.TheVariants as lines
use Rattle.journal_looks.specs.Conversions.{of_look}
use Rattle.journal_looks.specs.declared.refusals.LookRefusal.{LookRefusal}
use Rattle.opening_report.specs.Refusals.{refusal_text}
use Rattle.opening_report.specs.declared.refusals.Refusal.TheVariants as refusal
use Rattle.program_edges.specs.Statuses.{status_of}
use Rattle.certificate_plays.specs.declared.refusals.LineFault.{LineFault}
use Rattle.certificate_plays.specs.declared.refusals.LineFault.TheVariants.{BadLine, Illegal, Ambiguous, AfterEnd}
use Rattle.strategy_player.specs.declared.refusals.PlayRefusal.{PlayRefusal}
use Rattle.strategy_player.specs.declared.refusals.PlayRefusal.TheVariants.{Run, NotHeld, Line}

-- the end of the line on a line of the source
abbrev pub fault_words : LineFault → List ℕ
fault_words BadLine = codes " bad-line\n"
fault_words Illegal = codes " illegal\n"
fault_words Ambiguous = codes " ambiguous\n"
fault_words AfterEnd = codes " after-end\n"

abbrev pub play_text : PlayRefusal → List ℕ
play_text (Run refusal) = refusal_text refusal
play_text (NotHeld side) = codes "refused input not-held " ++ (side_word side ++ 10 ∷ [])
play_text (Line n p fault) = codes "refused input line " ++ (decimal n ++ fault_words fault)

abbrev pub play_status : PlayRefusal → Status
play_status (Run refusal) = status_of refusal
play_status (NotHeld side) = Input
play_status (Line n p fault) = Input

-- the refusal of a play
abbrev pub of_play : LinesRefusal → PlayRefusal
of_play (lines.NotHeld side) = NotHeld side
of_play (lines.Line n p fault) = Line n p fault
of_play (lines.Memory error) = Run refusal.Memory

-- the refusal of a look at the journal
abbrev pub of_journal_look : LookRefusal → PlayRefusal
of_journal_look refusal = Run (of_look refusal)
