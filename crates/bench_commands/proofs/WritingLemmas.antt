-- What is written, of an output and of a refusal.
use Rattle.std.proofs.Common.{◌≡◌, ℕ, inl, inr, Bool, List, [], ◌++◌, Option, sym}
use Rattle.std.specs.Io.KnownBytes.{Appends}
use Rattle.std.proofs.lemmas.List.{append-nil}
use Rattle.bench_edges.specs.declared.status.Status.{Status}
use Rattle.bench_edges.specs.declared.status.Status.TheVariants.{Done, Unsolved, Words, Input, Disk, Journal, Memory, Read, Write}
use Rattle.opening_report.specs.Lines.{IsLine}
use Rattle.opening_report.specs.Refusals.{refusal_text}
use Rattle.opening_report.specs.Report.{ValuesAreTrue, SaysNoRoot}
use Rattle.opening_report.specs.declared.refusals.Refusal.{Refusal}
use Rattle.opening_report.proofs.ReportLemmas.{no_root-is_true, refusal_says_no_root}
use Rattle.program_edges.specs.Answers.{TakesLine, TakesOutput}
use Rattle.bench_commands.specs.Bench.{Finishes, WritesOnly}

-- ---- the line of a refusal

-- what is taken of a refusal's line says no root
pub line_says_none : (r : Refusal) (before after : Option (List ℕ)) (faults_before faults_after : ℕ) → IsLine (refusal_text r) → TakesLine (refusal_text r) before after faults_before faults_after → WritesOnly before after SaysNoRoot
line_says_none r before after fb fa line (inl taken) = (refusal_text r, (taken, refusal_says_no_root r (refusal_text r) [] line (sym (append-nil (refusal_text r)))))
line_says_none r before after fb fa line (inr part) = (part.1.0, (part.1.1.1.1.1, refusal_says_no_root r part.1.0 part.1.1.0 line part.1.1.1.0))

pub line_values : (r : Refusal) (before after : Option (List ℕ)) (faults_before faults_after : ℕ) → IsLine (refusal_text r) → TakesLine (refusal_text r) before after faults_before faults_after → WritesOnly before after ValuesAreTrue
line_values r before after fb fa line taken = (let none = line_says_none r before after fb fa line taken in (none.0, (none.1.0, no_root-is_true none.0 none.1.1)))

-- ---- an output

-- what every front of a text has, the part that is taken has
pub output_has : (P : List ℕ → Type 0) (text : List ℕ) (settled : Bool) (before after : Option (List ℕ)) → ((front back : List ℕ) → text ≡ front ++ back → P front) → (status : Status)
    → TakesOutput status text settled before after → WritesOnly before after P
output_has P text settled before after each Done h = (text, (h.1, each text [] (sym (append-nil text))))
output_has P text settled before after each Unsolved h = (text, (h.1, each text [] (sym (append-nil text))))
output_has P text settled before after each Write h = (h.0, (h.1.1.1.1, each h.0 h.1.0 h.1.1.0))
output_has P text settled before after each Memory h = absurd h
output_has P text settled before after each Words h = absurd h
output_has P text settled before after each Input h = absurd h
output_has P text settled before after each Disk h = absurd h
output_has P text settled before after each Journal h = absurd h
output_has P text settled before after each Read h = absurd h

pub output_whole : (text : List ℕ) (settled : Bool) (before after : Option (List ℕ)) (status : Status) → Finishes status → TakesOutput status text settled before after → Appends before after text
output_whole text settled before after Done f h = h.1
output_whole text settled before after Unsolved f h = h.1
output_whole text settled before after Write f h = absurd f
output_whole text settled before after Memory f h = absurd f
output_whole text settled before after Words f h = absurd f
output_whole text settled before after Input f h = absurd f
output_whole text settled before after Disk f h = absurd f
output_whole text settled before after Journal f h = absurd f
output_whole text settled before after Read f h = absurd f
