-- The line that counts roots says no value.
use Rattle.std.proofs.Common.{◌≡◌, ◌≢◌, ℕ, List, sym, ◌∙◌, ap, subst, arith, get_or, take}
use Rattle.std.specs.Prelude.{Bool, codes, IfOk, Result, Ok, Err}
use Rattle.draughts_board.specs.Board.{Board}
use Rattle.journal_runs.specs.Journals.{CountsRoots}
use Rattle.opening_report.specs.Lines.{IsLine}
use Rattle.opening_report.specs.Report.{summary_line}
use Rattle.opening_report.specs.declared.roots.Root.{Root}
use Rattle.opening_report.proofs.ReportLemmas.{no_root-is_true, other_line_says_no_root}
use Rattle.bench_commands.specs.Steps.{SaysTrue}

not_root : (roots : List Root) → take 5 (summary_line roots) ≢ codes "root "
not_root roots same = let fifth : ◌≡◌ {A = ℕ} 115 32 = ap (λ t. get_or t 4 0) same in omega (arith, fifth)

pub count_says : (positions : List Board) (text : List ℕ) (settled : Bool) → CountsRoots positions text settled → SaysTrue text
count_says positions text settled p front back whole =
    no_root-is_true front (other_line_says_no_root (summary_line p.roots) front back (subst IsLine p.text_is p.line) (not_root p.roots) (sym p.text_is ∙ whole))

-- the same of what a run writes, if it does
pub counts_say : {X E : Type 0} (positions : List Board) (r : Result X E) (text : X → List ℕ) (settled : X → Bool) → IfOk r (λ x. CountsRoots positions (text x) (settled x)) → IfOk r (λ x. SaysTrue (text x))
counts_say positions (Ok x) text settled h = count_says positions (text x) (settled x) h
counts_say positions (Err e) text settled h = tt
