-- What `verify` writes, and what it refuses.
use Rattle.std.proofs.Common.{◌≡◌, ◌≢◌, ℕ, inl, inr, List, refl, sym, ◌∙◌, ap, subst, arith, get_or, take}
use Rattle.std.specs.Bool.{OnFalse}
use Rattle.std.specs.Prelude.{codes, Result, Ok, Err}
use Rattle.bench_edges.specs.declared.words.Command.TheVariants.{Verify}
use Rattle.draughts_board.specs.Board.{Board}
use Rattle.strategy_certificate.specs.declared.claims.Claim.{Claim}
use Rattle.strategy_certificate.specs.declared.certificates.Certificate.{Certificate}
use Rattle.certificate_checker.specs.Refusals.{IsRefusal, check_wants_memory as is_check_memory}
use Rattle.certificate_checker.specs.declared.refusals.CheckRefusal.{CheckRefusal}
use Rattle.certificate_checker.specs.declared.refusals.CheckRefusal.TheVariants as check
use Rattle.certificate_text.specs.Text.{ReadsAs}
use Rattle.certificate_text.specs.Refusals.{IsTextRefusal, text_wants_memory}
use Rattle.certificate_text.specs.declared.refusal.TextRefusal.{TextRefusal}
use Rattle.certificate_text.specs.declared.refusal.TextRefusal.TheVariants as text
use Rattle.endgame_table.specs.Entries.{IsTable, answers}
use Rattle.opening_report.specs.Conversions.{of_text, of_check}
use Rattle.opening_report.specs.Findings.{verified_text}
use Rattle.opening_report.specs.Lines.{IsLine}
use Rattle.opening_report.specs.declared.refusals.Refusal.TheVariants as refusal
use Rattle.opening_report.proofs.ReportLemmas.{no_root-is_true, other_line_says_no_root}
use Rattle.bench_commands.specs.Steps.{IsAnswerFault, SaysTrue}
use Rattle.bench_commands.specs.Verifying.{IsCheckedFault}

-- ---- want of memory

pub text_refused : (source : List ℕ) (r : TextRefusal) → OnFalse (text_wants_memory r) (IsTextRefusal source r) → IsAnswerFault Verify source (of_text r)
text_refused source (text.BadLine n) h = inr (inl (text.BadLine n, (refl, h)))
text_refused source (text.BadFen n) h = inr (inl (text.BadFen n, (refl, h)))
text_refused source (text.Doubled n) h = inr (inl (text.Doubled n, (refl, h)))
text_refused source text.Truncated h = inr (inl (text.Truncated, (refl, h)))
text_refused source (text.AfterEnd n) h = inr (inl (text.AfterEnd n, (refl, h)))
text_refused source (text.Memory error) h = inl refl

no_certificate : (c : Certificate) (r : TextRefusal) → ◌≡◌ {A = Result Certificate TextRefusal} (Err r) (Ok c) → ⊥
no_certificate c r h = cc

pub text_only : (c : Certificate) (r : TextRefusal) → OnFalse (text_wants_memory r) (◌≡◌ {A = Result Certificate TextRefusal} (Err r) (Ok c)) → of_text r ≡ refusal.Memory
text_only c (text.BadLine n) h = absurd (no_certificate c (text.BadLine n) h)
text_only c (text.BadFen n) h = absurd (no_certificate c (text.BadFen n) h)
text_only c (text.Doubled n) h = absurd (no_certificate c (text.Doubled n) h)
text_only c text.Truncated h = absurd (no_certificate c text.Truncated h)
text_only c (text.AfterEnd n) h = absurd (no_certificate c (text.AfterEnd n) h)
text_only c (text.Memory error) h = refl

pub same_certificate : (c d : Certificate) → ◌≡◌ {A = Result Certificate TextRefusal} (Ok c) (Ok d) → c ≡ d
same_certificate c d h = cc

-- the answer of the checker where it is not an acceptance
abbrev CheckAnswer : Type 0
CheckAnswer = Result Certificate (Certificate × CheckRefusal)

not_accepted : (c d : Certificate) (r : CheckRefusal) → ◌≡◌ {A = CheckAnswer} (Err (d, r)) (Ok c) → ⊥
not_accepted c d r h = cc

-- a certificate that is good is refused for want of memory alone
pub check_only : (c d : Certificate) (r : CheckRefusal) → OnFalse (is_check_memory r) (◌≡◌ {A = CheckAnswer} (Err (d, r)) (Ok c)) → of_check r ≡ refusal.Memory
check_only c d (check.Memory error) h = refl
check_only c d check.ClaimNotMet h = absurd (not_accepted c d check.ClaimNotMet h)
check_only c d (check.BadRank part entry) h = absurd (not_accepted c d (check.BadRank part entry) h)
check_only c d (check.BadMove part entry) h = absurd (not_accepted c d (check.BadMove part entry) h)
check_only c d (check.Missing part entry successor) h = absurd (not_accepted c d (check.Missing part entry successor) h)
check_only c d (check.StuckHolder part entry) h = absurd (not_accepted c d (check.StuckHolder part entry) h)
check_only c d (check.NoRoot part) h = absurd (not_accepted c d (check.NoRoot part) h)

-- ---- a certificate that is not good, by the table of the pieces that it names

faulty_by : (c : Certificate) (pieces : ℕ) (numbers : List ℕ) (r : CheckRefusal) → pieces ≡ c.pieces → IsTable pieces numbers → IsRefusal (answers pieces numbers) c r
    → IsCheckedFault c r
faulty_by c pieces numbers r same table h =
    (numbers, (subst (λ k. IsTable k numbers) same table, subst (λ k. IsRefusal (answers k numbers) c r) same h))

-- the checker refuses a certificate that a source spells
pub check_refused : (source : List ℕ) (c d : Certificate) (pieces : ℕ) (numbers : List ℕ) (r : CheckRefusal) → ReadsAs source c → pieces ≡ c.pieces → IsTable pieces numbers
    → OnFalse (is_check_memory r) ((d ≡ c) × IsRefusal (answers pieces numbers) c r) → IsAnswerFault Verify source (of_check r)
check_refused source c d pieces numbers r reads same table h = by r h
  where
    stands : (r : CheckRefusal) → IsRefusal (answers pieces numbers) c r → IsAnswerFault Verify source (of_check r)
    stands r because = inr (inr (c, (reads, (r, (refl, faulty_by c pieces numbers r same table because)))))

    by : (r : CheckRefusal) → OnFalse (is_check_memory r) ((d ≡ c) × IsRefusal (answers pieces numbers) c r) → IsAnswerFault Verify source (of_check r)
    by (check.Memory error) h = inl refl
    by check.ClaimNotMet h = stands check.ClaimNotMet h.1
    by (check.BadRank part entry) h = stands (check.BadRank part entry) h.1
    by (check.BadMove part entry) h = stands (check.BadMove part entry) h.1
    by (check.Missing part entry successor) h = stands (check.Missing part entry successor) h.1
    by (check.StuckHolder part entry) h = stands (check.StuckHolder part entry) h.1
    by (check.NoRoot part) h = stands (check.NoRoot part) h.1

-- ---- the line on a good certificate

not_root : (p : Board) (claim : Claim) → take 5 (verified_text p claim) ≢ codes "root "
not_root p claim same = let first : ◌≡◌ {A = ℕ} 118 114 = ap (λ t. get_or t 0 0) same in omega (arith, first)

pub verified_says : (p : Board) (claim : Claim) (line : List ℕ) → IsLine (verified_text p claim) → line ≡ verified_text p claim → SaysTrue line
verified_says p claim line one is front back whole = no_root-is_true front (other_line_says_no_root (verified_text p claim) front back one (not_root p claim) (sym is ∙ whole))
