-- A certificate of one part, and why the checker refuses it.
use Rattle.std.proofs.Common.{◌≡◌, ◌∙◌, ℕ, Bool, true, false, List, [], ◌∷◌, Option, Result, Ok, Err, refl, sym, ap}
use Rattle.std.specs.Prelude.{map}
use Rattle.std.specs.Bool.{OnFalse}
use Rattle.std.proofs.lemmas.List.Elements.{All-cons, All-nil}
use Rattle.draughts_board.specs.Board.{Board}
use Rattle.strategy_certificate.specs.declared.oracle.Answer.{Answer}
use Rattle.strategy_certificate.specs.declared.claims.Claim.{Claim}
use Rattle.strategy_certificate.specs.declared.certificates.Part.{Part}
use Rattle.strategy_certificate.specs.declared.certificates.Part.TheVariants as part
use Rattle.strategy_certificate.specs.declared.certificates.Certificate.{Certificate}
use Rattle.strategy_certificate.specs.Certificates.{claim_of, due_claims, IsGoodPart, IsGoodBy}
use Rattle.certificate_checker.specs.declared.refusals.CheckRefusal.{CheckRefusal}
use Rattle.certificate_checker.specs.Refusals.{check_wants_memory}

due_alone : (one : Part) → map claim_of (one ∷ []) ≡ due_claims (claim_of one)
due_alone (part.Win list) = refl
due_alone (part.Hold list) = refl

-- the certificate of a good part is good
pub good_alone : (answer : Board → Option Answer) (p : Board) (claim : Claim) (k : ℕ) (one : Part) (parts : List Part) → claim ≡ claim_of one → parts ≡ one ∷ []
    → IsGoodPart answer p one → IsGoodBy answer (record { position = p; claim = claim; pieces = k; parts = parts })
good_alone answer p claim k one parts claims alone good = record {
  due = ap (map claim_of) alone ∙ due_alone one ∙ ap due_claims (sym claims);
  parts = rw alone (All-cons (IsGoodPart answer p) one [] good (All-nil (IsGoodPart answer p)));
}

abbrev CheckAnswer : Type 0
CheckAnswer = Result Certificate (Certificate × CheckRefusal)

not_accepted : (c d : Certificate) (r : CheckRefusal) → ◌≡◌ {A = CheckAnswer} (Err (d, r)) (Ok c) → ⊥
not_accepted c d r h = cc

-- what is refused though it is good is refused for want of memory
pub refused_for_memory : (c d : Certificate) (r : CheckRefusal) → OnFalse (check_wants_memory r) (◌≡◌ {A = CheckAnswer} (Err (d, r)) (Ok c)) → check_wants_memory r ≡ true
refused_for_memory c d r h = by (check_wants_memory r) h
  where
    by : (b : Bool) → OnFalse b (◌≡◌ {A = CheckAnswer} (Err (d, r)) (Ok c)) → b ≡ true
    by true h = refl
    by false h = absurd (not_accepted c d r h)
