-- A certificate that is refused is not good, and has one refusal. The checker's answers are exact.
use Rattle.std.proofs.Common.{◌≡◌, ◌⊎◌, inl, inr, ℕ, Bool, true, false, List, Option, Result, refl, sym, ◌∙◌, ap, subst}
use Rattle.std.specs.Prelude.{IfOk, IfErr}
use Rattle.std.specs.Bool.{OnFalse}
use Rattle.shared_words.specs.Answers.{IsExact}
use Rattle.shared_words.proofs.Exactness.{exact_from_one}
use Rattle.draughts_board.specs.Board.{Board}
use Rattle.strategy_certificate.specs.declared.oracle.Answer.{Answer}
use Rattle.strategy_certificate.specs.declared.certificates.Part.{Part}
use Rattle.strategy_certificate.specs.declared.certificates.Certificate.{Certificate}
use Rattle.strategy_certificate.specs.Certificates.{IsGoodPart, IsGoodBy}
use Rattle.certificate_checker.specs.declared.faults.EntryFault.TheVariants as fault
use Rattle.certificate_checker.specs.declared.faults.PartFault.{PartFault}
use Rattle.certificate_checker.specs.declared.faults.PartFault.TheVariants as wrong
use Rattle.certificate_checker.specs.declared.refusals.CheckRefusal.{CheckRefusal}
use Rattle.certificate_checker.specs.declared.refusals.CheckRefusal.TheVariants.{BadRank, BadMove, Missing, StuckHolder, NoRoot, ClaimNotMet, Memory}
use Rattle.certificate_checker.specs.Faults.{HasPartFault}
use Rattle.certificate_checker.specs.Refusals.{HasFaultAt, HasDueParts, IsPartRefused, IsRefusal, check_wants_memory, part_refusal_at}
use Rattle.certificate_checker.specs.Laws.{RefusedIsNotGood, OneRefusal}
use Rattle.certificate_checker.proofs.ListLemmas.{All-nth, one_failure}
use Rattle.certificate_checker.proofs.FaultLemmas.{faulty_part_is_not_good, one_part_fault}

module _ (answer : Board → Option Answer) where
  one_fault : (p : Board) (parts : List Part) (m n : ℕ) (f g : PartFault) → HasFaultAt answer p parts m f → HasFaultAt answer p parts n g → (m ≡ n) × (f ≡ g)
  one_fault p parts m n f g a b =
      let same = one_failure (IsGoodPart answer p) parts m n a.0 b.0 a.1.0 b.1.0
      (faulty_part_is_not_good answer p a.0 f a.1.1) (faulty_part_is_not_good answer p b.0 g b.1.1) in
      (same.0, one_part_fault answer p a.0 f g a.1.1 (subst (λ one. HasPartFault answer p one g) (sym same.1) b.1.1))

  module _ (c : Certificate) where
    -- why a certificate is refused: for its claim or for a part
    abbrev IsForClaim : CheckRefusal → Type 0
    IsForClaim refusal = (refusal ≡ ClaimNotMet) × (HasDueParts c → ⊥)

    abbrev IsForPart : CheckRefusal → Type 0
    IsForPart refusal = (n : ℕ) × ((f : PartFault) × ((refusal ≡ part_refusal_at n f) × IsPartRefused answer c n f))

    cause : (refusal : CheckRefusal) → IsRefusal answer c refusal → IsForClaim refusal ⊎ IsForPart refusal
    cause ClaimNotMet because = inl (refl, because)
    cause (StuckHolder n entry) because = inr (n, (wrong.Entry entry fault.StuckHolder, (refl, because)))
    cause (BadMove n entry) because = inr (n, (wrong.Entry entry fault.BadMove, (refl, because)))
    cause (Missing n entry q) because = inr (n, (wrong.Entry entry (fault.Missing q), (refl, because)))
    cause (BadRank n entry) because = inr (n, (wrong.Entry entry fault.BadRank, (refl, because)))
    cause (NoRoot n) because = inr (n, (wrong.NoRoot, (refl, because)))
    cause (Memory e) because = absurd because

    -- the refusal that is made of a fault is due
    pub refusal_at-due : (n : ℕ) (f : PartFault) → IsPartRefused answer c n f → IsRefusal answer c (part_refusal_at n f)
    refusal_at-due n (wrong.Entry entry fault.StuckHolder) because = because
    refusal_at-due n (wrong.Entry entry fault.BadMove) because = because
    refusal_at-due n (wrong.Entry entry (fault.Missing q)) because = because
    refusal_at-due n (wrong.Entry entry fault.BadRank) because = because
    refusal_at-due n wrong.NoRoot because = because

    not_good : (refusal : CheckRefusal) → IsForClaim refusal ⊎ IsForPart refusal → IsGoodBy answer c → ⊥
    not_good refusal (inl claim) good = claim.1 good.due
    not_good refusal (inr at) good =
        let found = at.1.1.1.1 in
        faulty_part_is_not_good answer c.position found.0 at.1.0 found.1.1 (All-nth (IsGoodPart answer c.position) c.parts at.0 found.0 found.1.0 good.parts)

    same : (one another : CheckRefusal) → IsForClaim one ⊎ IsForPart one → IsForClaim another ⊎ IsForPart another → one ≡ another
    same one another (inl a) (inl b) = a.0 ∙ sym b.0
    same one another (inl a) (inr b) = absurd (a.1 b.1.1.1.0)
    same one another (inr a) (inl b) = absurd (b.1 a.1.1.1.0)
    same one another (inr a) (inr b) =
        let equal = one_fault c.position c.parts a.0 b.0 a.1.0 b.1.0 a.1.1.1.1 b.1.1.1.1 in
        a.1.1.0 ∙ ap (λ n. part_refusal_at n a.1.0) equal.0 ∙ ap (part_refusal_at b.0) equal.1 ∙ sym b.1.1.0

pub refused_is_not_good : RefusedIsNotGood
refused_is_not_good answer c refusal because good = not_good answer c refusal (cause answer c refusal because) good

pub one_refusal : OneRefusal
one_refusal answer c one another a b = same answer c one another (cause answer c one a) (cause answer c another b)

-- ---- the answers of the checker

module _ (answer : Board → Option Answer) (c : Certificate) where
  abbrev pub IsAccepted : Certificate → Type 0
  IsAccepted proved = (proved ≡ c) × IsGoodBy answer c

  abbrev pub IsRefused : Certificate × CheckRefusal → Type 0
  IsRefused refused = (refused.0 ≡ c) × IsRefusal answer c refused.1

  pub exactly : (found : Result Certificate (Certificate × CheckRefusal)) → IfOk found IsAccepted → IfErr found (λ refused. OnFalse (check_wants_memory refused.1) (IsRefused refused))
      → IsExact (λ refused. check_wants_memory refused.1) IsAccepted IsRefused found
  exactly found good fault =
      exact_from_one (λ refused. check_wants_memory refused.1) IsAccepted IsRefused found good fault (λ a b x y. x.0 ∙ sym y.0)
      (λ a e x y. refused_is_not_good answer c e.1 y.1 x.1) (λ e f x y i. ((x.0 ∙ sym y.0) i, one_refusal answer c e.1 f.1 x.1 y.1 i))

  -- a refusal that is due is a fault
  pub due_fault : (refusal : CheckRefusal) → IsRefusal answer c refusal → OnFalse (check_wants_memory refusal) (IsRefused (c, refusal))
  due_fault refusal because = by (check_wants_memory refusal)
    where
      by : (b : Bool) → OnFalse b (IsRefused (c, refusal))
      by true = tt
      by false = (refl, because)
