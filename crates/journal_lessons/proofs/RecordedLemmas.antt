-- How a certificate is recorded.
use Rattle.std.proofs.Common.{◌≡◌, ◌∙◌, ◌≤◌, ℕ, suc, List, [], ◌∷◌, ◌++◌, map, length, inl, inr, refl, sym, ap, subst, arith}
use Rattle.std.specs.Prelude.{All}
use Rattle.std.proofs.lemmas.List.Elements.{All-nil, All-cons}
use Rattle.draughts_board.specs.Board.{Board}
use Rattle.strategy_certificate.specs.declared.claims.Claim.{Claim}
use Rattle.strategy_certificate.specs.declared.claims.Claim.TheVariants.{Win, Hold, Draw}
use Rattle.strategy_certificate.specs.declared.certificates.Part.{Part}
use Rattle.strategy_certificate.specs.declared.certificates.Part.TheVariants as part
use Rattle.strategy_certificate.specs.declared.certificates.Certificate.{Certificate}
use Rattle.strategy_certificate.specs.Parts.{WinList}
use Rattle.strategy_certificate.specs.Certificates.{claim_of, due_claims, IsGood}
use Rattle.strategy_certificate.specs.Claims.{HasShortRanks}
use Rattle.strategy_certificate.specs.ShortRanks.{IsShortened}
use Rattle.bench_records.specs.declared.records.BenchRecord.TheVariants.{Solve}
use Rattle.bench_records.specs.Texts.{IsShown, ShowsEnough}
use Rattle.certificate_checker.specs.OneParts.{with_part}
use Rattle.journal_lessons.specs.Lessons.{AreRecordedParts, IsRecordedAs, IsRecordedPart}

-- ---- a part

pub recorded_short : (one : Part) → HasShortRanks one → IsRecordedPart one one
recorded_short (part.Win w) fits = (w, (inl (fits, refl), (fits, refl)))
recorded_short (part.Hold h) fits = refl

pub recorded_long : (w short : WinList) → (HasShortRanks (part.Win w) → ⊥) → IsShortened w short → HasShortRanks (part.Win short) → IsRecordedPart (part.Win w) (part.Win short)
recorded_long w short long by fits = (short, (inr (long, by), (fits, refl)))

recorded_fits : (one kept : Part) → IsRecordedPart one kept → HasShortRanks kept
recorded_fits (part.Win w) kept (short, (how, (fits, is))) = subst HasShortRanks (sym is) fits
recorded_fits (part.Hold h) kept is = subst HasShortRanks (sym is) tt

-- ---- all of them

pub recorded_more : (k : ℕ) (p : Board) (parts : List Part) (shown : List Certificate) (one kept : Part) → AreRecordedParts k p parts shown → IsRecordedPart one kept
    → AreRecordedParts k p (parts ++ one ∷ []) (shown ++ with_part k p kept ∷ [])
recorded_more k p [] shown one kept are how = (kept, (how, ([], (ap (λ (l : List Certificate). l ++ with_part k p kept ∷ []) are, refl))))
recorded_more k p (x ∷ parts) shown one kept (y, (first, (rest, (is, others)))) how =
    (y, (first, (rest ++ with_part k p kept ∷ [], (ap (λ (l : List Certificate). l ++ with_part k p kept ∷ []) is, recorded_more k p parts rest one kept others how))))

recorded_count : (k : ℕ) (p : Board) (parts : List Part) (shown : List Certificate) → AreRecordedParts k p parts shown → length shown ≡ length parts
recorded_count k p [] shown are = ap length are
recorded_count k p (x ∷ parts) shown (y, (first, (rest, (is, others)))) = ap length is ∙ ap suc (recorded_count k p parts rest others)

-- each shows one claim, by short ranks
recorded_shown : (k : ℕ) (p : Board) (parts : List Part) (shown : List Certificate) → AreRecordedParts k p parts shown → All (IsShown k p) shown
recorded_shown k p [] shown are = subst (All (IsShown k p)) (sym are) (All-nil (IsShown k p))
recorded_shown k p (x ∷ parts) shown (y, (first, (rest, (is, others)))) =
    let one : IsShown k p (with_part k p y) = record {
      position = refl;
      table = refl;
      claim = refl;
      ranks = All-cons HasShortRanks y [] (recorded_fits x y first) (All-nil HasShortRanks);
    } in
    subst (All (IsShown k p)) (sym is) (All-cons (IsShown k p) (with_part k p y) rest one (recorded_shown k p parts rest others))

-- one part or two are due
abbrev IsFew : ℕ → Type 0
IsFew n = (1 ≤ n) × (n ≤ 4)

due_count : (claim : Claim) → IsFew (length (due_claims claim))
due_count (Win side) = (omega arith, omega arith)
due_count (Hold side) = (omega arith, omega arith)
due_count Draw = (omega arith, omega arith)

claims_count : (parts : List Part) → length (map claim_of parts) ≡ length parts
claims_count [] = refl
claims_count (x ∷ parts) = ap suc (claims_count parts)

-- a record that solves a node may show them
pub recorded_enough : (node : ℕ) (c : Certificate) (shown : List Certificate) → IsGood c → IsRecordedAs c shown → ShowsEnough c.pieces (Solve node c.position shown)
recorded_enough node c shown good are =
    let due : length (due_claims c.claim) ≡ length c.parts = sym (ap length good.1.1.due) ∙ claims_count c.parts in
    let count : length (due_claims c.claim) ≡ length shown = due ∙ sym (recorded_count c.pieces c.position c.parts shown are) in
    let few = subst IsFew count (due_count c.claim) in
    (few.0, (few.1, recorded_shown c.pieces c.position c.parts shown are))
