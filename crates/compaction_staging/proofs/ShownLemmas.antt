-- The parts of a joined certificate, with short ranks, show the value.
use Rattle.std.proofs.Common.{Result, Ok, Err, IfOk, length-append, ◌++◌, ◌≡◌, ℕ, ◌≤◌, List, [], ◌∷◌, map, length, Option, refl, sym, ap, ◌∙◌, subst, arith}
use Rattle.std.specs.Prelude.{All}
use Rattle.std.proofs.lemmas.List.{length-map}
use Rattle.std.proofs.lemmas.List.Elements.{All-nil, All-cons, All-head, All-tail}
use Rattle.draughts_board.specs.Board.{Board}
use Rattle.draughts_board.specs.Draughts.{draughts}
use Rattle.draughts_board.specs.declared.pieces.Side.{Side}
use Rattle.draughts_board.specs.declared.pieces.Side.TheVariants.{Black, White}
use Rattle.draughts_board.specs.declared.pieces.Value.{Value}
use Rattle.draughts_board.specs.declared.pieces.Value.TheVariants.{BlackWins, WhiteWins, Draw}
use Rattle.strategy_certificate.specs.declared.oracle.Answer.{Answer}
use Rattle.strategy_certificate.specs.declared.claims.Claim.{Claim}
use Rattle.strategy_certificate.specs.declared.claims.Claim.TheVariants as claims
use Rattle.strategy_certificate.specs.declared.certificates.Certificate.{Certificate}
use Rattle.strategy_certificate.specs.declared.certificates.Part.{Part}
use Rattle.strategy_certificate.specs.declared.certificates.Part.TheVariants as parts
use Rattle.strategy_certificate.specs.Tables.{IsSoundTable}
use Rattle.strategy_certificate.specs.Claims.{HasShortRanks}
use Rattle.strategy_certificate.specs.Certificates.{claim_of, due_claims, IsGoodPart, IsGoodBy, IsGood}
use Rattle.proof_numbers.specs.Known.{value_known, win_known, nothing_known, joined}
use Rattle.certificate_checker.specs.Told.{facts_claimed, facts_shown}
use Rattle.certificate_joiner.specs.Certified.{IsJoined, IsShelved, claim_for}
use Rattle.bench_records.specs.Texts.{IsShown, ShowsEnough}
use Rattle.strategy_certificate.proofs.RankLemmas.{short_parts_are_good}
use Rattle.compaction_staging.specs.Shown.{IsShortPart, ShowsValue, of_part}

one_due : (part : Part) → map claim_of (part ∷ []) ≡ due_claims (claim_of part)
one_due (parts.Win list) = refl
one_due (parts.Hold list) = refl

one_claim : (part : Part) → map claim_of (part ∷ []) ≡ claim_of part ∷ []
one_claim part = refl

same_claim : (part short : Part) → IsShortPart part short → claim_of short ≡ claim_of part
same_claim (parts.Win list) (parts.Win short) h = (let s = h.0 in ap (λ w. claims.Win w) (ap (λ (x : _). x.side) s.is))
same_claim (parts.Win list) (parts.Hold short) h = absurd h
same_claim (parts.Hold list) (parts.Win short) h = absurd h
same_claim (parts.Hold list) (parts.Hold short) h = ap (λ (x : _). claims.Hold x.side) h

short_ranked : (part short : Part) → IsShortPart part short → HasShortRanks short
short_ranked (parts.Win list) (parts.Win short) h = h.1
short_ranked (parts.Win list) (parts.Hold short) h = absurd h
short_ranked (parts.Hold list) (parts.Win short) h = absurd h
short_ranked (parts.Hold list) (parts.Hold short) h = tt

module _ (k : ℕ) (few : k ≤ 3) (answer : Board → Option Answer) (sound : IsSoundTable draughts k answer) (p : Board) where
  short_good : (part short : Part) → IsShortPart part short → IsGoodPart answer p part → IsGoodPart answer p short
  short_good (parts.Win list) (parts.Win short) h good =
      let made = short_parts_are_good k answer few sound list short h.0 good.0 in (made.0, made.1 good.1.0 p good.1.1)
  short_good (parts.Win list) (parts.Hold short) h good = absurd h
  short_good (parts.Hold list) (parts.Win short) h good = absurd h
  short_good (parts.Hold list) (parts.Hold short) h good = subst (λ (x : _). IsGoodPart answer p (parts.Hold x)) (sym h) good

  pub shelved_one : (part short : Part) → IsShortPart part short → IsGoodPart answer p part → IsShelved k p (of_part p k short)
  shelved_one part short h good = record {
    position = refl;
    pieces = refl;
    good = (answer, (sound, record { due = one_due short; parts = All-cons (IsGoodPart answer p) short [] (short_good part short h good) (All-nil (IsGoodPart answer p)) }));
    short = All-cons HasShortRanks short [] (short_ranked part short h) (All-nil HasShortRanks);
  }

  shown_one : (part short : Part) → IsShortPart part short → IsShown k p (of_part p k short)
  shown_one part short h = record {
    position = refl;
    table = refl;
    claim = one_claim short;
    ranks = All-cons HasShortRanks short [] (short_ranked part short h) (All-nil HasShortRanks);
  }

  -- a joined certificate of one part, and of two
  pub shows_one : (v : Value) (part short : Part) → IsShortPart part short → IsGoodPart answer p part → facts_shown (of_part p k short ∷ []) ≡ value_known v → ShowsValue k p v (of_part p k short ∷ [])
  shows_one v part short h good tells = record {
    shelved = All-cons (IsShelved k p) (of_part p k short) [] (shelved_one part short h good) (All-nil (IsShelved k p));
    tells = tells;
    enough = λ n. (omega arith, (omega arith, All-cons (IsShown k p) (of_part p k short) [] (shown_one part short h) (All-nil (IsShown k p))));
  }

  pub shows_two : (v : Value) (first second a b : Part) → IsShortPart first a → IsShortPart second b → IsGoodPart answer p first → IsGoodPart answer p second
      → facts_shown (of_part p k a ∷ of_part p k b ∷ []) ≡ value_known v → ShowsValue k p v (of_part p k a ∷ of_part p k b ∷ [])
  shows_two v first second a b h i good fine tells = record {
    shelved = All-cons (IsShelved k p) (of_part p k a) (of_part p k b ∷ []) (shelved_one first a h good)
        (All-cons (IsShelved k p) (of_part p k b) [] (shelved_one second b i fine) (All-nil (IsShelved k p)));
    tells = tells;
    enough = λ n. (
      omega arith,
      (
        omega arith,
        All-cons (IsShown k p) (of_part p k a) (of_part p k b ∷ []) (shown_one first a h)
            (All-cons (IsShown k p) (of_part p k b) [] (shown_one second b i) (All-nil (IsShown k p))),
      ),
    );
  }

-- what they tell
pub tells_win : (k : ℕ) (p : Board) (s : Side) (part short : Part) → IsShortPart part short → claim_of part ≡ claims.Win s → facts_shown (of_part p k short ∷ []) ≡ joined (win_known s) nothing_known
tells_win k p s part short h is = ap (λ c. joined (facts_claimed c) nothing_known) (same_claim part short h ∙ is)

pub tells_draw : (k : ℕ) (p : Board) (first second a b : Part) → IsShortPart first a → IsShortPart second b → claim_of first ≡ claims.Hold Black → claim_of second ≡ claims.Hold White
    → facts_shown (of_part p k a ∷ of_part p k b ∷ []) ≡ value_known Draw
tells_draw k p first second a b h i is are = λ t. joined (facts_claimed ((same_claim first a h ∙ is) t)) (joined (facts_claimed ((same_claim second b i ∙ are) t)) nothing_known)

-- ---- from a joined certificate

no_two : (x a b : Claim) → x ∷ [] ≡ a ∷ b ∷ [] → ⊥
no_two x a b e = cc

first_is : (x a : Claim) (xs as' : List Claim) → x ∷ xs ≡ a ∷ as' → x ≡ a
first_is x a xs as' e = cc

rest_is : (x a : Claim) (xs as' : List Claim) → x ∷ xs ≡ a ∷ as' → xs ≡ as'
rest_is x a xs as' e = cc

one_part : (k : ℕ) → k ≤ 3 → (answer : Board → Option Answer) → IsSoundTable draughts k answer → (p : Board) (v : Value) (part short : Part) → IsShortPart part short
    → IsGoodPart answer p part → map claim_of (part ∷ []) ≡ due_claims (claim_for v) → ShowsValue k p v (of_part p k short ∷ [])
one_part k few answer sound p BlackWins part short h good due =
    shows_one k few answer sound p BlackWins part short h good (tells_win k p Black part short h (first_is (claim_of part) (claims.Win Black) [] [] due))
one_part k few answer sound p WhiteWins part short h good due =
    shows_one k few answer sound p WhiteWins part short h good (tells_win k p White part short h (first_is (claim_of part) (claims.Win White) [] [] due))
one_part k few answer sound p Draw part short h good due = absurd (no_two (claim_of part) (claims.Hold Black) (claims.Hold White) due)

two_parts : (k : ℕ) → k ≤ 3 → (answer : Board → Option Answer) → IsSoundTable draughts k answer → (p : Board) (v : Value) (first second a b : Part) → IsShortPart first a → IsShortPart second b
    → IsGoodPart answer p first → IsGoodPart answer p second → map claim_of (first ∷ second ∷ []) ≡ due_claims (claim_for v) → ShowsValue k p v (of_part p k a ∷ of_part p k b ∷ [])
two_parts k few answer sound p BlackWins first second a b h i good fine due = absurd (no_two (claims.Win Black) (claim_of first) (claim_of second) (sym due))
two_parts k few answer sound p WhiteWins first second a b h i good fine due = absurd (no_two (claims.Win White) (claim_of first) (claim_of second) (sym due))
two_parts k few answer sound p Draw first second a b h i good fine due =
    let head = first_is (claim_of first) (claims.Hold Black) (claim_of second ∷ []) (claims.Hold White ∷ []) due in
    let rest = rest_is (claim_of first) (claims.Hold Black) (claim_of second ∷ []) (claims.Hold White ∷ []) due in
    shows_two k few answer sound p Draw first second a b h i good fine
    (tells_draw k p first second a b h i head (first_is (claim_of second) (claims.Hold White) [] [] rest))

joined_good : (k : ℕ) (p : Board) (claim : Claim) (c : Certificate) (answer : Board → Option Answer) → IsJoined k p claim c → IsSoundTable draughts k answer → IsGoodBy answer c
joined_good k p claim c answer j sound = j.good answer (subst (λ n. IsSoundTable draughts n answer) (sym j.pieces) sound)

joined_due : (k : ℕ) (p : Board) (claim : Claim) (c : Certificate) (answer : Board → Option Answer) → IsJoined k p claim c → IsSoundTable draughts k answer → map claim_of c.parts ≡ due_claims claim
joined_due k p claim c answer j sound = let g = joined_good k p claim c answer j sound in g.due ∙ ap due_claims j.claims

joined_parts : (k : ℕ) (p : Board) (claim : Claim) (c : Certificate) (answer : Board → Option Answer) → IsJoined k p claim c → IsSoundTable draughts k answer → All (IsGoodPart answer p) c.parts
joined_parts k p claim c answer j sound = let g = joined_good k p claim c answer j sound in subst (λ q. All (IsGoodPart answer q) c.parts) j.position g.parts

abbrev pub Shows : Certificate → List Certificate → Type 0
Shows c shown = (k : ℕ) (p : Board) (v : Value) → k ≤ 3 → (answer : Board → Option Answer) → IsSoundTable draughts k answer → IsJoined k p (claim_for v) c → ShowsValue k p v shown

pub joined_one : {E : Type 0} (c : Certificate) (last : Part) → c.parts ≡ last ∷ [] → (made : Result (List Certificate) E)
    → IfOk made (λ shown. (short : Part) × (IsShortPart last short × (shown ≡ of_part c.position c.pieces short ∷ []))) → IfOk made (Shows c)
joined_one c last is (Err e) h = tt
joined_one c last is (Ok shown) (short, (h, made)) = λ k p v few answer sound j.
    let good = All-head (IsGoodPart answer p) last [] (subst (All (IsGoodPart answer p)) is (joined_parts k p (claim_for v) c answer j sound)) in
    let due = ap (map claim_of) (sym is) ∙ joined_due k p (claim_for v) c answer j sound in
    subst (ShowsValue k p v) (sym (made ∙ (λ i. of_part (j.position i) (j.pieces i) short ∷ []))) (one_part k few answer sound p v last short h good due)

pub joined_two : {E : Type 0} (c : Certificate) (first last : Part) → c.parts ≡ first ∷ last ∷ [] → (made : Result (List Certificate) E)
    → IfOk made (λ shown. (a : Part) × ((b : Part) × (IsShortPart first a × (IsShortPart last b × (shown ≡ of_part c.position c.pieces a ∷ of_part c.position c.pieces b ∷ []))))) → IfOk made (Shows c)
joined_two c first last is (Err e) h = tt
joined_two c first last is (Ok shown) (a, (b, (h, (i, made)))) = λ k p v few answer sound j.
    let all = subst (All (IsGoodPart answer p)) is (joined_parts k p (claim_for v) c answer j sound) in
    let good = All-head (IsGoodPart answer p) first (last ∷ []) all in
    let fine = All-head (IsGoodPart answer p) last [] (All-tail (IsGoodPart answer p) first (last ∷ []) all) in
    let due = ap (map claim_of) (sym is) ∙ joined_due k p (claim_for v) c answer j sound in
    subst (ShowsValue k p v) (sym (made ∙ (λ t. of_part (j.position t) (j.pieces t) a ∷ of_part (j.position t) (j.pieces t) b ∷ []))) (two_parts k few answer sound p v first last a b h i good fine due)

few_due : (v : Value) → (1 ≤ length (due_claims (claim_for v))) × (length (due_claims (claim_for v)) ≤ 2)
few_due BlackWins = (omega arith, omega arith)
few_due WhiteWins = (omega arith, omega arith)
few_due Draw = (omega arith, omega arith)

-- one part or two
pub few_parts : (k : ℕ) (p : Board) (v : Value) (c : Certificate) (answer : Board → Option Answer) → IsJoined k p (claim_for v) c → IsSoundTable draughts k answer
    → (1 ≤ length c.parts) × (length c.parts ≤ 2)
few_parts k p v c answer j sound =
    let same = ap length (joined_due k p (claim_for v) c answer j sound) in
    let long = length-map c.parts claim_of in
    let few = few_due v in
    (omega (arith, same, long, few.0), omega (arith, same, long, few.1))

pub none_before : (rest : List Part) (first last : Part) (all : List Part) → all ≡ (rest ++ first ∷ []) ++ last ∷ [] → length all ≤ 2 → all ≡ first ∷ last ∷ []
none_before [] first last all is few = is
none_before (x ∷ rest) first last all is few =
    absurd (let e = ap length is in let l = length-append (x ∷ rest ++ first ∷ []) (last ∷ []) in let m = length-append (x ∷ rest) (first ∷ []) in omega (arith, e, l, m, few))
