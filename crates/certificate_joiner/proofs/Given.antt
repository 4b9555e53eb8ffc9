-- What a good certificate on the shelf gives: a good part for its position, by each sound table.
use Rattle.std.proofs.Common.{◌≡◌, ℕ, ◌≤◌, inl, inr, [], ◌∷◌, refl, sym, ◌∙◌, ap, subst, Option}
use Rattle.std.specs.Prelude.{Contains, All}
use Rattle.std.proofs.lemmas.List.Elements.{All-contains}
use Rattle.draughts_board.specs.Board.{Board}
use Rattle.draughts_board.specs.Draughts.{draughts}
use Rattle.draughts_board.specs.declared.pieces.Side.{Side}
use Rattle.draughts_board.specs.declared.pieces.Side.TheVariants.{Black, White}
use Rattle.draughts_board.proofs.Members.{Contains-head, Contains-tail, Contains-from_map}
use Rattle.strategy_certificate.specs.declared.oracle.Answer.{Answer}
use Rattle.strategy_certificate.specs.declared.entries.TheConstants.{MOST_FOUND_RANK}
use Rattle.strategy_certificate.specs.declared.claims.Claim.{Claim}
use Rattle.strategy_certificate.specs.declared.claims.Claim.TheVariants.{Win, Hold, Draw}
use Rattle.strategy_certificate.specs.declared.certificates.Part.{Part}
use Rattle.strategy_certificate.specs.declared.certificates.Part.TheVariants as part
use Rattle.strategy_certificate.specs.declared.certificates.Certificate.{Certificate}
use Rattle.strategy_certificate.specs.Tables.{IsSoundTable}
use Rattle.strategy_certificate.specs.Parts.{WinList, HoldList, hold_of}
use Rattle.strategy_certificate.specs.Certificates.{claim_of, due_claims, IsReached, IsGoodWinPart, IsHeld, IsGoodHoldPart, IsGoodPart}
use Rattle.strategy_certificate.proofs.PartLemmas.{good_by_each_table}
use Rattle.strategy_certificate.proofs.GoodMerges.{good_wins_hold}
use Rattle.certificate_joiner.specs.Growing.{IsReachedWithin}
use Rattle.strategy_certificate.specs.Claims.{TellsWin, TellsHold, HasShortRanks}
use Rattle.certificate_joiner.specs.Certified.{IsShelved}
use Rattle.certificate_joiner.proofs.LowRanks.{RanksAreLow}

-- what a part with this claim is
win_part : (one : Part) (s : Side) → claim_of one ≡ Win s → (list : WinList) × ((one ≡ part.Win list) × (list.side ≡ s))
win_part (part.Win list) s is = (list, (refl, (cc)))
win_part (part.Hold list) s is = absurd (cc)

hold_part : (one : Part) (s : Side) → claim_of one ≡ Hold s → (list : HoldList) × ((one ≡ part.Hold list) × (list.side ≡ s))
hold_part (part.Hold list) s is = (list, (refl, (cc)))
hold_part (part.Win list) s is = absurd (cc)

module _ (k : ℕ) (p : Board) (c : Certificate) (shelved : IsShelved k p c) where
  -- ---- the part with a claim that is due

  abbrev pub Found : Claim → Type 0
  Found claim = (one : Part) × (Contains c.parts one × (claim_of one ≡ claim))

  pub found_part : (claim due : Claim) → c.claim ≡ due → Contains (due_claims due) claim → Found claim
  found_part claim due is there =
      Contains-from_map claim_of c.parts claim (subst (λ cs. Contains cs claim) (sym (shelved.good.1.1.due ∙ ap due_claims is)) there)

  pub good_part : (answer : Board → Option Answer) → IsSoundTable draughts k answer → (one : Part) → Contains c.parts one → IsGoodPart answer p one
  good_part answer sound one there =
      let by_this = good_by_each_table c answer (subst (λ n. IsSoundTable draughts n answer) (sym shelved.pieces) sound) shelved.good in
      subst (λ q. IsGoodPart answer q one) shelved.position (All-contains (IsGoodPart answer c.position) c.parts one by_this.parts there)

  -- ---- a win

  pub record GivesWin (s : Side) : Type 0 where
    pub list : WinList
    pub side : list.side ≡ s
    pub inside : Contains c.parts (part.Win list)
    pub short : All (λ row. row.1.rank ≤ MOST_FOUND_RANK) list.entries
    pub good : (answer : Board → Option Answer) → IsSoundTable draughts k answer → IsGoodWinPart list answer
    pub here : (answer : Board → Option Answer) → IsSoundTable draughts k answer → (r : ℕ) × IsReached list answer r p

  pub win_from_part : (s : Side) → Found (Win s) → GivesWin s
  win_from_part s found =
      let known = win_part found.0 s found.1.1 in
      let there : Contains c.parts (part.Win known.0) = subst (Contains c.parts) known.1.0 found.1.0 in
      let brief = All-contains HasShortRanks c.parts (part.Win known.0) shelved.short there in
      record {
        list = known.0;
        side = known.1.1;
        inside = there;
        short = brief;
        good = λ answer sound. (good_part answer sound (part.Win known.0) there).0;
        here = λ answer sound. (good_part answer sound (part.Win known.0) there).1;
      }

  pub gives_win : (s : Side) → c.claim ≡ Win s → GivesWin s
  gives_win s is = win_from_part s (found_part (Win s) (Win s) is (Contains-head (Win s) []))

  -- the root is reached with a rank of at most 2^40
  pub root_within : (s : Side) → RanksAreLow k → (gives : GivesWin s) (answer : Board → Option Answer) → IsSoundTable draughts k answer → IsReachedWithin gives.list answer (MOST_FOUND_RANK) p
  root_within s low gives answer sound = by (gives.here answer sound).0 (gives.here answer sound).1
    where
      by : (r : ℕ) → IsReached gives.list answer r p → IsReachedWithin gives.list answer (MOST_FOUND_RANK) p
      by r (inl (e, (there, is))) = (e.rank, (All-contains (λ row. row.1.rank ≤ MOST_FOUND_RANK) gives.list.entries (p, e) gives.short there, inl (e, (there, refl))))
      by r (inr table) = (r, (low answer sound gives.list.side r p table, inr table))

  -- ---- a hold

  pub record GivesHold (s : Side) : Type 0 where
    pub list : HoldList
    pub side : list.side ≡ s
    pub good : (answer : Board → Option Answer) → IsSoundTable draughts k answer → IsGoodHoldPart list answer
    pub here : (answer : Board → Option Answer) → IsSoundTable draughts k answer → IsHeld list answer p

  pub hold_from_win : (s : Side) → GivesWin s → GivesHold s
  hold_from_win s win = record {
    list = hold_of win.list;
    side = win.side;
    good = λ answer sound. (good_wins_hold answer win.list (win.good answer sound)).0;
    here = λ answer sound. (good_wins_hold answer win.list (win.good answer sound)).1 (win.here answer sound).0 p (win.here answer sound).1;
  }

  pub hold_from_part : (s : Side) → Found (Hold s) → GivesHold s
  hold_from_part s found =
      let known = hold_part found.0 s found.1.1 in
      let there : Contains c.parts (part.Hold known.0) = subst (Contains c.parts) known.1.0 found.1.0 in
      record {
        list = known.0;
        side = known.1.1;
        good = λ answer sound. (good_part answer sound (part.Hold known.0) there).0;
        here = λ answer sound. (good_part answer sound (part.Hold known.0) there).1;
      }

  pub both_due : (s : Side) → Contains (due_claims Draw) (Hold s)
  both_due Black = Contains-head (Hold Black) (Hold White ∷ [])
  both_due White = Contains-tail (Hold Black) (Hold White) (Hold White ∷ []) (Contains-head (Hold White) [])

  claim_of_win : (s : Side) (claim : Claim) → TellsWin s claim → claim ≡ Win s
  claim_of_win s (Win t) is = ap Win is
  claim_of_win s (Hold t) is = absurd is
  claim_of_win s Draw is = absurd is

  pub gives_told_win : (s : Side) → TellsWin s c.claim → GivesWin s
  gives_told_win s tells = gives_win s (claim_of_win s c.claim tells)

  hold_by_claim : (s : Side) (claim : Claim) → c.claim ≡ claim → TellsHold s claim → GivesHold s
  hold_by_claim s (Win t) is tells = hold_from_win s (gives_win s (is ∙ ap Win tells))
  hold_by_claim s (Hold t) is tells =
      hold_from_part s (found_part (Hold s) (Hold s) (is ∙ ap Hold tells) (Contains-head (Hold s) []))
  hold_by_claim s Draw is tells = hold_from_part s (found_part (Hold s) Draw is (both_due s))

  pub gives_hold : (s : Side) → TellsHold s c.claim → GivesHold s
  gives_hold s tells = hold_by_claim s c.claim refl tells
