-- What good parts and good certificates claim is true.
use Rattle.std.proofs.Common.{◌≡◌, ℕ, ◌<◌, ◌⊎◌, inl, inr, List, [], ◌∷◌, sym, subst, Option, Some, None, map}
use Rattle.std.specs.Prelude.{Contains, All}
use Rattle.std.proofs.lemmas.List.Elements.{All-contains, All-weaker, All-head}
use Rattle.draughts_board.specs.declared.pieces.Side.{Side}
use Rattle.draughts_board.specs.declared.pieces.Side.TheVariants.{Black, White}
use Rattle.draughts_board.specs.Board.{Board, IsLawful}
use Rattle.draughts_board.specs.Rules.{after}
use Rattle.draughts_board.specs.Play.{successors_of}
use Rattle.draughts_board.specs.Game.{CanForce, by_move, by_every_reply, WinsIn, Holds}
use Rattle.draughts_board.specs.Draughts.{draughts}
use Rattle.draughts_board.proofs.Members.{Contains-head, Contains-tail, Contains-from_map}
use Rattle.draughts_board.proofs.Successors.{successor-of_path, draughts_takes_turns}
use Rattle.draughts_board.proofs.Truth.{ranked_wins, closed_holds}
use Rattle.strategy_certificate.specs.declared.oracle.Answer.{Answer}
use Rattle.strategy_certificate.specs.declared.claims.Claim.{Claim}
use Rattle.strategy_certificate.specs.declared.claims.Claim.TheVariants.{Win, Hold, Draw}
use Rattle.strategy_certificate.specs.declared.certificates.Part.{Part}
use Rattle.strategy_certificate.specs.declared.certificates.Part.TheVariants as part
use Rattle.strategy_certificate.specs.declared.certificates.Certificate.{Certificate}
use Rattle.strategy_certificate.specs.Tables.{IsSoundTable}
use Rattle.strategy_certificate.specs.Parts.{WinList, HoldList, HasEntry}
use Rattle.strategy_certificate.specs.Certificates.{HasDueMove, due_positions, HasRank, IsReached, IsReachedBelow, IsGoodWinEntry, IsGoodWinPart, IsHeld, IsGoodHoldEntry, IsGoodHoldPart, claim_of, due_claims, IsGoodPart, IsGoodBy, IsTrueOf}
use Rattle.strategy_certificate.specs.Laws.{GoodWinPartsWin, GoodHoldPartsHold, GoodCertificatesAreTrue, GoodByEachTable}
use Rattle.strategy_certificate.proofs.Tables.{TableWins-wins, TableHolds-holds, sound_tables_agree}

-- who has the due move and goes on from each due position to F can force F
pub force_due : (s : Side) (F : Board → Type 0) (p : Board) (chosen : Option (List ℕ)) → IsLawful p → HasDueMove s p chosen → All F (due_positions p chosen) → CanForce draughts s F p
force_due s F p None lawful theirs all = by_every_reply theirs (λ q next. All-contains F (successors_of p) q all next)
force_due s F p (Some path) lawful mine all =
    by_move (after p path) mine.0 (successor-of_path p path lawful mine.1) (All-head F (after p path) [] all)

module _ (k : ℕ) (answer : Board → Option Answer) (sound : IsSoundTable draughts k answer) where
  module _ (part : WinList) (good : IsGoodWinPart part answer) where
    -- a lower rank, or a win as near
    abbrev RankedBelow : ℕ → Board → Type 0
    RankedBelow r q = (m : ℕ) × ((m < r) × (HasRank part m q ⊎ WinsIn draughts part.side m q))

    ranked_below : (r : ℕ) (q : Board) → IsReachedBelow part answer r q → RankedBelow r q
    ranked_below r q (m, (lt, inl entry)) = (m, (lt, inl entry))
    ranked_below r q (m, (lt, inr table)) = (m, (lt, inr (TableWins-wins draughts draughts_takes_turns k answer sound part.side m q table)))

    HasRank-forces : (r : ℕ) (p : Board) → HasRank part r p → CanForce draughts part.side (RankedBelow r) p
    HasRank-forces r p h =
        let entry = All-contains (λ row. IsGoodWinEntry part answer row.0 row.1) part.entries (p, h.0) good h.1.0 in
        subst (λ n. CanForce draughts part.side (RankedBelow n) p) h.1.1
        (force_due part.side (RankedBelow h.0.rank) p h.0.chosen entry.lawful entry.move
        (All-weaker (IsReachedBelow part answer h.0.rank) (RankedBelow h.0.rank) (ranked_below h.0.rank) (due_positions p h.0.chosen) entry.below))

    pub IsReached-wins : (r : ℕ) (p : Board) → IsReached part answer r p → WinsIn draughts part.side r p
    IsReached-wins r p (inl entry) = ranked_wins draughts part.side (HasRank part) HasRank-forces r p entry
    IsReached-wins r p (inr table) = TableWins-wins draughts draughts_takes_turns k answer sound part.side r p table

  module _ (part : HoldList) (good : IsGoodHoldPart part answer) where
    -- an entry of the part, or else a hold
    abbrev HasOrHolds : Board → Type 0
    HasOrHolds q = HasEntry part.entries q ⊎ Holds draughts part.side q

    held : (q : Board) → IsHeld part answer q → HasOrHolds q
    held q (inl entry) = inl entry
    held q (inr table) = inr (TableHolds-holds draughts draughts_takes_turns k answer sound part.side q table)

    HasEntry-forces : (p : Board) → HasEntry part.entries p → CanForce draughts part.side HasOrHolds p
    HasEntry-forces p h =
        let entry = All-contains (λ row. IsGoodHoldEntry part answer row.0 row.1) part.entries (p, h.0) good h.1 in
        force_due part.side HasOrHolds p h.0 entry.lawful entry.move
        (All-weaker (IsHeld part answer) HasOrHolds held (due_positions p h.0) entry.held)

    pub IsHeld-holds : (p : Board) → IsHeld part answer p → Holds draughts part.side p
    IsHeld-holds p (inl entry) = closed_holds draughts part.side (HasEntry part.entries) HasEntry-forces p entry
    IsHeld-holds p (inr table) = TableHolds-holds draughts draughts_takes_turns k answer sound part.side p table

  -- what a good part claims is true
  pub IsGoodPart-true : (p : Board) (one : Part) → IsGoodPart answer p one → IsTrueOf (claim_of one) p
  IsGoodPart-true p (part.Win list) good = (good.1.0, IsReached-wins list good.0 good.1.0 p good.1.1)
  IsGoodPart-true p (part.Hold list) good = IsHeld-holds list good.0 p good.1

  claims_true : (p : Board) (parts : List Part) → All (IsGoodPart answer p) parts → (c : Claim) → Contains (map claim_of parts) c → IsTrueOf c p
  claims_true p parts good c there =
      let found = Contains-from_map claim_of parts c there in
      subst (λ d. IsTrueOf d p) found.1.1 (IsGoodPart-true p found.0 (All-contains (IsGoodPart answer p) parts found.0 good found.1.0))

  due_true : (p : Board) (parts : List Part) → All (IsGoodPart answer p) parts → (c : Claim) → map claim_of parts ≡ due_claims c → IsTrueOf c p
  due_true p parts good (Win s) due =
      claims_true p parts good (Win s) (subst (λ cs. Contains cs (Win s)) (sym due) (Contains-head (Win s) []))
  due_true p parts good (Hold s) due =
      claims_true p parts good (Hold s) (subst (λ cs. Contains cs (Hold s)) (sym due) (Contains-head (Hold s) []))
  due_true p parts good Draw due = (
    claims_true p parts good (Hold Black) (subst (λ cs. Contains cs (Hold Black)) (sym due) (Contains-head (Hold Black) (Hold White ∷ []))),
    claims_true p parts good (Hold White) (subst (λ cs. Contains cs (Hold White)) (sym due) (Contains-tail (Hold Black) (Hold White) (Hold White ∷ []) (Contains-head (Hold White) []))),
  )

  pub IsGoodBy-true : (c : Certificate) → IsGoodBy answer c → IsTrueOf c.claim c.position
  IsGoodBy-true c good = due_true c.position c.parts good.parts c.claim good.due

pub good_win_parts_win : GoodWinPartsWin
good_win_parts_win = IsReached-wins

pub good_hold_parts_hold : GoodHoldPartsHold
good_hold_parts_hold = IsHeld-holds

pub good_certificates_are_true : GoodCertificatesAreTrue
good_certificates_are_true c good = IsGoodBy-true c.pieces good.0 good.1.0 c good.1.1

-- what is good by one sound table is good by each, since there is one
pub good_by_each_table : GoodByEachTable
good_by_each_table c answer sound good =
    let same : good.0 ≡ answer = λ i p. sound_tables_agree draughts c.pieces good.0 answer good.1.0 sound p i in
    subst (λ a. IsGoodBy a c) same good.1.1
