-- A book of strategies, what it takes over, and what it answers.
use Rattle.std.specs.Prelude.{◌≡◌, ◌⊎◌, ◌↔◌, ℕ, IsTrue, List, [], ◌∷◌, Option, Some, None}
use Rattle.draughts_board.specs.Board.{Board}
use Rattle.draughts_board.specs.Game.{Wins, Holds}
use Rattle.draughts_board.specs.Draughts.{draughts}
use Rattle.draughts_board.specs.declared.pieces.Side.{Side}
use Rattle.draughts_board.specs.declared.pieces.Side.TheVariants.{Black, White}
use Rattle.strategy_certificate.specs.declared.oracle.Answer.{Answer}
use Rattle.strategy_certificate.specs.declared.claims.Claim.TheVariants.{Win, Hold}
use Rattle.strategy_certificate.specs.declared.certificates.Part.{Part}
use Rattle.strategy_certificate.specs.declared.certificates.Part.TheVariants as part
use Rattle.strategy_certificate.specs.declared.certificates.Certificate.{Certificate}
use Rattle.strategy_certificate.specs.Tables.{IsSoundTable, IsTableSize}
use Rattle.strategy_certificate.specs.Parts.{WinList, HoldList, HasEntry}
use Rattle.strategy_certificate.specs.Certificates.{IsGoodWinPart, IsGoodHoldPart}
use Rattle.strategy_certificate.specs.Claims.{HasShortRanks}
use Rattle.strategy_certificate.specs.Laws.{merged_win_list, merged_hold_list}
use Rattle.strategy_certificate.specs.ShortRanks.{IsShortened}
use Rattle.proof_numbers.specs.Known.{Known, knows_win, knows_hold}
use Rattle.proved_book.specs.Trimming.{IsTrimmedWin, IsTrimmedHold}

-- four parts for one table: a win part and a hold part for each side
pub record Strategies : Type 0 where
  pub pieces : ℕ
  pub black_wins : WinList
  pub white_wins : WinList
  pub black_holds : HoldList
  pub white_holds : HoldList

abbrev pub wins_of : Side → Strategies → WinList
wins_of Black b = b.black_wins
wins_of White b = b.white_wins

abbrev pub holds_of : Side → Strategies → HoldList
holds_of Black b = b.black_holds
holds_of White b = b.white_holds

-- ---- what it knows

-- the position is an entry of the side's win part
abbrev pub KnowsWin : Strategies → Side → Board → Type 0
KnowsWin b s p = HasEntry (wins_of s b).entries p

-- or of a part that shows that the side holds
abbrev pub KnowsHold : Strategies → Side → Board → Type 0
KnowsHold b s p = HasEntry (wins_of s b).entries p ⊎ HasEntry (holds_of s b).entries p

-- the facts are those that the position has by being an entry, with the holds that a win implies
pub record Knows (b : Strategies) (p : Board) (facts : Known) : Type 0 where
  pub wins : (s : Side) → IsTrue (knows_win s facts) ↔ KnowsWin b s p
  pub holds : (s : Side) → IsTrue (knows_hold s facts) ↔ KnowsHold b s p

-- each fact that is known is true
pub record AreTrueFacts (p : Board) (facts : Known) : Type 0 where
  pub wins : (s : Side) → IsTrue (knows_win s facts) → Wins draughts s p
  pub holds : (s : Side) → IsTrue (knows_hold s facts) → Holds draughts s p

-- ---- what it keeps

-- there is a sound table of k pieces
abbrev pub HasTable : ℕ → Type 0
HasTable k = (answer : Board → Option Answer) × IsSoundTable draughts k answer

-- the part is good by whichever sound table of k pieces is asked
abbrev pub IsGoodWinByEach : ℕ → WinList → Type 0
IsGoodWinByEach k w =
    (answer : Board → Option Answer) → IsSoundTable draughts k answer → IsGoodWinPart w answer

abbrev pub IsGoodHoldByEach : ℕ → HoldList → Type 0
IsGoodHoldByEach k h =
    (answer : Board → Option Answer) → IsSoundTable draughts k answer → IsGoodHoldPart h answer

abbrev pub IsGoodByEach : ℕ → Part → Type 0
IsGoodByEach k (part.Win w) = IsGoodWinByEach k w
IsGoodByEach k (part.Hold h) = IsGoodHoldByEach k h

-- The table is of two or three pieces, and exists where anything is known. Each part is of its side
-- and good, and the ranks are short.
pub record IsBook (b : Strategies) : Type 0 where
  pub size : IsTableSize b.pieces
  pub table : (s : Side) (p : Board) → KnowsHold b s p → HasTable b.pieces
  pub win_sides : (s : Side) → (wins_of s b).side ≡ s
  pub hold_sides : (s : Side) → (holds_of s b).side ≡ s
  pub good_wins : (s : Side) → IsGoodWinByEach b.pieces (wins_of s b)
  pub good_holds : (s : Side) → IsGoodHoldByEach b.pieces (holds_of s b)
  pub short : (s : Side) → HasShortRanks (part.Win (wins_of s b))

abbrev pub empty_book : ℕ → Strategies
empty_book k = record {
  pieces = k;
  black_wins = record { side = Black; entries = [] };
  white_wins = record { side = White; entries = [] };
  black_holds = record { side = Black; entries = [] };
  white_holds = record { side = White; entries = [] };
}

-- ---- what it takes over

-- the side's part with this one merged into it
abbrev pub with_win : Side → WinList → Strategies → Strategies
with_win Black w b = record b { black_wins = merged_win_list b.black_wins w }
with_win White w b = record b { white_wins = merged_win_list b.white_wins w }

abbrev pub with_hold : Side → HoldList → Strategies → Strategies
with_hold Black h b = record b { black_holds = merged_hold_list b.black_holds h }
with_hold White h b = record b { white_holds = merged_hold_list b.white_holds h }

-- a win part as it is kept: one that is not short by its short ranks
abbrev pub IsKeptAs : WinList → WinList → Type 0
IsKeptAs w kept =
    (HasShortRanks (part.Win w) × (kept ≡ w))
    ⊎ ((HasShortRanks (part.Win w) → ⊥) × IsShortened w kept)

-- the book after it takes over the part
abbrev pub TakesOver : Strategies → Part → Strategies → Type 0
TakesOver b (part.Win w) after =
    (kept : WinList) × (IsKeptAs w kept × (after ≡ with_win w.side kept b))
TakesOver b (part.Hold h) after = after ≡ with_hold h.side h b

-- .. each of the parts, in order
abbrev pub TakesOverAll : Strategies → List Part → Strategies → Type 0
TakesOverAll b [] after = after ≡ b
TakesOverAll b (one ∷ more) after =
    (next : Strategies) × (TakesOver b one next × TakesOverAll next more after)

-- ---- what it answers

-- the certificate of the side's win of the position, its part trimmed
abbrev pub IsWinOf : Strategies → Side → Board → Certificate → Type 0
IsWinOf b s p c = (kept : WinList) × (IsTrimmedWin (wins_of s b) p kept
    × (c ≡ record { position = p; claim = Win s; pieces = b.pieces; parts = part.Win kept ∷ [] }))

-- that of its hold
abbrev pub IsHoldOf : Strategies → Side → Board → Certificate → Type 0
IsHoldOf b s p c = (kept : HoldList) × (IsTrimmedHold (holds_of s b) p kept
    × (c ≡ record { position = p; claim = Hold s; pieces = b.pieces; parts = part.Hold kept ∷ [] }))

-- a win is known, and this is its certificate alone
pub record IsAnsweredByWin (b : Strategies) (p : Board) (found : List Certificate) : Type 0 where
  pub side : Side
  pub known : KnowsWin b side p
  pub won : Certificate
  pub is_won : IsWinOf b side p won
  pub all : found ≡ won ∷ []

-- no win is known, and both holds are: these are the certificates of Black's and of White's
pub record IsAnsweredByHolds (b : Strategies) (p : Board) (found : List Certificate) : Type 0 where
  pub no_win : (s : Side) → KnowsWin b s p → ⊥
  pub known : (s : Side) → KnowsHold b s p
  pub black : Certificate
  pub is_black : IsHoldOf b Black p black
  pub white : Certificate
  pub is_white : IsHoldOf b White p white
  pub all : found ≡ black ∷ white ∷ []

-- nothing is answered exactly where no win and not both holds are known
abbrev pub IsAnsweredBy : Strategies → Board → Option (List Certificate) → Type 0
IsAnsweredBy b p None =
    ((s : Side) → KnowsWin b s p → ⊥) × (KnowsHold b Black p → KnowsHold b White p → ⊥)
IsAnsweredBy b p (Some found) = IsAnsweredByWin b p found ⊎ IsAnsweredByHolds b p found
