-- Worked examples, one a field, on the White win in one: in W:W16,23:B12 the step 23-19 leaves
-- Black without a move.
use Rattle.std.specs.Prelude.{◌≡◌, ◌+◌, ◌^◌, ℕ, List, [], ◌∷◌, Option, Some, None, map}
use Rattle.draughts_board.specs.declared.pieces.Side.TheVariants.{Black, White}
use Rattle.draughts_board.specs.Board.{Board}
use Rattle.draughts_board.specs.Draughts.{draughts}
use Rattle.draughts_board.specs.Examples.{king_alone, man_blocked, man_to_block, man_to_lose}
use Rattle.strategy_certificate.specs.declared.oracle.Answer.{Answer}
use Rattle.strategy_certificate.specs.declared.oracle.Answer.TheVariants as answer
use Rattle.strategy_certificate.specs.declared.entries.WinEntry.{WinEntry}
use Rattle.strategy_certificate.specs.declared.claims.Claim.TheVariants.{Win, Hold, Draw}
use Rattle.strategy_certificate.specs.declared.certificates.Part.TheVariants as part
use Rattle.strategy_certificate.specs.Tables.{IsRight}
use Rattle.strategy_certificate.specs.Parts.{WinList, HoldList, merged_wins, merged_holds, hold_of}
use Rattle.strategy_certificate.specs.Places.{StandsAt}
use Rattle.strategy_certificate.specs.Certificates.{IsGoodWinPart, IsGoodHoldPart, IsGoodBy, claim_of, due_claims}
use Rattle.strategy_certificate.specs.Claims.{HasShortRanks}
use Rattle.strategy_certificate.specs.ShortRanks.{IsShortened}

-- a table that answers nothing: both positions have three pieces
abbrev pub no_answer : Board → Option Answer
no_answer p = None

abbrev pub with_rank : ℕ → Option (List ℕ) → WinEntry
with_rank rank chosen = record { rank = rank; chosen = chosen }

-- a White part
abbrev pub white_wins : List (Board × WinEntry) → WinList
white_wins entries = record { side = White; entries = entries }

-- the win in one, with this entry at its first position
abbrev pub begun_by : WinEntry → WinList
begun_by first = white_wins ((man_to_block, first) ∷ (man_blocked, with_rank 0 None) ∷ [])

abbrev pub win_in_one : WinList
win_in_one = begun_by (with_rank 1 (Some (23 ∷ 19 ∷ [])))

-- a hold part without entries
abbrev pub holds_nothing : HoldList
holds_nothing = record { side = Black; entries = [] }

-- ---- tables

pub record WorkedAnswers : Type 0 where
  -- A blocked player has lost at rank 0, whatever the table says elsewhere.
  pub blocked_lost : (a : Board → Option Answer) → IsRight draughts a man_blocked (answer.Loss 0)
  pub blocked_no_draw : (a : Board → Option Answer) → ¬ IsRight draughts a man_blocked answer.Draw
  pub blocked_no_win : (a : Board → Option Answer) (r : ℕ)
      → ¬ IsRight draughts a man_blocked (answer.Win r)
  pub blocked_no_later : (a : Board → Option Answer)
      → ¬ IsRight draughts a man_blocked (answer.Loss 1)
  -- The position before it is won at rank 1, and neither later nor drawn.
  pub to_block_won : (a : Board → Option Answer) → a man_blocked ≡ Some (answer.Loss 0)
      → IsRight draughts a man_to_block (answer.Win 1)
  pub to_block_no_later : (a : Board → Option Answer) → a man_blocked ≡ Some (answer.Loss 0)
      → ¬ IsRight draughts a man_to_block (answer.Win 2)
  pub to_block_no_draw : (a : Board → Option Answer) → a man_blocked ≡ Some (answer.Loss 0)
      → ¬ IsRight draughts a man_to_block answer.Draw

-- ---- parts

pub record WorkedParts : Type 0 where
  pub good : IsGoodWinPart win_in_one no_answer
  pub good_as_hold : IsGoodHoldPart (hold_of win_in_one) no_answer
  -- The rank does not fall, the move is left out, it is not legal, or the position after it is
  -- missing.
  pub level : ¬ IsGoodWinPart (begun_by (with_rank 0 (Some (23 ∷ 19 ∷ [])))) no_answer
  pub without_move : ¬ IsGoodWinPart (begun_by (with_rank 1 None)) no_answer
  pub backward : ¬ IsGoodWinPart (begun_by (with_rank 1 (Some (23 ∷ 27 ∷ [])))) no_answer
  pub alone :
      ¬ IsGoodWinPart (white_wins ((man_to_block, with_rank 1 (Some (23 ∷ 19 ∷ [])))
      ∷ [])) no_answer

pub record WorkedMerges : Type 0 where
  -- A smaller rank comes with its move, a new position goes last, and of equal ranks the one that
  -- was there stays.
  pub smaller_rank :
      merged_wins ((man_to_block, with_rank 7 (Some (16 ∷ 11 ∷ []))) ∷ []) win_in_one.entries
      ≡ win_in_one.entries
  pub equal_rank :
      merged_wins win_in_one.entries ((man_to_block, with_rank 1 (Some (16 ∷ 11 ∷ []))) ∷ [])
      ≡ win_in_one.entries
  pub greater_rank : merged_wins win_in_one.entries ((man_blocked, with_rank 2 None) ∷ [])
      ≡ win_in_one.entries
  -- Without ranks: both positions in this order, the first with its move. A hold that is there
  -- stays.
  pub as_hold : (hold_of win_in_one).entries
      ≡ (man_to_block, Some (23 ∷ 19 ∷ [])) ∷ (man_blocked, None) ∷ []
  pub into_none : merged_holds [] (hold_of win_in_one).entries ≡ (hold_of win_in_one).entries
  pub kept_hold :
      merged_holds ((man_to_block, Some (16 ∷ 11 ∷ [])) ∷ []) (hold_of win_in_one).entries
      ≡ (man_to_block, Some (16 ∷ 11 ∷ [])) ∷ (man_blocked, None) ∷ []

-- ---- places and ranks

pub record WorkedPlaces : Type 0 where
  -- Places are counted from 0, and no position stands at two.
  pub first : StandsAt win_in_one.entries 0 man_to_block
  pub second : StandsAt win_in_one.entries 1 man_blocked
  pub not_first : ¬ StandsAt win_in_one.entries 0 man_blocked
  pub past : ¬ StandsAt win_in_one.entries 2 man_blocked

-- four positions with these ranks
abbrev pub ranked : ℕ → ℕ → ℕ → ℕ → WinList
ranked a b c d =
    white_wins ((man_to_block, with_rank a None) ∷ (man_blocked, with_rank b None)
    ∷ (man_to_lose, with_rank c None) ∷ (king_alone, with_rank d None) ∷ [])

pub record WorkedRanks : Type 0 where
  -- Of 2^50, 7, 7 and 2^60 the second rank in order comes first, then the first twice, then the third.
  pub in_order : IsShortened (ranked (2 ^ 50) 7 7 (2 ^ 60))
      (ranked (2 ^ 32 + 1) (2 ^ 32) (2 ^ 32) (2 ^ 32 + 2))
  pub not_as_they_come : ¬ IsShortened (ranked (2 ^ 50) 7 7 (2 ^ 60))
      (ranked (2 ^ 32) (2 ^ 32 + 1) (2 ^ 32 + 1) (2 ^ 32 + 2))
  -- Ranks are short up to 2^40.
  pub at_most : HasShortRanks (part.Win (ranked (2 ^ 40) 7 7 0))
  pub one_more : ¬ HasShortRanks (part.Win (ranked 7 7 (2 ^ 40 + 1) 0))

-- ---- certificates

pub record WorkedCertificates : Type 0 where
  pub good :
      IsGoodBy no_answer
      (record {
        position = man_to_block;
        claim = Win White;
        pieces = 2;
        parts = part.Win win_in_one ∷ [];
      })
  -- A draw needs Black's hold and then White's.
  pub both_holds : map claim_of (part.Hold holds_nothing ∷ part.Hold (hold_of win_in_one) ∷ [])
      ≡ due_claims Draw
  pub one_hold : ¬ (map claim_of (part.Hold holds_nothing ∷ []) ≡ due_claims Draw)
  pub other_order : ¬ (map claim_of (part.Hold (hold_of win_in_one) ∷ part.Hold holds_nothing ∷ [])
      ≡ due_claims Draw)
  pub win_for_hold : ¬ (map claim_of (part.Win win_in_one ∷ []) ≡ due_claims (Hold White))
