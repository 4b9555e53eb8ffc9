-- What is known of a position, as four flags.
use Rattle.std.specs.Prelude.{◌≡◌, Bool, true, false, ◌&&◌, ◌||◌, not, IsTrue, Option, Some, None, if◌then◌else◌}
use Rattle.draughts_board.specs.Board.{other}
use Rattle.draughts_board.specs.declared.pieces.Side.{Side}
use Rattle.draughts_board.specs.declared.pieces.Side.TheVariants.{Black, White}
use Rattle.draughts_board.specs.declared.pieces.Value.{Value}
use Rattle.draughts_board.specs.declared.pieces.Value.TheVariants.{BlackWins, WhiteWins, Draw}

-- A side wins: it has a forced win. A side holds: the other side has none.
pub record Known : Type 0 where
  pub black_wins : Bool
  pub white_wins : Bool
  pub black_holds : Bool
  pub white_holds : Bool

-- a side that wins holds, and the other side then does not
pub record IsConsistent (facts : Known) : Type 0 where
  pub black : IsTrue facts.black_wins → IsTrue facts.black_holds × (facts.white_holds ≡ false)
  pub white : IsTrue facts.white_wins → IsTrue facts.white_holds × (facts.black_holds ≡ false)

abbrev pub knows_win : Side → Known → Bool
knows_win Black facts = facts.black_wins
knows_win White facts = facts.white_wins

abbrev pub knows_hold : Side → Known → Bool
knows_hold Black facts = facts.black_holds
knows_hold White facts = facts.white_holds

-- it is known whether the goal wins: it does, or the other side holds
abbrev pub is_decided : Side → Known → Bool
is_decided goal facts = knows_win goal facts || knows_hold (other goal) facts

abbrev pub nothing_known : Known
nothing_known =
    record { black_wins = false; white_wins = false; black_holds = false; white_holds = false }

-- a side's win is known, and so its hold
abbrev pub win_known : Side → Known
win_known Black =
    record { black_wins = true; white_wins = false; black_holds = true; white_holds = false }
win_known White =
    record { black_wins = false; white_wins = true; black_holds = false; white_holds = true }

-- a side's hold is known
abbrev pub hold_known : Side → Known
hold_known Black =
    record { black_wins = false; white_wins = false; black_holds = true; white_holds = false }
hold_known White =
    record { black_wins = false; white_wins = false; black_holds = false; white_holds = true }

-- a value is known, and so all four facts
abbrev pub value_known : Value → Known
value_known BlackWins = win_known Black
value_known WhiteWins = win_known White
value_known Draw =
    record { black_wins = false; white_wins = false; black_holds = true; white_holds = true }

-- the value, where what is known leaves one alone
abbrev pub known_value : Known → Option Value
known_value facts =
    (if facts.black_wins then Some BlackWins
    else (if facts.white_wins then Some WhiteWins
    else (if facts.black_holds && facts.white_holds then Some Draw else None)))

-- what is known by the one or by the other
abbrev pub joined : Known → Known → Known
joined a b =
    record {
      black_wins = a.black_wins || b.black_wins;
      white_wins = a.white_wins || b.white_wins;
      black_holds = a.black_holds || b.black_holds;
      white_holds = a.white_holds || b.white_holds;
    }

-- the first knows all that the second knows
abbrev pub includes : Known → Known → Bool
includes a b =
    (a.black_wins || not b.black_wins) && (a.white_wins || not b.white_wins)
    && (a.black_holds || not b.black_holds) && (a.white_holds || not b.white_holds)
