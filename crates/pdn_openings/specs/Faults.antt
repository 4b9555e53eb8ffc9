-- The games that have no opening, and why.
use Rattle.std.specs.Prelude.{◌≡◌, ℕ, suc, Bool, true, false, List, ◌∷◌, ◌++◌, length, take}
use Rattle.draughts_board.specs.Board.{Board}
use Rattle.draughts_board.specs.declared.resolution.ResolveRefusal.{ResolveRefusal}
use Rattle.draughts_board.specs.declared.resolution.ResolveRefusal.TheVariants as cause
use Rattle.pdn_openings.specs.Beginning.{is_other_game, BeginsFrom, HasRefusedFen}
use Rattle.pdn_openings.specs.Openings.{AreOpenings}
use Rattle.pdn_openings.specs.Playing.{StopAt}
use Rattle.pdn_openings.specs.declared.opening.Opening.{Opening}
use Rattle.pdn_openings.specs.declared.refusal.OpeningRefusal.{OpeningRefusal}
use Rattle.pdn_openings.specs.declared.refusal.OpeningRefusal.TheVariants.{OtherGame, Fen, Illegal, Ambiguous, Memory}
use Rattle.pdn_text.specs.declared.game.Game.{Game}
use Rattle.pdn_text.specs.declared.game.MoveText.{MoveText}

-- Of the game's first `plies` moves, the first that means no legal path in its position is that of
-- this ply.
abbrev pub StopsAt : ℕ → Game → ℕ → ℕ → ResolveRefusal → Type 0
StopsAt plies game ply at why =
    (start : Board) × (BeginsFrom game start × StopAt start (take plies game.moves) ply at why)

-- memory ran out
abbrev pub opening_wants_memory : OpeningRefusal → Bool
opening_wants_memory (Memory error) = true
opening_wants_memory other = false

-- The first fault of the game of this number: it is another game than English draughts; else its
-- FEN is none; else one of its moves is illegal or ambiguous, and those before it are neither.
abbrev pub IsOpeningFault : ℕ → ℕ → Game → OpeningRefusal → Type 0
IsOpeningFault plies number game (OtherGame n) = (n ≡ number) × (is_other_game game ≡ true)
IsOpeningFault plies number game (Fen n fault) =
    (n ≡ number) × (is_other_game game ≡ false) × HasRefusedFen game fault
IsOpeningFault plies number game (Illegal n ply at) =
    (n ≡ number) × (is_other_game game ≡ false) × StopsAt plies game ply at cause.Illegal
IsOpeningFault plies number game (Ambiguous n ply at) =
    (n ≡ number) × (is_other_game game ≡ false)
    × ((a b : List ℕ) × StopsAt plies game ply at (cause.Ambiguous a b))
IsOpeningFault plies number game (Memory error) = ⊥

-- The same of the moves alone, from the position that they are played on.
abbrev pub IsMoveFault : ℕ → Board → List MoveText → OpeningRefusal → Type 0
IsMoveFault number p moves (OtherGame n) = ⊥
IsMoveFault number p moves (Fen n fault) = ⊥
IsMoveFault number p moves (Illegal n ply at) = (n ≡ number) × StopAt p moves ply at cause.Illegal
IsMoveFault number p moves (Ambiguous n ply at) =
    (n ≡ number) × ((a b : List ℕ) × StopAt p moves ply at (cause.Ambiguous a b))
IsMoveFault number p moves (Memory error) = ⊥

-- the refusal of a move that means no legal one, for this cause
abbrev pub refusal_of : ResolveRefusal → ℕ → ℕ → ℕ → OpeningRefusal
refusal_of cause.Illegal number ply at = Illegal number ply at
refusal_of (cause.Ambiguous a b) number ply at = Ambiguous number ply at
refusal_of (cause.Memory error) number ply at = Memory error

-- The fault of the first game that has one: the games before it have openings. Games are numbered
-- from 1.
pub record OpeningFaultStandsFirst (plies : ℕ) (games : List Game)
    (fault : OpeningRefusal) : Type 0 where
  pub before : List Game
  pub openings : List Opening
  pub game : Game
  pub behind : List Game
  pub all : games ≡ before ++ game ∷ behind
  pub opened : AreOpenings plies before openings
  pub faulty : IsOpeningFault plies (suc (length before)) game fault
