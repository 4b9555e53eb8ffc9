use Rattle.std.proofs.Common.{◌≡◌, ℕ, ◌<◌, List, [], ◌∷◌, length, refl, arith}
use Rattle.std.specs.Prelude.{fold}
use Rattle.draughts_board.specs.declared.pieces.Cell.{Cell}
use Rattle.draughts_board.specs.declared.pieces.Cell.TheVariants.{Empty}
use Rattle.draughts_board.specs.Rules.{jumped, put}
use Rattle.draughts_rules.proofs.next.+take_jumped.Goals as goal

-- a path of one square, or of none, jumps over nothing
nothing_jumped : (path : List ℕ) (cells : List Cell) → length path < 2 → cells ≡ fold (λ cells n. put cells n Empty) cells (jumped path)
nothing_jumped [] cells h = refl
nothing_jumped (x ∷ []) cells h = refl
nothing_jumped (x ∷ z ∷ rest) cells h = absurd (omega arith)

pub returns-in_default : goal.returns-in_default
returns-in_default t c = λ i. record { cells = nothing_jumped c.args.path.now c.args.p.now.cells c.in_default.len_below i; to_move = c.args.p.now.to_move }
