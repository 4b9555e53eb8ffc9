-- A path of 2 to 13 squares, kept in an array of 13 whose other places hold 1.
use Rattle.std.specs.Prelude.{◌≡◌, ℕ, ◌-◌, ◌≤◌, List, ◌++◌, length, take, replicate, All}
use Rattle.std.proofs.Common.{arith, length-take}
use Rattle.draughts_board.specs.Geometry.{IsSquare}

abbrev pub padded : List ℕ → List ℕ
padded path = path ++ replicate (13 - length path) 1

pub record IsPadded (squares : List ℕ) (len : ℕ) : Type 0 where
  pub least : 2 ≤ len
  pub most : len ≤ 13
  pub full : length squares ≡ 13
  pub rest : padded (take len squares) ≡ squares
  pub each : All IsSquare (take len squares)

pub length-path : (squares : List ℕ) (len : ℕ) → IsPadded squares len
    → length (take len squares) ≡ len
length-path squares len h = omega (arith, length-take len squares, h.most, h.full)
