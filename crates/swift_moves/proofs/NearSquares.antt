-- The tables of the squares near each square, computed once over all pairs of squares.
use Rattle.std.proofs.Common.{◌≡◌, ℕ, ◌-◌, Bool, ◌&&◌, ◌||◌, List, [], ◌∷◌, get_or, refl, sym, ◌∙◌, ap}
use Rattle.draughts_board.specs.Geometry.{IsSquare, is_square, are_near}
use Rattle.draughts_board.specs.Rules.{may_go}
use Rattle.draughts_board.specs.declared.pieces.Side.{Side}
use Rattle.draughts_board.specs.declared.pieces.Side.TheVariants.{Black, White}
use Rattle.draughts_board.specs.declared.pieces.Cell.{Cell}
use Rattle.draughts_board.specs.declared.pieces.Cell.TheVariants.{Empty, Man, King}
use Rattle.draughts_board.specs.Masks.{IsMaskOf, stands_in}
use Rattle.draughts_board.proofs.Bits.{stands_in-or}
use Rattle.std.specs.Int.Bits.{bit_or}
use Rattle.swift_moves.proofs.Reach.{lies_near, pair_at}

-- a king goes the ways of both sides' men
king_near : (s : Side) (x z : ℕ) → IsSquare x → IsSquare z → (lies_near (Man White) x z || lies_near (Man Black) x z) ≡ lies_near (King s) x z
king_near s = pair_at (λ x z. lies_near (Man White) x z || lies_near (Man Black) x z) (lies_near (King s)) refl

pub both_near : (s : Side) (x up down : ℕ) → IsSquare x → IsMaskOf (lies_near (Man White) x) up → IsMaskOf (lies_near (Man Black) x) down → IsMaskOf (lies_near (King s) x) (bit_or up down)
both_near s x up down hx hu hd n h = stands_in-or up down n ∙ (λ i. hu n h i || hd n h i) ∙ king_near s x n hx h

-- ---- the tables

abbrev up_table : List ℕ
up_table = 0 ∷ 0 ∷ 0 ∷ 0 ∷ 1 ∷ 3 ∷ 6 ∷ 12 ∷ 48 ∷ 96 ∷ 192 ∷ 128 ∷ 256 ∷ 768 ∷ 1536 ∷ 3072 ∷ 12288 ∷ 24576 ∷ 49152 ∷ 32768 ∷ 65536 ∷ 196608 ∷ 393216 ∷ 786432 ∷ 3145728 ∷ 6291456 ∷ 12582912 ∷ 8388608 ∷ 16777216 ∷ 50331648 ∷ 100663296 ∷ 201326592 ∷ []

abbrev down_table : List ℕ
down_table = 48 ∷ 96 ∷ 192 ∷ 128 ∷ 256 ∷ 768 ∷ 1536 ∷ 3072 ∷ 12288 ∷ 24576 ∷ 49152 ∷ 32768 ∷ 65536 ∷ 196608 ∷ 393216 ∷ 786432 ∷ 3145728 ∷ 6291456 ∷ 12582912 ∷ 8388608 ∷ 16777216 ∷ 50331648 ∷ 100663296 ∷ 201326592 ∷ 805306368 ∷ 1610612736 ∷ 3221225472 ∷ 2147483648 ∷ 0 ∷ 0 ∷ 0 ∷ 0 ∷ []

-- the square stands in the mask that a table has for the square of this number
abbrev stands_by : List ℕ → ℕ → ℕ → Bool
stands_by table x z = stands_in (get_or table (x - 1) 0) z

pub up_near : (k x z : ℕ) → k ≡ x → IsSquare x → IsSquare z → stands_in (get_or up_table (k - 1) 0) z ≡ lies_near (Man White) x z
up_near k x z e hx hz = ap (λ y. stands_by up_table y z) e ∙ pair_at (stands_by up_table) (lies_near (Man White)) refl x z hx hz

pub down_near : (k x z : ℕ) → k ≡ x → IsSquare x → IsSquare z → stands_in (get_or down_table (k - 1) 0) z ≡ lies_near (Man Black) x z
down_near k x z e hx hz = ap (λ y. stands_by down_table y z) e ∙ pair_at (stands_by down_table) (lies_near (Man Black)) refl x z hx hz
