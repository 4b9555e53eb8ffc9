-- `==` of positions is equality of what contracts see.
use Rattle.std.specs.Prelude.{◌≡◌, ℕ, ◌+◌, ◌*◌, ◌^◌, List, ◌++◌, Bool, true, refl}
use Rattle.std.specs.Hash as fed
use Rattle.draughts_board.specs.contracts.pieces.SideHash.TheImpl as side_hash
use Rattle.std.specs.Bool.{Decides}
use Rattle.std.proofs.Common.{sym, ap}
use Rattle.std.specs.Cmp.{IsEquivalence, IsPartialEquivalence, partial_equiv_from_equiv, first_so, second_so}
use Rattle.std.specs.Cmp.Derive.{both_true}
use Rattle.std.specs.Cmp.Lexicographic.{pointwise_decides}
use Rattle.std.proofs.lemmas.Bool.{false≢true}
use Rattle.std.proofs.lemmas.Bool.Decides.{same_from_decides}
use Rattle.draughts_board.specs.Board.{Board, same_side, same_cell, same_board}
use Rattle.draughts_board.specs.Masks.{mask_of}
use Rattle.draughts_board.specs.declared.pieces.Side.{Side}
use Rattle.draughts_board.specs.declared.pieces.Side.TheVariants.{Black, White}
use Rattle.draughts_board.specs.declared.pieces.Cell.{Cell}
use Rattle.draughts_board.specs.declared.pieces.Cell.TheVariants.{Empty, Man, King}

pub same_side-Decides : (s t : Side) → Decides (same_side s t) (s ≡ t)
same_side-Decides Black Black = (λ _. refl, λ _. refl)
same_side-Decides White White = (λ _. refl, λ _. refl)
same_side-Decides s t = (λ e. absurd (false≢true e), λ e. (cc))

pub same_cell-Decides : (a b : Cell) → Decides (same_cell a b) (a ≡ b)
same_cell-Decides Empty Empty = (λ _. refl, λ _. refl)
same_cell-Decides (Man s) (Man t) =
    (λ e. ap Man ((same_side-Decides s t).0 e), λ e. (same_side-Decides s t).1 cc)
same_cell-Decides (King s) (King t) =
    (λ e. ap King ((same_side-Decides s t).0 e), λ e. (same_side-Decides s t).1 cc)
same_cell-Decides a b = (λ e. absurd (false≢true e), λ e. (cc))

pub same_board-Decides : (p q : Board) → Decides (same_board p q) (p ≡ q)
same_board-Decides p q =
    let cells = pointwise_decides same_cell-Decides p.cells q.cells in
    let mover = same_side-Decides p.to_move q.to_move in (
      λ t. let c = cells.0 (first_so _ _ t) in
          let s = mover.0 (second_so _ _ t) in λ i. record { cells = c i; to_move = s i },
      λ h. both_true (cells.1 (ap (λ (b : Board). b.cells) h))
          (mover.1 (ap (λ (b : Board). b.to_move) h)),
    )

pub equiv_from_decides : {K : Type 0} (E : K → K → Bool) → ((x y : K) → Decides (E x y) (x ≡ y))
    → IsEquivalence E
equiv_from_decides E d = record {
  refl = λ x. (d x x).1 refl;
  symm = λ x y. same_from_decides (E x y) (E y x) (d x y)
      ((λ e. sym ((d y x).0 e), λ e. (d y x).1 (sym e)));
  congr = λ x y z e. ap (λ w. E w z) ((d x y).0 e);
}

pub same_board-equivalence : IsEquivalence same_board
same_board-equivalence = equiv_from_decides same_board same_board-Decides

pub same_board-laws : IsPartialEquivalence same_board
same_board-laws = partial_equiv_from_equiv same_board-equivalence

-- two numbers of 32 bits in one of 64
abbrev pub paired : ℕ → ℕ → ℕ
paired low high = low + 2 ^ 32 * high

-- what a position's hash reads: its four masks, two to a number, and the side to move
abbrev pub hash_input_of : Board → List (List ℕ)
hash_input_of p =
    fed.u64 (paired (mask_of (Man Black) p.cells) (mask_of (King Black) p.cells))
    ++ fed.u64 (paired (mask_of (Man White) p.cells) (mask_of (King White) p.cells))
    ++ (side_hash.ghosts).hash_input p.to_move

pub hash_input_of-respects : (p q : Board) → same_board p q ≡ true
    → hash_input_of p ≡ hash_input_of q
hash_input_of-respects p q e = ap hash_input_of ((same_board-Decides p q).0 e)
