use Rattle.std.proofs.Common.{◌≡◌, Bool, true, false, ◌&&◌, sym, ◌∙◌, ap, inl, inr, length, rules}
use Rattle.std.specs.Cmp.Lexicographic.{pointwise_decides}
use Rattle.std.proofs.lemmas.Bool.{true≢false, cases_Bool}
use Rattle.draughts_board.specs.Board.{Board, same_board, same_side}
use Rattle.draughts_board.specs.Masks.{masks_of, cells_in}
use Rattle.draughts_board.specs.Same.{same_board-Decides, same_cell-Decides}
use Rattle.draughts_board.proofs.FourMasks.{cells_in-masks_of}
use Rattle.draughts_board.proofs.positions.PositionPartialEq.eq.Goals as goal

-- where the masks are the same, the sides decide
masks_same : (p q : Board) → length p.cells ≡ 32 → length q.cells ≡ 32 → masks_of p ≡ masks_of q → (r : Bool) → r ≡ same_side p.to_move q.to_move → r ≡ same_board p q
masks_same p q size_p size_q masks r sides =
    let cells : p.cells ≡ q.cells = sym (cells_in-masks_of p size_p) ∙ ap cells_in masks ∙ cells_in-masks_of q size_q in
    sides ∙ ap (λ b. b && same_side p.to_move q.to_move) (sym ((pointwise_decides same_cell-Decides p.cells q.cells).1 cells))

-- where they are not, the boards differ
masks_differ : (p q : Board) (r : Bool) → r ≡ false → (masks_of p ≡ masks_of q → r ≡ true) → r ≡ same_board p q
masks_differ p q r no_match back = elim (cases_Bool (same_board p q)) [
  | inl same ↦ absurd (true≢false (sym (back (ap (λ (b : Board). masks_of b) ((same_board-Decides p q).0 same))) ∙ no_match))
  | inr differs ↦ no_match ∙ sym differs
]

pub returns-then-are_same : goal.returns-then-are_same
returns-then-are_same c =
    let sides : c.eq.result ≡ same_side c.self.inside.to_move c.other.inside.to_move = search rules in
    masks_same c.args.self.now c.args.other.now c.masks.ensures.lawful.squares c.masks-2.ensures.lawful.squares
    (sym c.masks.ensures.value ∙ c.are_same.ensures.0 c.if-are_same.true ∙ c.masks-2.ensures.value)
    c.eq.result
    (sides ∙ (λ i. same_side (ap (λ (p : Board). p.to_move) c.self.view_is i) (ap (λ (p : Board). p.to_move) c.other.view_is i)))

pub returns-else-are_same : goal.returns-else-are_same
returns-else-are_same c =
    masks_differ c.args.self.now c.args.other.now c.are_same.result c.if-are_same.false
    (λ same. c.are_same.ensures.1 (c.masks.ensures.value ∙ same ∙ sym c.masks-2.ensures.value))
