use Rattle.std.proofs.Common.{◌≡◌, ◌∙◌, sym, ap, subst, reverse, map, List}
use Rattle.draughts_board.specs.declared.pieces.Cell.{Cell}
use Rattle.draughts_board.specs.declared.pieces.Side.{Side}
use Rattle.draughts_board.specs.Board.{Board, IsLawful, turned, turned_cell, other}
use Rattle.draughts_board.proofs.Turned.{turned_is_lawful}
use Rattle.draughts_board.proofs.positions.Position.turned.Goals as goal

made : (p : Board) (cells colours rest : List Cell) (s : Side) → cells ≡ p.cells → colours ≡ map turned_cell cells → rest ≡ reverse colours → s ≡ other p.to_move → ◌≡◌ {A = Board} (record { cells = rest; to_move = s }) (turned p)
made p cells colours rest s d e f g = λ i. record { cells = (f ∙ ap reverse (e ∙ ap (map turned_cell) d)) i; to_move = g i }

pub of_lawful-requires : goal.of_lawful-requires
of_lawful-requires c =
    let p = c.args.self.now in
    subst IsLawful
    (sym (made p _ _ _ _ c.cells.ensures.value c.in_other_colours-cells.ensures c.reverse.ensures.after (c.other.ensures ∙ ap (λ (b : Board). other b.to_move) c.self.view_is)))
    (turned_is_lawful p c.cells.ensures.lawful)

pub returns : goal.returns
returns c =
    c.of_lawful.ensures
    ∙ made c.args.self.now _ _ _ _ c.cells.ensures.value c.in_other_colours-cells.ensures c.reverse.ensures.after (c.other.ensures ∙ ap (λ (b : Board). other b.to_move) c.self.view_is)
