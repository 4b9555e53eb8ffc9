use Rattle.std.proofs.Common.{◌≡◌, ℕ, List, ◌∷◌, [], subst}
use Rattle.draughts_board.specs.Board.{Board, IsLawful}
use Rattle.draughts_board.specs.Masks.{AreMasksOf, MakePosition, board_in}
use Rattle.draughts_board.specs.MasksBack.{apart-AreMasksOf}
use Rattle.draughts_board.specs.Rules.{put}
use Rattle.draughts_board.proofs.FourMasks.{position-put}
use Rattle.draughts_board.proofs.positions.Position.with.Goals as goal

made : (c : goal.After-put_in-4) → MakePosition c.put_in.result c.put_in-2.result c.put_in-3.result c.put_in-4.result c.args.to_move
    × (board_in (c.put_in.result ∷ c.put_in-2.result ∷ c.put_in-3.result ∷ c.put_in-4.result ∷ []) c.args.to_move ≡ record { cells = put c.args.self.now.cells c.args.square c.args.cell; to_move = c.args.to_move })
made c =
    let masks : List ℕ = c.self.inside.black_men ∷ c.self.inside.black_kings ∷ c.self.inside.white_men ∷ c.self.inside.white_kings ∷ [] in
    let lawful : IsLawful c.args.self.now = subst IsLawful c.self.view_is c.self.invariant.lawful in
    let held : AreMasksOf c.args.self.now masks = subst (λ (p : Board). AreMasksOf p masks) c.self.view_is (apart-AreMasksOf _ _ _ _ _ c.self.invariant.apart) in
    position-put c.args.self.now c.args.square c.args.cell c.args.to_move masks _ _ _ _ lawful.squares c.put_in.ensures.square held
    c.put_in.type_inv c.put_in-2.type_inv c.put_in-3.type_inv c.put_in-4.type_inv
    c.put_in.ensures.put c.put_in-2.ensures.put c.put_in-3.ensures.put c.put_in-4.ensures.put c.requires

pub invariant_of-result : goal.invariant_of-result
invariant_of-result c = (made c).0

pub returns : goal.returns
returns c = (made c).1
