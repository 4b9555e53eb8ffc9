use Rattle.std.proofs.Common.{◌∙◌, sym, ap, subst, ◌∷◌, []}
use Rattle.draughts_board.specs.Board.{Board}
use Rattle.draughts_board.specs.Masks.{masks_of, AreMasksOf}
use Rattle.draughts_board.specs.MasksBack.{masks-back, apart-AreMasksOf}
use Rattle.draughts_board.proofs.positions.Position.masks.Goals as goal

pub returns-clause-value : goal.returns-clause-value
returns-clause-value c =
    let back = masks-back _ _ _ _ _ c.self.invariant in
    sym (λ i. back.0 i ∷ back.1 i ∷ back.2 i ∷ back.3 i ∷ []) ∙ ap (λ (p : Board). masks_of p) c.self.view_is

pub returns-clause-squares : goal.returns-clause-squares
returns-clause-squares c = subst (λ (p : Board). AreMasksOf p (c.self.inside.black_men ∷ c.self.inside.black_kings ∷ c.self.inside.white_men ∷ c.self.inside.white_kings ∷ [])) c.self.view_is (apart-AreMasksOf _ _ _ _ _ c.self.invariant.apart)
