use Rattle.std.proofs.Common.{◌≡◌, ℕ, true, List, ◌∷◌, [], sym, ◌∙◌, subst, get_or, rules}
use Rattle.draughts_board.specs.Board.{IsLawful}
use Rattle.draughts_board.specs.Masks.{are_apart, board_in, MakePosition}
use Rattle.draughts_board.specs.MasksBack.{masks-back}
use Rattle.draughts_board.proofs.FourMasks.{four}
use Rattle.draughts_board.proofs.positions.Position.of_apart.Goals as goal

pub returns-clause-masks : goal.returns-clause-masks
returns-clause-masks c =
    let masks : List ℕ = c.args.masks.now in
    let listed = four masks c.told-masks in
    let made : MakePosition (get_or masks 0 0) (get_or masks 1 0) (get_or masks 2 0) (get_or masks 3 0) c.args.to_move = record {
      fits_black_men = search rules;
      fits_black_kings = search rules;
      fits_white_men = search rules;
      fits_white_kings = search rules;
      apart = subst (λ ms. are_apart ms ≡ true) (sym listed) c.requires.apart;
      lawful = subst (λ ms. IsLawful (board_in ms c.args.to_move)) (sym listed) c.requires.lawful;
    } in
    let back = masks-back _ _ _ _ _ made in
    (λ i. back.0 i ∷ back.1 i ∷ back.2 i ∷ back.3 i ∷ []) ∙ listed
