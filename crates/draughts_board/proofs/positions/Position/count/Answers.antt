use Rattle.std.proofs.Common.{◌≤◌, sym, ◌∙◌, ap, subst}
use Rattle.draughts_board.specs.Board.{pieces}
use Rattle.draughts_board.proofs.CountMasks.{count-black, count-white}
use Rattle.draughts_board.proofs.positions.Position.count.Goals as goal

pub returns-in-Black-clause-value : goal.returns-in-Black-clause-value
returns-in-Black-clause-value c =
    c.count_in.ensures.value
    ∙ count-black c.args.self.now c.masks.result c.masks.ensures.lawful.squares c.masks.ensures.squares
    ∙ ap (λ s. pieces s c.args.self.now.cells) (sym c.in-Black.is)

pub returns-in-Black-clause-most : goal.returns-in-Black-clause-most
returns-in-Black-clause-most c =
    let few = c.masks.ensures.lawful.black in
    subst (λ n. n ≤ 12) (sym (c.count_in.ensures.value ∙ count-black c.args.self.now c.masks.result c.masks.ensures.lawful.squares c.masks.ensures.squares)) few

pub returns-in-White-clause-value : goal.returns-in-White-clause-value
returns-in-White-clause-value c =
    c.count_in-in-White.ensures.value
    ∙ count-white c.args.self.now c.masks.result c.masks.ensures.lawful.squares c.masks.ensures.squares
    ∙ ap (λ s. pieces s c.args.self.now.cells) (sym c.in-White.is)

pub returns-in-White-clause-most : goal.returns-in-White-clause-most
returns-in-White-clause-most c =
    let few = c.masks.ensures.lawful.white in
    subst (λ n. n ≤ 12) (sym (c.count_in-in-White.ensures.value ∙ count-white c.args.self.now c.masks.result c.masks.ensures.lawful.squares c.masks.ensures.squares)) few
