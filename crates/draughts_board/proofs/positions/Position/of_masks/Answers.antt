use Rattle.std.proofs.Common.{sym, ◌∙◌}
use Rattle.std.specs.Cmp.{first_so, second_so}
use Rattle.std.proofs.lemmas.Bool.{leb-true}
use Rattle.draughts_board.specs.MasksBack.{length-cells_in}
use Rattle.draughts_board.proofs.positions.Position.of_masks.Goals as goal

pub of_apart-requires-clause-lawful : goal.of_apart-requires-clause-lawful
of_apart-requires-clause-lawful c =
    let few = sym c.are_few.ensures ∙ c.if-are_few.true in
    record {
      squares = length-cells_in c.args.masks;
      black = leb-true _ _ (first_so _ _ few);
      white = leb-true _ _ (second_so _ _ few);
      men = sym c.are_allowed.ensures ∙ c.if-are_allowed.true;
    }
