use Rattle.std.proofs.Common.{ℕ, Option, ◌∷◌, ◌++◌, List, [], cond, ◌∙◌}
use Rattle.draughts_board.specs.Board.{Board}
use Rattle.draughts_board.specs.declared.pieces.Side.{Side}
use Rattle.strategy_certificate.specs.Parts.{HoldList}
use Rattle.strategy_certificate.proofs.RowLemmas.{told_new}
use Rattle.strategy_certificate.proofs.hold_parts.HoldPart.add.Goals as goal

with_entries : Side → List (Board × Option (List ℕ)) → HoldList
with_entries s es = record { side = s; entries = es }

pub returns-clause-ok : goal.returns-clause-ok
unfolding with_entries
returns-clause-ok c =
    let old = c.args.self.now in
    let is_new = told_new c.in_ok-add_new.field-0 c.in_ok-add_new.ensures.tells c.requires.absent in
    c.in_ok-add_new.ensures.entries ∙ (λ i. with_entries old.side (cond (is_new i) (old.entries ++ (c.args.p, c.args.chosen) ∷ []) old.entries))
