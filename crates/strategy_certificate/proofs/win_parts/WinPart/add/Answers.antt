use Rattle.std.proofs.Common.{◌∷◌, ◌++◌, List, [], cond, ◌∙◌}
use Rattle.draughts_board.specs.Board.{Board}
use Rattle.draughts_board.specs.declared.pieces.Side.{Side}
use Rattle.strategy_certificate.specs.declared.entries.WinEntry.{WinEntry}
use Rattle.strategy_certificate.specs.Parts.{WinList}
use Rattle.strategy_certificate.proofs.RowLemmas.{told_new}
use Rattle.strategy_certificate.proofs.win_parts.WinPart.add.Goals as goal

with_entries : Side → List (Board × WinEntry) → WinList
with_entries s es = record { side = s; entries = es }

pub returns-clause-ok : goal.returns-clause-ok
unfolding with_entries
returns-clause-ok c =
    let old = c.args.self.now in
    let is_new = told_new c.in_ok-add_new.field-0 c.in_ok-add_new.ensures.tells c.requires.absent in
    c.in_ok-add_new.ensures.entries ∙ (λ i. with_entries old.side (cond (is_new i) (old.entries ++ (c.args.p, c.args.e) ∷ []) old.entries))
