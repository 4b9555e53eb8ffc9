use Rattle.std.proofs.Common.{◌∷◌, ◌++◌, List, [], cond, ◌∙◌, ap, sym, subst}
use Rattle.std.specs.Prelude.{All}
use Rattle.draughts_board.specs.Board.{Board}
use Rattle.draughts_board.specs.declared.pieces.Side.{Side}
use Rattle.strategy_certificate.specs.declared.entries.WinEntry.{WinEntry}
use Rattle.strategy_certificate.specs.Parts.{WinList, IsWinRow}
use Rattle.strategy_certificate.proofs.RowLemmas.{All-added}
use Rattle.strategy_certificate.proofs.win_parts.WinPart.add_new.Goals as goal

pub invariant_of-self-2 : goal.invariant_of-self-2
invariant_of-self-2 c = record {
  distinct = c.add_new_row.ensures.distinct;
  rows = subst (All IsWinRow) (sym c.in_ok-added.ensures.rows)
      (All-added IsWinRow c.self.inside.entries.entries (c.args.p, c.args.e) c.in_ok-added.added c.self.invariant.rows (c.note_rules.ensures.position, (c.requires.rank, c.note_rules.ensures.path)));
}

pub returns-clause-tells : goal.returns-clause-tells
returns-clause-tells c = rw (← c.self.view_is) c.in_ok-added.ensures.tells

with_entries : Side → List (Board × WinEntry) → WinList
with_entries s es = record { side = s; entries = es }

pub returns-clause-entries : goal.returns-clause-entries
unfolding with_entries
returns-clause-entries c =
    let same = ap (λ (w : WinList). w.entries) c.self.view_is in
    let side = ap (λ (w : WinList). w.side) c.self.view_is in
    let entries = c.in_ok-added.ensures.rows ∙ ap (λ es. cond c.in_ok-added.added (es ++ (c.args.p, c.args.e) ∷ []) es) same in
    λ i. with_entries (side i) (entries i)
