use Rattle.std.proofs.Common.{ℕ, Option, ◌∷◌, ◌++◌, List, [], cond, ◌∙◌, ap, sym, subst}
use Rattle.std.specs.Prelude.{All}
use Rattle.draughts_board.specs.Board.{Board}
use Rattle.draughts_board.specs.declared.pieces.Side.{Side}
use Rattle.strategy_certificate.specs.Parts.{HoldList, IsHoldRow}
use Rattle.strategy_certificate.proofs.RowLemmas.{All-added}
use Rattle.strategy_certificate.proofs.hold_parts.HoldPart.add_new.Goals as goal

pub invariant_of-self-2 : goal.invariant_of-self-2
invariant_of-self-2 c = record {
  distinct = c.add_new_row.ensures.distinct;
  rows = subst (All IsHoldRow) (sym c.in_ok-added.ensures.rows)
      (All-added IsHoldRow c.self.inside.entries.entries (c.args.p, c.args.chosen) c.in_ok-added.added c.self.invariant.rows (c.note_rules.ensures.position, c.note_rules.ensures.path));
}

pub returns-clause-tells : goal.returns-clause-tells
returns-clause-tells c = rw (← c.self.view_is) c.in_ok-added.ensures.tells

with_entries : Side → List (Board × Option (List ℕ)) → HoldList
with_entries s es = record { side = s; entries = es }

pub returns-clause-entries : goal.returns-clause-entries
unfolding with_entries
returns-clause-entries c =
    let same = ap (λ (w : HoldList). w.entries) c.self.view_is in
    let side = ap (λ (w : HoldList). w.side) c.self.view_is in
    let entries = c.in_ok-added.ensures.rows ∙ ap (λ es. cond c.in_ok-added.added (es ++ (c.args.p, c.args.chosen) ∷ []) es) same in
    λ i. with_entries (side i) (entries i)
