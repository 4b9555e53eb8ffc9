use Rattle.std.proofs.Common.{length, ap, sym, ◌∙◌, subst, arith}
use Rattle.tree_manager.specs.Turns.{GrowsByTurns}
use Rattle.tree_manager.proofs.shared.SharedBench.leave.Goals as goal

pub note-requires-clause-grows : goal.note-requires-clause-grows
note-requires-clause-grows g c = subst (λ front. GrowsByTurns front c.into_held-held.result.0.line) (sym c.requires.turn.front) c.into_held-held.ensures.line

pub note-requires-clause-added : goal.note-requires-clause-added
note-requires-clause-added g c =
    omega (arith, ap length c.requires.turn.front, c.into_held-held.ensures.entered, c.into_held-held.ensures.fewer, c.count-count.ensures)

pub returns-clause-front : goal.returns-clause-front
returns-clause-front g c = c.leave.ensures.front ∙ (c.note.ensures.whole ∙ ap (λ s. s.line) c.into_held-held.ensures.held)

pub returns-clause-grows : goal.returns-clause-grows
returns-clause-grows g c =
    subst (λ front. GrowsByTurns c.args.pass.now.front front) (sym (c.leave.ensures.front ∙ c.note.ensures.whole))
    (subst (λ front. GrowsByTurns front c.into_held-held.result.0.line) (sym c.requires.turn.front) c.into_held-held.ensures.line)
