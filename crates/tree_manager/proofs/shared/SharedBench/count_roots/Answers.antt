use Rattle.std.proofs.Common.{ap, sym, ◌∙◌}
use Rattle.tree_manager.proofs.CountingLemmas.{counts_turn}
use Rattle.tree_manager.proofs.TurnLemmas.{grows_then}
use Rattle.tree_manager.proofs.shared.SharedBench.count_roots.Goals as goal

pub returns-clause-grows : goal.returns-clause-grows
returns-clause-grows g c = grows_then _ _ _ c.enter-turn.ensures.grows c.leave.ensures.grows

pub returns-clause-turn : goal.returns-clause-turn
returns-clause-turn g c =
    counts_turn c.of-counts.result _ _ _ _ c.session.result.now.core _ _ c.enter-turn.ensures.grows (c.enter-turn.ensures.whole ∙ ap (λ s. s.line) (sym c.session.ensures.session)) c.bench.ensures.stands c.bench.ensures.core c.tree.ensures.forest c.of-counts.ensures (c.leave.ensures.front ∙ ap (λ s. s.line) (sym c.session.ensures.session))
