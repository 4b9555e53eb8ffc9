use Rattle.std.proofs.Common.{ap, sym, ◌∙◌}
use Rattle.tree_manager.proofs.shared.SharedBench.enter.Goals as goal

pub returns-clause-turn : goal.returns-clause-turn
returns-clause-turn g c = record {
  lock_is = c.enter-held.ensures.lock ∙ c.self.view_is;
  turn = c.enter-held.ensures.turn;
  of_lock = c.new.ensures.lock ∙ c.self.view_is;
  front = c.enter-held.ensures.whole ∙ ap (λ s. s.line) (sym c.new.ensures.found);
}

pub returns-clause-whole : goal.returns-clause-whole
returns-clause-whole g c = c.enter-held.ensures.whole ∙ ap (λ s. s.line) (sym c.new.ensures.session)
