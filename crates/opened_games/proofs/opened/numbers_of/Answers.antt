use Rattle.std.proofs.Common.{◌++◌, ◌∙◌, List, ℕ, sym, ap}
use Rattle.opened_games.specs.Opened.{number_if}
use Rattle.opened_games.proofs.OpeningLemmas.{games_more}
use Rattle.opened_games.proofs.opened.numbers_of.Goals as goal

pub loop-opening-preserved : goal.loop-opening-preserved
loop-opening-preserved c = (
  c.in_ok-add.ensures.lists,
  λ p. c.in_ok-add.ensures.numbers p ∙ ap (λ (l : List ℕ). l ++ number_if c.opening-item.result p) (c.loop-opening.invariant.1 p)
      ∙ sym (games_more c.args.openings.now c.loop-opening.opening-index c.opening-item.result p c.loop-opening-test.true c.opening-item.is),
)
