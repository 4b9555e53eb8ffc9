use Rattle.std.proofs.Common.{◌∙◌, ℕ, ap}
use Rattle.std.specs.Prelude.{◌==◌}
use Rattle.strict_games.proofs.Grouped.{count_of}
use Rattle.strict_games.proofs.groups.OpeningGroups.is_empty.Goals as goal

pub returns : goal.returns
returns c = c.is_empty.ensures ∙ ap (λ (n : ℕ). n == 0) (c.self.inside.games.ok.0 ∙ count_of (λ games. games.items) c.self.inside.positions.entries c.self.inside.games.items c.args.self.now c.self.invariant c.self.view_is)
