use Rattle.std.proofs.Common.{◌∙◌}
use Rattle.strict_games.proofs.Grouped.{count_of}
use Rattle.strict_games.proofs.groups.OpeningGroups.len.Goals as goal

pub returns : goal.returns
returns c = c.len.ensures ∙ c.self.inside.games.ok.0 ∙ count_of (λ games. games.items) c.self.inside.positions.entries c.self.inside.games.items c.args.self.now c.self.invariant c.self.view_is
