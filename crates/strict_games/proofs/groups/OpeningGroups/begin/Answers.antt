use Rattle.strict_games.proofs.Grouped.{group_more, still_long}
use Rattle.strict_games.proofs.groups.OpeningGroups.begin.Goals as goal

pub invariant_of-self-2 : goal.invariant_of-self-2
invariant_of-self-2 c =
    still_long (λ games. games.items) c.self.inside.positions.entries c.self.inside.games.items c.args.self.now c.self.invariant c.self.view_is c.args.position tt c.args.game c.in_ok-note.field-0.1 c.note.new.self.entries c.reserve.new.self.items c.push_reserved.new.self.items c.in_ok-games.games c.requires c.in_ok-note.ensures.new c.in_ok-note.ensures.rows c.reserve.ensures.items c.push_reserved.ensures.items c.in_ok-games.ensures.items

pub returns : goal.returns
returns c =
    group_more (λ games. games.items) c.self.inside.positions.entries c.self.inside.games.items c.args.self.now c.self.invariant c.self.view_is c.args.position tt c.args.game c.in_ok-note.field-0.1 c.note.new.self.entries c.reserve.new.self.items c.push_reserved.new.self.items c.in_ok-games.games c.requires c.in_ok-note.ensures.new c.in_ok-note.ensures.rows c.reserve.ensures.items c.push_reserved.ensures.items c.in_ok-games.ensures.items
