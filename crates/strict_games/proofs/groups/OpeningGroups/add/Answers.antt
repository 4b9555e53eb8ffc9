use Rattle.std.proofs.Common.{◌≡◌, ◌∙◌, ◌∷◌, ◌++◌, [], ap, get_or, rules, sym}
use Rattle.std.proofs.lemmas.Result.{on_ok_weaker}
use Rattle.draughts_board.specs.Board.{same_board}
use Rattle.strict_games.proofs.Grouped.{begun, joined_at, none_of}
use Rattle.strict_games.proofs.groups.OpeningGroups.add.Goals as goal

pub begin-requires : goal.begin-requires
begin-requires c =
    none_of (λ games. games.items) c.self.inside.positions.entries c.self.inside.games.items c.args.self.now c.self.invariant c.self.view_is c.args.position (sym c.in-None.ensures)

pub returns-in_ok-push-in-Some : goal.returns-in_ok-push-in-Some
returns-in_ok-push-in-Some c =
    let here : c.index_mut.result.now ≡ get_or c.self.inside.games.items c.in-Some.place c.index_mut.result.now = search rules in
    joined_at (λ games. games.items) c.self.inside.positions.entries c.self.inside.games.items c.args.self.now c.self.invariant c.self.view_is c.args.position c.args.game c.in-Some.place c.push.new.self c.index_mut.result.now (sym c.in-Some.ensures)
    (c.in_ok-push-in-Some.ensures.items ∙ ap (λ games. games.items ++ c.args.game ∷ []) here)

pub returns-in-None : goal.returns-in-None
returns-in-None c =
    let none = none_of (λ games. games.items) c.self.inside.positions.entries c.self.inside.games.items c.args.self.now c.self.invariant c.self.view_is c.args.position (sym c.in-None.ensures) in
    on_ok_weaker c.begin.result (λ e. e ∙ begun same_board c.args.self.now c.args.position c.args.game none) c.begin.ensures
