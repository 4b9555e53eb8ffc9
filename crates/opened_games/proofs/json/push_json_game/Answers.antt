use Rattle.std.proofs.Common.{◌≡◌, ◌++◌, ◌-◌, ◌∙◌, Option, Some, None, OnOk, ap, subst, sym, slice_get, arith}
use Rattle.std.proofs.lemmas.Grind.{common_steps}
use Rattle.std.proofs.lemmas.Option.{gets}
use Rattle.std.proofs.lemmas.List.{append-nil}
use Rattle.pdn_text.specs.declared.game.Game.{Game}
use Rattle.opened_games.specs.Json.{json_object}
use Rattle.opened_games.proofs.json.push_json_game.Goals as goal

pub returns-in-Some : goal.returns-in-Some
returns-in-Some c =
    let there : slice_get c.args.games.now (c.args.number - 1) ≡ Some c.in-Some.game.now = grind (arith, common_steps, gets) in
    subst (λ (o : Option Game). OnOk c.push_json_object.result (c.push_json_object.new.text.items ≡ c.args.text.now.items ++ json_object c.args.number o)) (sym there) c.push_json_object.ensures

pub returns-in-None : goal.returns-in-None
returns-in-None c =
    let none : slice_get c.args.games.now (c.args.number - 1) ≡ None = grind (arith, common_steps, gets) in
    sym (ap (λ (o : Option Game). c.args.text.now.items ++ json_object c.args.number o) none ∙ append-nil c.args.text.now.items)
