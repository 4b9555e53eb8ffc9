use Rattle.std.proofs.Common.{◌≡◌, ◌∙◌, ◌∷◌, [], ◌++◌, ap, rules, subst, sym}
use Rattle.std.specs.Prelude.{codes}
use Rattle.strict_games.proofs.Grouped.{group_found}
use Rattle.strict_games.specs.Drafts.{Drafted}
use Rattle.strict_games.specs.Groups.{Lists}
use Rattle.strict_games.specs.Tags.{cleaned}
use Rattle.strict_games.proofs.groups.group_text.Goals as goal

pub returns-in-Ok : goal.returns-in-Ok
returns-in-Ok c =
    let list = c.deref.result.now in
    let same : list ≡ c.in_ok-list.list.items = search rules in
    let is = c.in-Ok.ensures.ok
    ∙ ap (λ (d : Drafted). record d { tags = d.tags ++ record { name = codes "Games"; value = cleaned list } ∷ [] }) c.new-draft.ensures in
    group_found (λ v. v.items) c.text.result c.args.position.now c.args.games.now list c.tag.new.self is (subst (Lists c.args.games.now) (sym same) c.in_ok-list.ensures) c.text.ensures
