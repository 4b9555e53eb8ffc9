use Rattle.std.proofs.Common.{◌++◌, ◌∷◌, []}
use Rattle.std.proofs.lemmas.Result.{on_ok_weaker}
use Rattle.strict_games.proofs.printing.Page.lay_tag.Goals as goal

pub returns-in-Lines-clause-says : goal.returns-in-Lines-clause-says
returns-in-Lines-clause-says c =
    on_ok_weaker c.end_line.result (λ says tags s. says (tags ++ record { name = c.args.name.now; value = c.args.value.now } ∷ []) [] (c.in_ok-push_tag.ensures.says tags s)) c.end_line.ensures.says
