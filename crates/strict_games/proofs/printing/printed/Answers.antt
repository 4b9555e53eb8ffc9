use Rattle.std.proofs.Common.{◌++◌}
use Rattle.strict_games.proofs.printing.printed.Goals as goal

pub returns : goal.returns
returns c =
    let set = c.in_ok-push_set_up.ensures.says in
    let tags = set.0 ++ c.args.tags.now in
    let tagged = c.in_ok-push_tags.ensures.says set.0 (set.1.1 c.in_ok-page.ensures.says) in
    (set.0, (set.1.0, c.in_ok-push_score.ensures tags c.args.moves.now (c.in_ok-push_moves.ensures.says tags tagged)))
