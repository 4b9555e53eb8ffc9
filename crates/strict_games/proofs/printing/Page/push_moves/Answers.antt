use Rattle.std.proofs.Common.{◌≤◌, arith, length, subst, sym, take}
use Rattle.std.proofs.lemmas.List.{take_all}
use Rattle.pdn_openings.proofs.Steps.{take-one_more}
use Rattle.strict_games.specs.Pages.{PageSays}
use Rattle.strict_games.proofs.printing.Page.push_moves.Goals as goal

pub loop-ply-preserved : goal.loop-ply-preserved
loop-ply-preserved c =
    let moves = c.args.moves.now in
    let i = c.loop-ply.ply in
    record {
      says = λ tags s. subst (PageSays c.push_move.new.self tags) (sym (take-one_more moves i c.index-moves-ply.result c.loop-ply-test.true c.index-moves-ply.is))
          (c.in_ok-push_move.ensures.says tags (take i moves) (c.in_ok-push_turn.ensures.says tags (take i moves) (c.loop-ply.invariant.says tags s)));
      inside = c.in_ok-push_move.ensures.inside;
    }

pub returns-clause-says : goal.returns-clause-says
returns-clause-says c =
    let all : length c.args.moves.now ≤ c.loop-ply.ply = omega arith in
    λ tags s. subst (PageSays c.loop-ply.self tags) (take_all c.loop-ply.ply c.args.moves.now all) (c.loop-ply.invariant.says tags s)
