use Rattle.std.proofs.Common.{[], ◌∷◌, ◌++◌, sym, ap, ◌∙◌, subst}
use Rattle.certificate_checker.specs.Answers.{IsAnswer}
use Rattle.leaf_search.proofs.AnswerLemmas.{won_answers, win_settles}
use Rattle.leaf_search.proofs.beyond.prove_won.Goals as goal

pub returns : goal.returns
returns g c =
    let k = g.O.Oracle.piece_limit c.args.oracle.now in
    let won = c.in-Some.won in
    let proves = rw c.in-Some.is at c.in_ok-won.ensures.proves in
    let items = c.from_vec.ensures ∙ (c.in_ok-push.ensures.items ∙ ap (λ cs. cs ++ won ∷ []) c.new-proofs.ensures.items) in
    subst (IsAnswer k c.args.goal c.args.depth c.args.p.now) (sym items)
    (won_answers k c.args.goal c.args.depth c.args.p.now _ won (win_settles c.args.goal _) proves)
