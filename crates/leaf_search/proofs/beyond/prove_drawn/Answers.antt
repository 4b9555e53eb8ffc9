use Rattle.std.proofs.Common.{[], ◌∷◌, ◌++◌, sym, ap, ◌∙◌, subst}
use Rattle.draughts_board.specs.Board.{other}
use Rattle.strategy_certificate.specs.declared.claims.Claim.TheVariants.{Hold}
use Rattle.certificate_checker.specs.Answers.{IsAnswer}
use Rattle.leaf_search.specs.Search.{Proves}
use Rattle.leaf_search.proofs.AnswerLemmas.{drawn_answers, no_winner-held}
use Rattle.leaf_search.proofs.beyond.prove_drawn.Goals as goal

pub returns : goal.returns
returns g c =
    let k = g.O.Oracle.piece_limit c.args.oracle.now in
    let p = c.args.p.now in
    let side = c.args.goal in
    let held = c.in-Some.held in
    let also = c.in-Some-2.also in
    let proves : Proves k p (Hold (other side)) held = subst (λ s. Proves k p (Hold s) held) c.other.ensures (rw c.in-Some.is at c.in_ok-held.ensures) in
    let both : Proves k p (Hold side) also = rw c.in-Some-2.is at c.in_ok-also.ensures in
    let items = c.from_vec.ensures ∙ (c.in_ok-push-2.ensures.items ∙ (ap (λ cs. cs ++ also ∷ []) c.in_ok-push.ensures.items ∙ ap (λ cs. (cs ++ held ∷ []) ++ also ∷ []) c.new-proofs.ensures.items)) in
    subst (IsAnswer k side c.args.depth p) (sym items)
    (drawn_answers k side c.args.depth p (no_winner-held k side c.args.depth p proves.holds both.holds) held proves also both)
