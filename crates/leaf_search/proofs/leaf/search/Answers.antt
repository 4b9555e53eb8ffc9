use Rattle.std.proofs.Common.{inl, inr, [], ◌∷◌, ◌++◌, refl, sym, ap, ◌∙◌, subst}
use Rattle.std.specs.Prelude.{All}
use Rattle.draughts_board.specs.Board.{other}
use Rattle.draughts_board.specs.Game.{ShowsWin, ShowsHold}
use Rattle.draughts_board.specs.Draughts.{draughts}
use Rattle.strategy_certificate.specs.declared.claims.Claim.TheVariants.{Win, Hold}
use Rattle.certificate_checker.specs.Answers.{IsAnswer}
use Rattle.certificate_checker.specs.Sight.{IsAtSight}
use Rattle.leaf_search.specs.Search.{Proves}
use Rattle.leaf_search.proofs.AnswerLemmas.{won_answers, held_answers, drawn_answers, no_winner, not_found}
use Rattle.leaf_search.proofs.leaf.search.Goals as goal

pub returns-in-Some-clause-outcome : goal.returns-in-Some-clause-outcome
returns-in-Some-clause-outcome g c =
    let k = g.O.Oracle.piece_limit c.args.oracle.now in
    let proves = rw c.in-Some.is at c.in_ok-won.ensures.found in
    let items = c.from_vec.ensures ∙ (c.in_ok-push.ensures.items ∙ ap (λ cs. cs ++ c.in-Some.won ∷ []) c.new-proofs.ensures.items) in
    subst (IsAnswer k c.args.goal c.args.depth c.args.p.now) (sym items)
    (won_answers k c.args.goal c.args.depth c.args.p.now c.args.goal c.in-Some.won (inl refl) proves)

pub returns-in-Some-2-clause-outcome : goal.returns-in-Some-2-clause-outcome
returns-in-Some-2-clause-outcome g c =
    let k = g.O.Oracle.piece_limit c.args.oracle.now in
    let p = c.args.p.now in
    let lost = c.in-Some-2.lost in
    let proves : Proves k p (Win (other c.args.goal)) lost = subst (λ s. Proves k p (Win s) lost) c.other.ensures (rw c.in-Some-2.is at c.in_ok-lost.ensures.found) in
    let items = c.from_vec-in-Some-2.ensures ∙ (c.in_ok-push-2.ensures.items ∙ ap (λ cs. cs ++ lost ∷ []) c.new-proofs.ensures.items) in
    subst (IsAnswer k c.args.goal c.args.depth p) (sym items)
    (won_answers k c.args.goal c.args.depth p (other c.args.goal) lost (inr (inl refl)) proves)

pub invariant_of-result : goal.invariant_of-result
invariant_of-result g c =
    let k = g.O.Oracle.piece_limit c.args.oracle.now in
    let p = c.args.p.now in
    let is = sym c.pieces.ensures.value in
    let children = c.in_ok-children_at_sight.ensures in
    let no_win = rw (not_found c.in_ok-won.field-0 c.in_default.not-Some) at c.in_ok-won.ensures.found in
    let no_hold = rw (not_found c.in_ok-held.field-0 c.in_default-3.not-Some) at c.in_ok-held.ensures in
    record {
      no_win = subst (λ k. ShowsWin draughts k c.args.goal c.args.depth p → ⊥) is no_win;
      no_hold = subst (λ k. ShowsHold draughts k (other c.args.goal) c.args.depth [] p → ⊥) is
          (subst (λ s. ShowsHold draughts k s c.args.depth [] p → ⊥) c.other-2.ensures no_hold);
      successors = children.positions;
      facts = ∣ subst (λ k. All (IsAtSight k) c.in_ok-children_at_sight.field-0) is children.facts ∣₁;
    }

pub returns-in_default-4-clause-outcome : goal.returns-in_default-4-clause-outcome
returns-in_default-4-clause-outcome g c =
    let k = g.O.Oracle.piece_limit c.args.oracle.now in
    let p = c.args.p.now in
    let goal_side = c.args.goal in
    let held = c.in-Some-3.held in
    let no_win : ShowsWin draughts k goal_side c.args.depth p → ⊥ = rw (not_found c.in_ok-won.field-0 c.in_default.not-Some) at c.in_ok-won.ensures.found in
    let no_loss : ShowsWin draughts k (other goal_side) c.args.depth p → ⊥ = subst (λ s. ShowsWin draughts k s c.args.depth p → ⊥) c.other.ensures
    (rw (not_found c.in_ok-lost.field-0 c.in_default-2.not-Some) at c.in_ok-lost.ensures.found) in
    let proves : Proves k p (Hold (other goal_side)) held = subst (λ s. Proves k p (Hold s) held) c.other-2.ensures (rw c.in-Some-3.is at c.in_ok-held.ensures) in
    let no_hold = rw (not_found c.in_ok-also.field-0 c.in_default-4.not-Some) at c.in_ok-also.ensures in
    let items = c.from_vec-in_default-4.ensures ∙ (c.in_ok-push-3.ensures.items ∙ ap (λ cs. cs ++ held ∷ []) c.new-proofs.ensures.items) in
    subst (IsAnswer k goal_side c.args.depth p) (sym items)
    (held_answers k goal_side c.args.depth p (no_winner k goal_side c.args.depth p no_win no_loss) held proves no_hold)

pub returns-clause-outcome : goal.returns-clause-outcome
returns-clause-outcome g c =
    let k = g.O.Oracle.piece_limit c.args.oracle.now in
    let p = c.args.p.now in
    let goal_side = c.args.goal in
    let held = c.in-Some-3.held in
    let also = c.in-Some-4.also in
    let no_win : ShowsWin draughts k goal_side c.args.depth p → ⊥ = rw (not_found c.in_ok-won.field-0 c.in_default.not-Some) at c.in_ok-won.ensures.found in
    let no_loss : ShowsWin draughts k (other goal_side) c.args.depth p → ⊥ = subst (λ s. ShowsWin draughts k s c.args.depth p → ⊥) c.other.ensures
    (rw (not_found c.in_ok-lost.field-0 c.in_default-2.not-Some) at c.in_ok-lost.ensures.found) in
    let proves : Proves k p (Hold (other goal_side)) held = subst (λ s. Proves k p (Hold s) held) c.other-2.ensures (rw c.in-Some-3.is at c.in_ok-held.ensures) in
    let both : Proves k p (Hold goal_side) also = rw c.in-Some-4.is at c.in_ok-also.ensures in
    let items = c.from_vec-2.ensures ∙ (c.in_ok-push-4.ensures.items ∙ (ap (λ cs. cs ++ also ∷ []) c.in_ok-push-3.ensures.items ∙ ap (λ cs. (cs ++ held ∷ []) ++ also ∷ []) c.new-proofs.ensures.items)) in
    subst (IsAnswer k goal_side c.args.depth p) (sym items)
    (drawn_answers k goal_side c.args.depth p (no_winner k goal_side c.args.depth p no_win no_loss) held proves also both)
