use Rattle.std.proofs.Common.{sym, arith}
use Rattle.std.specs.Prelude.{Contains}
use Rattle.draughts_board.specs.Rules.{after}
use Rattle.certificate_checker.proofs.ListLemmas.{all_taken, one_more}
use Rattle.certificate_player.specs.Choices.{IsShown}
use Rattle.certificate_player.proofs.moves.first_shown.Goals as goal

pub apply-requires : goal.apply-requires
apply-requires g c = c.requires c.m-item.result (c.loop-m.m-index, c.loop-m-test.true, sym c.m-item.is)

pub returns-then-is_shown-clause-some : goal.returns-then-is_shown-clause-some
returns-then-is_shown-clause-some g c =
    (c.requires c.m-item.result (c.loop-m.m-index, c.loop-m-test.true, sym c.m-item.is), rw c.apply.ensures at (c.is_shown.ensures.0 c.if-is_shown.true))

pub loop-m-preserved : goal.loop-m-preserved
loop-m-preserved g c =
    one_more (λ path. IsShown (g.O.Oracle.answer_at c.args.oracle.now) (after c.args.p.now path) c.args.rank c.args.part.now → ⊥) c.args.moves.now c.loop-m.m-index c.m-item.result (omega arith) c.m-item.is
    c.loop-m.invariant (λ shown. (let is = c.is_shown.ensures.1 (rw c.apply.ensures shown) in let is_not = c.if-is_shown.false in cc))

pub returns-clause-none : goal.returns-clause-none
returns-clause-none g c =
    all_taken (λ path. IsShown (g.O.Oracle.answer_at c.args.oracle.now) (after c.args.p.now path) c.args.rank c.args.part.now → ⊥) c.args.moves.now c.loop-m.m-index (omega arith) c.loop-m.invariant
