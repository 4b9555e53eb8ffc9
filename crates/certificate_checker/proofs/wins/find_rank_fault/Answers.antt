use Rattle.std.proofs.Common.{◌≤◌, ◌∙◌, sym, arith}
use Rattle.strategy_certificate.specs.Certificates.{IsReachedBelow}
use Rattle.certificate_checker.specs.Faults.{IsShownWon}
use Rattle.certificate_checker.proofs.ListLemmas.{first_failure, one_more, contains_it, all_taken}
use Rattle.certificate_checker.proofs.wins.find_rank_fault.Goals as goal
use Rattle.certificate_checker.proofs.wins.find_rank_fault.Goals.{then-least-rank, else-least-rank}

pub returns-in-None : goal.returns-in-None
returns-in-None g c =
    first_failure (IsShownWon c.args.part.now (g.O.Oracle.answer_at c.args.oracle.now)) c.args.due.now c.loop-q.q-index c.q-item.result (omega arith) c.q-item.is
    c.loop-q.invariant.won (λ h. c.in-None.ensures h.0 h.1)

pub loop-q-preserved : goal.loop-q-preserved
loop-q-preserved g c =
    let answer = g.O.Oracle.answer_at c.args.oracle.now in
    let Won = IsShownWon c.args.part.now answer in
    let Below = IsReachedBelow c.args.part.now answer c.args.rank in
    record {
      won = one_more Won c.args.due.now c.loop-q.q-index c.q-item.result (omega arith) c.q-item.is c.loop-q.invariant.won (c.in-Some.least, c.in-Some.ensures.0);
      below = λ intime. elim c.if-least-rank.branch [
        | then-least-rank w ↦ (let e = w.late-is in cc)
        | else-least-rank w ↦ one_more Below c.args.due.now c.loop-q.q-index c.q-item.result (omega arith) c.q-item.is
            (c.loop-q.invariant.below (sym w.late-is ∙ intime)) (c.in-Some.least, (w.if-least-rank.false, c.in-Some.ensures.0))
      ];
      late = λ late. elim c.if-least-rank.branch [
        | then-least-rank w ↦ (
          c.q-item.result,
          (
            contains_it Below c.args.due.now c.loop-q.q-index c.q-item.result (omega arith) c.q-item.is,
            λ h. let le : c.in-Some.least ≤ h.0 = c.in-Some.ensures.1 h.0 h.1.1 in let ge = w.if-least-rank.true in let lt = h.1.0 in absurd (omega arith),
          ),
        )
        | else-least-rank w ↦ c.loop-q.invariant.late (sym w.late-is ∙ late)
      ];
    }

pub returns-then-late : goal.returns-then-late
returns-then-late g c = (
  all_taken (IsShownWon c.args.part.now (g.O.Oracle.answer_at c.args.oracle.now)) c.args.due.now c.loop-q.q-index (omega arith) c.loop-q.invariant.won,
  c.loop-q.invariant.late c.if-late.true,
)

pub returns-else-late : goal.returns-else-late
returns-else-late g c =
    all_taken (IsReachedBelow c.args.part.now (g.O.Oracle.answer_at c.args.oracle.now) c.args.rank) c.args.due.now c.loop-q.q-index (omega arith) (c.loop-q.invariant.below c.if-late.false)
