use Rattle.std.proofs.Common.{sym, subst, inl, inr}
use Rattle.std.proofs.lemmas.Result.{on_ok_weaker}
use Rattle.certificate_joiner.specs.Steps.{IsUsable, JoinsHold}
use Rattle.certificate_joiner.proofs.StepLemmas.{table_adds_hold, repeats_adds_hold, shown_adds_hold, one_more_adds_hold, both_on_ok}
use Rattle.certificate_joiner.proofs.joining.add_hold.Goals as goal

pub merge_shown_hold-requires : goal.merge_shown_hold-requires
merge_shown_hold-requires c = (subst (IsUsable c.args.part.now.side) c.in-Shown.is c.requires).0

pub returns-in-Shown-clause-holds : goal.returns-in-Shown-clause-holds
returns-in-Shown-clause-holds c =
    let old = c.args.part.now in
    let step = c.args.step.now in
    on_ok_weaker c.merge_shown_hold.result
    (λ e. subst (JoinsHold old step) (sym e) (shown_adds_hold old step.position step.reason c.in-Shown.shown c.in-Shown.is)) c.merge_shown_hold.ensures

pub returns-in-Play-clause-holds : goal.returns-in-Play-clause-holds
returns-in-Play-clause-holds c =
    let step = c.args.step.now in
    both_on_ok c.add_held.result
    (λ side more. one_more_adds_hold c.args.part.now step.position step.reason c.in-Play.chosen c.add_held.new.part c.in-Play.is side more)
    c.add_held.ensures.side c.add_held.ensures.added

pub returns-in-Table-clause-holds : goal.returns-in-Table-clause-holds
returns-in-Table-clause-holds c =
    let step = c.args.step.now in
    elim c.in-Table.is [
      | inl table ↦ table_adds_hold c.args.part.now step.position step.reason table
      | inr repeats ↦ repeats_adds_hold c.args.part.now step.position step.reason repeats
    ]
