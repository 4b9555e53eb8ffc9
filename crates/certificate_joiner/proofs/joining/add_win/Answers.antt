use Rattle.std.proofs.Common.{sym, subst, inl, inr}
use Rattle.std.proofs.lemmas.Result.{on_ok_weaker}
use Rattle.certificate_joiner.specs.Steps.{IsUsable, JoinsWin}
use Rattle.certificate_joiner.proofs.StepLemmas.{table_adds_win, repeats_adds_win, part_adds_win, one_more_adds_win, both_on_ok}
use Rattle.certificate_joiner.proofs.joining.add_win.Goals as goal

pub merge_shown_win-requires : goal.merge_shown_win-requires
merge_shown_win-requires c = (subst (IsUsable c.args.part.now.side) c.in-Shown.is c.requires.usable).0

pub returns-in-Shown-clause-wins : goal.returns-in-Shown-clause-wins
returns-in-Shown-clause-wins c =
    let old = c.args.part.now in
    let step = c.args.step.now in
    on_ok_weaker c.merge_shown_win.result
    (λ e. subst (JoinsWin old step c.args.rank) (sym e) (part_adds_win old step.position step.reason c.args.rank c.in-Shown.shown c.in-Shown.is (subst (IsUsable old.side) c.in-Shown.is c.requires.usable).1))
    c.merge_shown_win.ensures

pub returns-in-Play-clause-wins : goal.returns-in-Play-clause-wins
returns-in-Play-clause-wins c =
    let step = c.args.step.now in
    both_on_ok c.add_won.result
    (λ side more. one_more_adds_win c.args.part.now step.position step.reason c.args.rank c.in-Play.chosen c.add_won.new.part c.in-Play.is side more)
    c.add_won.ensures.side c.add_won.ensures.added

pub returns-in-Table-clause-wins : goal.returns-in-Table-clause-wins
returns-in-Table-clause-wins c =
    let step = c.args.step.now in
    elim c.in-Table.is [
      | inl table ↦ table_adds_win c.args.part.now step.position step.reason c.args.rank table
      | inr repeats ↦ repeats_adds_win c.args.part.now step.position step.reason c.args.rank repeats
    ]
