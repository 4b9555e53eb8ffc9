use Rattle.std.proofs.Common.{◌+◌, ◌∙◌, ap}
use Rattle.bench_core.specs.Cores.{Core}
use Rattle.tree_manager.specs.declared.entries.Entry.TheVariants.{Acked}
use Rattle.journal_runs.proofs.TurnLemmas.{failed_now, grows_failed, grows_one, grows_then, grows_two, is_staged, no_leaf, outcome_works, settings_stay, work_rises}
use Rattle.journal_runs.proofs.alone.settle_leaf.Goals as goal

pub unreachable-requires : goal.unreachable-requires
unreachable-requires g c =
    no_leaf c.args.session.now.line c.args.session.now.core.state 1 _ _ c.requires.idle.unleased c.in-Err-NoLeaf.ensures.refused c.in-Err-NoLeaf.field-0-is

pub returns-in-Ok-commit-clause-grows : goal.returns-in-Ok-commit-clause-grows
returns-in-Ok-commit-clause-grows g c =
    let leased = c.in-Ok.ensures.appends in
    let put = c.in-Ok-stage.ensures.appends in
    let some = is_staged c.lease.new.self.core c.stage.new.self.core c.commit.new.self.core c.in-Ok.lease _ put.enters.1 in
    grows_then _ _ _ (grows_two _ _ _ _ _ (outcome_works c.in-Ok.lease _) leased.line put.line) (grows_one _ _ (Acked _) tt (c.in-Ok-commit.ensures.appends some).line)

pub returns-in-Ok-commit-clause-settings : goal.returns-in-Ok-commit-clause-settings
returns-in-Ok-commit-clause-settings g c =
    let leased = c.in-Ok.ensures.appends in
    let put = c.in-Ok-stage.ensures.appends in
    let some = is_staged c.lease.new.self.core c.stage.new.self.core c.commit.new.self.core c.in-Ok.lease _ put.enters.1 in
    settings_stay c.lease.new.self.core c.stage.new.self.core c.commit.new.self.core c.in-Ok.lease _ put.enters.1 (c.in-Ok-commit.ensures.appends some).enters
    ∙ ap (λ (k : Core). k.state.settings) leased.enters.1

pub returns-in-Ok-commit-clause-one_more : goal.returns-in-Ok-commit-clause-one_more
returns-in-Ok-commit-clause-one_more g c =
    let leased = c.in-Ok.ensures.appends in
    let put = c.in-Ok-stage.ensures.appends in
    let some = is_staged c.lease.new.self.core c.stage.new.self.core c.commit.new.self.core c.in-Ok.lease _ put.enters.1 in
    work_rises c.lease.new.self.core c.stage.new.self.core c.commit.new.self.core c.in-Ok.lease _ (ap (λ (k : Core). k.staged) leased.enters.1 ∙ c.requires.idle.none_staged) put.enters.1
    (c.in-Ok-commit.ensures.appends some).enters
    ∙ ap (λ (k : Core). k.state.work + 1) leased.enters.1

pub returns-in-Err-commit-clause-grows : goal.returns-in-Err-commit-clause-grows
returns-in-Err-commit-clause-grows g c =
    let leased = c.in-Ok.ensures.appends in
    let put = c.in-Ok-stage.ensures.appends in
    grows_then _ _ _ (grows_two _ _ _ _ _ (outcome_works c.in-Ok.lease _) leased.line put.line) (grows_failed g.D.Disk.faults _ _ _ c.in-Err-commit.ensures.refused)

pub returns-in-Err-commit-clause-ended : goal.returns-in-Err-commit-clause-ended
returns-in-Err-commit-clause-ended g c = failed_now g.D.Disk.faults c.stage.new.self c.commit.new.self _ c.in-Err-commit.ensures.refused
