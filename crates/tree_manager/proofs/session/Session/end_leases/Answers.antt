use Rattle.std.proofs.Common.{◌∙◌}
use Rattle.tree_manager.proofs.IdLemmas.{ended_all, ended_none, ended_step}
use Rattle.tree_manager.proofs.HistoryLaws.{history_stands}
use Rattle.tree_manager.proofs.UnleasedLemmas.{none_leased}
use Rattle.tree_manager.proofs.session.Session.end_leases.Goals as goal

pub loop-id-init : goal.loop-id-init
loop-id-init g c = ended_none c.args.self.now c.requires

pub loop-id-preserved : goal.loop-id-preserved
loop-id-preserved g c =
    (ended_step c.args.self.now c.loop-id.self c.release-ended.new.self c.in-Some.id c.release-ended.result c.loop-id.invariant c.in-Some.ensures.first c.in-Some.ensures.least c.release-ended.ensures.appends
    c.release-ended.ensures.disk _ c.release-ended.ensures.stale).ended

pub loop-id-smaller : goal.loop-id-smaller
loop-id-smaller g c =
    (ended_step c.args.self.now c.loop-id.self c.release-ended.new.self c.in-Some.id c.release-ended.result c.loop-id.invariant c.in-Some.ensures.first c.in-Some.ensures.least c.release-ended.ensures.appends
    c.release-ended.ensures.disk _ c.release-ended.ensures.stale).fewer

pub returns-clause-ended : goal.returns-clause-ended
returns-clause-ended g c = ended_all c.args.self.now c.loop-id.self c.loop-id.invariant c.in_default.ensures.first

pub returns-clause-unleased : goal.returns-clause-unleased
returns-clause-unleased g c none =
    let ended = ended_all c.args.self.now c.loop-id.self c.loop-id.invariant c.in_default.ensures.first in
    none_leased c.loop-id.self.line c.loop-id.self.core (history_stands c.loop-id.self.line c.loop-id.self.core c.in_default.ensures.history).0 (ended.staged ∙ none) ended.kept

pub returns-clause-stands : goal.returns-clause-stands
returns-clause-stands g c = (history_stands c.loop-id.self.line c.loop-id.self.core c.in_default.ensures.history).0
