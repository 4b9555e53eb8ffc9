use Rattle.std.proofs.Common.{sym, subst}
use Rattle.turn_lock.specs.Seen.{SeenPass}
use Rattle.tree_manager.specs.declared.entries.Entry.{Entry}
use Rattle.worker_gate.specs.Work.{CanSearch}
use Rattle.worker_gate.proofs.SearchingLemmas.{can_search_on}
use Rattle.worker_gate.proofs.threads.run_workers.Goals as goal

pub work-requires-clause-settings : goal.work-requires-clause-settings
work-requires-clause-settings g c =
    can_search_on _ _ _ (subst (λ (p : SeenPass Entry). CanSearch (g.O.Oracle.piece_limit c.args.oracle.now) p.front) (sym c.split_passes-ready.ensures.same) c.requires.settings) c.join_passes.ensures.grows
