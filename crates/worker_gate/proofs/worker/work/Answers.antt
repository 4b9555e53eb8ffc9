use Rattle.std.proofs.Common.{◌∙◌, sym, subst}
use Rattle.std.specs.Prelude.{All}
use Rattle.tree_manager.proofs.TurnLemmas.{grows_then}
use Rattle.worker_gate.specs.Work.{CanSearchLeaf}
use Rattle.worker_gate.proofs.SearchingLemmas.{can_search_on, leaves_can_be}
use Rattle.worker_gate.proofs.worker.work.Goals as goal

pub loop-preserved-then-is_empty : goal.loop-preserved-then-is_empty
loop-preserved-then-is_empty g c = record {
  outside = c.trade.ensures.outside;
  grows = grows_then _ _ _ c.loop.invariant.grows c.trade.ensures.grows;
  settings = can_search_on _ _ _ c.loop.invariant.settings c.trade.ensures.grows;
  memo = c.loop.invariant.memo;
}

pub search_leaves-searched-requires-clause-settings : goal.search_leaves-searched-requires-clause-settings
search_leaves-searched-requires-clause-settings g c =
    let can = can_search_on _ _ _ c.loop.invariant.settings c.trade.ensures.grows in
    subst (λ leases. All (CanSearchLeaf (g.O.Oracle.piece_limit c.args.oracle.now)) leases) (sym c.deref-in-loop.ensures.value) (leaves_can_be _ _ _ can c.in-Ok-trade.ensures.leases)

pub returns-then-is_err-clause-grows : goal.returns-then-is_err-clause-grows
returns-then-is_err-clause-grows g c =
    grows_then _ _ _ c.loop.invariant.grows (grows_then _ _ _ c.trade.ensures.grows (grows_then _ _ _ c.search_leaves-searched.ensures.grows c.give_back-then-is_err.ensures.grows))

pub loop-preserved : goal.loop-preserved
loop-preserved g c =
    let grows = grows_then _ _ _ c.trade.ensures.grows c.search_leaves-searched.ensures.grows in
    record {
      outside = c.search_leaves-searched.ensures.outside;
      grows = grows_then _ _ _ c.loop.invariant.grows grows;
      settings = can_search_on _ _ _ c.loop.invariant.settings grows;
      memo = c.search_leaves-searched.ensures.memo ∙ c.loop.invariant.memo;
    }
