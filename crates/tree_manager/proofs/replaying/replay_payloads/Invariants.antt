use Rattle.std.proofs.Common.{◌≡◌, [], take}
use Rattle.tree_manager.specs.Receipts.{SpellsRecords}
use Rattle.tree_manager.specs.Replaying.{IsReplayedCore, payload_texts}
use Rattle.tree_manager.proofs.replaying.replay_payloads.Given as goal

abbrev pub invariant-loop-payload : goal.invariant-loop-payload
invariant-loop-payload g l =
    IsReplayedCore l.fn.s l.bench
    × SpellsRecords l.fn.s.pieces [] l.bench.records (payload_texts (take l.payload-index l.payloads))
    × (l.bench.state.leases.rows ≡ [])
    × (l.bench.staged ≡ [])
    × (l.bench.state.settings.pieces ≡ l.fn.s.pieces)
