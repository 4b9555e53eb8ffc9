use Rattle.std.proofs.Common.{rules, ◌∷◌, []}
use Rattle.turn_lock_bench.proofs.under_lock.take_turn.Goals as goal

pub note-requires-clause-grows : goal.note-requires-clause-grows
note-requires-clause-grows g c = record { added = c.args.turn ∷ []; whole = search rules; allowed = λ _ _ _. tt }
