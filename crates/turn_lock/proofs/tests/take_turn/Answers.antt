use Rattle.std.proofs.Common.{rules, ℕ, ◌<◌, ◌∷◌, []}
use Rattle.std.proofs.lemmas.List.Elements.{All-nil, All-cons}
use Rattle.turn_lock.proofs.tests.take_turn.Goals as goal

pub note-requires-clause-grows : goal.note-requires-clause-grows
note-requires-clause-grows g c =
    let MayAdd : ℕ × ℕ → Type 0 = λ turn. 0 < turn.0 in
    record { added = c.args.turn ∷ []; whole = search rules; allowed = All-cons MayAdd c.args.turn [] c.requires.caller (All-nil MayAdd) }
