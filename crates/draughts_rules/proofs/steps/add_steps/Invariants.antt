use Rattle.std.proofs.Common.{◌≡◌, ◌++◌, ◌∷◌, [], take}
use Rattle.std.specs.Prelude.{filter, flat_map}
use Rattle.draughts_rules.specs.Conditions.{is_open_step}
use Rattle.draughts_rules.proofs.steps.add_steps.Given as goal

abbrev pub invariant-loop-number : goal.invariant-loop-number
invariant-loop-number l = l.found.items ≡ l.initial.found.items ++ flat_map (λ z. (l.«from» ∷ z ∷ []) ∷ []) (filter (is_open_step l.p l.«from») (take l.number-index l.number-items))
