use Rattle.std.proofs.Common.{◌∙◌, ◌++◌, ◌∷◌, [], ℕ, ap, arith}
use Rattle.std.specs.Prelude.{filter, flat_map}
use Rattle.std.proofs.lemmas.List.{take_all}
use Rattle.draughts_rules.specs.Conditions.{is_open_step}
use Rattle.draughts_board.proofs.Turns.{filter_turn}
use Rattle.draughts_rules.proofs.NearSquareRules.{open_steps}
use Rattle.draughts_rules.proofs.steps.add_steps.Goals as goal

pub loop-number-preserved : goal.loop-number-preserved
loop-number-preserved c =
    let x : ℕ = c.args.«from» in
    c.in_ok-add_step.ensures
    ∙ filter_turn (λ z. (x ∷ z ∷ []) ∷ []) (is_open_step c.args.p.now x) c.args.found.now.items c.loop-number.found.items c.neighbours-near.result c.loop-number.number-index _ (omega arith) c.loop-number.invariant

pub returns : goal.returns
returns c =
    let x : ℕ = c.args.«from» in
    c.loop-number.invariant
    ∙ ap (λ xs. c.args.found.now.items ++ flat_map (λ z. (x ∷ z ∷ []) ∷ []) (filter (is_open_step c.args.p.now x) xs))
    (take_all c.loop-number.number-index c.neighbours-near.result (omega arith) ∙ c.neighbours-near.ensures.row)
    ∙ ap (λ zs. c.args.found.now.items ++ flat_map (λ z. (x ∷ z ∷ []) ∷ []) zs) (open_steps c.args.p.now x c.neighbours-near.ensures.square)
