use Rattle.std.proofs.Common.{◌≡◌, ◌∙◌, true, nat_eq, sym, ap, [], length}
use Rattle.draughts_board.specs.Resolution.{matches, meaning}
use Rattle.draughts_board.proofs.Written.{unless-memory}
use Rattle.swift_moves.proofs.LegalLists.{any-jumper}
use Rattle.swift_moves.proofs.StepMeaning.{nothing_between}
use Rattle.swift_moves.proofs.resolution.resolve.Goals as goal

pub resolve_step-requires-clause-no_jump : goal.resolve_step-requires-clause-no_jump
resolve_step-requires-clause-no_jump c =
    sym (any-jumper c.args.p.now c.jumpers.result (c.jumpers.ensures c.args.p.now c.of-f.ensures.masks)) ∙ sym c.is_any.ensures ∙ c.if-not-is_any.true

pub returns-then-not-is_any-clause-exact : goal.returns-then-not-is_any-clause-exact
returns-then-not-is_any-clause-exact c =
    let test : true ≡ nat_eq (length c.args.middle.now) 0 = cc in
    let none : c.args.middle.now ≡ [] = nothing_between c.args.middle.now test in
    unless-memory c.resolve_step.result _ (c.resolve_step.ensures.exact ∙ ap (λ m. meaning c.args.p.now (matches c.args.p.now c.args.«from» m c.args.to)) (sym none))
