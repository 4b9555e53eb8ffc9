use Rattle.std.proofs.Common.{◌≡◌, ℕ, ◌∙◌, ap}
use Rattle.std.proofs.lemmas.List.{get_or_default}
use Rattle.capture_positions.specs.declared.jumps.TheConstants.{JUMPS}
use Rattle.capture_positions.proofs.JumpLemmas.{is_some, jump-start, jump-end, same_jump}
use Rattle.capture_positions.proofs.jumps.jump_numbered.Goals as goal

pub unwrap-start-requires : goal.unwrap-start-requires
unwrap-start-requires c = is_some c.new.result _ _ c.new.ensures.none (ap (λ (p : ℕ × ℕ). p.0) (get_or_default JUMPS c.args.number _ (0, 0) c.requires)) (jump-start c.args.number c.requires)

pub unwrap-end-requires : goal.unwrap-end-requires
unwrap-end-requires c = is_some c.new-2.result _ _ c.new-2.ensures.none (ap (λ (p : ℕ × ℕ). p.1) (get_or_default JUMPS c.args.number _ (0, 0) c.requires)) (jump-end c.args.number c.requires)

pub returns : goal.returns
returns c =
    let start : ◌≡◌ {A = ℕ} c.unwrap-start.result _ = rw c.unwrap-start.ensures at c.new.ensures.some in
    let end : ◌≡◌ {A = ℕ} c.unwrap-end.result _ = rw c.unwrap-end.ensures at c.new-2.ensures.some in
    same_jump c.args.number c.unwrap-start.result c.between.result c.unwrap-end.result c.requires
    (start ∙ ap (λ (p : ℕ × ℕ). p.0) (get_or_default JUMPS c.args.number _ (0, 0) c.requires))
    (end ∙ ap (λ (p : ℕ × ℕ). p.1) (get_or_default JUMPS c.args.number _ (0, 0) c.requires))
    c.between.ensures
