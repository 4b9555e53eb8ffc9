use Rattle.std.proofs.Common.{◌≡◌, ℕ, ◌∙◌, ap, sym, min, max}
use Rattle.capture_positions.specs.declared.jumps.Jump.{Jump}
use Rattle.capture_positions.proofs.JumpLemmas.{past, beside-is, same_beside}
use Rattle.capture_positions.proofs.jumps.square_beside.Goals as goal

pub returns : goal.returns
returns c =
    let j : Jump = c.jump_numbered-jump.result in
    let square : ◌≡◌ {A = ℕ} c.unwrap.result c.past.result = rw c.unwrap.ensures at c.new.ensures.some in
    let start = c.number-start.ensures.value in
    let end = c.number-end.ensures.value in
    let low = c.min.ensures ∙ ap (λ n. min n c.number-end.result) start ∙ ap (λ n. min j.start n) end in
    let high = c.max.ensures ∙ ap (λ n. max n c.number-end.result) start ∙ ap (λ n. max j.start n) end in
    let second = c.past-behind_two.ensures ∙ ap (λ n. past c.past-behind_least.result n) c.number.ensures.value in
    square
    ∙ same_beside j c.args.number c.args.place c.min.result c.max.result c.past-behind_least.result c.past-behind_two.result c.past.result c.jump_numbered-jump.ensures c.requires.number low high c.past-behind_least.ensures second c.past.ensures
    ∙ sym (beside-is c.args.number c.args.place c.requires.number c.requires.place)
