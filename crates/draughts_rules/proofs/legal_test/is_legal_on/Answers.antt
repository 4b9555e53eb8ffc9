use Rattle.std.proofs.Common.{◌≡◌, ◌∙◌, sym, ap, true, false, List, ℕ, inl, inr}
use Rattle.draughts_board.specs.Board.{Board}
use Rattle.draughts_board.specs.Play.{is_capture, is_lone_step}
use Rattle.draughts_board.proofs.LegalTests.{capture-from_test, test-from_capture, step-from_test, test-from_step}
use Rattle.draughts_rules.proofs.legal_test.is_legal_on.Goals as goal

pub returns-then-is_capture : goal.returns-then-is_capture
returns-then-is_capture c =
    let p : Board = c.args.p.now in
    let path : List ℕ = c.args.m.now in
    let test : is_capture p path ≡ true = sym (c.is_capture.ensures ∙ ap (is_capture p) c.path-path.ensures.value) ∙ c.if-is_capture.true in
    (λ yes. inl (capture-from_test p path c.path-path.ensures.least test), λ legal. c.if-is_capture.true)

pub returns-else-is_capture : goal.returns-else-is_capture
returns-else-is_capture c =
    let p : Board = c.args.p.now in
    let path : List ℕ = c.args.m.now in
    let captures : c.is_capture.result ≡ is_capture p path = c.is_capture.ensures ∙ ap (is_capture p) c.path-path.ensures.value in
    let steps : c.is_lone_step.result ≡ is_lone_step p path = c.is_lone_step.ensures ∙ ap (is_lone_step p) c.path-path.ensures.value in (
      λ yes. inr (step-from_test p path (sym steps ∙ yes)),
      λ legal. elim legal [
        | inl k ↦ absurd (let e : true ≡ false = sym (test-from_capture p path k) ∙ sym captures ∙ c.if-is_capture.false in cc)
        | inr s ↦ steps ∙ test-from_step p path s
      ],
    )
