use Rattle.std.proofs.Common.{◌≡◌, ◌∙◌, ◌⊎◌, inr, Bool, true, false, [], sym, ap}
use Rattle.std.specs.Prelude.{IsTrue, is_some, ◌↔◌}
use Rattle.std.proofs.lemmas.Bool.{OnTrue_from, false≢true}
use Rattle.draughts_board.specs.Play.{successors_of}
use Rattle.strategy_certificate.specs.Certificates.{IsHeld}
use Rattle.certificate_checker.proofs.SightLemmas.{answered_at_sight}
use Rattle.leaf_search.proofs.FailLemmas.{fails_at_zero, fails_at_sight, answered_lost, blocked_lost, moving_unseen, moving}
use Rattle.leaf_search.proofs.holds.fails_at_once.Goals as goal

-- the position is not held at once
unheld : {A B : Type 0} (b : Bool) → IsTrue b ↔ (A ⊎ B) → b ≡ false → A ⊎ B → ⊥
unheld b iff not h = false≢true (sym not ∙ iff.1 h)

pub returns-then-is_some : goal.returns-then-is_some
returns-then-is_some g c =
    let k = g.O.Oracle.piece_limit c.args.oracle.now in
    let answer = g.O.Oracle.answer_at c.args.oracle.now in
    let part = c.args.part.now in
    let p = c.args.p.now in
    let none : IsHeld part answer p → ⊥ = unheld c.is_held.result c.is_held.ensures c.if-is_held.false in
    let some : is_some (answer p) ≡ true = ap is_some (sym c.answer.ensures.value) ∙ sym c.is_some.ensures ∙ c.if-is_some.true in
    fails_at_sight k answer part p none
    (λ sight holds. answered_lost k answer c.answer.ensures.sound part.side p some (λ table. none (inr table)) holds)
    (answered_at_sight k answer c.answer.ensures.sound p some) 0

pub returns-then-is_mover : goal.returns-then-is_mover
returns-then-is_mover g c =
    let k = g.O.Oracle.piece_limit c.args.oracle.now in
    let answer = g.O.Oracle.answer_at c.args.oracle.now in
    let part = c.args.part.now in
    let p = c.args.p.now in
    let none : IsHeld part answer p → ⊥ = unheld c.is_held.result c.is_held.ensures c.if-is_held.false in
    let unanswered : is_some (answer p) ≡ false = ap is_some (sym c.answer.ensures.value) ∙ sym c.is_some.ensures ∙ c.if-is_some.false in
    let mine : p.to_move ≡ part.side = (rw c.if-is_mover.true at c.is_mover.ensures.turn) ∙ c.side.ensures.value in
    fails_at_zero k answer part p none (blocked_lost k answer c.answer.ensures.sound part.side p c.is_mover.ensures.lawful unanswered mine)

pub returns : goal.returns
returns g c =
    let k = g.O.Oracle.piece_limit c.args.oracle.now in
    let answer = g.O.Oracle.answer_at c.args.oracle.now in
    let part = c.args.part.now in
    let p = c.args.p.now in
    let none : IsHeld part answer p → ⊥ = unheld c.is_held.result c.is_held.ensures c.if-is_held.false in
    let unanswered : is_some (answer p) ≡ false = ap is_some (sym c.answer.ensures.value) ∙ sym c.is_some.ensures ∙ c.if-is_some.false in
    OnTrue_from c.has_move.result _ (λ yes.
    let move = c.has_move.ensures.rules.0 yes in
    let moves : successors_of p ≡ [] → ⊥ = moving p move.0 c.is_mover.ensures.lawful move.1 in
    fails_at_zero k answer part p none (moving_unseen k answer c.answer.ensures.sound part.side p c.is_mover.ensures.lawful unanswered moves))
