use Rattle.std.proofs.Common.{rules, arith, ◌≡◌, ◌-◌, ◌⊎◌, inl, inr, suc, ℕ, List, ◌∷◌, ◌++◌, Bool, true, false, None, Some, [], refl, sym, ap, ◌∙◌, subst, take}
use Rattle.std.specs.Prelude.{All, MatchBool, is_some, IsTrue, ◌↔◌}
use Rattle.std.proofs.lemmas.List.Elements.{All-nil, All-cons, All-weaker, All-contains}
use Rattle.std.proofs.lemmas.Bool.{false≢true}
use Rattle.draughts_board.specs.Board.{Board, other}
use Rattle.draughts_board.specs.Rules.{IsLegal, after}
use Rattle.draughts_board.specs.Play.{successors_of}
use Rattle.strategy_certificate.specs.Parts.{HoldList, HasEntry}
use Rattle.strategy_certificate.specs.Certificates.{IsHeld}
use Rattle.certificate_checker.proofs.ListLemmas.{one_more, all_taken}
use Rattle.certificate_checker.proofs.SightLemmas.{answered_at_sight}
use Rattle.leaf_search.specs.Lines.{Continues, HoldFails, MoveFails}
use Rattle.leaf_search.proofs.LineLemmas.{Continues-refl, Continues-trans, Continues-enter, IsHeld-more, HasEntry-entered, kept}
use Rattle.leaf_search.proofs.FailLemmas.{fails_at_zero, fails_at_sight, fails_by_moves, fails_by_reply, move_fails, still_fails, HoldFails-fewer, answered_lost, blocked_lost, moving_unseen, All-successors, All-legal, moving, blocked}
use Rattle.leaf_search.proofs.holds.+hold.Goals as goal

side_of : {a b : HoldList} → a ≡ b → a.side ≡ b.side
side_of e = ap (λ (w : HoldList). w.side) e

entries_of : {a b : HoldList} → a ≡ b → a.entries ≡ b.entries
entries_of e = ap (λ (w : HoldList). w.entries) e

pub try_move-returns-then-held-clause-found : goal.try_move-returns-then-held-clause-found
try_move-returns-then-held-clause-found g t c =
    let answer = g.O.Oracle.answer_at c.args.oracle.now in
    let new = c.find_hold.new.part in
    let on = rw c.if-held.true at c.in_ok-held.ensures.found in
    let held = rw (c.if-held.true, c.apply-next.ensures) at c.in_ok-held.ensures.held in
    Continues-enter answer c.args.part.now c.add.new.self new c.args.p.now (Some c.args.m.now) c.requires.lawful
    (side_of c.in_ok-add.ensures.ok) (entries_of c.in_ok-add.ensures.ok) on (c.requires.mine, c.requires.legal)
    (All-cons (IsHeld new answer) (after c.args.p.now c.args.m.now) [] held (All-nil (IsHeld new answer)))

pub try_move-returns-then-held-clause-held : goal.try_move-returns-then-held-clause-held
try_move-returns-then-held-clause-held g t c =
    let on = rw c.if-held.true at c.in_ok-held.ensures.found in
    HasEntry-entered (g.O.Oracle.answer_at c.args.oracle.now) c.args.part.now c.add.new.self c.find_hold.new.part
    c.args.p.now (Some c.args.m.now) (entries_of c.in_ok-add.ensures.ok) on

pub try_move-returns-clause-held : goal.try_move-returns-clause-held
try_move-returns-clause-held g t c =
    let fails = rw (c.if-held.false, c.apply-next.ensures) at c.in_ok-held.ensures.held in
    move_fails (g.O.Oracle.piece_limit c.args.oracle.now) c.args.depth c.args.part.now c.add.new.self c.args.p.now c.args.m.now (Some c.args.m.now)
    (side_of c.in_ok-add.ensures.ok) (entries_of c.in_ok-add.ensures.ok) fails

pub try_move-returns-then-fails_at_once-clause-held : goal.try_move-returns-then-fails_at_once-clause-held
try_move-returns-then-fails_at_once-clause-held g t c =
    let k = g.O.Oracle.piece_limit c.args.oracle.now in
    let part : HoldList = c.args.part.now in
    let p : Board = c.args.p.now in
    let m : List ℕ = c.args.m.now in
    let mid : HoldList = record { side = part.side; entries = part.entries ++ (p, Some m) ∷ [] } in
    let fails = rw (c.if-fails_at_once.true, c.apply-next.ensures) at c.fails_at_once.ensures in
    subst (λ d. MoveFails k d part p m) (sym c.if-depth-eq0.true)
    (move_fails k 0 part mid p m (Some m) refl refl (still_fails k part mid p m (Some m) refl refl fails))

pub try_moves-loop-m-preserved : goal.try_moves-loop-m-preserved
try_moves-loop-m-preserved g t c =
    let k = g.O.Oracle.piece_limit c.args.oracle.now in
    let p = c.args.p.now in
    let same = c.loop-m.invariant.same in
    let failed = rw c.if-held.false at c.in_ok-held.ensures.held in
    record {
      same = (rw c.if-held.false at c.in_ok-held.ensures.found) ∙ same;
      fails = one_more (MoveFails k c.args.depth c.args.part.now p) c.args.moves.now c.loop-m.m-index c.m-item.result (omega arith) c.m-item.is
          c.loop-m.invariant.fails (subst (λ part. MoveFails k c.args.depth part p c.m-item.result) same failed);
    }

pub try_moves-returns-clause-held : goal.try_moves-returns-clause-held
try_moves-returns-clause-held g t c =
    all_taken (MoveFails (g.O.Oracle.piece_limit c.args.oracle.now) c.args.depth c.args.part.now c.args.p.now) c.args.moves.now c.loop-m.m-index (omega arith) c.loop-m.invariant.fails

pub hold_all-loop-m-preserved : goal.hold_all-loop-m-preserved
hold_all-loop-m-preserved g t c =
    let answer = g.O.Oracle.answer_at c.args.oracle.now in
    let p = c.args.p.now in
    let old = c.args.part.now in
    let mid = c.loop-m.part in
    let new = c.find_hold.new.part in
    let found : c.in_ok-held.held ≡ true = search rules in
    let on : Continues answer mid new = rw found at c.in_ok-held.ensures.found in
    let here : IsHeld new answer (after p c.m-item.result) = rw (found, c.apply-next.ensures) at c.in_ok-held.ensures.held in
    record {
      on = Continues-trans answer old mid new c.loop-m.invariant.on on;
      held = one_more (λ m. IsHeld new answer (after p m)) c.args.moves.now c.loop-m.m-index c.m-item.result (omega arith) c.m-item.is
          (All-weaker (λ m. IsHeld mid answer (after p m)) (λ m. IsHeld new answer (after p m)) (λ m. IsHeld-more answer mid new on (after p m)) (take c.loop-m.m-index c.args.moves.now) c.loop-m.invariant.held) here;
    }

pub hold_all-returns-clause-held : goal.hold_all-returns-clause-held
hold_all-returns-clause-held g t c =
    all_taken (λ m. IsHeld c.loop-m.part (g.O.Oracle.answer_at c.args.oracle.now) (after c.args.p.now m)) c.args.moves.now c.loop-m.m-index (omega arith) c.loop-m.invariant.held

pub hold_all-returns-then-not-held-clause-held : goal.hold_all-returns-then-not-held-clause-held
hold_all-returns-then-not-held-clause-held g t c =
    let failed : c.in_ok-held.held ≡ false = search rules in
    let fails = rw (failed, c.apply-next.ensures) at c.in_ok-held.ensures.held in
    let on = c.loop-m.invariant.on in (
      c.loop-m.m-index,
      c.m-item.result,
      omega arith,
      sym c.m-item.is,
      HoldFails-fewer (g.O.Oracle.piece_limit c.args.oracle.now) c.args.depth c.args.part.now c.loop-m.part (after c.args.p.now c.m-item.result)
          (kept (g.O.Oracle.answer_at c.args.oracle.now) c.args.part.now c.loop-m.part on) fails,
    )

-- the position is not held at once
unheld : {A B : Type 0} (b : Bool) → IsTrue b ↔ (A ⊎ B) → b ≡ false → A ⊎ B → ⊥
unheld b iff not h = false≢true (sym not ∙ iff.1 h)

pub find_hold-returns-then-is_some-clause-held : goal.find_hold-returns-then-is_some-clause-held
find_hold-returns-then-is_some-clause-held g t c =
    let k = g.O.Oracle.piece_limit c.args.oracle.now in
    let answer = g.O.Oracle.answer_at c.args.oracle.now in
    let part = c.args.part.now in
    let p = c.args.p.now in
    let none : IsHeld part answer p → ⊥ = unheld c.is_held.result c.is_held.ensures c.if-is_held.false in
    let some : is_some (answer p) ≡ true = ap is_some (sym c.answer.ensures.value) ∙ sym c.is_some.ensures ∙ c.if-is_some.true in
    fails_at_sight k answer part p none
    (λ sight holds. answered_lost k answer c.answer.ensures.sound part.side p some (λ table. none (inr table)) holds)
    (answered_at_sight k answer c.answer.ensures.sound p some) c.args.depth

pub find_hold-returns-then-mine-clause-held : goal.find_hold-returns-then-mine-clause-held
find_hold-returns-then-mine-clause-held g t c =
    let k = g.O.Oracle.piece_limit c.args.oracle.now in
    let answer = g.O.Oracle.answer_at c.args.oracle.now in
    let part = c.args.part.now in
    let p = c.args.p.now in
    let none : IsHeld part answer p → ⊥ = unheld c.is_held.result c.is_held.ensures c.if-is_held.false in
    let unanswered : is_some (answer p) ≡ false = ap is_some (sym c.answer.ensures.value) ∙ sym c.is_some.ensures ∙ c.if-is_some.false in
    let mine : p.to_move ≡ part.side = (rw c.if-mine.true at c.is_mover-mine.ensures.turn) ∙ c.side.ensures.value in
    subst (λ d. HoldFails k d part p) (sym c.if-depth-eq0.true)
    (fails_at_zero k answer part p none (blocked_lost k answer c.answer.ensures.sound part.side p c.is_mover-mine.ensures.lawful unanswered mine))

pub find_hold-returns-then-depth-eq0-clause-found : goal.find_hold-returns-then-depth-eq0-clause-found
find_hold-returns-then-depth-eq0-clause-found g t c =
    let answer = g.O.Oracle.answer_at c.args.oracle.now in
    let none : successors_of c.args.p.now ≡ [] = blocked c.args.p.now c.is_mover-mine.ensures.lawful (λ path legal. false≢true (sym c.if-has_move.false ∙ c.has_move.ensures.rules.1 (path, legal))) in
    let theirs : c.args.p.now.to_move ≡ other c.args.part.now.side = (rw c.if-mine.false at c.is_mover-mine.ensures.turn) ∙ ap other c.side.ensures.value in
    Continues-enter answer c.args.part.now c.add.new.self c.add.new.self c.args.p.now None c.is_mover-mine.ensures.lawful
    (side_of c.in_ok-add.ensures.ok) (entries_of c.in_ok-add.ensures.ok) (Continues-refl answer c.add.new.self) theirs
    (subst (All (IsHeld c.add.new.self answer)) (sym none) (All-nil (IsHeld c.add.new.self answer)))

pub find_hold-returns-then-depth-eq0-clause-held : goal.find_hold-returns-then-depth-eq0-clause-held
find_hold-returns-then-depth-eq0-clause-held g t c =
    let answer = g.O.Oracle.answer_at c.args.oracle.now in
    inl (HasEntry-entered answer c.args.part.now c.add.new.self c.add.new.self c.args.p.now None (entries_of c.in_ok-add.ensures.ok) (Continues-refl answer c.add.new.self))

pub find_hold-returns-then-has_move-clause-held : goal.find_hold-returns-then-has_move-clause-held
find_hold-returns-then-has_move-clause-held g t c =
    let k = g.O.Oracle.piece_limit c.args.oracle.now in
    let answer = g.O.Oracle.answer_at c.args.oracle.now in
    let part = c.args.part.now in
    let p = c.args.p.now in
    let none : IsHeld part answer p → ⊥ = unheld c.is_held.result c.is_held.ensures c.if-is_held.false in
    let unanswered : is_some (answer p) ≡ false = ap is_some (sym c.answer.ensures.value) ∙ sym c.is_some.ensures ∙ c.if-is_some.false in
    let move = c.has_move.ensures.rules.0 c.if-has_move.true in
    let moves : successors_of p ≡ [] → ⊥ = moving p move.0 c.is_mover-mine.ensures.lawful move.1 in
    subst (λ d. HoldFails k d part p) (sym c.if-depth-eq0.true)
    (fails_at_zero k answer part p none (moving_unseen k answer c.answer.ensures.sound part.side p c.is_mover-mine.ensures.lawful unanswered moves))

pub find_hold-try_moves-requires : goal.find_hold-try_moves-requires
find_hold-try_moves-requires g t c κs s =
    let legal : All (IsLegal c.args.p.now) c.deref.result.now = subst (All (IsLegal c.args.p.now)) (sym c.deref.ensures.value)
    (All-legal c.args.p.now c.in_ok-moves.moves.items c.in_ok-moves.ensures.rules) in
    let mine : c.args.p.now.to_move ≡ c.args.part.now.side = (rw c.if-mine-2.true at c.is_mover-mine.ensures.turn) ∙ c.side.ensures.value in
    let new : HasEntry c.args.part.now.entries c.args.p.now → ⊥ = λ h. unheld c.is_held.result c.is_held.ensures c.if-is_held.false (inl h) in
    let n = c.if-depth-eq0.false in
    (search rules, (s, (c.is_mover-mine.ensures.lawful, (mine, (new, legal)))))

pub find_hold-returns-then-mine-2-clause-held : goal.find_hold-returns-then-mine-2-clause-held
find_hold-returns-then-mine-2-clause-held g t c =
    let k = g.O.Oracle.piece_limit c.args.oracle.now in
    let answer = g.O.Oracle.answer_at c.args.oracle.now in
    let part = c.args.part.now in
    let new = c.try_moves.new.part in
    let p = c.args.p.now in
    let none : IsHeld part answer p → ⊥ = unheld c.is_held.result c.is_held.ensures c.if-is_held.false in
    let unanswered : is_some (answer p) ≡ false = ap is_some (sym c.answer.ensures.value) ∙ sym c.is_some.ensures ∙ c.if-is_some.false in
    let mine : p.to_move ≡ part.side = (rw c.if-mine-2.true at c.is_mover-mine.ensures.turn) ∙ c.side.ensures.value in
    let positive : suc (c.args.depth - 1) ≡ c.args.depth = (let n = c.if-depth-eq0.false in omega (arith, n)) in
    let paths = c.in_ok-moves.moves.items in
    let fails : All (MoveFails k (c.args.depth - 1) part p) paths → HoldFails k c.args.depth part p = λ all.
    subst (λ d. HoldFails k d part p) positive
    (fails_by_moves k answer part p none (blocked_lost k answer c.answer.ensures.sound part.side p c.is_mover-mine.ensures.lawful unanswered mine)
    (c.args.depth - 1) c.is_mover-mine.ensures.lawful mine
    (λ m legal. All-contains (MoveFails k (c.args.depth - 1) part p) paths m all (c.in_ok-moves.ensures.rules.complete m legal))) in
    let by : (b : Bool) → MatchBool b (HasEntry new.entries p) (All (MoveFails k (c.args.depth - 1) part p) paths) → MatchBool b (IsHeld new answer p) (HoldFails k c.args.depth part p) =
    elim [ true ↦ λ h. inl h | false ↦ fails ] in
    by c.in_ok-held.held (rw c.deref.ensures.value at c.in_ok-held.ensures.held)

pub find_hold-some_fails-requires : goal.find_hold-some_fails-requires
find_hold-some_fails-requires g t c = record {
  legal = subst (All (IsLegal c.args.p.now)) (sym c.as_slice.ensures.value)
      (All-legal c.args.p.now c.in_ok-moves.moves.items c.in_ok-moves.ensures.rules);
}

pub find_hold-returns-then-some_fails-clause-held : goal.find_hold-returns-then-some_fails-clause-held
find_hold-returns-then-some_fails-clause-held g t c =
    let k = g.O.Oracle.piece_limit c.args.oracle.now in
    let answer = g.O.Oracle.answer_at c.args.oracle.now in
    let part : HoldList = c.args.part.now in
    let p : Board = c.args.p.now in
    let none : IsHeld part answer p → ⊥ = unheld c.is_held.result c.is_held.ensures c.if-is_held.false in
    let unanswered : is_some (answer p) ≡ false = ap is_some (sym c.answer.ensures.value) ∙ sym c.is_some.ensures ∙ c.if-is_some.false in
    let lawful = c.is_mover-mine.ensures.lawful in
    let theirs : p.to_move ≡ other part.side = (rw c.if-mine-2.false at c.is_mover-mine.ensures.turn) ∙ ap other c.side.ensures.value in
    let failed = rw (c.if-some_fails.true, c.as_slice.ensures.value) at c.some_fails.ensures in
    let legal : IsLegal p failed.1 = c.in_ok-moves.ensures.rules.sound failed.1 (failed.0, failed.2, failed.3) in
    let mid : HoldList = record { side = part.side; entries = part.entries ++ (p, None) ∷ [] } in
    let one : suc 0 ≡ c.args.depth = (let e = c.if-depth-eq1.true in omega (arith, e)) in
    subst (λ d. HoldFails k d part p) one
    (fails_by_reply k answer part p none (moving_unseen k answer c.answer.ensures.sound part.side p lawful unanswered (moving p failed.1 lawful legal))
    0 mid None refl refl theirs lawful failed.1 legal (still_fails k part mid p failed.1 None refl refl failed.4))

pub find_hold-returns-then-held-clause-found : goal.find_hold-returns-then-held-clause-found
find_hold-returns-then-held-clause-found g t c =
    let answer = g.O.Oracle.answer_at c.args.oracle.now in
    let on = rw c.if-held.true at c.in_ok-held-2.ensures.found in
    let each = rw (c.if-held.true, c.deref-2.ensures.value) at c.in_ok-held-2.ensures.held in
    let held = All-successors (IsHeld c.hold_all.new.part answer) c.args.p.now c.in_ok-moves.moves.items c.is_mover-mine.ensures.lawful c.in_ok-moves.ensures.rules each in
    let theirs : c.args.p.now.to_move ≡ other c.args.part.now.side = (rw c.if-mine-2.false at c.is_mover-mine.ensures.turn) ∙ ap other c.side.ensures.value in
    Continues-enter answer c.args.part.now c.add-2.new.self c.hold_all.new.part c.args.p.now None c.is_mover-mine.ensures.lawful
    (side_of c.in_ok-add-2.ensures.ok) (entries_of c.in_ok-add-2.ensures.ok) on theirs held

pub find_hold-returns-then-held-clause-held : goal.find_hold-returns-then-held-clause-held
find_hold-returns-then-held-clause-held g t c =
    let answer = g.O.Oracle.answer_at c.args.oracle.now in
    let on = rw c.if-held.true at c.in_ok-held-2.ensures.found in
    inl (HasEntry-entered answer c.args.part.now c.add-2.new.self c.hold_all.new.part c.args.p.now None (entries_of c.in_ok-add-2.ensures.ok) on)

pub find_hold-returns-clause-held : goal.find_hold-returns-clause-held
find_hold-returns-clause-held g t c =
    let k = g.O.Oracle.piece_limit c.args.oracle.now in
    let answer = g.O.Oracle.answer_at c.args.oracle.now in
    let part = c.args.part.now in
    let p = c.args.p.now in
    let none : IsHeld part answer p → ⊥ = unheld c.is_held.result c.is_held.ensures c.if-is_held.false in
    let unanswered : is_some (answer p) ≡ false = ap is_some (sym c.answer.ensures.value) ∙ sym c.is_some.ensures ∙ c.if-is_some.false in
    let lawful = c.is_mover-mine.ensures.lawful in
    let theirs : p.to_move ≡ other part.side = (rw c.if-mine-2.false at c.is_mover-mine.ensures.turn) ∙ ap other c.side.ensures.value in
    let failed = rw (c.if-held.false, c.deref-2.ensures.value) at c.in_ok-held-2.ensures.held in
    let legal : IsLegal p failed.1 = c.in_ok-moves.ensures.rules.sound failed.1 (failed.0, failed.2, failed.3) in
    let positive : suc (c.args.depth - 1) ≡ c.args.depth = (let n = c.if-depth-eq0.false in omega (arith, n)) in
    subst (λ d. HoldFails k d part p) positive
    (fails_by_reply k answer part p none (moving_unseen k answer c.answer.ensures.sound part.side p lawful unanswered (moving p failed.1 lawful legal))
    (c.args.depth - 1) c.add-2.new.self None (side_of c.in_ok-add-2.ensures.ok) (entries_of c.in_ok-add-2.ensures.ok) theirs
    lawful failed.1 legal failed.4)

pub find_hold-hold_all-requires : goal.find_hold-hold_all-requires
find_hold-hold_all-requires g t c κs s =
    let legal : All (IsLegal c.args.p.now) c.deref-2.result.now = subst (All (IsLegal c.args.p.now)) (sym c.deref-2.ensures.value)
    (All-legal c.args.p.now c.in_ok-moves.moves.items c.in_ok-moves.ensures.rules) in
    let n = c.if-depth-eq0.false in
    (search rules, (s, legal))
