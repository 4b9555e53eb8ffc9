use Rattle.std.proofs.Common.{arith, ◌≡◌, ◌<◌, ◌≤◌, ◌-◌, inr, ℕ, suc, true, Option, None, Some, [], refl, sym, ap, ◌∙◌, subst, take, length}
use Rattle.std.specs.Prelude.{All, MatchOption, is_some}
use Rattle.std.proofs.lemmas.List.Elements.{All-nil, All-weaker, All-contains}
use Rattle.std.proofs.lemmas.Bool.{false≢true}
use Rattle.draughts_board.specs.Board.{Board, other}
use Rattle.draughts_board.specs.Rules.{after}
use Rattle.draughts_board.specs.Play.{successors_of}
use Rattle.strategy_certificate.specs.Parts.{WinList}
use Rattle.strategy_certificate.specs.Certificates.{IsReached, IsReachedBelow}
use Rattle.certificate_checker.proofs.ListLemmas.{one_more, all_taken}
use Rattle.leaf_search.specs.Wins.{WinFails, IsLowFor, Grows, Finds}
use Rattle.leaf_search.proofs.FailLemmas.{All-successors, moving, blocked}
use Rattle.certificate_checker.proofs.SightLemmas.{unanswered_at_sight}
use Rattle.leaf_search.proofs.WinLemmas.{is_none, cut_back, answered_fails, Grows-refl, fails_at_zero, fails_by_moves, fails_by_reply, Finds-after, Grows-trans, below_more, below_up, longer}
use Rattle.leaf_search.proofs.wins.+win.Goals as goal

pub find_win-returns-then-is_some-clause-found : goal.find_win-returns-then-is_some-clause-found
find_win-returns-then-is_some-clause-found g t c =
    let k = g.O.Oracle.piece_limit c.args.oracle.now in
    let answer = g.O.Oracle.answer_at c.args.oracle.now in
    let part = c.args.part.now in
    let p = c.args.p.now in
    let some : is_some (answer p) ≡ true = ap is_some (sym c.answer.ensures.value) ∙ sym c.is_some.ensures ∙ c.if-is_some.true in
    let by : (o : Option ℕ) → MatchOption o ((r : ℕ) → IsReached part answer r p → ⊥) (λ r. IsReached part answer r p × IsLowFor (length part.entries) r)
    → MatchOption o ((part ≡ part) × WinFails k part.side c.args.depth p) (Finds answer part part p) =
    elim [
      | None ↦ λ unshown. (refl, answered_fails k answer c.answer.ensures.sound part.side p some (λ r table. unshown r (inr table)) c.args.depth)
      | Some r ↦ λ shown. record { grows = Grows-refl answer part c.requires.steady; reached = shown.0; low = shown.1 }
    ] in
    by c.shown_rank.result c.shown_rank.ensures

pub look_ahead-returns-then-mine-clause-found : goal.look_ahead-returns-then-mine-clause-found
look_ahead-returns-then-mine-clause-found g t c =
    let k = g.O.Oracle.piece_limit c.args.oracle.now in
    let answer = g.O.Oracle.answer_at c.args.oracle.now in
    let part = c.args.part.now in
    let p = c.args.p.now in
    let mine : p.to_move ≡ part.side = (rw c.if-mine.true at c.is_mover-mine.ensures.turn) ∙ c.side.ensures.value in (
      refl,
      subst (λ d. WinFails k part.side d p) (sym c.if-depth-eq0.true)
          (fails_at_zero k answer c.requires.sound part.side p c.is_mover-mine.ensures.lawful (ap is_some c.requires.unanswered) mine),
    )

pub look_ahead-enter-requires-clause-below : goal.look_ahead-enter-requires-clause-below
look_ahead-enter-requires-clause-below g t c =
    let answer = g.O.Oracle.answer_at c.args.oracle.now in
    let part = c.args.part.now in
    let none : successors_of c.args.p.now ≡ [] = blocked c.args.p.now c.is_mover-mine.ensures.lawful (λ path legal. false≢true (sym c.if-has_move.false ∙ c.has_move.ensures.rules.1 (path, legal))) in
    subst (All (IsReachedBelow part answer 0)) (sym none) (All-nil (IsReachedBelow part answer 0))

pub look_ahead-returns-then-has_move-clause-found : goal.look_ahead-returns-then-has_move-clause-found
look_ahead-returns-then-has_move-clause-found g t c =
    let k = g.O.Oracle.piece_limit c.args.oracle.now in
    let answer = g.O.Oracle.answer_at c.args.oracle.now in
    let part = c.args.part.now in
    let p = c.args.p.now in
    let move = c.has_move.ensures.rules.0 c.if-has_move.true in
    let moves : successors_of p ≡ [] → ⊥ = moving p move.0 c.is_mover-mine.ensures.lawful move.1 in
    let fails : WinFails k part.side 0 p = λ shows.
    moves (unanswered_at_sight k answer c.requires.sound p c.is_mover-mine.ensures.lawful (ap is_some c.requires.unanswered) shows.0) in
    (refl, subst (λ d. WinFails k part.side d p) (sym c.if-depth-eq0.true) fails)

pub look_ahead-returns-then-mine-2-clause-found : goal.look_ahead-returns-then-mine-2-clause-found
look_ahead-returns-then-mine-2-clause-found g t c =
    let k = g.O.Oracle.piece_limit c.args.oracle.now in
    let answer = g.O.Oracle.answer_at c.args.oracle.now in
    let part = c.args.part.now in
    let new = c.win_by_move.new.part in
    let p = c.args.p.now in
    let mine : p.to_move ≡ part.side = (rw c.if-mine-2.true at c.is_mover-mine.ensures.turn) ∙ c.side.ensures.value in
    let positive : suc (c.args.depth - 1) ≡ c.args.depth = (let n = c.if-depth-eq0.false in omega (arith, n)) in
    let paths = c.in_ok-moves.moves.items in
    let fails : All (λ m. WinFails k part.side (c.args.depth - 1) (after p m)) paths → WinFails k part.side c.args.depth p = λ all.
    subst (λ d. WinFails k part.side d p) positive
    (fails_by_moves k answer c.requires.sound part.side p c.is_mover-mine.ensures.lawful (ap is_some c.requires.unanswered) (c.args.depth - 1) mine
    (λ m legal. All-contains (λ m. WinFails k part.side (c.args.depth - 1) (after p m)) paths m all (c.in_ok-moves.ensures.rules.complete m legal))) in
    let by : (o : Option ℕ) → MatchOption o ((new ≡ part) × All (λ m. WinFails k part.side (c.args.depth - 1) (after p m)) paths) (Finds answer part new p)
    → MatchOption o ((new ≡ part) × WinFails k part.side c.args.depth p) (Finds answer part new p) =
    elim [ None ↦ λ h. (h.0, fails h.1) | Some r ↦ λ h. h ] in
    by c.in_ok-found.found (rw c.deref.ensures.value at c.in_ok-found.ensures.found)

pub look_ahead-returns-in_default-clause-found : goal.look_ahead-returns-in_default-clause-found
look_ahead-returns-in_default-clause-found g t c =
    let k = g.O.Oracle.piece_limit c.args.oracle.now in
    let answer = g.O.Oracle.answer_at c.args.oracle.now in
    let part = c.args.part.now in
    let p = c.args.p.now in
    let failed = rw (is_none c.in_ok-found-2.found c.in_default.not-Some) at c.in_ok-found-2.ensures.found in
    let theirs : p.to_move ≡ other part.side = (rw c.if-mine-2.false at c.is_mover-mine.ensures.turn) ∙ ap other c.side.ensures.value in
    let positive : suc (c.args.depth - 1) ≡ c.args.depth = (let n = c.if-depth-eq0.false in omega (arith, n)) in
    let any = rw c.deref-2.ensures.value at failed.1 in (
      cut_back part c.win_all.new.part c.truncate.new.self c.len-mark.result failed.0 c.len-mark.ensures.value c.truncate.ensures,
      subst (λ d. WinFails k part.side d p) positive
          (fails_by_reply k answer c.requires.sound part.side p c.is_mover-mine.ensures.lawful (ap is_some c.requires.unanswered) (c.args.depth - 1) theirs
          any.1 (c.in_ok-moves.ensures.rules.sound any.1 (any.0, any.2, any.3)) any.4),
    )

pub look_ahead-enter-requires-2-clause-below : goal.look_ahead-enter-requires-2-clause-below
look_ahead-enter-requires-2-clause-below g t c =
    let answer = g.O.Oracle.answer_at c.args.oracle.now in
    let found = rw c.in-Some.is at c.in_ok-found-2.ensures.found in
    let each = rw c.deref-2.ensures.value at found.reached in
    All-successors (IsReachedBelow c.win_all.new.part answer c.in-Some.above) c.args.p.now c.in_ok-moves.moves.items c.is_mover-mine.ensures.lawful c.in_ok-moves.ensures.rules each

pub win_all-loop-m-preserved : goal.win_all-loop-m-preserved
win_all-loop-m-preserved g t c =
    let answer = g.O.Oracle.answer_at c.args.oracle.now in
    let old = c.args.part.now in
    let mid = c.loop-m.part in
    let new = c.find_win.new.part in
    let p = c.args.p.now in
    let m = c.m-item.result in
    let above = c.max-above.result in
    let finds : Finds answer mid new (after p m) c.in-Some.rank = rw (c.in-Some.is, c.apply-next.ensures) at c.in_ok-found.ensures.found in
    let before = c.loop-m.invariant.found in
    let is = c.max-above.ensures in
    let low_here = finds.low in
    let low_before = before.low in
    let longer_now = longer mid new finds.grows.keeps in
    let up : c.loop-m.above ≤ above = omega (arith, is) in
    let here : c.in-Some.rank < above = omega (arith, is) in
    record {
      memo = c.in_ok-found.ensures.memo ∙ c.loop-m.invariant.memo;
      found = record {
        grows = Grows-trans answer old mid new before.grows finds.grows;
        reached = one_more (λ m. IsReachedBelow new answer above (after p m)) c.args.moves.now c.loop-m.m-index m (omega arith) c.m-item.is
            (All-weaker (λ m. IsReachedBelow mid answer c.loop-m.above (after p m)) (λ m. IsReachedBelow new answer above (after p m))
            (λ m won. below_more answer mid new finds.grows.keeps above (after p m) (below_up answer mid c.loop-m.above above up (after p m) won)) (take c.loop-m.m-index c.args.moves.now) before.reached)
            (c.in-Some.rank, (here, finds.reached));
        low = omega (arith, is, low_here, low_before, longer_now);
      };
    }

pub win_by_move-returns-in-Some-clause-found : goal.win_by_move-returns-in-Some-clause-found
win_by_move-returns-in-Some-clause-found g t c =
    let answer = g.O.Oracle.answer_at c.args.oracle.now in
    let mid = c.find_win.new.part in
    let finds : Finds answer c.loop-m.part mid c.apply-next.result c.in-Some.rank = rw c.in-Some.is at c.in_ok-found.ensures.found in
    Finds-after answer c.args.part.now mid c.enter.new.part c.args.p.now c.in_ok-rank.rank
    (subst (λ part. Grows answer part mid) c.loop-m.invariant.same finds.grows) c.in_ok-rank.ensures

pub win_by_move-loop-m-preserved : goal.win_by_move-loop-m-preserved
win_by_move-loop-m-preserved g t c =
    let k = g.O.Oracle.piece_limit c.args.oracle.now in
    let p = c.args.p.now in
    let m = c.m-item.result in
    let same = c.loop-m.invariant.same in
    let failed = rw (is_none c.in_ok-found.found c.in_default.not-Some) at c.in_ok-found.ensures.found in
    record {
      memo = c.in_ok-found.ensures.memo ∙ c.loop-m.invariant.memo;
      same = failed.0 ∙ same;
      fails = one_more (λ m. WinFails k c.args.part.now.side c.args.depth (after p m)) c.args.moves.now c.loop-m.m-index m (omega arith) c.m-item.is
          c.loop-m.invariant.fails (subst (λ (x : WinList × Board). WinFails k x.0.side c.args.depth x.1) (λ i. (same i, c.apply-next.ensures i)) failed.1);
    }

pub win_by_move-returns-clause-found : goal.win_by_move-returns-clause-found
win_by_move-returns-clause-found g t c =
    let k = g.O.Oracle.piece_limit c.args.oracle.now in (
      c.loop-m.invariant.same,
      all_taken (λ m. WinFails k c.args.part.now.side c.args.depth (after c.args.p.now m)) c.args.moves.now c.loop-m.m-index (omega arith) c.loop-m.invariant.fails,
    )
