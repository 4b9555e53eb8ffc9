use Rattle.std.proofs.Common.{◌≡◌, ◌<◌, Bool, true, false, refl, sym, ◌∙◌}
use Rattle.std.specs.Prelude.{IsTrue}
use Rattle.std.proofs.lemmas.Bool.{false≢true}
use Rattle.draughts_board.specs.Board.{piece_count}
use Rattle.draughts_board.specs.Game.{is_at_sight}
use Rattle.draughts_board.specs.Draughts.{draughts}
use Rattle.leaf_search.proofs.SightLemmas.{unseen, not_unseen}
use Rattle.leaf_search.proofs.sight.is_undecided.Goals as goal

pub returns : goal.returns
returns g c =
    let k = g.O.Oracle.piece_limit c.args.oracle.now in
    let p = c.args.p.now in
    let lawful = c.count.ensures.lawful in
    let size = c.pieces.ensures.value in
    let black = c.count.ensures.value in
    let white = c.count-2.ensures.value in
    let above = c.if-count-pieces.false in
    let more : k < piece_count p = rw (size, black, white) at above in
    let by : (b : Bool) → c.has_move.result ≡ b → is_at_sight draughts k p ≡ false → IsTrue b =
    λ b. elim b as (λ b. c.has_move.result ≡ b → is_at_sight draughts k p ≡ false → IsTrue b) [
      | true ↦ λ is sight. refl
      | false ↦ λ is sight. absurd (not_unseen k p lawful (λ m legal. false≢true (sym is ∙ c.has_move.ensures.rules.1 (m, legal))) sight)
    ] in
    (λ moves. let move = c.has_move.ensures.rules.0 moves in unseen k p lawful more move.0 move.1, by c.has_move.result refl)
