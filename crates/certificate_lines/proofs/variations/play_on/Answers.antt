use Rattle.std.proofs.Common.{◌≡◌, ◌∙◌, ◌+◌, ◌++◌, ◌∷◌, [], List, ℕ, ap, sym, subst, arith, length, length-append}
use Rattle.draughts_board.specs.Board.{Board, other}
use Rattle.draughts_board.proofs.Truth.{other-other}
use Rattle.certificate_player.specs.Choices.{GoesOnAt}
use Rattle.certificate_player.specs.Sides.{side_of}
use Rattle.certificate_lines.specs.Steps.{PlaysOn}
use Rattle.certificate_lines.proofs.LineLemmas.{replies_go_on}
use Rattle.certificate_lines.proofs.VariationLemmas.{play_next, play_varies}
use Rattle.certificate_lines.proofs.variations.play_on.Goals as goal

pub next_rank-rank-requires : goal.next_rank-rank-requires
next_rank-rank-requires g c =
    let answer = g.O.Oracle.answer_at c.args.oracle.now in
    subst (λ (q : Board). GoesOnAt answer q c.args.fork.now.rank c.args.part.now) (sym c.apply-end.ensures)
    (replies_go_on answer c.args.part.now c.args.fork.now.position c.args.fork.now.rank c.requires.stands c.requires.lawful c.requires.turn c.args.path.now c.requires.legal)

pub next_ply-requires-clause-side : goal.next_ply-requires-clause-side
next_ply-requires-clause-side g c = sym (c.other-side.ensures ∙ ap other (c.to_move.ensures.value ∙ c.requires.turn) ∙ other-other (side_of c.args.part.now))

pub loop-end-preserved : goal.loop-end-preserved
loop-end-preserved g c =
    let answer = g.O.Oracle.answer_at c.args.oracle.now in
    let fork = c.args.fork.now in
    let part = c.args.part.now in
    let moves = c.loop-end.moves.items in
    let path = c.in_ok-ply.ply.path in
    let kept = c.in_ok-ply.ply.rank in
    let next = play_next answer part fork.position fork.rank c.args.path.now moves c.loop-end.end c.loop-end.rank path kept c.loop-end.invariant.0 c.next_ply.ensures.valid c.in_ok-ply.ensures.ply in
    let more : length c.push-in-loop-end.new.self.items ≡ length moves + 1 = ap (λ (ms : List (List ℕ)). length ms) c.in_ok-push-2.ensures.items ∙ length-append moves (path ∷ []) in
    let test = c.loop-end-test.true in
    let long = c.len.ensures in
    let same = c.loop-end.moves.ok.0 in
    let short = c.requires.short in (
      subst (λ (ms : List (List ℕ)). PlaysOn answer part fork.position fork.rank c.args.path.now ms c.apply-end-in-loop-end.result kept) (sym c.in_ok-push-2.ensures.items)
          (subst (λ (q : Board). PlaysOn answer part fork.position fork.rank c.args.path.now (moves ++ path ∷ []) q kept) (sym c.apply-end-in-loop-end.ensures) next),
      omega (arith, more, test, long, same, short),
    )

pub returns-clause-varies : goal.returns-clause-varies
returns-clause-varies g c =
    play_varies (g.O.Oracle.answer_at c.args.oracle.now) c.args.part.now c.args.fork.now.position c.args.fork.now.rank c.args.path.now c.args.varied _ c.requires.turn c.loop-end.invariant.0 c.loop-end.invariant.1
