use Rattle.std.proofs.Common.{◌≡◌, refl, false, true, sym, ap, subst, ◌∙◌, ◌+◌, ◌-◌, ◌/◌, ◌%◌, ◌^◌, ◌<◌, ◌≤◌, set, arith}
use Rattle.std.specs.Prelude.{MatchOption, IsTrue, IsFalse}
use Rattle.std.proofs.Math.Nat.{one-le-pow}
use Rattle.draughts_board.specs.Board.{Board, IsLawful, is_allowed, all_allowed}
use Rattle.draughts_board.specs.Rules.{put}
use Rattle.table_index.specs.Counting.{choose}
use Rattle.table_index.specs.Order.{piece_numbered}
use Rattle.table_index.proofs.Building.{IsBuilt, wanted, wanted-chosen, built-start, piece-step, built-piece, built-none, built-lawful, refused, built-end, built-last, rebuilt, code-piece, put-there, last-step, last-result}
use Rattle.table_index.proofs.indices.position_of.Goals as goal
use Rattle.table_index.proofs.indices.position_of.Goals.{then-choice-here+in-Some, else-choice-here, else-loop-i-test, then-loop-i-test+then-pieces-eq0}

pub loop-i-init : goal.loop-i-init
loop-i-init c = (
  subst (λ (p : Board). IsBuilt (wanted c.args.pieces c.args.choice c.args.kinds) 0 c.args.pieces c.args.choice c.args.kinds p.cells) (sym c.bare-p.ensures)
      (built-start c.args.pieces c.args.choice c.args.kinds c.requires.pieces c.requires.choice c.requires.kinds),
  ap (λ (p : Board). p.to_move) c.bare-p.ensures,
)

-- ---- the last piece

pub piece_of-requires : goal.piece_of-requires
piece_of-requires c = let step = last-step _ _ _ _ _ _ c.loop-i.invariant.0 c.if-pieces-eq1.true in step.digit

pub with_piece-requires-clause-place : goal.with_piece-requires-clause-place
with_piece-requires-clause-place c = let step = last-step _ _ _ _ _ _ c.loop-i.invariant.0 c.if-pieces-eq1.true in step.inside

pub with_piece-requires-clause-lawful : goal.with_piece-requires-clause-lawful
with_piece-requires-clause-lawful c =
    let step = last-step _ _ _ _ _ _ c.loop-i.invariant.0 c.if-pieces-eq1.true in
    let place = c.loop-i.i + c.loop-i.choice + 1 in
    subst (λ piece. is_allowed place piece ≡ true → IsLawful (record { cells = put c.loop-i.p.cells place piece; to_move = c.args.to_move }))
    (sym c.piece_of.ensures) (λ e. step.lawful e c.args.to_move)

pub returns-then-pieces-eq1 : goal.returns-then-pieces-eq1
returns-then-pieces-eq1 c chosen e =
    let step = last-step _ _ _ _ _ _ c.loop-i.invariant.0 c.if-pieces-eq1.true in
    subst (λ all. MatchOption c.with_piece.result (IsFalse (all_allowed 1 all)) (λ p. (p ≡ record { cells = all; to_move = c.args.to_move }) × IsTrue (all_allowed 1 all)))
    (wanted-chosen c.args.pieces c.args.choice c.args.kinds chosen e)
    (last-result _ _ _ _ _ _ _ _ step c.piece_of.ensures c.with_piece.ensures)

-- ---- a piece before the last

pub choices_of-here-requires-clause-pieces : goal.choices_of-here-requires-clause-pieces
choices_of-here-requires-clause-pieces c = omega (arith, c.loop-i.invariant.0.few)

pub kinds_of-weight-requires : goal.kinds_of-weight-requires
kinds_of-weight-requires c = omega (arith, c.loop-i.invariant.0.few)

pub nonzero_div-kinds : goal.nonzero_div-kinds
nonzero_div-kinds c = omega (arith, one-le-pow (c.loop-i.pieces - 1) 4 (omega arith), c.kinds_of-weight.ensures)

pub piece_of-requires-then-choice-here : goal.piece_of-requires-then-choice-here
piece_of-requires-then-choice-here c =
    let below : c.loop-i.choice < choose (c.loop-i.pieces - 1) (31 - c.loop-i.i) = omega (arith, c.if-choice-here.true, c.choices_of-here.ensures) in
    let step = piece-step _ _ _ _ _ _ c.loop-i.invariant.0 (omega arith) c.loop-i-test.true below in
    subst (λ w. c.loop-i.kinds / w < 4) (sym c.kinds_of-weight.ensures) step.digit

pub with_piece-requires-then-choice-here-clause-lawful : goal.with_piece-requires-then-choice-here-clause-lawful
with_piece-requires-then-choice-here-clause-lawful c allowed =
    let below : c.loop-i.choice < choose (c.loop-i.pieces - 1) (31 - c.loop-i.i) = omega (arith, c.if-choice-here.true, c.choices_of-here.ensures) in
    let piece = code-piece c.loop-i.kinds c.loop-i.pieces _ _ c.kinds_of-weight.ensures c.piece_of-then-choice-here.ensures in
    let fine : is_allowed (c.loop-i.i + 1) (piece_numbered (c.loop-i.kinds / 4 ^ (c.loop-i.pieces - 1))) ≡ true =
    ap (is_allowed (c.loop-i.i + 1)) (sym piece) ∙ allowed in
    let built = built-piece _ _ _ _ _ _ c.loop-i.invariant.0 (omega arith) c.loop-i-test.true below fine in
    let there = put-there c.loop-i.p.cells c.loop-i.i _ c.piece_of-then-choice-here.result refl ∙ ap (set c.loop-i.p.cells c.loop-i.i) piece in
    subst (λ cells. IsLawful (record { cells = cells; to_move = c.args.to_move })) (sym there)
    (built-lawful _ _ _ _ _ _ c.args.to_move built (omega (arith, c.loop-i-test.true)))

pub returns-in_default : goal.returns-in_default
returns-in_default c chosen e =
    let below : c.loop-i.choice < choose (c.loop-i.pieces - 1) (31 - c.loop-i.i) = omega (arith, c.if-choice-here.true, c.choices_of-here.ensures) in
    let piece = code-piece c.loop-i.kinds c.loop-i.pieces _ _ c.kinds_of-weight.ensures c.piece_of-then-choice-here.ensures in
    let bad : is_allowed (c.loop-i.i + 1) (piece_numbered (c.loop-i.kinds / 4 ^ (c.loop-i.pieces - 1))) ≡ false =
    ap (is_allowed (c.loop-i.i + 1)) (sym piece) ∙ c.in_default.ensures in
    ap (all_allowed 1) (sym (wanted-chosen c.args.pieces c.args.choice c.args.kinds chosen e))
    ∙ refused _ _ _ _ _ _ c.loop-i.invariant.0 (omega arith) c.loop-i-test.true below bad

pub nonzero_rem-kinds : goal.nonzero_rem-kinds
nonzero_rem-kinds c = omega (arith, one-le-pow (c.loop-i.pieces - 1) 4 (omega arith), c.kinds_of-weight.ensures)

pub loop-i-preserved : goal.loop-i-preserved
loop-i-preserved c =
    elim c.if-choice-here.branch [
      | then-choice-here+in-Some w ↦
          let below : c.loop-i.choice < choose (c.loop-i.pieces - 1) (31 - c.loop-i.i) = omega (arith, w.if-choice-here.true, c.choices_of-here.ensures) in
          let piece = code-piece c.loop-i.kinds c.loop-i.pieces _ _ w.kinds_of-weight.ensures w.piece_of-then-choice-here.ensures in
          let fine : is_allowed (c.loop-i.i + 1) (piece_numbered (c.loop-i.kinds / 4 ^ (c.loop-i.pieces - 1))) ≡ true =
          ap (is_allowed (c.loop-i.i + 1)) (sym piece) ∙ w.in-Some.ensures.1 in
          let there = put-there c.loop-i.p.cells c.loop-i.i _ w.piece_of-then-choice-here.result refl ∙ ap (set c.loop-i.p.cells c.loop-i.i) piece in
          let made = w.p-is ∙ w.in-Some.ensures.0 in (
            rebuilt _ _ _ _ _ _ _ _ _ _ (built-piece _ _ _ _ _ _ c.loop-i.invariant.0 (omega arith) c.loop-i-test.true below fine)
                w.pieces-is w.choice-is
                (w.kinds-is ∙ ap (λ m. c.loop-i.kinds % m) w.kinds_of-weight.ensures)
                (ap (λ (p : Board). p.cells) made ∙ there),
            ap (λ (p : Board). p.to_move) made,
          )
      | else-choice-here w ↦
          let least : choose (c.loop-i.pieces - 1) (31 - c.loop-i.i) ≤ c.loop-i.choice = omega (arith, w.if-choice-here.false, c.choices_of-here.ensures) in (
            rebuilt _ _ _ _ _ _ _ _ _ _ (built-none _ _ _ _ _ _ c.loop-i.invariant.0 (omega arith) c.loop-i-test.true least)
                w.pieces-is (w.choice-is ∙ ap (λ m. c.loop-i.choice - m) c.choices_of-here.ensures) w.kinds-is
                (ap (λ (p : Board). p.cells) w.p-is),
            ap (λ (p : Board). p.to_move) w.p-is ∙ c.loop-i.invariant.1,
          )
    ]

pub returns : goal.returns
returns c chosen e =
    let none : c.loop-i.pieces ≡ 0 =
    elim c.loop-i-test.branch [
      | else-loop-i-test w ↦ built-last _ _ _ _ _ _ c.loop-i.invariant.0 w.loop-i-test.false
      | then-loop-i-test+then-pieces-eq0 w ↦ w.if-pieces-eq0.true
    ] in
    let end = built-end _ _ _ _ _ _ c.loop-i.invariant.0 c.loop-i.auto.i-end none in
    let same = wanted-chosen c.args.pieces c.args.choice c.args.kinds chosen e in
    let cells = end.0 ∙ same in
    let mover = c.loop-i.invariant.1 in
    ((λ i. record { cells = cells i; to_move = mover i }), ap (all_allowed 1) (sym same) ∙ end.1)
