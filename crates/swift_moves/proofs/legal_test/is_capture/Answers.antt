use Rattle.std.proofs.Common.{◌≡◌, ◌≤◌, ◌∙◌, ◌+◌, ◌++◌, ◌∷◌, [], true, false, List, ℕ, length, take, ap, sym, subst, arith, length-take}
use Rattle.std.specs.Cmp.{first_so}
use Rattle.std.proofs.lemmas.List.{take_all, take_more}
use Rattle.draughts_board.specs.Board.{Board}
use Rattle.draughts_board.specs.Rules.{is_own, jumped, contains, first_square}
use Rattle.draughts_board.specs.Play.{IsCapturePrefix}
use Rattle.draughts_board.specs.Masks.{IsMaskOf}
use Rattle.swift_moves.proofs.CaptureMasks.{apart-on}
use Rattle.swift_moves.proofs.CapturePrefixes.{continues, prefix-one, mask-one, prefix-more, no_capture, whole_capture}
use Rattle.swift_moves.proofs.legal_test.is_capture.Goals as goal

pub loop-i-init : goal.loop-i-init
loop-i-init c =
    let p : Board = c.args.p.now in
    let path : List ℕ = c.args.path.now in
    let own : is_own p (first_square path) ≡ true = ap (is_own p) (sym c.first.ensures) ∙ sym c.is_own.ensures ∙ c.if-not-is_own.false in
    (prefix-one p path c.requires.some own, mask-one path)

pub with_jump-taken-requires-clause-jump : goal.with_jump-taken-requires-clause-jump
with_jump-taken-requires-clause-jump c =
    let p : Board = c.args.p.now in
    let path : List ℕ = c.args.path.now in
    let on : continues p (take c.loop-i.i path) c.index-path-i.result ≡ true = sym c.is_continued.ensures ∙ c.if-not-is_continued.false in
    apart-on p (take c.loop-i.i path) c.index-path-i.result (first_so _ _ on)

pub returns-then-not-is_continued : goal.returns-then-not-is_continued
returns-then-not-is_continued c =
    let p : Board = c.args.p.now in
    let path : List ℕ = c.args.path.now in
    let i : ℕ = c.loop-i.i in
    let some : 1 ≤ length (take i path) = omega (arith, length-take i path, c.loop-i-test.true, c.loop-i.auto.i) in
    let stops : continues p (take i path) c.index-path-i.result ≡ false = sym c.is_continued.ensures ∙ c.if-not-is_continued.true in
    sym (no_capture p path i c.index-path-i.result c.loop-i.auto.i c.loop-i-test.true c.index-path-i.is some stops)

pub loop-i-preserved : goal.loop-i-preserved
loop-i-preserved c =
    let p : Board = c.args.p.now in
    let path : List ℕ = c.args.path.now in
    let i : ℕ = c.loop-i.i in
    let to : ℕ = c.index-path-i.result in
    let some : 1 ≤ length (take i path) = omega (arith, length-take i path, c.loop-i-test.true, c.loop-i.auto.i) in
    let on : continues p (take i path) to ≡ true = sym c.is_continued.ensures ∙ c.if-not-is_continued.false in
    let more : take i path ++ to ∷ [] ≡ take (i + 1) path = ap (λ y. take i path ++ y ∷ []) c.index-path-i.is ∙ sym (take_more path i to c.loop-i-test.true) in (
      subst (IsCapturePrefix p) more (prefix-more p (take i path) to some c.loop-i.invariant.0 on),
      subst (λ (q : List ℕ). IsMaskOf (contains (jumped q)) c.with_jump-taken.result) more c.with_jump-taken.ensures,
    )

pub returns : goal.returns
returns c =
    let p : Board = c.args.p.now in
    let path : List ℕ = c.args.path.now in
    c.is_done.ensures ∙ whole_capture p path (subst (IsCapturePrefix p) (take_all c.loop-i.i path c.loop-i-test.false) c.loop-i.invariant.0)
