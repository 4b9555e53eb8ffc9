use Rattle.std.proofs.Common.{◌≡◌, ◌++◌, ◌∷◌, [], List, ℕ, ◌∙◌, refl, sym, subst, length}
use Rattle.std.specs.Prelude.{Some}
use Rattle.draughts_board.specs.Board.{Board}
use Rattle.certificate_lines.specs.Steps.{GoesOut}
use Rattle.certificate_lines.specs.Variations.{HasVariations, is_reply}
use Rattle.certificate_lines.proofs.LineLemmas.{out_next}
use Rattle.certificate_lines.proofs.VariationLemmas.{varies_next}
use Rattle.certificate_lines.proofs.won.play_out.Goals as goal

pub loop-alloc-preserved : goal.loop-alloc-preserved
loop-alloc-preserved g c =
    let answer = g.O.Oracle.answer_at c.args.oracle.now in
    let part = c.args.part.now in
    let side = c.args.side in
    let start = c.args.start in
    let varied = c.args.varied in
    let moves = c.loop-alloc.moves.items in
    let path = c.in_ok-ply.ply.path in
    let out = c.loop-alloc.invariant.0 in
    let counted : c.len.result ≡ length moves = c.len.ensures ∙ c.loop-alloc.moves.ok.0 in
    let next = out_next answer part start c.args.rank moves c.loop-alloc.end c.loop-alloc.left path c.in_ok-ply.ply.rank out c.next_ply.ensures.valid c.in_ok-ply.ensures.ply in
    let varies = varies_next answer (λ p. Some part) (is_reply side) varied start moves path part _ c.loop-alloc.variations.items c.push_replies.new.variations.items c.loop-alloc.invariant.1 out.leads refl counted
    c.in_ok-push_replies.ensures in (
      subst (λ (ms : List (List ℕ)). GoesOut answer part start c.args.rank ms c.apply-end.result c.in_ok-ply.ply.rank) (sym c.in_ok-push.ensures.items)
          (subst (λ (q : Board). GoesOut answer part start c.args.rank (moves ++ path ∷ []) q c.in_ok-ply.ply.rank) (sym c.apply-end.ensures) next.0),
      subst (λ (ms : List (List ℕ)). HasVariations answer (λ p. Some part) (is_reply side) varied start ms c.push_replies.new.variations.items) (sym c.in_ok-push.ensures.items) varies,
    )

pub loop-alloc-smaller : goal.loop-alloc-smaller
loop-alloc-smaller g c =
    let answer = g.O.Oracle.answer_at c.args.oracle.now in
    (out_next answer c.args.part.now c.args.start c.args.rank c.loop-alloc.moves.items c.loop-alloc.end c.loop-alloc.left c.in_ok-ply.ply.path c.in_ok-ply.ply.rank c.loop-alloc.invariant.0
    c.next_ply.ensures.valid c.in_ok-ply.ensures.ply).1
