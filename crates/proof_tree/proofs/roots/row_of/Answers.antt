use Rattle.std.proofs.Common.{ℕ, List, get_or, ap, sym, ◌∙◌}
use Rattle.std.proofs.lemmas.List.{get_or-map}
use Rattle.draughts_board.specs.Board.{Board}
use Rattle.proof_tree.proofs.roots.row_of.Goals as goal

pub returns : goal.returns
returns c =
    let row = c.index-as_slice-place.result in
    ap (λ (es : List (Board × ℕ)). (get_or es c.args.place row).1) c.as_slice.ensures.value
    ∙ sym (get_or-map (λ (e : Board × ℕ). e.1) c.args.roots.now.entries c.args.place row 0 c.requires)
