use Rattle.std.proofs.Common.{◌≡◌, ◌∙◌, Bool, true, not, sym, ap, List, ℕ}
use Rattle.std.specs.Prelude.{Some}
use Rattle.draughts_board.specs.Board.{Board, same_board}
use Rattle.draughts_board.specs.Rules.{after}
use Rattle.draughts_board.proofs.Written.{first-found}
use Rattle.draughts_board.proofs.generators.first_elsewhere.Goals as goal

pub returns-then-ne : goal.returns-then-ne
returns-then-ne g c =
    let p : Board = c.args.p.now in
    let q : Board = c.args.next.now in
    let leads : List ℕ → Bool = λ path. not (same_board (after p path) q) in
    let pass : leads c.m-item.result ≡ true = ap (λ b. not (same_board b q)) (sym c.apply.ensures) ∙ sym c.ne.ensures ∙ c.if-ne.true in
    ap Some c.m-item.is
    ∙ sym (first-found leads c.args.moves.now c.loop-m.m-index c.m-item.result c.loop-m-test.true c.loop-m.invariant (ap leads (sym c.m-item.is) ∙ pass))
