use Rattle.std.proofs.Common.{◌∙◌, sym, ap, List, ℕ}
use Rattle.draughts_board.specs.Board.{Board}
use Rattle.draughts_board.specs.Resolution.{first_of, elsewhere, meaning_beside}
use Rattle.draughts_board.proofs.Written.{behind_first, meaning-apart, Contains-behind}
use Rattle.draughts_board.proofs.generators.meaning.Goals as goal

pub first_elsewhere-requires : goal.first_elsewhere-requires
first_elsewhere-requires g c = λ path h. c.requires path (Contains-behind c.args.moves.now path h)

pub returns-in-None : goal.returns-in-None
returns-in-None g c =
    let p : Board = c.args.p.now in
    let a : List ℕ = c.chosen-item.result in
    ap (meaning_beside a) (sym c.in-None.is ∙ c.first_elsewhere.ensures ∙ ap (λ q. first_of (elsewhere p q (behind_first c.args.moves.now))) c.apply.ensures)
    ∙ sym (meaning-apart p c.args.moves.now a c.in-len1-up.len_at_least c.chosen-item.is)

pub returns-in-Some : goal.returns-in-Some
returns-in-Some g c =
    let p : Board = c.args.p.now in
    let a : List ℕ = c.chosen-item.result in
    ap (meaning_beside a) (sym c.in-Some.is ∙ c.first_elsewhere.ensures ∙ ap (λ q. first_of (elsewhere p q (behind_first c.args.moves.now))) c.apply.ensures)
    ∙ sym (meaning-apart p c.args.moves.now a c.in-len1-up.len_at_least c.chosen-item.is)
