use Rattle.std.proofs.Common.{◌≡◌, ◌∙◌, rules, ap}
use Rattle.std.specs.Prelude.{None, option_map}
use Rattle.fen_text.proofs.Behind.{no-opening, no-white, no-turn, all-parts}
use Rattle.fen_text.proofs.comparing.behind_fen.Goals as goal

pub returns-in_err-rest : goal.returns-in_err-rest
returns-in_err-rest c =
    let none : c.from_residual.result ≡ None = search rules in
    ap (option_map (λ x. x.now)) none ∙ no-opening c.args.p.now c.args.text.now c.to_move.result c.to_move.ensures.value c.in_err-rest.ensures

pub returns-in_err-rest-2 : goal.returns-in_err-rest-2
returns-in_err-rest-2 c =
    let none : c.from_residual-in_err-rest-2.result ≡ None = search rules in
    ap (option_map (λ x. x.now)) none
    ∙ no-white c.args.p.now c.args.text.now c.to_move.result c.to_move.ensures.value c.in_ok-rest.rest.now c.in_ok-rest.ensures c.in_err-rest-2.ensures

pub returns-in_err-rest-3 : goal.returns-in_err-rest-3
returns-in_err-rest-3 c =
    let none : c.from_residual-in_err-rest-3.result ≡ None = search rules in
    ap (option_map (λ x. x.now)) none
    ∙ no-turn c.args.p.now c.args.text.now c.to_move.result c.to_move.ensures.value c.in_ok-rest.rest.now c.in_ok-rest-2.rest.now c.in_ok-rest.ensures c.in_ok-rest-2.ensures
    c.in_err-rest-3.ensures

pub returns : goal.returns
returns c =
    all-parts c.args.p.now c.args.text.now c.to_move.result c.to_move.ensures.value c.in_ok-rest.rest.now c.in_ok-rest-2.rest.now c.in_ok-rest-3.rest.now _
    c.in_ok-rest.ensures c.in_ok-rest-2.ensures c.in_ok-rest-3.ensures c.behind_list-2.ensures
