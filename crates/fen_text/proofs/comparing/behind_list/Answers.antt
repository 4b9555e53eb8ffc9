use Rattle.std.proofs.Common.{◌≡◌, ◌∙◌, ◌-◌, rules, sym, ap}
use Rattle.std.specs.Prelude.{None, option_map}
use Rattle.std.specs.Int.Bits.{bit_and}
use Rattle.fen_text.specs.Behind.{behind}
use Rattle.fen_text.proofs.Behind.{list-items, next-none, next-some, none-left}
use Rattle.fen_text.proofs.comparing.behind_list.Goals as goal

pub loop-left-init : goal.loop-left-init
loop-left-init c =
    ap (λ front. behind front c.args.text.now)
    (list-items c.args.side c.args.p.now c.squares_with-left.result c.squares_with-left.ensures.lawful c.squares_with-left.ensures.mask)

pub returns-in_err-rest : goal.returns-in_err-rest
returns-in_err-rest c =
    let none : c.from_residual.result ≡ None = search rules in
    ap (option_map (λ x. x.now)) none
    ∙ next-none c.args.p.now c.loop-left.is_first c.loop-left.left c.lowest-square.result (bit_and c.loop-left.left (c.loop-left.left - 1)) c.at.result c.loop-left.rest.now
    c.lowest-square.ensures.first c.at.ensures.value c.in_err-rest.ensures
    ∙ c.loop-left.invariant

pub loop-left-preserved : goal.loop-left-preserved
loop-left-preserved c =
    next-some c.args.p.now c.loop-left.is_first c.loop-left.left c.lowest-square.result (bit_and c.loop-left.left (c.loop-left.left - 1)) c.at.result c.loop-left.rest.now
    c.lowest-square.ensures.first c.at.ensures.value c.in_ok-rest.rest.now c.in_ok-rest.ensures
    ∙ c.loop-left.invariant

pub returns : goal.returns
returns c =
    sym (ap (λ front. behind front c.loop-left.rest.now) (none-left c.args.p.now c.loop-left.is_first c.loop-left.left c.loop-left-test.false)) ∙ c.loop-left.invariant
