use Rattle.std.proofs.Common.{◌≡◌, ◌≤◌, ◌++◌, ◌∙◌, [], drop, length, ap, sym, subst, arith, append-nil}
use Rattle.std.specs.Prelude.{All}
use Rattle.std.proofs.lemmas.List.{drop_all}
use Rattle.terminal_text.specs.Shown.{IsShown, shown}
use Rattle.terminal_text.proofs.Safe.{shown_safe}
use Rattle.terminal_text.proofs.texts.shown.Goals as goal

pub returns-clause-safe : goal.returns-clause-safe
returns-clause-safe c =
    let past : length c.args.text.now ≤ c.loop-b.b-index = omega arith in
    let none : drop c.loop-b.b-index c.args.text.now ≡ [] = drop_all c.loop-b.b-index c.args.text.now past in
    let whole : c.loop-b.given.items ≡ shown c.args.text.now =
    sym (append-nil c.loop-b.given.items)
    ∙ ap (λ rest. c.loop-b.given.items ++ shown rest) (sym none) ∙ c.loop-b.invariant in
    subst (All IsShown) (sym whole) (shown_safe c.args.text.now)
