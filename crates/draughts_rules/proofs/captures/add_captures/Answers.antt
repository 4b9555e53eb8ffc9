use Rattle.std.proofs.Common.{◌≡◌, ◌-◌, ◌∙◌, ◌++◌, ◌∷◌, [], true, false, cond, not, ◌&&◌, length, sym, ap, ℕ, inr}
use Rattle.std.specs.List.{list_any}
use Rattle.std.proofs.lemmas.List.{append-nil}
use Rattle.draughts_board.specs.Geometry.{squares}
use Rattle.draughts_board.specs.Board.{Board}
use Rattle.draughts_board.specs.Rules.{is_jump}
use Rattle.draughts_board.specs.Play.{is_done, grown, starts}
use Rattle.draughts_board.proofs.NoCapture.{done-at_start, starts-by_jump}
use Rattle.draughts_rules.proofs.captures.add_captures.Goals as goal

pub grow-requires-clause-begun : goal.grow-requires-clause-begun
grow-requires-clause-begun c =
    let p : Board = c.args.p.now in
    let x : ℕ = c.args.«from» in
    let open_end : is_done p (x ∷ []) ≡ false = done-at_start p x c.requires.lawful c.requires.own ∙ ap not (sym c.can_jump.ensures ∙ c.if-can_jump.true) in
    inr (ap (is_done p) c.of.ensures ∙ open_end)

pub returns-in_ok-grow : goal.returns-in_ok-grow
returns-in_ok-grow c =
    let p : Board = c.args.p.now in
    let x : ℕ = c.args.«from» in
    let start : starts p x ≡ true = starts-by_jump p x c.requires.lawful ∙ (λ i. c.requires.own i && list_any (is_jump p x x) squares) ∙ (sym c.can_jump.ensures ∙ c.if-can_jump.true) in
    c.in_ok-grow.ensures
    ∙ ap (λ path. c.args.found.now.items ++ grown (13 - length path) p path) c.of.ensures
    ∙ ap (λ b. c.args.found.now.items ++ cond b (grown 12 p (x ∷ [])) []) (sym start)

pub returns-else-can_jump : goal.returns-else-can_jump
returns-else-can_jump c =
    let p : Board = c.args.p.now in
    let x : ℕ = c.args.«from» in
    let none : starts p x ≡ false = starts-by_jump p x c.requires.lawful ∙ (λ i. c.requires.own i && list_any (is_jump p x x) squares) ∙ (sym c.can_jump.ensures ∙ c.if-can_jump.false) in
    sym (append-nil c.args.found.now.items)
    ∙ ap (λ b. c.args.found.now.items ++ cond b (grown 12 p (x ∷ [])) []) (sym none)
