use Rattle.std.proofs.Common.{◌≡◌, ◌≢◌, ◌∙◌, sym, ap, subst, List, ℕ}
use Rattle.std.specs.Prelude.{Option, IfSome, IsNone, ◌↔◌}
use Rattle.draughts_board.specs.Board.{Board}
use Rattle.draughts_board.specs.Rules.{IsLegal, after}
use Rattle.draughts_board.specs.Play.{first_to}
use Rattle.draughts_board.proofs.FirstTo.{first_to-legal, first_to-no_legal}
use Rattle.swift_moves.proofs.next.move_to.Goals as goal

pub returns-clause-some : goal.returns-clause-some
returns-clause-some c =
    let p : Board = c.args.p.now in
    let next : Board = c.args.next.now in
    let found : first_to p next c.in_ok-moves.moves.items ≡ c.first_to.result = sym (c.first_to.ensures ∙ ap (first_to p next) c.deref.ensures.value) in
    subst (λ (r : Option (List ℕ)). IfSome r (λ path. IsLegal p path × (after p path ≡ next))) found (first_to-legal p next c.in_ok-moves.moves.items c.in_ok-moves.ensures.rules)

pub returns-clause-none : goal.returns-clause-none
returns-clause-none c =
    let p : Board = c.args.p.now in
    let next : Board = c.args.next.now in
    let found : first_to p next c.in_ok-moves.moves.items ≡ c.first_to.result = sym (c.first_to.ensures ∙ ap (first_to p next) c.deref.ensures.value) in
    subst (λ (r : Option (List ℕ)). IsNone r ↔ ((path : List ℕ) → IsLegal p path → after p path ≢ next)) found (first_to-no_legal p next c.in_ok-moves.moves.items c.in_ok-moves.ensures.rules)
