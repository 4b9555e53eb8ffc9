use Rattle.std.proofs.Common.{◌≡◌, ◌∙◌, ◌+◌, ◌<◌, ◌^◌, ◌++◌, ◌∷◌, [], ap, sym, subst, length, List, false}
use Rattle.std.specs.List.{list_any}
use Rattle.draughts_board.specs.Board.{Board, same_board}
use Rattle.position_rows.specs.Rows.{positions_of}
use Rattle.bench_records.proofs.Numbering.{named_behind}
use Rattle.bench_records.proofs.Rowed.{names_noted}
use Rattle.bench_records.proofs.names.Names.add.Goals as goal

pub invariant_of-self-2 : goal.invariant_of-self-2
invariant_of-self-2 c =
    let view = sym c.self.view_is in
    let both = named_behind c.self.inside.before.now (positions_of c.self.inside.own.entries) _ c.args.p c.self.invariant.0 c.note_rule.ensures
    (subst (λ (l : List Board). list_any (same_board c.args.p) l ≡ false) view c.requires.absent)
    (subst (λ (l : List Board). length l + 1 < 2 ^ 32) view c.requires.few)
    (names_noted _ _ _ _ _ c.in_ok-note.ensures.new c.in_ok-note.ensures.rows) in
    (both.1, c.self.invariant.1)

pub returns-clause-names : goal.returns-clause-names
returns-clause-names c =
    let view = sym c.self.view_is in
    let both = named_behind c.self.inside.before.now (positions_of c.self.inside.own.entries) _ c.args.p c.self.invariant.0 c.note_rule.ensures
    (subst (λ (l : List Board). list_any (same_board c.args.p) l ≡ false) view c.requires.absent)
    (subst (λ (l : List Board). length l + 1 < 2 ^ 32) view c.requires.few)
    (names_noted _ _ _ _ _ c.in_ok-note.ensures.new c.in_ok-note.ensures.rows) in
    both.0 ∙ ap (λ (l : List Board). l ++ c.args.p ∷ []) c.self.view_is

pub returns-clause-named : goal.returns-clause-named
returns-clause-named c =
    let view = sym c.self.view_is in
    let both = named_behind c.self.inside.before.now (positions_of c.self.inside.own.entries) _ c.args.p c.self.invariant.0 c.note_rule.ensures
    (subst (λ (l : List Board). list_any (same_board c.args.p) l ≡ false) view c.requires.absent)
    (subst (λ (l : List Board). length l + 1 < 2 ^ 32) view c.requires.few)
    (names_noted _ _ _ _ _ c.in_ok-note.ensures.new c.in_ok-note.ensures.rows) in
    both.1
