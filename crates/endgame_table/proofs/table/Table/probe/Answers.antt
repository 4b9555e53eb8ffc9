use Rattle.std.proofs.Common.{◌≡◌, ◌∙◌, ◌<◌, ◌≤◌, sym, ap, subst, arith}
use Rattle.std.specs.Prelude.{◌↔◌, IsNone, IsSome, slice_index}
use Rattle.std.proofs.lemmas.List.{get_or_read_under}
use Rattle.draughts_board.specs.Board.{piece_count}
use Rattle.table_index.specs.Order.{index_of}
use Rattle.endgame_table.specs.Numbers.{answer_of}
use Rattle.endgame_table.specs.Entries.{Entries, answers}
use Rattle.endgame_table.proofs.Sound.{answers-at, answers-few, index-inside, not_both}
use Rattle.endgame_table.proofs.table.Table.probe.Goals as goal

few : (c : goal.After-answer_of) → piece_count c.args.p.now ≤ c.self.inside.pieces
few c = omega (arith, c.if-count-self.false, c.count.ensures.value, c.count-2.ensures.value)

found : (c : goal.After-answer_of) → c.answer_of.result ≡ answers c.self.inside.pieces c.self.inside.numbers.items c.args.p.now
found c =
    let numbers = c.self.inside.numbers in
    let inside = index-inside c.self.inside.pieces numbers.items c.self.invariant c.args.p.now c.count.ensures.lawful (few c) in
    let number : c.index.result.now ≡ slice_index numbers.items (index_of c.args.p.now) =
    get_or_read_under numbers.items c.index_of.result numbers.len c.index.result.now 0 c.index.ensures (omega (arith, c.index_of.ensures.value, numbers.ok.0)) numbers.ok.0
    ∙ ap (slice_index numbers.items) c.index_of.ensures.value in
    c.answer_of.ensures ∙ (ap answer_of number ∙ sym (answers-at c.self.inside.pieces numbers.items c.args.p.now c.count.ensures.lawful (few c)))

pub index-requires : goal.index-requires
index-requires c =
    let few : piece_count c.args.p.now ≤ c.self.inside.pieces = omega (arith, c.if-count-self.false, c.count.ensures.value, c.count-2.ensures.value) in
    let inside = index-inside c.self.inside.pieces c.self.inside.numbers.items c.self.invariant c.args.p.now c.count.ensures.lawful few in
    omega (arith, c.index_of.ensures.value, c.self.inside.numbers.ok.0)

pub returns-clause-value : goal.returns-clause-value
returns-clause-value c = subst (λ (t : Entries). c.answer_of.result ≡ answers t.pieces t.numbers c.args.p.now) c.self.view_is (found c)

pub returns-clause-none : goal.returns-clause-none
returns-clause-none c =
    let some : IsSome c.answer_of.result =
    subst IsSome (sym (found c)) (answers-few c.self.inside.pieces c.self.inside.numbers.items c.self.invariant c.args.p.now c.count.ensures.lawful (few c)) in
    subst (λ (t : Entries). IsNone c.answer_of.result ↔ (t.pieces < piece_count c.args.p.now)) c.self.view_is
    ((λ none. absurd (not_both c.answer_of.result some none)), (λ many. absurd (let f = few c in omega arith)))
