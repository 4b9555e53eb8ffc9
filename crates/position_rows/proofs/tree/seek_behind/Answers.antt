use Rattle.std.proofs.Common.{◌<◌, ℕ, Bool, length, sym, ◌∙◌, subst, arith}
use Rattle.std.proofs.lemmas.Bool.{true≢false}
use Rattle.position_rows.specs.Rows.{IsRowAt, IsNumberOf}
use Rattle.position_rows.specs.Walks.{LinksTo, IsBehind, IsEnd, IsOnTheWay, node_at}
use Rattle.position_rows.proofs.WalkLemmas.{way_begins, way_ends, way_goes_on}
use Rattle.position_rows.proofs.tree.seek_behind.Goals as goal

pub nodes-init : goal.nodes-init
nodes-init g c = way_begins c.args.rows.now c.args.nodes.now c.args.p.now c.word_of-word.result c.word_of-word.ensures c.requires

pub returns-in_default : goal.returns-in_default
returns-in_default g c =
    let not_here = λ (h : IsNumberOf c.args.rows.now (node_at c.args.nodes.now c.nodes.i).number c.args.p.now). true≢false
    (sym (c.is_number_of.ensures.1 (subst (λ (n : ℕ). IsNumberOf c.args.rows.now n c.args.p.now) (sym c.number_at-number.ensures) h))
    ∙ c.if-is_number_of.false) in
    subst (λ (b : Bool). IsEnd c.args.nodes.now c.args.p.now c.nodes.i b × ((r : ℕ) → IsRowAt c.args.rows.now r c.args.p.now → ¬ IsBehind c.args.nodes.now c.args.p.now r))
    (sym c.digit-in_default.ensures)
    (way_ends c.args.rows.now c.args.nodes.now c.args.p.now c.nodes.i c.nodes.word c.nodes.invariant not_here
    (λ k link. c.in_default.ensures.none k (subst (λ (b : Bool). LinksTo c.args.nodes.now c.nodes.i b k) (sym c.digit.ensures) link)))

pub nodes-smaller : goal.nodes-smaller
nodes-smaller g c =
    let later : c.nodes.i < c.in-Some.next = c.in-Some.ensures.some.later in
    let inside : c.in-Some.next < length c.args.nodes.now = c.in-Some.ensures.some.inside in
    omega arith

pub nodes-preserved : goal.nodes-preserved
nodes-preserved g c =
    let not_here = λ (h : IsNumberOf c.args.rows.now (node_at c.args.nodes.now c.nodes.i).number c.args.p.now). true≢false
    (sym (c.is_number_of.ensures.1 (subst (λ (n : ℕ). IsNumberOf c.args.rows.now n c.args.p.now) (sym c.number_at-number.ensures) h))
    ∙ c.if-is_number_of.false) in
    subst (λ (w : ℕ). IsOnTheWay c.args.rows.now c.args.nodes.now c.args.p.now c.in-Some.next w) (sym c.next_word-word.ensures)
    (way_goes_on c.args.rows.now c.args.nodes.now c.args.p.now c.nodes.i c.nodes.word c.nodes.invariant not_here c.in-Some.next
    (subst (λ (b : Bool). LinksTo c.args.nodes.now c.nodes.i b c.in-Some.next) c.digit.ensures c.in-Some.ensures.some))
