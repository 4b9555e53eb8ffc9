use Rattle.std.proofs.Common.{◌≡◌, map, ◌++◌, ◌∷◌, [], subst, sym, ap, ◌∙◌}
use Rattle.std.specs.Prelude.{All}
use Rattle.std.proofs.lemmas.List.{map_push, take_more, take_all}
use Rattle.std.proofs.lemmas.List.Elements.{All-push}
use Rattle.draughts_board.specs.Board.{Board}
use Rattle.proof_numbers.specs.Facts.{known}
use Rattle.proof_numbers.specs.Known.{nothing_known}
use Rattle.proof_numbers.specs.declared.leaves.Child.{Child}
use Rattle.proof_tree.proofs.children.unknown_children.Goals as goal

position : Child → Board
position child = child.position

abbrev IsUnknown : Child → Type 0
IsUnknown child = known child.facts ≡ nothing_known

pub loop-q-preserved : goal.loop-q-preserved
unfolding position
loop-q-preserved c =
    let next = c.deref-q-items.result.now in
    record {
      positions =
          ap (map position) c.in_ok-push.ensures.items
          ∙ map_push position c.loop-q.children.items c.in_ok-unknown_child.field-0
          ∙ (λ i. c.loop-q.invariant.positions i ++ (c.in_ok-unknown_child.ensures.position ∙ c.q-item.is) i ∷ [])
          ∙ sym (take_more next c.loop-q.q-index c.q-item.result c.loop-q-test.true);
      unknown =
          subst (All IsUnknown) (sym c.in_ok-push.ensures.items)
          (All-push IsUnknown c.loop-q.children.items c.in_ok-unknown_child.field-0 c.loop-q.invariant.unknown c.in_ok-unknown_child.ensures.unknown);
    }

pub returns-clause-positions : goal.returns-clause-positions
returns-clause-positions c =
    c.loop-q.invariant.positions
    ∙ take_all c.loop-q.q-index c.deref-q-items.result.now c.loop-q-test.false
    ∙ c.deref-q-items.ensures.value
    ∙ c.in_ok-next.ensures.exact
