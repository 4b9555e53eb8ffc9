use Rattle.std.proofs.Common.{◌≡◌, ◌∙◌, ◌++◌, ◌∷◌, [], true, cond, ap, sym, subst}
use Rattle.std.specs.Prelude.{filter, flat_map, Contains}
use Rattle.std.proofs.lemmas.List.{take_all}
use Rattle.std.proofs.lemmas.List.Elements.{All-contains, filter_passes}
use Rattle.draughts_board.specs.Geometry.{squares}
use Rattle.draughts_board.specs.Rules.{is_own}
use Rattle.draughts_board.specs.Play.{grown, starts, captures}
use Rattle.draughts_board.proofs.Turns.{filter_turn}
use Rattle.draughts_board.proofs.NoCapture.{filter-starts}
use Rattle.draughts_rules.proofs.captures.captures.Goals as goal

pub add_captures-requires-clause-own : goal.add_captures-requires-clause-own
add_captures-requires-clause-own c =
    let p = c.args.p.now in
    let there : Contains c.args.own.now c.from-item.result = (c.loop-from.from-index, c.loop-from-test.true, sym c.from-item.is) in
    All-contains (λ w. is_own p w ≡ true) (filter (is_own p) squares) c.from-item.result (filter_passes (is_own p) squares)
    (subst (λ l. Contains l c.from-item.result) c.requires.own there)

pub loop-from-preserved : goal.loop-from-preserved
loop-from-preserved c =
    let p = c.args.p.now in
    c.in_ok-add_captures.ensures
    ∙ ap (λ x. c.loop-from.found.items ++ cond (starts p x) (grown 12 p (x ∷ [])) []) c.from-item.is
    ∙ filter_turn (λ x. grown 12 p (x ∷ [])) (starts p) [] c.loop-from.found.items c.args.own.now c.loop-from.from-index c.from-item.result c.loop-from-test.true c.loop-from.invariant

pub returns : goal.returns
unfolding captures
returns c =
    let p = c.args.p.now in
    c.loop-from.invariant
    ∙ ap (λ xs. flat_map (λ x. grown 12 p (x ∷ [])) (filter (starts p) xs)) (take_all c.loop-from.from-index c.args.own.now c.loop-from-test.false ∙ c.requires.own)
    ∙ ap (flat_map (λ x. grown 12 p (x ∷ []))) (filter-starts p)
