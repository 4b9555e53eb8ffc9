use Rattle.std.proofs.Common.{◌≡◌, ◌+◌, ◌<◌, length, drop, refl, ◌∙◌, subst, arith}
use Rattle.std.specs.Prelude.{flat_map, slice_index}
use Rattle.std.proofs.lemmas.List.{get_or_default}
use Rattle.endgame_table.specs.Marking.{Marks}
use Rattle.endgame_table.specs.Rounds.{win}
use Rattle.endgame_table.specs.Origins.{origins_from, origins_at}
use Rattle.endgame_table.proofs.LeftTargets.{left_from, none_left}
use Rattle.endgame_table.proofs.MarkLemmas.{MarksRest, rest-turn, rest-end}
use Rattle.endgame_table.proofs.rounds.find_wins.Goals as goal

pub loop-target-preserved : goal.loop-target-preserved
loop-target-preserved c =
    let o = c.args.origins.now in
    let targets = c.args.lost.now in
    let k = c.loop-target.target-index in
    let t = slice_index targets k in
    let all = flat_map (origins_at o) targets in
    let below : t < length o.heads.items = (let inside = c.requires.lost k 0 c.loop-target-test.true in let heads = c.requires.origins.heads in omega (arith, inside, heads)) in
    let head : c.index-first.result.now ≡ slice_index o.heads.items t = c.index-first.ensures ∙ get_or_default o.heads.items t c.index-first.result.now 0 below in
    let marks : Marks (win c.args.rank) (origins_at o t) c.loop-target.numbers c.mark_origins.new.numbers c.loop-target.won.items c.mark_origins.new.found.items
    = subst (λ l. Marks (win c.args.rank) l c.loop-target.numbers c.mark_origins.new.numbers c.loop-target.won.items c.mark_origins.new.found.items) (λ i. origins_from (c.deref.ensures.value i) (head i)) c.in_ok-mark_origins.ensures in
    rest-turn (win c.args.rank) all (origins_at o t) (flat_map (origins_at o) (drop (k + 1) targets)) c.args.numbers.now c.loop-target.numbers c.mark_origins.new.numbers c.args.won.now.items c.loop-target.won.items c.mark_origins.new.found.items
    (subst (λ l. MarksRest (win c.args.rank) all l c.args.numbers.now c.loop-target.numbers c.args.won.now.items c.loop-target.won.items) (left_from o targets k t c.loop-target-test.true refl) c.loop-target.invariant)
    marks c.mark_origins.auto.numbers

pub returns : goal.returns
returns c =
    let o = c.args.origins.now in
    let targets = c.args.lost.now in
    let none = none_left o targets c.loop-target.target-index (omega arith) in
    rest-end (win c.args.rank) (flat_map (origins_at o) targets) c.args.numbers.now c.loop-target.numbers c.args.won.now.items c.loop-target.won.items
    (subst (λ l. MarksRest (win c.args.rank) (flat_map (origins_at o) targets) l c.args.numbers.now c.loop-target.numbers c.args.won.now.items c.loop-target.won.items) none c.loop-target.invariant)
