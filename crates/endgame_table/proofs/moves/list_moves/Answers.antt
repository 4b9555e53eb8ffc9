use Rattle.std.proofs.Common.{◌≡◌, length, sym, ◌∙◌, ap, subst, arith}
use Rattle.table_index.specs.Order.{entry_count}
use Rattle.endgame_table.specs.Origins.{AreOrigins}
use Rattle.endgame_table.proofs.ListedMoves.{Listed, listed-first, listed-more, begun-from_listed}
use Rattle.endgame_table.proofs.moves.list_moves.Goals as goal

pub loop-index-init : goal.loop-index-init
loop-index-init c =
    let o = c.in_ok-origins.origins in
    let none : length o.links.items ≡ 0 = ap length c.in_ok-origins.ensures.links in (
      rw (c.new-waiting.ensures.items, c.new-numbers.ensures.items, c.new-lost.ensures.items) (listed-first c.entry_count-count.result o c.in_ok-origins.ensures.heads c.in_ok-origins.ensures.links),
      omega (arith, none),
    )

pub add_moves-requires-clause-table : goal.add_moves-requires-clause-table
add_moves-requires-clause-table c = (c.args.pieces, (c.requires, c.loop-index.invariant.0.origins.heads ∙ c.entry_count-count.ensures))

pub add_moves-requires-clause-index : goal.add_moves-requires-clause-index
add_moves-requires-clause-index c = let heads = c.loop-index.invariant.0.origins.heads in let below = c.loop-index-test.true in omega (arith, heads, below)

pub add_moves-requires-clause-room : goal.add_moves-requires-clause-room
add_moves-requires-clause-room c = c.loop-index.invariant.1

pub add_moves-requires-clause-origins : goal.add_moves-requires-clause-origins
add_moves-requires-clause-origins c = subst (AreOrigins c.loop-index.origins) (sym c.loop-index.invariant.0.origins.heads) c.loop-index.invariant.0.origins

pub loop-index-preserved : goal.loop-index-preserved
loop-index-preserved c =
    let now = c.loop-index.invariant.0 in (
      listed-more c.entry_count-count.result c.loop-index.index c.loop-index.origins c.add_moves.new.origins c.loop-index.waiting.items c.push.new.self.items c.loop-index.numbers.items c.push-in-loop-index.new.self.items c.loop-index.lost.items c.add_lost.new.lost.items
          c.in_ok-targets.targets c.in_ok-targets.number now c.loop-index-test.true c.in_ok-targets.ensures.adds
          (subst (AreOrigins c.add_moves.new.origins) now.origins.heads c.in_ok-targets.ensures.origins)
          c.in_ok-push.ensures.items c.in_ok-targets.ensures.count c.in_ok-push-2.ensures.items c.in_ok-targets.ensures.number c.in_ok-add_lost.ensures,
      c.in_ok-targets.ensures.room,
    )

pub returns : goal.returns
returns c =
    let k = c.args.pieces in
    let count = c.entry_count-count.result in
    let is_count : count ≡ entry_count k = c.entry_count-count.ensures in
    let end : c.loop-index.index ≡ count = (let over = c.loop-index-test.false in let most = c.loop-index.auto.index-end in omega (arith, over, most)) in
    let all : Listed (entry_count k) (entry_count k) c.loop-index.origins c.loop-index.waiting.items c.loop-index.numbers.items c.loop-index.lost.items
    = subst (λ n. Listed n (entry_count k) c.loop-index.origins c.loop-index.waiting.items c.loop-index.numbers.items c.loop-index.lost.items) is_count
    (subst (λ n. Listed count n c.loop-index.origins c.loop-index.waiting.items c.loop-index.numbers.items c.loop-index.lost.items) (end ∙ is_count) c.loop-index.invariant.0) in
    begun-from_listed k c.requires c.loop-index.origins c.loop-index.waiting.items c.loop-index.numbers.items c.loop-index.lost.items all
