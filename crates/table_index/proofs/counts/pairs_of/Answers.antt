use Rattle.std.proofs.Common.{◌≡◌, ◌+◌, ◌<◌, arith}
use Rattle.std.proofs.lemmas.List.FromFn.{get_or-map-range_with_len}
use Rattle.table_index.specs.Counting.{choose}
use Rattle.table_index.proofs.counts.pairs_of.Goals as goal

-- The whole table is computed from the definition, and this number's entry is read from it.
pub returns : goal.returns
unfolding choose
returns c =
    let place : c.args.squares < 33 = omega (arith, c.requires) in
    let back : 0 + c.args.squares ≡ c.args.squares = omega arith in
    get_or-map-range_with_len (choose 2) 0 33 c.args.squares c.args.squares 0 place back
