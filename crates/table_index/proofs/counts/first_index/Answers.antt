use Rattle.std.proofs.Common.{sym, ap, ◌≡◌, arith, ◌∙◌}
use Rattle.table_index.specs.Order.{first_index}
use Rattle.table_index.proofs.OrderLemmas.{block_sizes}
use Rattle.table_index.proofs.counts.first_index.Goals as goal

pub returns-in-0 : goal.returns-in-0
returns-in-0 c = sym (ap first_index c.in-0.is ∙ block_sizes.first_of_none)

pub returns-in-1 : goal.returns-in-1
returns-in-1 c = sym (ap first_index c.in-1.is ∙ block_sizes.first_of_one)

pub returns-in-2 : goal.returns-in-2
returns-in-2 c = sym (ap first_index c.in-2.is ∙ block_sizes.first_of_two)

pub returns-in-3 : goal.returns-in-3
returns-in-3 c = sym (ap first_index c.in-3.is ∙ block_sizes.first_of_three)

pub returns-in_default : goal.returns-in_default
returns-in_default c = let four : c.args.pieces ≡ 4 = omega arith in sym (ap first_index four ∙ block_sizes.count_of_three)
