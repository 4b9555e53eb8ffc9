use Rattle.lease_table.proofs.Sweeping.{swept_later, swept_free}
use Rattle.lease_table.proofs.laws.sweeping_forgets_nothing.Goals as goal

pub returns-clause-rows : goal.returns-clause-rows
returns-clause-rows c t now later le = swept_later t.limit now later t.rows le

pub returns-clause-nodes : goal.returns-clause-nodes
returns-clause-nodes c t node now later le = swept_free t.limit node now later t.rows le
