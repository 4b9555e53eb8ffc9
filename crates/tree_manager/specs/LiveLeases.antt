-- Which leases live in a line.
use Rattle.std.specs.Prelude.{ℕ, Bool, cond, not, ◌&&◌, ◌||◌, ◌+◌, nat_lt, List, [], ◌∷◌, ◌++◌}
use Rattle.std.specs.List.{list_any}
use Rattle.lease_table.specs.declared.leases.Lease.{Lease}
use Rattle.lease_table.specs.declared.leases.Row.{Row}
use Rattle.bench_core.specs.Records.{is_work_on}
use Rattle.tree_manager.specs.declared.entries.Entry.{Entry}
use Rattle.tree_manager.specs.declared.entries.Entry.TheVariants.{Put, Attached, Leased, Released, Acked, Broken}
use Rattle.tree_manager.specs.Entries.{ends_lease}
use Rattle.tree_manager.specs.Lines.{recorded, unapplied_in}

-- Of a lease and the entries behind it: a result of its node is staged
abbrev pub has_staged : Lease → List Entry → Bool
has_staged lease behind = list_any (is_work_on lease.node) (unapplied_in behind)

-- .. and no result of its node came, and its number has not run out
abbrev pub still_waits : ℕ → ℕ → Lease → List Entry → Bool
still_waits limit now lease behind =
    not (list_any (is_work_on lease.node) (recorded behind)) && nat_lt now (lease.id + limit)

-- .. it lives when `now` leases were given: nothing ended it, and its result is staged, or it
-- still waits for one
abbrev pub lives_on : ℕ → ℕ → Lease → List Entry → Bool
lives_on limit now lease behind =
    not (list_any (ends_lease lease) behind)
    && (has_staged lease behind || still_waits limit now lease behind)

-- the row of an entry's lease, if it lives
abbrev pub row_left : ℕ → ℕ → List Entry → Entry → List Row
row_left limit now behind (Put r) = []
row_left limit now behind (Attached a) = []
row_left limit now behind (Leased lease) =
    cond (lives_on limit now lease behind)
    (record { lease = lease; kept = has_staged lease behind } ∷ []) []
row_left limit now behind (Released id) = []
row_left limit now behind (Acked moment) = []
row_left limit now behind (Broken faults) = []

-- the leases of the line that live then, in the order in which they were given
abbrev pub rows_left : ℕ → ℕ → List Entry → List Row
rows_left limit now [] = []
rows_left limit now (e ∷ behind) = row_left limit now behind e ++ rows_left limit now behind
