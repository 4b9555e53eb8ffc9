-- What an entry of a session's line is.
use Rattle.std.specs.Prelude.{ℕ, Bool, true, false, ◌==◌, List, [], ◌∷◌}
use Rattle.lease_table.specs.declared.leases.Lease.{Lease}
use Rattle.bench_records.specs.declared.records.BenchRecord.{BenchRecord}
use Rattle.tree_manager.specs.declared.entries.Entry.{Entry}
use Rattle.tree_manager.specs.declared.entries.Entry.TheVariants.{Put, Attached, Leased, Released, Acked, Broken}

-- the record that the entry puts, if it puts one
abbrev pub record_put : Entry → List BenchRecord
record_put (Put r) = r ∷ []
record_put (Attached a) = []
record_put (Leased lease) = []
record_put (Released id) = []
record_put (Acked moment) = []
record_put (Broken faults) = []

-- All records before it are durable: an Acked, or the Attached behind the records replayed.
abbrev pub acknowledges : Entry → Bool
acknowledges (Put r) = false
acknowledges (Attached a) = true
acknowledges (Leased lease) = false
acknowledges (Released id) = false
acknowledges (Acked moment) = true
acknowledges (Broken faults) = false

-- the moment since which they are
abbrev pub moment_acknowledged : Entry → List ℕ
moment_acknowledged (Put r) = []
moment_acknowledged (Attached a) = a.opened ∷ []
moment_acknowledged (Leased lease) = []
moment_acknowledged (Released id) = []
moment_acknowledged (Acked moment) = moment ∷ []
moment_acknowledged (Broken faults) = []

-- the session begins
abbrev pub attaches : Entry → Bool
attaches (Put r) = false
attaches (Attached a) = true
attaches (Leased lease) = false
attaches (Released id) = false
attaches (Acked moment) = false
attaches (Broken faults) = false

-- a lease is given
abbrev pub gives_lease : Entry → Bool
gives_lease (Put r) = false
gives_lease (Attached a) = false
gives_lease (Leased lease) = true
gives_lease (Released id) = false
gives_lease (Acked moment) = false
gives_lease (Broken faults) = false

-- The entry ends the lease, whatever stands between them: a later lease of its node, or its
-- release.
abbrev pub ends_lease : Lease → Entry → Bool
ends_lease lease (Put r) = false
ends_lease lease (Attached a) = false
ends_lease lease (Leased later) = later.node == lease.node
ends_lease lease (Released id) = id == lease.id
ends_lease lease (Acked moment) = false
ends_lease lease (Broken faults) = false

-- the session fails
abbrev pub breaks : Entry → Bool
breaks (Put r) = false
breaks (Attached a) = false
breaks (Leased lease) = false
breaks (Released id) = false
breaks (Acked moment) = false
breaks (Broken faults) = true

-- how many faults of the disk the entry tells
abbrev pub faults_told : Entry → ℕ
faults_told (Put r) = 0
faults_told (Attached a) = a.faults
faults_told (Leased lease) = 0
faults_told (Released id) = 0
faults_told (Acked moment) = 0
faults_told (Broken faults) = faults
