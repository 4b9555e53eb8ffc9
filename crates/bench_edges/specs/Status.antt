-- The numbers of the statuses.
use Rattle.std.specs.Prelude.{ℕ}
use Rattle.bench_edges.specs.declared.status.Status.{Status}
use Rattle.bench_edges.specs.declared.status.Status.TheVariants.{Done, Unsolved, Words, Input, Disk, Journal, Memory, Read, Write}

-- the exit status of the program
abbrev pub status_number : Status → ℕ
status_number Done = 0
status_number Unsolved = 1
status_number Words = 2
status_number Input = 3
status_number Disk = 4
status_number Journal = 5
status_number Memory = 6
status_number Read = 7
status_number Write = 8
