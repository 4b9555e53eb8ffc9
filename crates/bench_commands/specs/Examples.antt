-- Worked examples of words on which the clauses of a run rest, one a field, each proved by computation
-- or in a few steps.
use Rattle.std.specs.Prelude.{◌≡◌, ◌≤◌, ◌^◌, ℕ, true, false, List, [], ◌∷◌, ◌++◌, Ok, Err}
use Rattle.bench_disk.specs.Disk.{IsTorn}
use Rattle.draughts_board.specs.Examples.{king_at_four, man_at_four, man_to_block}
use Rattle.draughts_board.specs.Resolution.{matches, meaning}
use Rattle.draughts_board.specs.declared.pieces.Side.TheVariants.{Black}
use Rattle.draughts_board.specs.declared.resolution.ResolveRefusal.TheVariants.{Illegal, Ambiguous}
use Rattle.strategy_certificate.specs.declared.certificates.Certificate.{Certificate}
use Rattle.bench_records.specs.declared.records.BenchRecord.{BenchRecord}
use Rattle.bench_records.specs.declared.records.BenchRecord.TheVariants.{Begin, Solve}
use Rattle.lease_table.specs.declared.leases.Lease.{Lease}
use Rattle.tree_manager.specs.declared.entries.Attachment.{Attachment}
use Rattle.tree_manager.specs.declared.entries.Entry.{Entry}
use Rattle.tree_manager.specs.declared.entries.Entry.TheVariants.{Put, Attached, Leased, Released, Acked}
use Rattle.tree_manager.specs.Lines.{applied_in, leases_given, recorded, unapplied_in, work_applied}
use Rattle.tree_manager.specs.LiveLeases.{lives_on, rows_left}
use Rattle.tree_manager.specs.Sessions.{session_budget, with_roots}
use Rattle.bench_core.specs.declared.settings.TheConstants.{MOST_LEASE, MOST_WORK}
use Rattle.bench_edges.specs.declared.words.TheConstants as words
use Rattle.capture_positions.specs.declared.jumps.TheConstants.{JUMP_COUNT, OTHER_COUNT}
use Rattle.capture_positions.specs.declared.openings.TheConstants.{INDEX_COUNT, MOST_OPENINGS, SEED_FACTOR, STEP_FACTOR}
use Rattle.certificate_checker.specs.declared.outcomes.TheConstants.{MOST_DEPTH}
use Rattle.journal_runs.specs.declared.first_pass.TheConstants.{MOST_FIRST}
use Rattle.pdn_text.specs.declared.TheConstants.{MOST_GAMES}
use Rattle.proof_tree.specs.declared.tree.TheConstants.{MOST_ROOTS}
use Rattle.strategy_certificate.specs.declared.entries.TheConstants.{MOST_FOUND_RANK, MOST_RANK}
use Rattle.strategy_certificate.specs.declared.shortening.TheConstants.{FIRST_SHORT_RANK}
use Rattle.bench_commands.specs.declared.commands.generate.TheConstants.{GENERATE_DEPTH, GENERATE_LEASE, GENERATE_PIECES}
use Rattle.program_edges.specs.declared.sources.TheConstants.{MOST_GAMES_BYTES}
use Rattle.bench_commands.specs.declared.commands.table_check.TheConstants.{MOST_TABLE_BYTES}
use Rattle.bench_commands.specs.declared.commands.verify.TheConstants.{MOST_CERTIFICATE_BYTES}

-- ---- what a written move means

pub record WorkedMeanings : Type 0 where
  -- In B:W6,7,14,15:BK2 the king can go round four men both ways, and comes to the same position.
  pub round : meaning king_at_four (matches king_at_four 2 [] 2) ≡ Ok (2 ∷ 9 ∷ 18 ∷ 11 ∷ 2 ∷ [])
  -- A man on 2 takes two of them on its way to 18, others on the one way than on the other.
  pub both_ways : meaning man_at_four (matches man_at_four 2 [] 18)
      ≡ Err (Ambiguous (2 ∷ 9 ∷ 18 ∷ []) (2 ∷ 11 ∷ 18 ∷ []))
  pub one_way : meaning man_at_four (matches man_at_four 2 (9 ∷ []) 18) ≡ Ok (2 ∷ 9 ∷ 18 ∷ [])
  pub half_way : meaning man_at_four (matches man_at_four 2 [] 9) ≡ Err Illegal

-- ---- a session's line

-- A session with one work record to spend and leases that run out with the next one, on an empty disk.
abbrev pub attachment : Attachment
attachment = record { opened = 1; faults = 0; budget = 5; depth = 1; pieces = 2; limit = 1 }

-- a lease of the root with this number
abbrev pub lease_numbered : ℕ → Lease
lease_numbered id = record {
  id = id;
  node = 0;
  position = man_to_block;
  goal = Black;
  depth = 1;
  pieces = 2;
  worker = id;
}

-- Its root W:W16,23:B12 is begun, and two workers lease it, one after the other.
abbrev pub leased_twice : List Entry
leased_twice =
    Attached attachment ∷ Put (Begin man_to_block) ∷ Acked 8 ∷ Leased (lease_numbered 1)
    ∷ Leased (lease_numbered 2) ∷ []

-- .. The second one's result is staged, and then committed.
abbrev pub with_result : List Certificate → List Entry
with_result shown = leased_twice ++ Put (Solve 0 man_to_block shown) ∷ []

abbrev pub with_commit : List Certificate → List Entry
with_commit shown = with_result shown ++ Acked 12 ∷ []

-- It shows these certificates.
pub record WorkedLines (shown : List Certificate) : Type 0 where
  -- The root's record is applied, and the result's as soon as it is committed.
  pub begun : applied_in leased_twice ≡ Begin man_to_block ∷ []
  pub staged : applied_in (with_result shown) ≡ Begin man_to_block ∷ []
  pub unapplied : unapplied_in (with_result shown) ≡ Solve 0 man_to_block shown ∷ []
  pub committed : applied_in (with_commit shown)
      ≡ Begin man_to_block ∷ Solve 0 man_to_block shown ∷ []
  pub all_applied : unapplied_in (with_commit shown) ≡ []
  pub given : leases_given (with_commit shown) ≡ 2
  pub no_work_yet : work_applied (with_result shown) ≡ 0
  pub one_work : work_applied (with_commit shown) ≡ 1
  -- The first lease lives until the next one is given.
  pub first_lives : lives_on 1 1 (lease_numbered 1) [] ≡ true
  pub first_ends : lives_on 1 2 (lease_numbered 1) (Leased (lease_numbered 2) ∷ []) ≡ false
  -- Its number alone would have ended it, or a release.
  pub runs_out : lives_on 1 2 (lease_numbered 1) [] ≡ false
  pub lasts_longer : lives_on 2 2 (lease_numbered 1) [] ≡ true
  pub released : lives_on 2 1 (lease_numbered 1) (Released 1 ∷ []) ≡ false
  -- The second lives on for as long as its result is staged, whatever its number.
  pub waits_for_commit : lives_on 1 9 (lease_numbered 2) (Put (Solve 0 man_to_block shown) ∷ [])
      ≡ true
  pub is_done : lives_on 1 2 (lease_numbered 2)
      (Put (Solve 0 man_to_block shown) ∷ Acked 12 ∷ []) ≡ false
  pub one_row : rows_left 1 2 leased_twice ≡ record { lease = lease_numbered 2; kept = false } ∷ []
  pub kept_row : rows_left 1 2 (with_result shown)
      ≡ record { lease = lease_numbered 2; kept = true } ∷ []
  pub no_row : rows_left 1 2 (with_commit shown) ≡ []
  -- A later session has what this one left of the budgets of all.
  pub budget : session_budget 5 (applied_in (with_commit shown)) ≡ 5
  pub most : session_budget 1000000 (applied_in (with_commit shown)) ≡ 999999
  -- An opening that is a root begins no other one.
  pub same_root : with_roots (man_to_block ∷ []) (man_to_block ∷ man_at_four ∷ man_at_four ∷ [])
      ≡ man_to_block ∷ man_at_four ∷ []

-- ---- what a crash may leave of a write

-- Two bytes are written over the last one of three, and one behind it: nothing of that, all, half, or
-- anything in their place.
pub record WorkedTears : Type 0 where
  pub nothing : IsTorn 2 2 (1 ∷ 2 ∷ 3 ∷ []) (1 ∷ 2 ∷ 3 ∷ [])
  pub all : IsTorn 2 2 (1 ∷ 2 ∷ 3 ∷ []) (1 ∷ 2 ∷ 8 ∷ 9 ∷ [])
  pub half : IsTorn 2 2 (1 ∷ 2 ∷ 3 ∷ []) (1 ∷ 2 ∷ 8 ∷ [])
  pub others : IsTorn 2 2 (1 ∷ 2 ∷ 3 ∷ []) (1 ∷ 2 ∷ 7 ∷ 0 ∷ [])
  -- No other byte changes, none is lost, and the end lies no further.
  pub not_before : ¬ IsTorn 2 2 (1 ∷ 2 ∷ 3 ∷ []) (1 ∷ 4 ∷ 8 ∷ 9 ∷ [])
  pub not_shorter : ¬ IsTorn 2 2 (1 ∷ 2 ∷ 3 ∷ []) (1 ∷ 2 ∷ [])
  pub not_longer : ¬ IsTorn 2 2 (1 ∷ 2 ∷ 3 ∷ []) (1 ∷ 2 ∷ 8 ∷ 9 ∷ 0 ∷ [])

-- ---- limits

-- Where a definition or a clause names a limit, it is this number.
pub record WorkedLimits : Type 0 where
  -- bytes of sources
  pub games_bytes : MOST_GAMES_BYTES ≡ 16777216
  pub certificate_bytes : MOST_CERTIFICATE_BYTES ≡ 268435456
  pub table_bytes : MOST_TABLE_BYTES ≡ 4194304
  -- what a source, a journal and a run may have
  pub games : MOST_GAMES ≡ 4096
  pub roots : MOST_ROOTS ≡ 65536
  pub work : MOST_WORK ≡ 1000000
  pub depth : MOST_DEPTH ≡ 12
  pub lease : MOST_LEASE ≡ 1000000000
  pub openings : MOST_OPENINGS ≡ 2000
  pub first_searches : MOST_FIRST ≡ 4096
  -- ranks that a certificate may say, those that a search gives, and the least of the short ones
  pub rank : MOST_RANK ≡ 2 ^ 62
  pub found_rank : MOST_FOUND_RANK ≡ 2 ^ 40
  pub short_rank : FIRST_SHORT_RANK ≡ 2 ^ 32
  -- the walk from a seed
  pub jumps : JUMP_COUNT ≡ 72
  pub others : OTHER_COUNT ≡ 29
  pub indices : INDEX_COUNT ≡ 4176
  pub seed_factor : SEED_FACTOR ≡ 7919
  pub step_factor : STEP_FACTOR ≡ 101
  -- numbers that words may say, and those that no word says
  pub fewest_workers : words.LEAST_WORKERS ≡ 1
  pub most_workers : words.MOST_WORKERS ≡ 64
  pub workers : words.DEFAULT_WORKERS ≡ 1
  pub deepest : words.MOST_DEPTH ≡ 12
  pub depth_unsaid : words.DEFAULT_DEPTH ≡ 4
  pub fewest_pieces : words.LEAST_PIECES ≡ 2
  pub most_pieces : words.MOST_PIECES ≡ 3
  pub pieces : words.DEFAULT_PIECES ≡ 2
  pub most_plies : words.MOST_PLIES ≡ 200
  pub plies : words.DEFAULT_PLIES ≡ 200
  pub most_budget : words.MOST_BUDGET ≡ 1000000
  pub budget : words.DEFAULT_BUDGET ≡ 1000
  pub shortest_lease : words.LEAST_LEASE ≡ 1
  pub longest_lease : words.MOST_LEASE ≡ 1000000000
  pub lease_unsaid : words.DEFAULT_LEASE ≡ 1000000
  pub first_root : words.LEAST_ROOT ≡ 1
  pub last_root : words.MOST_ROOT ≡ 65536
  pub last_seed : words.MOST_SEED ≡ 4294967295
  pub fewest_openings : words.LEAST_COUNT ≡ 1
  pub most_openings : words.MOST_COUNT ≡ 2000
  -- what `generate` searches with
  pub generate_pieces : GENERATE_PIECES ≡ 2
  pub generate_depth : GENERATE_DEPTH ≡ 1
  pub generate_lease : GENERATE_LEASE ≡ 1000000
