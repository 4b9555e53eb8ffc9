-- The state of the core, and its events.
use Rattle.std.specs.Prelude.{◌≡◌, ◌≤◌, ◌+◌, ℕ, Bool, true, false, nat_le, if◌then◌else◌, List, [], ◌∷◌, ◌++◌, Contains, length, is_some, Option, Some, None, Result, Ok, Err}
use Rattle.std.specs.List.{list_all, list_any, AllByRecursion as Each}
use Rattle.std.specs.Option.{option_map_or}
use Rattle.draughts_board.specs.Board.{Board, start_board, other}
use Rattle.draughts_board.specs.Draughts.{draughts}
use Rattle.draughts_board.specs.Game.{ShowsWin, ShowsHold}
use Rattle.draughts_board.specs.declared.pieces.Side.{Side}
use Rattle.strategy_certificate.specs.declared.certificates.Certificate.{Certificate}
use Rattle.proof_numbers.specs.Known.{knows_win, knows_hold, joined}
use Rattle.proof_numbers.specs.Numbers.{is_resolved}
use Rattle.proof_tree.specs.Forest.{Forest, Node, nodes, node_at, node_numbers, value_of, size}
use Rattle.proof_tree.specs.Picking.{pick}
use Rattle.proof_tree.specs.Sound.{EachNode, IsSoundForest}
use Rattle.certificate_joiner.specs.Growth.{HasNoneFrom}
use Rattle.certificate_joiner.specs.Laws.{AreCertified}
use Rattle.lease_table.specs.declared.leases.Lease.{Lease}
use Rattle.lease_table.specs.declared.leases.Row.{Row}
use Rattle.lease_table.specs.Rows.{LeaseRows, is_live_row, has_id, is_of, is_leased, live_rows, without}
use Rattle.bench_records.specs.declared.records.BenchRecord.{BenchRecord}
use Rattle.bench_records.specs.declared.records.BenchRecord.TheVariants.{Begin, Solve, Expand}
use Rattle.bench_core.specs.declared.refusals.LeaseRefusal.{LeaseRefusal}
use Rattle.bench_core.specs.declared.refusals.LeaseRefusal.TheVariants.{Done, Spent, NoLeaf}
use Rattle.bench_core.specs.Records.{is_work_on, batches_shown}
use Rattle.certificate_checker.specs.Told.{facts_shown}
use Rattle.bench_core.specs.Growing.{IsLeafWith, IsLawfulRecord, GrowsWith, IsForestOf}

-- how many work records a session may apply, how deep it searches, for tables of how many pieces
pub record SessionSettings : Type 0 where
  pub budget : ℕ
  pub depth : ℕ
  pub pieces : ℕ

-- a forest, the leases that live, how many were given, how many work records the session applied,
-- and its settings
pub record CoreState : Type 0 where
  pub forest : Forest
  pub leases : LeaseRows
  pub given : ℕ
  pub work : ℕ
  pub settings : SessionSettings

abbrev pub with_lease_rows : CoreState → List Row → CoreState
with_lease_rows s rows = record s { leases = record s.leases { rows = rows } }

-- ---- a lease

abbrev pub are_settled : Forest → Bool
are_settled roots = list_all (λ root. is_some (value_of root)) (nodes roots)

abbrev pub node_position : Forest → ℕ → Board
node_position roots n = option_map_or (λ x. x.own.position) (node_at n roots) start_board

-- a lease of this leaf, with the next number
abbrev pub lease_of : CoreState → ℕ → ℕ × Side → Lease
lease_of s worker leaf =
    record {
      id = s.given + 1;
      node = leaf.0;
      position = node_position s.forest leaf.0;
      goal = leaf.1;
      depth = s.settings.depth;
      pieces = s.settings.pieces;
      worker = worker;
    }

-- of the leaf picked, or of none
abbrev pub lease_of_picked : CoreState → ℕ → Option (ℕ × Side) → Result Lease LeaseRefusal
lease_of_picked s worker None = Err (NoLeaf (length (live_rows s.leases (s.given + 1))))
lease_of_picked s worker (Some leaf) = Ok (lease_of s worker leaf)

-- The answer to a worker who asks for a leaf. The first that fits counts: every root is settled;
-- the budget is spent; no leaf is open, where those leased at the next number are taken; the leaf
-- picked so.
abbrev pub lease_answer : CoreState → ℕ → Result Lease LeaseRefusal
lease_answer s worker =
    (if are_settled s.forest then Err Done
    else (if nat_le s.settings.budget s.work then Err (Spent s.work s.settings.budget)
    else lease_of_picked s worker
    (pick (λ n. is_leased s.leases n (s.given + 1)) s.forest)))

-- the lease is a new row, beside those that live at its number
abbrev pub with_lease : CoreState → Lease → CoreState
with_lease s lease =
    record
    (with_lease_rows s
    (live_rows s.leases (s.given + 1) ++ record { lease = lease; kept = false } ∷ []))
    { given = s.given + 1 }

abbrev pub after_answer : CoreState → Result Lease LeaseRefusal → CoreState
after_answer s (Ok lease) = with_lease s lease
after_answer s (Err refusal) = s

-- ---- a result

-- looking so far ahead shows neither the goal's win nor the other side's hold
pub record IsExhaustedAt (k : ℕ) (goal : Side) (depth : ℕ) (p : Board) : Type 0 where
  pub no_win : ShowsWin draughts k goal depth p → ⊥
  pub no_hold : ShowsHold draughts k (other goal) depth [] p → ⊥

-- what looking so far ahead shows, the node knows already, or the certificates tell it
pub record TellsAllFound (k depth : ℕ) (shown : List Certificate) (leaf : Node) : Type 0 where
  pub wins : (s : Side) → ShowsWin draughts k s depth leaf.own.position
      → knows_win s (joined leaf.own.facts (facts_shown shown)) ≡ true
  pub holds : (s : Side) → ShowsHold draughts k s depth [] leaf.own.position
      → knows_hold s (joined leaf.own.facts (facts_shown shown)) ≡ true

-- a search of the leaf for this goal may give the record
abbrev pub IsFound : ℕ → ℕ → Side → BenchRecord → Node → Type 0
IsFound k depth goal (Begin p) leaf = ⊥
IsFound k depth goal (Solve n p shown) leaf = TellsAllFound k depth shown leaf
IsFound k depth goal (Expand n) leaf = IsExhaustedAt k goal depth leaf.own.position

-- the record is lawful, and what a search under the lease may give
pub record IsFoundUnder (s : CoreState) (lease : Lease) (r : BenchRecord) : Type 0 where
  pub own : is_work_on lease.node r ≡ true
  pub lawful : IsLawfulRecord s.settings.pieces s.forest r
  pub found : IsLeafWith (IsFound s.settings.pieces s.settings.depth lease.goal r) s.forest lease.node

-- ---- events

pub data Event : Type 0 where
  -- a worker asks for a lease
  AsksLease : (worker : ℕ) → Event
  -- the record comes under the lease of this number
  Finds : (id : ℕ) → BenchRecord → Event
  -- a root begins at this position
  BeginsRoot : Board → Event
  -- the lease of this number ends without a result
  Releases : (id : ℕ) → Event

-- a row of the state that has this number
pub record HasRow (P : Row → Type 0) (s : CoreState) (id : ℕ) : Type 0 where
  pub row : Row
  pub there : Contains s.leases.rows row
  pub number : row.lease.id ≡ id
  pub holds : P row

-- A result: the forest grows by the record, one work record more is applied, and the lease ends.
pub record IsAfterResult (s : CoreState) (id : ℕ) (r : BenchRecord) (new : CoreState) : Type 0 where
  pub row : HasRow (λ row. IsFoundUnder s row.lease r) s id
  pub grown : GrowsWith s.settings.pieces s.forest r new.forest
  pub rest : new
      ≡ record (with_lease_rows s (without id s.leases.rows)) {
        forest = new.forest;
        work = s.work + 1;
      }

-- A new root: the forest grows by it.
pub record IsAfterBegin (s : CoreState) (p : Board) (new : CoreState) : Type 0 where
  pub grown : GrowsWith s.settings.pieces s.forest (Begin p) new.forest
  pub rest : new ≡ record s { forest = new.forest }

-- A release: the lease, which is not kept, ends.
pub record IsAfterRelease (s : CoreState) (id : ℕ) (new : CoreState) : Type 0 where
  pub row : HasRow (λ row. row.kept ≡ false) s id
  pub rest : new ≡ with_lease_rows s (without id s.leases.rows)

-- the event may happen in the one state, and leads to the other
abbrev pub Happens : CoreState → Event → CoreState → Type 0
Happens s (AsksLease worker) new = new ≡ after_answer s (lease_answer s worker)
Happens s (Finds id r) new = IsAfterResult s id r new
Happens s (BeginsRoot p) new = IsAfterBegin s p new
Happens s (Releases id) new = IsAfterRelease s id new

-- the events may happen one after another
abbrev pub IsRun : CoreState → List Event → CoreState → Type 0
IsRun s [] new = new ≡ s
IsRun s (e ∷ events) new = (next : CoreState) × (Happens s e next × IsRun next events new)

-- ---- sound states

-- no later row has the node or the number of an earlier one
abbrev pub AreRowsApart : List Row → Type 0
AreRowsApart [] = Unit {0}
AreRowsApart (row ∷ rows) =
    (list_any (is_of row.lease.node) rows ≡ false)
    × ((list_any (has_id row.lease.id) rows ≡ false) × AreRowsApart rows)

-- the leaf is unresolved for the lease's goal, and has the lease's position
pub record IsOpenFor (lease : Lease) (leaf : Node) : Type 0 where
  pub unresolved : is_resolved (node_numbers lease.goal leaf) ≡ false
  pub position : lease.position ≡ leaf.own.position

-- A row that lives, of a lease that was given in this session, whose node is still open for it.
pub record IsSoundRow (s : CoreState) (row : Row) : Type 0 where
  pub leaf : IsLeafWith (IsOpenFor row.lease) s.forest row.lease.node
  pub lives : is_live_row s.leases.limit s.given row ≡ true
  pub given : row.lease.id ≤ s.given
  pub depth : row.lease.depth ≡ s.settings.depth
  pub pieces : row.lease.pieces ≡ s.settings.pieces

-- the node knows what is seen of its position at sight, with tables of k pieces
pub record KnowsSight (k : ℕ) (x : Node) : Type 0 where
  pub wins : (s : Side) → ShowsWin draughts k s 0 x.own.position → knows_win s x.own.facts ≡ true
  pub holds : (s : Side) → ShowsHold draughts k s 0 [] x.own.position
      → knows_hold s x.own.facts ≡ true

-- The state came about by these records. Its forest is theirs, each node knows what is seen at
-- sight, each fact of each node is at sight or shown by a certificate that is recorded for the node,
-- and each lease is of an open leaf, no two of one.
pub record IsSoundBy (records : List BenchRecord) (s : CoreState) : Type 0 where
  pub lasts : 1 ≤ s.leases.limit
  pub forest : IsForestOf s.settings.pieces records s.forest
  pub numbered : IsSoundForest s.forest
  pub sight : EachNode (λ path. KnowsSight s.settings.pieces) [] s.forest
  pub certified : AreCertified s.settings.pieces (batches_shown records) s.forest
  pub named : HasNoneFrom (size s.forest) (batches_shown records)
  pub apart : AreRowsApart s.leases.rows
  pub rows : Each (IsSoundRow s) s.leases.rows

abbrev pub IsSoundState : CoreState → Type 0
IsSoundState s = (records : List BenchRecord) × IsSoundBy records s
