-- A lease given, released or kept leaves a sound state sound.
use Rattle.std.proofs.Common.{◌≡◌, ◌+◌, ℕ, List, [], ◌∷◌, ◌++◌, refl, sym, ◌∙◌, subst, arith}
use Rattle.std.specs.Prelude.{Bool, true, false, cond, ◌==◌, ◌&&◌, nat_le, filter, Option, Some, None, Result, Err, IsSomeAnd}
use Rattle.std.specs.List.{list_any}
use Rattle.std.proofs.lemmas.Bool.{lt-ltb, ne_eqb}
use Rattle.draughts_board.specs.declared.pieces.Side.{Side}
use Rattle.proof_tree.specs.Forest.{Node, node_at}
use Rattle.proof_tree.specs.Picking.{pick, IsOpenLeaf}
use Rattle.certificate_joiner.proofs.Named.{number_at}
use Rattle.proof_tree.proofs.Picked.{picked-there}
use Rattle.lease_table.specs.declared.leases.Lease.{Lease}
use Rattle.lease_table.specs.declared.leases.Row.{Row}
use Rattle.lease_table.specs.Rows.{LeaseRows, is_live_row, is_of, is_leased, live_rows}
use Rattle.bench_records.specs.declared.records.BenchRecord.{BenchRecord}
use Rattle.bench_core.specs.declared.refusals.LeaseRefusal.{LeaseRefusal}
use Rattle.bench_core.specs.declared.refusals.LeaseRefusal.TheVariants.{Done, Spent}
use Rattle.bench_core.specs.Growing.{IsLeafWith}
use Rattle.bench_core.specs.States.{CoreState, with_lease_rows, are_settled, node_position, lease_of, lease_of_picked, lease_answer, with_lease, after_answer, IsOpenFor, IsSoundRow, IsSoundBy}
use Rattle.bench_core.proofs.Lists.{Each-append, Each-weaker, Each-filter, Each-none, none_from_each}
use Rattle.bench_core.proofs.RowsApart.{other_way, apart_filter, apart_push}

-- ---- some rows are left

row_moves : (s : CoreState) (rows : List Row) (row : Row) → IsSoundRow s row → IsSoundRow (with_lease_rows s rows) row
row_moves s rows row sound = record {
  leaf = sound.leaf;
  lives = sound.lives;
  given = sound.given;
  depth = sound.depth;
  pieces = sound.pieces;
}

pub sound_filtered : (records : List BenchRecord) (s : CoreState) (t : Row → Bool) → IsSoundBy records s → IsSoundBy records (with_lease_rows s (filter t s.leases.rows))
sound_filtered records s t sound = record {
  lasts = sound.lasts;
  forest = sound.forest;
  numbered = sound.numbered;
  sight = sound.sight;
  certified = sound.certified;
  named = sound.named;
  apart = apart_filter t s.leases.rows sound.apart;
  rows = Each-filter (IsSoundRow s) (IsSoundRow (with_lease_rows s (filter t s.leases.rows))) t (λ row h passes. row_moves s (filter t s.leases.rows) row h) s.leases.rows sound.rows;
}

-- ---- a lease

-- what is leased at a number is of a row that lives then
pub not_leased : (t : LeaseRows) (node now : ℕ) → is_leased t node now ≡ false → list_any (is_of node) (live_rows t now) ≡ false
not_leased t node now free =
    none_from_each (is_of node) (live_rows t now)
    (Each-filter (λ row. (is_of node row && is_live_row t.limit now row) ≡ false) (λ row. is_of node row ≡ false) (is_live_row t.limit now)
    (λ row h lives. first_false (is_of node row) (is_live_row t.limit now row) h lives) t.rows
    (Each-none (λ row. is_of node row && is_live_row t.limit now row) t.rows free))
  where
    first_false : (a b : Bool) → (a && b) ≡ false → b ≡ true → a ≡ false
    first_false true b h e = sym e ∙ h
    first_false false b h e = refl

row_waits : (s : CoreState) (rows : List Row) (row : Row) → IsSoundRow s row → is_live_row s.leases.limit (s.given + 1) row ≡ true
    → IsSoundRow (record (with_lease_rows s rows) { given = s.given + 1 }) row
row_waits s rows row sound lives = record {
  leaf = sound.leaf;
  lives = lives;
  given = omega (arith, sound.given);
  depth = sound.depth;
  pieces = sound.pieces;
}

-- the leaf that is picked, with what makes its lease sound
pub record IsPicked (s : CoreState) (leaf : ℕ × Side) : Type 0 where
  pub found : IsSomeAnd (node_at leaf.0 s.forest) (IsOpenLeaf leaf.1 (λ n. is_leased s.leases n (s.given + 1)))

some_leaf : (s : CoreState) (worker : ℕ) (leaf : ℕ × Side) (o : Option Node) → node_at leaf.0 s.forest ≡ o → IsSomeAnd o (IsOpenLeaf leaf.1 (λ n. is_leased s.leases n (s.given + 1)))
    → IsLeafWith (IsOpenFor (lease_of s worker leaf)) s.forest leaf.0
some_leaf s worker leaf None e h = absurd h
some_leaf s worker leaf (Some x) e h = record {
  leaf = x;
  there = e;
  unexpanded = h.unexpanded;
  holds = record {
    unresolved = h.unresolved;
    position = place e;
  };
}
  where
    place : node_at leaf.0 s.forest ≡ Some x → node_position s.forest leaf.0 ≡ x.own.position
    place there = rw there refl

some_free : (s : CoreState) (leaf : ℕ × Side) (o : Option Node) → ((x : Node) → o ≡ Some x → x.own.number ≡ leaf.0) → IsSomeAnd o (IsOpenLeaf leaf.1 (λ n. is_leased s.leases n (s.given + 1)))
    → is_leased s.leases leaf.0 (s.given + 1) ≡ false
some_free s leaf None named h = absurd h
some_free s leaf (Some x) named h = subst (λ n. is_leased s.leases n (s.given + 1) ≡ false) (named x refl) h.free

pub picked_free : (s : CoreState) (leaf : ℕ × Side) → IsPicked s leaf → is_leased s.leases leaf.0 (s.given + 1) ≡ false
picked_free s leaf picked = some_free s leaf (node_at leaf.0 s.forest) (λ x e. number_at leaf.0 s.forest x e) picked.found

pub sound_leased : (records : List BenchRecord) (s : CoreState) (worker : ℕ) (leaf : ℕ × Side) → IsPicked s leaf → IsSoundBy records s
    → IsSoundBy records (with_lease s (lease_of s worker leaf))
sound_leased records s worker leaf picked sound =
    let lease = lease_of s worker leaf in
    let row : Row = record { lease = lease; kept = false } in
    let old = live_rows s.leases (s.given + 1) in
    let new = with_lease s lease in
    let test = is_live_row s.leases.limit (s.given + 1) in
    let free : list_any (is_of leaf.0) old ≡ false = not_leased s.leases leaf.0 (s.given + 1) (picked_free s leaf picked) in
    record {
      lasts = sound.lasts;
      forest = sound.forest;
      numbered = sound.numbered;
      sight = sound.sight;
      certified = sound.certified;
      named = sound.named;
      apart =
          apart_push old row (apart_filter test s.leases.rows sound.apart)
          (Each-weaker (λ r. is_of leaf.0 r ≡ false) (λ r. (r.lease.node == leaf.0) ≡ false) (λ r h. other_way leaf.0 r.lease.node h) old (Each-none (is_of leaf.0) old free))
          (Each-filter (IsSoundRow s) (λ r. (r.lease.id == (s.given + 1)) ≡ false) test (λ r h t. ne_eqb r.lease.id (s.given + 1) (λ e. omega (arith, h.given, e))) s.leases.rows sound.rows);
      rows =
          Each-append (IsSoundRow new) old (row ∷ [])
          (Each-filter (IsSoundRow s) (IsSoundRow new) test (λ r h t. row_waits s (old ++ row ∷ []) r h t) s.leases.rows sound.rows) (
            record {
              leaf = some_leaf s worker leaf (node_at leaf.0 s.forest) refl picked.found;
              lives = lt-ltb (s.given + 1) (s.given + 1 + s.leases.limit) (omega (arith, sound.lasts));
              given = omega arith;
              depth = refl;
              pieces = refl;
            },
            tt,
          );
    }

pub sound_picked : (records : List BenchRecord) (s : CoreState) (worker : ℕ) (o : Option (ℕ × Side)) → pick (λ n. is_leased s.leases n (s.given + 1)) s.forest ≡ o → IsSoundBy records s
    → IsSoundBy records (after_answer s (lease_of_picked s worker o))
sound_picked records s worker None is sound = sound
sound_picked records s worker (Some leaf) is sound =
    sound_leased records s worker leaf (record { found = picked-there (λ n. is_leased s.leases n (s.given + 1)) leaf.0 leaf.1 s.forest sound.numbered is }) sound

sound_cond : (records : List BenchRecord) (s : CoreState) (b : Bool) (x y : Result Lease LeaseRefusal) → IsSoundBy records (after_answer s x) → IsSoundBy records (after_answer s y)
    → IsSoundBy records (after_answer s (cond b x y))
sound_cond records s true x y p q = p
sound_cond records s false x y p q = q

pub sound_asked : (records : List BenchRecord) (s : CoreState) (worker : ℕ) → IsSoundBy records s → IsSoundBy records (after_answer s (lease_answer s worker))
sound_asked records s worker sound =
    let o = pick (λ n. is_leased s.leases n (s.given + 1)) s.forest in
    let inner = lease_of_picked s worker o in
    sound_cond records s (are_settled s.forest) (Err Done) (cond (nat_le s.settings.budget s.work) (Err (Spent s.work s.settings.budget)) inner) sound
    (sound_cond records s (nat_le s.settings.budget s.work) (Err (Spent s.work s.settings.budget)) inner sound (sound_picked records s worker o refl sound))
