-- Applying what is staged first leaves a core sound.
use Rattle.std.proofs.Common.{◌≡◌, ◌≤◌, ◌+◌, ℕ, List, [], ◌∷◌, ◌++◌, length, refl, ap, sym, ◌∙◌, subst, inl, inr, append_assoc, append-nil, ⊎_elim}
use Rattle.std.specs.Prelude.{Bool, true, false, cond, not, ◌==◌, Contains, All}
use Rattle.std.specs.List.{list_any, IsDistinct, AllByRecursion as Each}
use Rattle.std.proofs.lemmas.Bool.{true≢false, false≢true, or_cases, eqb-true, eq-eqb, false_from_ne_true, not_from_false, not-true}
use Rattle.std.proofs.lemmas.List.Elements.{All-tail}
use Rattle.draughts_board.specs.Board.{Board, IsLawful, same_board}
use Rattle.proof_numbers.specs.declared.leaves.Child.{Child}
use Rattle.proof_numbers.specs.Facts.{known}
use Rattle.proof_numbers.specs.Known.{Known, joined}
use Rattle.proof_tree.specs.declared.rows.Mark.TheVariants.{Unexpanded, Expanded}
use Rattle.proof_tree.specs.Forest.{Own, Forest, no_node, node, size}
use Rattle.proof_tree.specs.Changes.{learn, expanded}
use Rattle.proof_tree.specs.Sound.{root_positions, IsSoundForest}
use Rattle.proof_tree.proofs.EachNode.{root_positions-appended, root_positions-changed}
use Rattle.lease_table.specs.declared.leases.Lease.{Lease}
use Rattle.lease_table.specs.declared.leases.Row.{Row}
use Rattle.lease_table.specs.Rows.{has_id, without}
use Rattle.bench_records.specs.declared.records.BenchRecord.{BenchRecord}
use Rattle.bench_records.specs.declared.records.BenchRecord.TheVariants.{Begin, Solve, Expand}
use Rattle.bench_core.specs.Records.{is_work, is_work_on, begun, batches_shown}
use Rattle.certificate_checker.specs.Told.{facts_shown}
use Rattle.bench_core.specs.Growing.{IsLeafWith, IsLawfulRecord, GrowsWith}
use Rattle.bench_core.specs.States.{CoreState, with_lease_rows, IsFound, IsFoundUnder, IsOpenFor, IsSoundRow, IsSoundBy, AreRowsApart}
use Rattle.bench_core.specs.Cores.{Core, IsSoundCore, HasKeptRow}
use Rattle.bench_core.proofs.Lists.{Each-weaker, Each-filter, Each-both, Each-none, Contains-filter, each_of_contains}
use Rattle.bench_core.proofs.RowsApart.{apart_one, apart_filter}
use Rattle.bench_core.proofs.KnownAtSight.{grown_seen}
use Rattle.bench_core.proofs.SoundGrowth.{grown_push, grown_sound, grown_certified, grown_named, leaf_with_stays}

-- the state behind the record, with these rows
abbrev pub state_after : CoreState → Forest → ℕ → List Row → CoreState
state_after s forest work rows = record (with_lease_rows s rows) { forest = forest; work = work }

-- ---- what is found elsewhere stays found

pub found_stays : (s new : CoreState) (r q : BenchRecord) (lease : Lease) → new.settings ≡ s.settings → IsSoundForest s.forest → GrowsWith s.settings.pieces s.forest r new.forest → is_work_on lease.node r ≡ false
    → IsFoundUnder s lease q → IsFoundUnder new lease q
found_stays s new r q lease settings sound grows other found = record {
  own = found.own;
  lawful = lawful_moves q found.own found.lawful;
  found = subst (λ k. IsLeafWith (IsFound k.pieces k.depth lease.goal q) new.forest lease.node) (sym settings)
      (leaf_with_stays s.settings.pieces lease.node s.forest new.forest r (IsFound s.settings.pieces s.settings.depth lease.goal q) sound grows other found.found);
}
  where
    lawful_moves : (q : BenchRecord) → is_work_on lease.node q ≡ true → IsLawfulRecord s.settings.pieces s.forest q → IsLawfulRecord new.settings.pieces new.forest q
    lawful_moves (Begin p) own lawful = absurd (false≢true own)
    lawful_moves (Solve n p shown) own lawful =
        subst (λ k. IsLawfulRecord k.pieces new.forest (Solve n p shown)) (sym settings)
        (leaf_with_stays s.settings.pieces n s.forest new.forest r _ sound grows (subst (λ m. is_work_on m r ≡ false) (sym (eqb-true n lease.node own)) other) lawful)
    lawful_moves (Expand n) own lawful =
        subst (λ k. IsLawfulRecord k.pieces new.forest (Expand n)) (sym settings)
        (leaf_with_stays s.settings.pieces n s.forest new.forest r _ sound grows (subst (λ m. is_work_on m r ≡ false) (sym (eqb-true n lease.node own)) other) lawful)

-- ---- the state

module _ (records : List BenchRecord) (s : CoreState) (r : BenchRecord) (g : Forest) (work : ℕ) (rows : List Row) where
  abbrev after : CoreState
  after = state_after s g work rows

  pub row_stays : IsSoundForest s.forest → GrowsWith s.settings.pieces s.forest r g → (row : Row) → IsSoundRow s row → is_work_on row.lease.node r ≡ false → IsSoundRow after row
  row_stays sound grows row h other = record {
    leaf = leaf_with_stays s.settings.pieces row.lease.node s.forest g r (IsOpenFor row.lease) sound grows other h.leaf;
    lives = h.lives;
    given = h.given;
    depth = h.depth;
    pieces = h.pieces;
  }

  pub state_grown : GrowsWith s.settings.pieces s.forest r g → IsSoundBy records s → AreRowsApart rows → Each (IsSoundRow after) rows → IsSoundBy (records ++ r ∷ []) after
  state_grown grows sound apart each =
      let k = s.settings.pieces in
      record {
        lasts = sound.lasts;
        forest = grown_push k no_node records s.forest r g sound.forest grows;
        numbered = grown_sound k (batches_shown records) s.forest g r sound.numbered sound.certified grows;
        sight = grown_seen k s.forest g r sound.sight grows;
        certified = grown_certified k records s.forest g r sound.numbered sound.certified sound.named grows;
        named = grown_named k records s.forest g r sound.numbered sound.named grows;
        apart = apart;
        rows = each;
      }

-- ---- positions of the roots

expand_position : (n : ℕ) (own : Own) (b : Bool) → (cond b (record own { mark = Expanded }) own).position ≡ own.position
expand_position n own true = refl
expand_position n own false = refl

positions-expanded : (n : ℕ) (children : List Child) (next : ℕ) (path : List Board) (f : Forest) → root_positions (expanded n children next path f) ≡ root_positions f
positions-expanded n children next path no_node = refl
positions-expanded n children next path (node own below others) = λ i. expand_position n own (own.number == n) i ∷ positions-expanded n children next path others i

learn_position : (n : ℕ) (facts : Known) (own : Own) (b : Bool) → (cond b (record own { facts = joined own.facts facts }) own).position ≡ own.position
learn_position n facts own true = refl
learn_position n facts own false = refl

pub roots_grown : (k : ℕ) (f g : Forest) (r : BenchRecord) → GrowsWith k f r g → root_positions g ≡ root_positions f ++ begun (r ∷ [])
roots_grown k f g (Begin p) grows =
    let by = grows.applied in
    let own : Own = record { number = size f; position = by.0.position; facts = known by.0.facts; mark = Unexpanded } in
    ap root_positions by.1.1.1 ∙ (root_positions-appended f (node own no_node no_node) ∙ ap (λ q. root_positions f ++ q ∷ []) by.1.0)
roots_grown k f g (Solve n p shown) grows =
    ap root_positions grows.applied
    ∙ (root_positions-changed (learn n (facts_shown shown)) (λ own. learn_position n (facts_shown shown) own (own.number == n)) f ∙ sym (append-nil (root_positions f)))
roots_grown k f g (Expand n) grows =
    let by = grows.applied in
    ap root_positions by.1.1 ∙ (positions-expanded n by.0 (size f) [] f ∙ sym (append-nil (root_positions f)))

pub begun_cons : (r : BenchRecord) (rest : List BenchRecord) → begun (r ∷ rest) ≡ begun (r ∷ []) ++ begun rest
begun_cons (Begin p) rest = refl
begun_cons (Solve n p shown) rest = refl
begun_cons (Expand n) rest = refl

lawful_rest : (r : BenchRecord) (rest : List BenchRecord) → All IsLawful (begun (r ∷ rest)) → All IsLawful (begun rest)
lawful_rest (Begin p) rest h = All-tail IsLawful p (begun rest) h
lawful_rest (Solve n p shown) rest h = h
lawful_rest (Expand n) rest h = h

-- ---- the core

pub one_node : (m n : ℕ) (r : BenchRecord) → is_work_on m r ≡ true → is_work_on n r ≡ true → m ≡ n
one_node m n (Begin p) a b = absurd (false≢true a)
one_node m n (Solve k p shown) a b = sym (eqb-true k m a) ∙ eqb-true k n b
one_node m n (Expand k) a b = sym (eqb-true k m a) ∙ eqb-true k n b

module _ (s : CoreState) (records : List BenchRecord) (r : BenchRecord) (rest : List BenchRecord) (g : Forest) where
  abbrev pub before : Core
  before = record { state = s; records = records; staged = r ∷ rest }

  positions : GrowsWith s.settings.pieces s.forest r g → root_positions g ++ begun rest ≡ root_positions s.forest ++ begun (r ∷ rest)
  positions grows =
      ap (λ (l : List Board). l ++ begun rest) (roots_grown s.settings.pieces s.forest g r grows)
      ∙ (append_assoc (root_positions s.forest) (begun (r ∷ [])) (begun rest) ∙ ap (λ (l : List Board). root_positions s.forest ++ l) (sym (begun_cons r rest)))

  kept_stays : (new : CoreState) (q : BenchRecord) (h : HasKeptRow before q) → new.settings ≡ s.settings → IsSoundForest s.forest → GrowsWith s.settings.pieces s.forest r new.forest → is_work_on h.row.lease.node r ≡ false
      → Contains new.leases.rows h.row → HasKeptRow (record { state = new; records = records ++ r ∷ []; staged = rest }) q
  kept_stays new q h settings sound grows other there = record {
    row = h.row;
    there = there;
    kept = h.kept;
    found = found_stays s new r q h.row.lease settings sound grows other h.found;
  }

  -- ---- a root

  pub root_applied : ((n : ℕ) → is_work_on n r ≡ false) → GrowsWith s.settings.pieces s.forest r g → IsSoundCore before
      → IsSoundCore (record { state = state_after s g s.work s.leases.rows; records = records ++ r ∷ []; staged = rest })
  root_applied other grows sound =
      let new : Core = record { state = state_after s g s.work s.leases.rows; records = records ++ r ∷ []; staged = rest } in
      record {
        state = state_grown records s r g s.work s.leases.rows grows sound.state sound.state.apart
            (Each-weaker (IsSoundRow s) (IsSoundRow new.state) (λ row h. row_stays records s r g s.work s.leases.rows sound.state.numbered grows row h (other row.lease.node)) s.leases.rows sound.state.rows);
        kept = Each-weaker (λ q. is_work q ≡ true → HasKeptRow before q) (λ q. is_work q ≡ true → HasKeptRow new q)
            (λ q h work. let by = h work in kept_stays new.state q by refl sound.state.numbered grows (other by.row.lease.node) by.there) rest sound.kept.1;
        awaited = Each-weaker (λ row. row.kept ≡ true → list_any (is_work_on row.lease.node) (r ∷ rest) ≡ true) (λ row. row.kept ≡ true → list_any (is_work_on row.lease.node) rest ≡ true)
            (λ row h k. ⊎_elim (λ first. absurd (true≢false (sym first ∙ other row.lease.node))) (λ later. later) (or_cases (is_work_on row.lease.node r) (list_any (is_work_on row.lease.node) rest) (h k))) s.leases.rows sound.awaited;
        own = sound.own.1;
        lawful = lawful_rest r rest sound.lawful;
        distinct = subst (IsDistinct same_board) (sym (positions grows)) sound.distinct;
        room = subst (λ (l : List Board). length l ≤ 65536) (sym (positions grows)) sound.room;
      }

  -- ---- a result, whose lease ends

  module _ (id : ℕ) (by : HasKeptRow before r) (number : by.row.lease.id ≡ id) (sound : IsSoundCore before) where
    abbrev passes : Row → Bool
    passes row = not (has_id id row)

    -- a row of the record's node is the lease's
    is_the_row : (row : Row) → Contains s.leases.rows row → is_work_on row.lease.node r ≡ true → row ≡ by.row
    is_the_row row there own = apart_one s.leases.rows row by.row sound.state.apart there by.there (inl (one_node row.lease.node by.row.lease.node r own by.found.own))

    ended : (row : Row) → row ≡ by.row → passes row ≡ true → ⊥
    ended row same pass = true≢false (sym (eq-eqb id row.lease.id (sym number ∙ ap (λ (x : Row). x.lease.id) (sym same))) ∙ not-true (has_id id row) pass)

    pub others : (row : Row) → Contains s.leases.rows row → passes row ≡ true → is_work_on row.lease.node r ≡ false
    others row there pass = false_from_ne_true (is_work_on row.lease.node r) (λ own. ended row (is_the_row row there own) pass)

    -- the rows kept for the other records stay
    other_kept : (q : BenchRecord) → is_work_on by.row.lease.node q ≡ false → (h : HasKeptRow before q) → (is_work_on h.row.lease.node r ≡ false) × (passes h.row ≡ true)
    other_kept q apart h =
        let differs : h.row ≡ by.row → ⊥ = λ same. true≢false (sym (subst (λ (x : Row). is_work_on x.lease.node q ≡ true) same h.found.own) ∙ apart) in (
          false_from_ne_true (is_work_on h.row.lease.node r) (λ own. differs (is_the_row h.row h.there own)),
          not_from_false (has_id id h.row) (false_from_ne_true (has_id id h.row) (λ e. differs (apart_one s.leases.rows h.row by.row sound.state.apart h.there by.there (inr (sym (eqb-true id h.row.lease.id e) ∙ sym number))))),
        )

    abbrev pub work_after : Core
    work_after = record { state = state_after s g (s.work + 1) (without id s.leases.rows); records = records ++ r ∷ []; staged = rest }

    pub work_applied : GrowsWith s.settings.pieces s.forest r g → IsSoundCore work_after
    work_applied grows = record {
      state = state_grown records s r g (s.work + 1) (without id s.leases.rows) grows sound.state (apart_filter passes s.leases.rows sound.state.apart)
          (Each-filter (λ row. IsSoundRow s row × Contains s.leases.rows row) (IsSoundRow work_after.state) passes
          (λ row h pass. row_stays records s r g (s.work + 1) (without id s.leases.rows) sound.state.numbered grows row h.0 (others row h.1 pass)) s.leases.rows
          (Each-both (IsSoundRow s) (Contains s.leases.rows) s.leases.rows sound.state.rows (each_of_contains (Contains s.leases.rows) s.leases.rows (λ row there. there))));
      kept = Each-weaker (λ q. (is_work q ≡ true → HasKeptRow before q) × (is_work_on by.row.lease.node q ≡ false)) (λ q. is_work q ≡ true → HasKeptRow work_after q)
          (λ q h work. let k = h.0 work in let o = other_kept q h.1 k in
          kept_stays work_after.state q k refl sound.state.numbered grows o.0 (Contains-filter passes s.leases.rows k.row k.there o.1)) rest
          (Each-both (λ q. is_work q ≡ true → HasKeptRow before q) (λ q. is_work_on by.row.lease.node q ≡ false) rest sound.kept.1
          (Each-none (is_work_on by.row.lease.node) rest (sound.own.0 by.row.lease.node by.found.own)));
      awaited = Each-filter (λ row. (row.kept ≡ true → list_any (is_work_on row.lease.node) (r ∷ rest) ≡ true) × Contains s.leases.rows row) (λ row. row.kept ≡ true → list_any (is_work_on row.lease.node) rest ≡ true) passes
          (λ row h pass k. ⊎_elim (λ first. absurd (true≢false (sym first ∙ others row h.1 pass))) (λ later. later) (or_cases (is_work_on row.lease.node r) (list_any (is_work_on row.lease.node) rest) (h.0 k))) s.leases.rows
          (Each-both (λ row. row.kept ≡ true → list_any (is_work_on row.lease.node) (r ∷ rest) ≡ true) (Contains s.leases.rows) s.leases.rows sound.awaited (each_of_contains (Contains s.leases.rows) s.leases.rows (λ row there. there)));
      own = sound.own.1;
      lawful = lawful_rest r rest sound.lawful;
      distinct = subst (IsDistinct same_board) (sym (positions grows)) sound.distinct;
      room = subst (λ (l : List Board). length l ≤ 65536) (sym (positions grows)) sound.room;
    }
