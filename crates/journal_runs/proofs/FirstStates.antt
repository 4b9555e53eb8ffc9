-- A first pass leases one unsettled root after another, until each of them is leased.
use Rattle.std.proofs.Common.{◌≡◌, ◌≤◌, ◌<◌, ◌+◌, ℕ, suc, Bool, true, false, cond, eqb, List, [], ◌∷◌, ◌++◌, length, map, Option, Some, None, is_some, IsSome, refl, ap, sym, ◌∙◌, subst, inl, inr, ⊎_elim, arith, length-append}
use Rattle.std.specs.Prelude.{◌⊎◌, ◌||◌, ◌&&◌, nat_le, nat_lt, Contains, Result, Ok, Err}
use Rattle.std.specs.List.{list_any, list_all, AllByRecursion as Each}
use Rattle.std.proofs.lemmas.Bool.{true≢false, false≢true, eqb-true, eq-eqb}
use Rattle.std.proofs.lemmas.Bool.Decides.{nat_tests}
use Rattle.draughts_board.specs.declared.pieces.Side.{Side}
use Rattle.strategy_certificate.specs.declared.certificates.Certificate.{Certificate}
use Rattle.certificate_checker.specs.Told.{facts_shown}
use Rattle.proof_numbers.specs.Known.{Known, joined, known_value}
use Rattle.proof_tree.specs.Forest.{Own, Forest, no_node, node, Node, nodes, node_at, value_of}
use Rattle.proof_tree.specs.Changes.{changed, learn, with_facts, with_children}
use Rattle.proof_tree.specs.Picking.{pick}
use Rattle.proof_tree.proofs.Numbered.{at_most_once}
use Rattle.proof_tree.proofs.Settled.{AllStay, all_with_facts, all_with_children}
use Rattle.lease_table.specs.declared.leases.Lease.{Lease}
use Rattle.lease_table.specs.declared.leases.Row.{Row}
use Rattle.lease_table.specs.Rows.{is_live_row, is_leased, is_of, has_id, live_rows}
use Rattle.bench_records.specs.declared.records.BenchRecord.{BenchRecord}
use Rattle.bench_records.specs.declared.records.BenchRecord.TheVariants as records
use Rattle.bench_core.specs.declared.refusals.LeaseRefusal.{LeaseRefusal}
use Rattle.bench_core.specs.declared.refusals.LeaseRefusal.TheVariants.{Done, Spent, NoLeaf}
use Rattle.bench_core.specs.Records.{begun, batches_shown}
use Rattle.bench_core.specs.States.{CoreState, SessionSettings, Event, AsksLease, Finds, BeginsRoot, Releases, Happens, IsRun, IsAfterResult, IsSoundState, AreRowsApart, lease_answer, lease_of, lease_of_picked, after_answer, are_settled, with_lease}
use Rattle.bench_core.specs.Cores.{applied_by, applied_by_all}
use Rattle.bench_core.proofs.Lists.{Each-append, Each-weaker, filter_all, none_from_each}
use Rattle.bench_core.proofs.EventLaws.{events_keep_sound}
use Rattle.bench_core.proofs.SoundGrowth.{solved_agrees}
use Rattle.journal_runs.specs.Ample.{unsettled_roots}
use Rattle.journal_runs.specs.FirstPass.{AreAllLeased, IsPassing, IsUnsettledRoot}
use Rattle.journal_runs.proofs.AmpleRoots.{left, left_is, picked_root}
use Rattle.journal_runs.proofs.FirstRoots.{AreOnce, IsSettledOrOf, all_covered, has, none_open}

abbrev NamesRoot : Forest → Row → Type 0
NamesRoot roots row = IsUnsettledRoot row.lease.node roots

abbrev pub leased_nodes : List Row → List ℕ
leased_nodes rows = map (λ (row : Row). row.lease.node) rows

-- ---- rows

pub has_node : (n : ℕ) (rows : List Row) → list_any (is_of n) rows ≡ has n (leased_nodes rows)
has_node n [] = refl
has_node n (row ∷ rows) = ap (λ b. eqb n row.lease.node || b) (has_node n rows)

pub once_leased : (rows : List Row) → AreRowsApart rows → AreOnce (leased_nodes rows)
once_leased [] apart = tt
once_leased (row ∷ rows) apart = (sym (has_node row.lease.node rows) ∙ apart.0, once_leased rows apart.1.1)

pub names_nodes : (t : Forest) (rows : List Row) → Each (NamesRoot t) rows → Each (λ n. IsUnsettledRoot n t) (leased_nodes rows)
names_nodes t [] each = tt
names_nodes t (row ∷ rows) each = (each.0, names_nodes t rows each.1)

leased_has : (n limit now : ℕ) (rows : List Row) → list_any (λ row. is_of n row && is_live_row limit now row) rows ≡ true → has n (leased_nodes rows) ≡ true
leased_has n limit now [] h = h
leased_has n limit now (row ∷ rows) h = by (eqb n row.lease.node) (is_live_row limit now row) (leased_has n limit now rows) h
  where
    by : (a b : Bool) → (list_any (λ row. is_of n row && is_live_row limit now row) rows ≡ true → has n (leased_nodes rows) ≡ true)
        → (a && b) || list_any (λ row. is_of n row && is_live_row limit now row) rows ≡ true → a || has n (leased_nodes rows) ≡ true
    by true b f h = refl
    by false b f h = f h

pub length_nodes : (rows : List Row) → length (leased_nodes rows) ≡ length rows
length_nodes [] = refl
length_nodes (row ∷ rows) = ap suc (length_nodes rows)

-- each unsettled root is leased, by rows and by numbers
abbrev AreNodes : CoreState → Type 0
AreNodes s = Each (IsSettledOrOf (leased_nodes s.leases.rows)) (nodes s.forest)

by_rows : (s : CoreState) → AreNodes s → AreAllLeased s
by_rows s each =
    Each-weaker (IsSettledOrOf (leased_nodes s.leases.rows)) (λ root. IsSome (value_of root) ⊎ (list_any (is_of root.own.number) s.leases.rows ≡ true))
    (λ root. ⊎_elim (λ settled. inl settled) (λ of. inr (has_node root.own.number s.leases.rows ∙ of))) (nodes s.forest) each

pub by_nodes : (s : CoreState) → AreAllLeased s → Each (IsSettledOrOf (leased_nodes s.leases.rows)) (nodes s.forest)
by_nodes s each =
    Each-weaker (λ root. IsSome (value_of root) ⊎ (list_any (is_of root.own.number) s.leases.rows ≡ true)) (IsSettledOrOf (leased_nodes s.leases.rows))
    (λ root. ⊎_elim (λ settled. inl settled) (λ of. inr (sym (has_node root.own.number s.leases.rows) ∙ of))) (nodes s.forest) each

-- ---- nothing is left to lease

each_settled : (t : Forest) (ns : List ℕ) → list_all (λ root. is_some (value_of root)) (nodes t) ≡ true → Each (IsSettledOrOf ns) (nodes t)
each_settled no_node ns all = tt
each_settled (node own children others) ns all = by (is_some (value_of (record { own = own; children = children }))) refl all (each_settled others ns)
  where
    by : (b : Bool) → is_some (value_of (record { own = own; children = children })) ≡ b → b && list_all (λ root. is_some (value_of root)) (nodes others) ≡ true
        → (list_all (λ root. is_some (value_of root)) (nodes others) ≡ true → Each (IsSettledOrOf ns) (nodes others)) → Each (IsSettledOrOf ns) (nodes (node own children others))
    by true e all rest = (inl e, rest all)
    by false e all rest = absurd (false≢true all)

none_unsettled : (t : Forest) (ns : List ℕ) → left t ≡ 0 → Each (IsSettledOrOf ns) (nodes t)
none_unsettled no_node ns e = tt
none_unsettled (node own children others) ns e = by (is_some (value_of (record { own = own; children = children }))) refl e (none_unsettled others ns)
  where
    by : (b : Bool) → is_some (value_of (record { own = own; children = children })) ≡ b → cond b (left others) (suc (left others)) ≡ 0 → (left others ≡ 0 → Each (IsSettledOrOf ns) (nodes others))
        → Each (IsSettledOrOf ns) (nodes (node own children others))
    by true h e rest = (inl h, rest e)
    by false h e rest = absurd (omega (arith, e))

abbrev Answer : Type 0
Answer = Result Lease LeaseRefusal

abbrev answered : CoreState → ℕ → Bool → Bool → Option (ℕ × Side) → Answer
answered s worker settled spent found = cond settled (Err Done) (cond spent (Err (Spent s.work s.settings.budget)) (lease_of_picked s worker found))

module _ (s : CoreState) (rest worker : ℕ) (h : IsPassing s rest) where
  abbrev taken : ℕ → Bool
  taken n = is_leased s.leases n (s.given + 1)

  done_left : (a b : Bool) (o : Option (ℕ × Side)) → are_settled s.forest ≡ a → answered s worker a b o ≡ Err Done → AreNodes s
  done_left true b o is e = each_settled s.forest (leased_nodes s.leases.rows) is
  done_left false true o is e = absurd (cc e)
  done_left false false None is e = absurd (cc e)
  done_left false false (Some leaf) is e = absurd (cc e)

  spent_left : (work budget : ℕ) (a b : Bool) (o : Option (ℕ × Side)) → nat_le s.settings.budget s.work ≡ b → answered s worker a b o ≡ Err (Spent work budget) → AreNodes s
  spent_left work budget true b o is e = absurd (cc e)
  spent_left work budget false true o is e =
      let enough = h.enough in
      let spent : s.settings.budget ≤ s.work = grind (arith, nat_tests, is) in
      let is = left_is s.forest in
      none_unsettled s.forest (leased_nodes s.leases.rows) (omega (arith, enough, spent, is))
  spent_left work budget false false None is e = absurd (cc e)
  spent_left work budget false false (Some leaf) is e = absurd (cc e)

  none_left : (live : ℕ) (a b : Bool) (o : Option (ℕ × Side)) → pick taken s.forest ≡ o → answered s worker a b o ≡ Err (NoLeaf live) → AreNodes s
  none_left live true b o is e = absurd (cc e)
  none_left live false true o is e = absurd (cc e)
  none_left live false false None is e =
      Each-weaker (λ root. IsSome (value_of root) ⊎ (taken root.own.number ≡ true)) (IsSettledOrOf (leased_nodes s.leases.rows))
      (λ root. ⊎_elim (λ settled. inl settled) (λ leased. inr (leased_has root.own.number s.leases.limit (s.given + 1) s.leases.rows leased)))
      (nodes s.forest) (none_open taken s.forest h.fresh is)
  none_left live false false (Some leaf) is e = absurd (cc e)

  pub all_leased_done : lease_answer s worker ≡ Err Done → AreAllLeased s
  all_leased_done e = by_rows s (done_left (are_settled s.forest) (nat_le s.settings.budget s.work) (pick taken s.forest) refl e)

  pub all_leased_spent : (work budget : ℕ) → lease_answer s worker ≡ Err (Spent work budget) → AreAllLeased s
  all_leased_spent work budget e = by_rows s (spent_left work budget (are_settled s.forest) (nat_le s.settings.budget s.work) (pick taken s.forest) refl e)

  pub all_leased_none : (live : ℕ) → lease_answer s worker ≡ Err (NoLeaf live) → AreAllLeased s
  all_leased_none live e = by_rows s (none_left live (are_settled s.forest) (nat_le s.settings.budget s.work) (pick taken s.forest) refl e)

pub all_leased_full : (s : CoreState) → IsPassing s 0 → AreAllLeased s
all_leased_full s h =
    let few = h.few in
    let same = length_nodes s.leases.rows in
    let is = left_is s.forest in
    by_rows s (all_covered s.forest (leased_nodes s.leases.rows) (once_leased s.leases.rows h.sound.1.apart) (names_nodes s.forest s.leases.rows h.rows) (omega (arith, few, same, is)))

-- ---- one more lease

module _ (s : CoreState) (rest worker : ℕ) (lease : Lease) (h : IsPassing s (suc rest)) (given : lease_answer s worker ≡ Ok lease) where
  abbrev is_taken : ℕ → Bool
  is_taken n = is_leased s.leases n (s.given + 1)

  picked_by : (a b : Bool) (o : Option (ℕ × Side)) → answered s worker a b o ≡ Ok lease → (leaf : ℕ × Side) × ((o ≡ Some leaf) × (lease_of s worker leaf ≡ lease))
  picked_by true b o e = absurd (cc e)
  picked_by false true o e = absurd (cc e)
  picked_by false false None e = absurd (cc e)
  picked_by false false (Some leaf) e = (leaf, (refl, cc e))

  picked : (leaf : ℕ × Side) × ((pick is_taken s.forest ≡ Some leaf) × (lease_of s worker leaf ≡ lease))
  picked = picked_by (are_settled s.forest) (nat_le s.settings.budget s.work) (pick is_taken s.forest) given

  names : IsUnsettledRoot lease.node s.forest
  names = subst (λ (l : Lease). IsUnsettledRoot l.node s.forest) picked.1.1 (picked_root is_taken s.forest picked.0 h.fresh picked.1.0)

  all_live : live_rows s.leases (s.given + 1) ≡ s.leases.rows
  all_live =
      filter_all (is_live_row s.leases.limit (s.given + 1)) s.leases.rows
      (Each-weaker (λ row. s.given + suc rest < row.lease.id + s.leases.limit) (λ row. is_live_row s.leases.limit (s.given + 1) row ≡ true) lives s.leases.rows h.lives)
    where
      below : (m n : ℕ) → m < n → nat_lt m n ≡ true
      below m n lt = grind (arith, nat_tests, lt)

      kept_or : (a b : Bool) → b ≡ true → a || b ≡ true
      kept_or true b e = refl
      kept_or false b e = e

      lives : (row : Row) → s.given + suc rest < row.lease.id + s.leases.limit → is_live_row s.leases.limit (s.given + 1) row ≡ true
      lives row lt = kept_or row.kept (nat_lt (s.given + 1) (row.lease.id + s.leases.limit)) (below (s.given + 1) (row.lease.id + s.leases.limit) (omega (arith, lt)))

  abbrev row : Row
  row = record { lease = lease; kept = false }

  pub rows_leased : (with_lease s lease).leases.rows ≡ s.leases.rows ++ row ∷ []
  rows_leased = ap (λ (rows : List Row). rows ++ row ∷ []) all_live

  sound_leased : IsSoundState (with_lease s lease)
  sound_leased = events_keep_sound s (with_lease s lease) (AsksLease worker ∷ []) h.sound (with_lease s lease, (ap (after_answer s) (sym given), refl))

  pub passes_leased : IsPassing (with_lease s lease) rest
  passes_leased =
      let few = h.few in
      let lasts = h.lasts in
      let one = length-append s.leases.rows (row ∷ []) in
      let id : lease.id ≡ s.given + 1 = ap (λ (l : Lease). l.id) (sym picked.1.1) in
      record {
        sound = sound_leased;
        fresh = h.fresh;
        rows = subst (Each (NamesRoot s.forest)) (sym rows_leased) (Each-append (NamesRoot s.forest) s.leases.rows (row ∷ []) h.rows (names, tt));
        enough = h.enough;
        few = subst (λ (rows : List Row). unsettled_roots s.forest ≤ length rows + rest) (sym rows_leased) (omega (arith, few, one));
        lives = subst (Each (λ other. (s.given + 1) + rest < other.lease.id + s.leases.limit)) (sym rows_leased)
            (Each-append (λ other. (s.given + 1) + rest < other.lease.id + s.leases.limit) s.leases.rows (row ∷ [])
            (Each-weaker (λ other. s.given + suc rest < other.lease.id + s.leases.limit) (λ other. (s.given + 1) + rest < other.lease.id + s.leases.limit) (λ other lt. omega (arith, lt)) s.leases.rows h.lives)
            (omega (arith, id, lasts), tt));
        lasts = omega (arith, lasts);
      }
