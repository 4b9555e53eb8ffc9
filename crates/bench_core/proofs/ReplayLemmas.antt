-- A record that was checked, and applied, is replayed; one that was refused is not lawful.
use Rattle.std.proofs.Common.{◌≡◌, ◌≤◌, ◌<◌, ℕ, Bool, true, false, List, [], ◌∷◌, ◌++◌, length, refl, ap, sym, ◌∙◌, inl, inr, subst, arith}
use Rattle.std.specs.Prelude.{◌↔◌, ◌==◌, not, IsTrue, All, Option, Some, None, IfSome, IsSomeAnd, slice_get, slice_index_or}
use Rattle.std.specs.Bool.{MatchBool}
use Rattle.std.specs.List.{AllWithin, HoldsAt, range_with_len}
use Rattle.std.proofs.lemmas.Bool.{true≢false, false≢true, eqb-true}
use Rattle.std.proofs.lemmas.Option.{slice_get-get_or, slice_get_cases}
use Rattle.std.proofs.lemmas.List.FromFn.{length-range_with_len, get_or-range_with_len}
use Rattle.draughts_board.specs.Board.{Board, same_board}
use Rattle.draughts_board.specs.Draughts.{draughts}
use Rattle.draughts_board.specs.Same.{same_board-Decides}
use Rattle.strategy_certificate.specs.declared.entries.TheConstants.{MOST_FOUND_RANK}
use Rattle.strategy_certificate.specs.declared.entries.WinEntry.{WinEntry}
use Rattle.strategy_certificate.specs.declared.oracle.Answer.{Answer}
use Rattle.strategy_certificate.specs.declared.certificates.Certificate.{Certificate}
use Rattle.strategy_certificate.specs.Tables.{IsSoundTable}
use Rattle.strategy_certificate.proofs.PartLemmas.{good_by_each_table}
use Rattle.certificate_checker.specs.declared.refusals.CheckRefusal.{CheckRefusal}
use Rattle.certificate_checker.specs.Refusals.{IsRefusal}
use Rattle.certificate_checker.proofs.RefusalLemmas.{refused_is_not_good}
use Rattle.certificate_joiner.specs.Shelf.{Put}
use Rattle.certificate_joiner.specs.Certified.{IsShelved}
use Rattle.certificate_joiner.specs.Laws.{AreCertified}
use Rattle.proof_numbers.specs.declared.leaves.Child.{Child}
use Rattle.proof_numbers.specs.Facts.{known}
use Rattle.proof_numbers.specs.Sight.{AreFactsAtSight}
use Rattle.proof_numbers.specs.Known.{Known, joined, includes, IsConsistent}
use Rattle.proof_tree.specs.declared.rows.Mark.TheVariants.{Unexpanded}
use Rattle.proof_tree.specs.Forest.{Forest, Node, node_at}
use Rattle.proof_tree.specs.Changes.{with_root, with_facts}
use Rattle.proof_tree.specs.Sound.{root_positions, IsSoundForest}
use Rattle.bench_records.specs.declared.records.BenchRecord.{BenchRecord}
use Rattle.bench_records.specs.declared.records.BenchRecord.TheVariants as records
use Rattle.certificate_checker.specs.Told.{facts_shown}
use Rattle.bench_core.specs.Growing.{IsLeafWith, MayBeSolved, MayBegin}
use Rattle.bench_core.specs.Grown.{GrownState}
use Rattle.bench_core.specs.Replaying.{IsReplayed}
use Rattle.bench_core.proofs.SoundGrowth.{solved_agrees}

-- there is room, and nothing else is new
module _ (old mid new : GrownState) (forest : mid.forest ≡ old.forest) (same : mid.records ≡ old.records) where
  added : (r : BenchRecord) → new.records ≡ mid.records ++ r ∷ [] → new.records ≡ old.records ++ r ∷ []
  added r more = more ∙ ap (λ (l : List BenchRecord). l ++ r ∷ []) same

  pub begin_replayed : (k : ℕ) (p : Board) (root : Child) → MayBegin p (root_positions old.forest) → root.position ≡ p → AreFactsAtSight k p (known root.facts)
      → new.forest ≡ with_root root.position (known root.facts) mid.forest → new.records ≡ mid.records ++ records.Begin root.position ∷ [] → IsReplayed k old (records.Begin p) new
  begin_replayed k p root may at sight is more = record {
    grown = record {
      lawful = may;
      applied = (root, (at, (subst (λ q. AreFactsAtSight k q (known root.facts)) (sym at) sight, is ∙ ap (with_root root.position (known root.facts)) forest)));
    };
    added = added (records.Begin root.position) more ∙ ap (λ q. old.records ++ records.Begin q ∷ []) at;
  }

  pub solve_replayed : (k n : ℕ) (p : Board) (shown : List Certificate) (facts : Known) → IsLeafWith (MayBeSolved k p shown) old.forest n → facts ≡ facts_shown shown
      → new.forest ≡ with_facts n facts mid.forest → new.records ≡ mid.records ++ records.Solve n p shown ∷ [] → IsReplayed k old (records.Solve n p shown) new
  solve_replayed k n p shown facts lawful told is more = record {
    grown = record { lawful = lawful; applied = is ∙ (λ i. with_facts n (told i) (forest i)) };
    added = added (records.Solve n p shown) more;
  }

-- ---- certificates

-- three tests, one after another
pub is_of_all : (a b : Board) (m n : ℕ) (short : Bool) (S : Type 0) → same_board a b ≡ true → (m == n) ≡ true → IsTrue short ↔ S → IsTrue short ↔ ((a ≡ b) × ((m ≡ n) × S))
is_of_all a b m n short S same pieces decides = (
  (λ t. ((same_board-Decides a b).0 same, (eqb-true m n pieces, decides.0 t))),
  (λ h. decides.1 h.1.1),
)

pub is_of_none : (a b : Board) (m n : ℕ) (v : Bool) (S : Type 0) → v ≡ false → (a ≡ b → m ≡ n → v ≡ true) → IsTrue v ↔ ((a ≡ b) × ((m ≡ n) × S))
is_of_none a b m n v S none both = (
  (λ t. absurd (true≢false (sym t ∙ none))),
  (λ h. both h.0 h.1.0),
)

-- what the checker refuses is not shelved
pub refused_shown : (k : ℕ) (answer : Board → Option Answer) (p : Board) (c : Certificate) (refusal : CheckRefusal) → IsSoundTable draughts k answer → IsRefusal answer c refusal → ¬ IsShelved k p c
refused_shown k answer p c refusal sound stands shelved =
    refused_is_not_good answer c refusal stands (good_by_each_table c answer (subst (λ n. IsSoundTable draughts n answer) (sym shelved.pieces) sound) shelved.good)

-- a test of each row by its place decides about all of them
module _ (rows : List (Board × WinEntry)) (n : ℕ) (long : n ≡ length rows) where
  abbrev pub Short : ℕ → Type 0
  Short i = (row : Board × WinEntry) → slice_get rows i ≡ Some row → row.1.rank ≤ MOST_FOUND_RANK

  abbrev pub Long : ℕ → Type 0
  Long i = (row : Board × WinEntry) → slice_get rows i ≡ Some row → MOST_FOUND_RANK < row.1.rank

  place : (i : ℕ) → i < n → slice_index_or (range_with_len 0 n) i 0 ≡ i
  place i below = let e = get_or-range_with_len 0 n i 0 below in omega (arith, e)

  within : (i : ℕ) → i < n → i < length (range_with_len 0 n)
  within i below = let e = length-range_with_len 0 n in omega (arith, e, below)

  not_long : (i : ℕ) → i < n → Long i → All (λ row. row.1.rank ≤ MOST_FOUND_RANK) rows → ⊥
  not_long i below over all = elim ((slice_get_cases rows i).1) [
    | inl found ↦ let low = subst (λ (row : Board × WinEntry). row.1.rank ≤ MOST_FOUND_RANK) found.3 (all i found.0 found.1) in let high = over found.0 found.2 in omega (arith, low, high)
    | inr past ↦ let p = past.0 in omega (arith, p, below, long)
  ]

  pub ranks_decided : (r : Bool) → MatchBool r (AllWithin Short (range_with_len 0 n) 0 (length (range_with_len 0 n))) ((i : ℕ) × (i < length (range_with_len 0 n)) × HoldsAt Long (range_with_len 0 n) i)
      → IsTrue r ↔ All (λ row. row.1.rank ≤ MOST_FOUND_RANK) rows
  ranks_decided true h = (
    (λ t i d below.
        let b : i < n = omega (arith, below, long) in
        subst Short (place i b) (h i 0 (omega arith) (within i b)) (slice_index_or rows i d) (slice_get-get_or rows i d below)),
    (λ all. refl),
  )
  ranks_decided false h = (
    (λ t. absurd (false≢true t)),
    (λ all. let e = length-range_with_len 0 n in let i = h.0 in let inside = h.1 in let b : i < n = omega (arith, e, inside) in absurd (not_long i b (subst Long (place i b) (h.2 0)) all)),
  )

-- ---- a node that is solved

module _ (k n : ℕ) (f : Forest) (p : Board) (shown : List Certificate) where
  abbrev IsLawfulHere : Type 0
  IsLawfulHere = IsLeafWith (MayBeSolved k p shown) f n

  at_node : (P : Node → Type 0) (x : Node) → node_at n f ≡ Some x → IfSome (node_at n f) P → P x
  at_node P x there h = subst (λ (o : Option Node). IfSome o P) there h

  pub other_position : (q : Board) → IfSome (node_at n f) (λ x. q ≡ x.own.position) → (q ≡ p → ⊥) → ¬ IsLawfulHere
  other_position q here differs l = differs (at_node (λ x. q ≡ x.own.position) l.leaf l.there here ∙ l.holds.position)

  pub solved_leaf : (q : Board) (facts : Known) → IsSomeAnd (node_at n f) (λ x. x.own.mark ≡ Unexpanded) → IfSome (node_at n f) (λ x. q ≡ x.own.position) → q ≡ p
      → IfSome (node_at n f) (λ x. facts ≡ x.own.facts) → All (IsShelved k p) shown → includes facts (facts_shown shown) ≡ false → IsLawfulHere
  solved_leaf q facts leaf position same known_here shelved gains = by (node_at n f) refl leaf position known_here
    where
      by : (o : Option Node) → node_at n f ≡ o → IsSomeAnd o (λ x. x.own.mark ≡ Unexpanded) → IfSome o (λ x. q ≡ x.own.position) → IfSome o (λ x. facts ≡ x.own.facts) → IsLawfulHere
      by None there mark at told = absurd mark
      by (Some x) there mark at told = record {
        leaf = x;
        there = there;
        unexpanded = mark;
        holds = record {
          position = sym at ∙ same;
          shelved = shelved;
          gains = ap (λ (known_facts : Known). includes known_facts (facts_shown shown)) (sym told) ∙ gains;
        };
      }

  pub facts_agree : (puts : List Put) (facts : Known) → IsLawfulHere → IsSoundForest f → AreCertified k puts f → facts ≡ facts_shown shown → IfSome (node_at n f) (λ x. IsConsistent (joined x.own.facts facts))
  facts_agree puts facts l sound certified told =
      subst (λ (o : Option Node). IfSome o (λ x. IsConsistent (joined x.own.facts facts))) (sym l.there)
      (subst (λ (a : Known). IsConsistent (joined l.leaf.own.facts a)) (sym told) (solved_agrees k n puts f p shown l sound certified))

-- .. as it is read in a tree of this forest
module _ (k n m : ℕ) (f t : Forest) (p q : Board) (shown : List Certificate) (forest : t ≡ f) (number : m ≡ n) (position : IfSome (node_at m t) (λ x. q ≡ x.own.position)) where
  read : (P : Node → Type 0) → IfSome (node_at m t) P → IfSome (node_at n f) P
  read P h = subst (λ (g : Forest). IfSome (node_at n g) P) forest (subst (λ i. IfSome (node_at i t) P) number h)

  pub read_elsewhere : true ≡ not (same_board q p) → ¬ IsLeafWith (MayBeSolved k p shown) f n
  read_elsewhere differs = other_position k n f p shown q (read (λ x. q ≡ x.own.position) position) (λ e. true≢false (differs ∙ ap not ((same_board-Decides q p).1 e)))

  pub read_lawful : (facts told : Known) → IsSomeAnd (node_at n t) (λ x. x.own.mark ≡ Unexpanded) → false ≡ not (same_board q p) → IfSome (node_at m t) (λ x. facts ≡ x.own.facts)
      → All (IsShelved k p) shown → told ≡ facts_shown shown → includes facts told ≡ false → IsLeafWith (MayBeSolved k p shown) f n
  read_lawful facts told leaf same known_here shelved tells gains =
      solved_leaf k n f p shown q facts (subst (λ (g : Forest). IsSomeAnd (node_at n g) (λ x. x.own.mark ≡ Unexpanded)) forest leaf) (read (λ x. q ≡ x.own.position) position)
      ((same_board-Decides q p).0 (is_true (same_board q p) same)) (read (λ x. facts ≡ x.own.facts) known_here) shelved (ap (includes facts) (sym tells) ∙ gains)
    where
      is_true : (b : Bool) → false ≡ not b → b ≡ true
      is_true true h = refl
      is_true false h = absurd (false≢true h)
