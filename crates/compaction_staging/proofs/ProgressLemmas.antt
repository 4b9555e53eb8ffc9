-- One record more is staged.
use Rattle.std.proofs.Common.{◌-◌, ⊎_elim, Bool, cond, ltb, ◌≡◌, ℕ, zero, suc, ◌+◌, ◌<◌, ◌≤◌, List, [], ◌∷◌, ◌++◌, map, length, take, drop, Option, Some, None, refl, sym, ap, ◌∙◌, subst, arith, append_assoc, append-nil}
use Rattle.std.specs.Prelude.{slice_get, All, true, false, get_or, Result, Ok, Err, OnOk, IsSome, IfSome}
use Rattle.std.proofs.lemmas.Bool.{false≢true}
use Rattle.std.proofs.lemmas.Option.{slice_get-get_or}
use Rattle.draughts_board.specs.Board.{Board}
use Rattle.draughts_board.specs.Draughts.{draughts}
use Rattle.draughts_board.specs.Game.{is_at_sight}
use Rattle.draughts_board.specs.declared.pieces.Value.{Value}
use Rattle.strategy_certificate.specs.declared.certificates.Certificate.{Certificate}
use Rattle.proof_numbers.specs.Known.{value_known}
use Rattle.proof_tree.specs.Forest.{Forest, Node, nodes, node_at, size, value_of}
use Rattle.certificate_checker.specs.Told.{facts_shown}
use Rattle.certificate_joiner.specs.Certified.{IsShelved}
use Rattle.bench_records.specs.declared.records.BenchRecord.{BenchRecord}
use Rattle.bench_records.specs.declared.records.BenchRecord.TheVariants.{Begin, Solve, Expand}
use Rattle.bench_core.specs.Growing.{IsForestOf, GrowsWithAll}
use Rattle.bench_core.proofs.SoundGrowth.{below_size, grown_size}
use Rattle.bench_records.specs.Texts.{named_in}
use Rattle.journal_compaction.specs.Compactions.{end_in, IsCompaction}
use Rattle.journal_compaction.specs.Names.{named_from, unnamed_for}
use Rattle.journal_compaction.specs.Making.{IsMade}
use Rattle.bench_core.proofs.GrownForests.{IsGrown, sound_of, grown_with, grown_with_all}
use Rattle.proof_tree.specs.Sound.{IsSoundForest, occurrences, root_positions}
use Rattle.proof_tree.proofs.EachNode.{missing_occurs}
use Rattle.std.proofs.lemmas.Bool.Decides.{nat_tests}
use Rattle.record_reading.proofs.Readings.{taken_at}
use Rattle.compaction_staging.specs.Shown.{ShowsValue}
use Rattle.std.proofs.lemmas.List.{length-map}
use Rattle.journal_compaction.proofs.Lists.{got_right}
use Rattle.bench_core.specs.Records.{begun as positions_begun}
use Rattle.bench_core.proofs.OneForest.{roots_are_those_begun}
use Rattle.certificate_joiner.specs.Certified.{IsJoined, claim_for}
use Rattle.strategy_certificate.specs.Tables.{IsTableSize}
use Rattle.journal_compaction.proofs.Making.{made_none, next_record, old_grown, solve_named, solve_unnamed, expand_named, expand_unnamed, root_there, begin_open, begin_seen, begin_solved, made_all}
use Rattle.compaction_staging.specs.Progress.{AreSpelled, IsStaged, IsCompactStaged}

-- ---- names, one by one

pub named_push : (m c : ℕ) → named_from m (c + 1) ≡ named_from m c ++ Some (m + c) ∷ []
named_push m c = subst (λ n. named_from m n ≡ named_from m c ++ Some (m + c) ∷ []) (let z : suc c ≡ c + 1 = omega arith in z) (by m c)
  where
    by : (m c : ℕ) → named_from m (suc c) ≡ named_from m c ++ Some (m + c) ∷ []
    by m zero = ap (λ n. Some n ∷ []) (let z : m ≡ m + 0 = omega arith in z)
    by m (suc c) = ap (λ l. Some m ∷ l) (by (suc m) c ∙ ap (λ n. named_from (suc m) c ++ Some n ∷ []) (let z : suc m + c ≡ m + suc c = omega arith in z))

pub unnamed_push : (c : ℕ) → unnamed_for (c + 1) ≡ unnamed_for c ++ None ∷ []
unnamed_push c = subst (λ n. unnamed_for n ≡ unnamed_for c ++ None ∷ []) (let z : suc c ≡ c + 1 = omega arith in z) (by c)
  where
    by : (c : ℕ) → unnamed_for (suc c) ≡ unnamed_for c ++ None ∷ []
    by zero = refl
    by (suc c) = ap (λ l. None ∷ l) (by c)

-- ---- sizes

all_sizes : (k : ℕ) (f : Forest) (records : List BenchRecord) (g : Forest) → IsGrown k f → GrowsWithAll k f records g → size f ≤ size g
all_sizes k f [] g grown is = let e = ap size is in omega (arith, e)
all_sizes k f (r ∷ records) g grown grows =
    let first = grown_size k f grows.0 r (sound_of k f grown) grows.1.0 in
    let more = all_sizes k grows.0 records g (grown_with k f grows.0 r grown grows.1.0) grows.1.1 in
    omega (arith, first, more)

abbrev one_if : Bool → ℕ
one_if b = cond b 1 0

below_test : (n m : ℕ) → n < m → one_if (ltb n m) ≡ 1
below_test n m l = grind (arith, nat_tests, l)

there_by : (n : ℕ) (f : Forest) (o : Option Node) → node_at n f ≡ o → occurrences n f ≡ 1 → IsSome o
there_by n f None e one = absurd (let z = missing_occurs n f e in omega (arith, z, one))
there_by n f (Some x) e one = refl

-- a number below the size names a node
pub there_below : (n : ℕ) (f : Forest) → IsSoundForest f → n < size f → IsSome (node_at n f)
there_below n f sound l = there_by n f (node_at n f) refl (sound.numbered n ∙ below_test n (size f) l)

-- ---- the record at a place

pub cut_at : {X : Type 0} (xs : List X) (i : ℕ) (x : X) → slice_get xs i ≡ Some x → xs ≡ take i xs ++ x ∷ drop (suc i) xs
cut_at [] i x e = absurd cc
cut_at (y ∷ xs) zero x e = (let same : y ≡ x = cc in ap (λ z. z ∷ xs) same)
cut_at (y ∷ xs) (suc i) x e = ap (λ l. y ∷ l) (cut_at xs i x e)

module _ (k : ℕ) (roots : Forest) (records : List BenchRecord) (i : ℕ) (forest : IsForestOf k records roots) (names : List (Option ℕ)) (next begun : ℕ) (named : List Board) (staged : List (List ℕ))
    (s : IsStaged k roots records i names next begun named staged) where
  here : (r : BenchRecord) → slice_get records i ≡ Some r → IsForestOf k (take i records ++ r ∷ drop (suc i) records) roots
  here r at = subst (λ (l : List BenchRecord). IsForestOf k l roots) (cut_at records i r at) forest

  goes_on : (r : BenchRecord) → slice_get records i ≡ Some r → (made : List BenchRecord) (names' : List (Option ℕ)) (next' begun' : ℕ) (named' : List Board) (staged' : List (List ℕ))
      → IsMade k roots (take i records ++ r ∷ []) made names' next' begun' → AreSpelled k made named' staged' → IsStaged k roots records (i + 1) names' next' begun' named' staged'
  goes_on r at made names' next' begun' named' staged' m spelled = record {
    made = made;
    is = subst (λ (l : List BenchRecord). IsMade k roots l made names' next' begun') (taken_at records i r at) m;
    spelled = spelled;
  }

  -- texts that spell one record more of the list that is made
  abbrev pub Spells : BenchRecord → List Board → List (List ℕ) → Type 0
  Spells r named' staged' = AreSpelled k (s.made ++ r ∷ []) named' staged'

  pub solve_kept : (n o : ℕ) (p : Board) (shown : List Certificate) → slice_get records i ≡ Some (Solve n p shown) → slice_get names n ≡ Some (Some o) → (named' : List Board) (staged' : List (List ℕ))
      → Spells (Solve o p shown) named' staged' → IsStaged k roots records (i + 1) names next begun named' staged'
  solve_kept n o p shown at is named' staged' spelled =
      goes_on (Solve n p shown) at (s.made ++ Solve o p shown ∷ []) names next begun named' staged'
      (solve_named k roots (take i records) s.made names next begun s.is (drop (suc i) records) n o p shown (here (Solve n p shown) at) is) spelled

  pub solve_dropped : (n : ℕ) (p : Board) (shown : List Certificate) → slice_get records i ≡ Some (Solve n p shown) → slice_get names n ≡ Some None
      → IsStaged k roots records (i + 1) names next begun named staged
  solve_dropped n p shown at none =
      goes_on (Solve n p shown) at s.made names next begun named staged
      (solve_unnamed k roots (take i records) s.made names next begun s.is (drop (suc i) records) n p shown (here (Solve n p shown) at) none) s.spelled

  pub expand_kept : (n o c : ℕ) (x : Node) → slice_get records i ≡ Some (Expand n) → slice_get names n ≡ Some (Some o) → node_at n roots ≡ Some x → c ≡ length (nodes x.children)
      → (named' : List Board) (staged' : List (List ℕ)) → Spells (Expand o) named' staged'
      → IsStaged k roots records (i + 1) (names ++ named_from next c) (next + c) begun named' staged'
  expand_kept n o c x at is there kids named' staged' spelled =
      goes_on (Expand n) at (s.made ++ Expand o ∷ []) (names ++ named_from next c) (next + c) begun named' staged'
      (expand_named k roots (take i records) s.made names next begun s.is (drop (suc i) records) n o c x (here (Expand n) at) is there kids) spelled

  pub expand_dropped : (n c : ℕ) (x : Node) → slice_get records i ≡ Some (Expand n) → slice_get names n ≡ Some None → node_at n roots ≡ Some x → c ≡ length (nodes x.children)
      → IsStaged k roots records (i + 1) (names ++ unnamed_for c) next begun named staged
  expand_dropped n c x at none there kids =
      goes_on (Expand n) at s.made (names ++ unnamed_for c) next begun named staged
      (expand_unnamed k roots (take i records) s.made names next begun s.is (drop (suc i) records) n c x (here (Expand n) at) none there kids) s.spelled

  -- the node of a work record has an entry among the names
  node_of_solve : (n : ℕ) (p : Board) (shown : List Certificate) → slice_get records i ≡ Some (Solve n p shown) → n < size s.is.old
  node_of_solve n p shown at =
      let nx = next_record k roots (take i records) (Solve n p shown) (drop (suc i) records) s.is.old s.is.grows_old (here (Solve n p shown) at) in
      let g = nx.grows in let l = g.lawful in
      below_size n s.is.old l.leaf (sound_of k s.is.old (old_grown k roots (take i records) s.made names next begun s.is)) l.there

  node_of_expand : (n : ℕ) → slice_get records i ≡ Some (Expand n) → n < size s.is.old
  node_of_expand n at =
      let nx = next_record k roots (take i records) (Expand n) (drop (suc i) records) s.is.old s.is.grows_old (here (Expand n) at) in
      let g = nx.grows in let l = g.lawful in
      below_size n s.is.old l.leaf (sound_of k s.is.old (old_grown k roots (take i records) s.made names next begun s.is)) l.there

  pub solve_within : (n : ℕ) (p : Board) (shown : List Certificate) → slice_get records i ≡ Some (Solve n p shown) → n < length names
  solve_within n p shown at = let l = node_of_solve n p shown at in let h = s.is.holds in let e = h.long in omega (arith, l, e)

  pub expand_within : (n : ℕ) → slice_get records i ≡ Some (Expand n) → n < length names
  expand_within n at = let l = node_of_expand n at in let h = s.is.holds in let e = h.long in omega (arith, l, e)

  size_grows : (f : Forest) (rest : List BenchRecord) → IsGrown k f → GrowsWithAll k f rest roots → size f ≤ size roots
  size_grows f rest grown grows = all_sizes k f rest roots grown grows

  -- the node of an Expand is there in the end
  pub expand_there : (n : ℕ) → slice_get records i ≡ Some (Expand n) → IsSome (node_at n roots)
  expand_there n at =
      let nx = next_record k roots (take i records) (Expand n) (drop (suc i) records) s.is.old s.is.grows_old (here (Expand n) at) in
      let old = old_grown k roots (take i records) s.made names next begun s.is in
      let l = node_of_expand n at in
      let g = grown_size k s.is.old nx.after (Expand n) (sound_of k s.is.old old) nx.grows in
      let all = grown_with k s.is.old nx.after (Expand n) old nx.grows in
      let more = size_grows nx.after (drop (suc i) records) all nx.others in
      there_below n roots (sound_of k roots (grown_with_all k nx.after (drop (suc i) records) roots all nx.others)) (omega (arith, l, g, more))

  -- a root
  pub begin_there : (p : Board) → slice_get records i ≡ Some (Begin p) → begun < length (nodes roots)
  begin_there p at = root_there k roots (take i records) s.made names next begun s.is (drop (suc i) records) p (here (Begin p) at)

  pub open_begun : (p : Board) → slice_get records i ≡ Some (Begin p) → end_in roots begun ≡ None → (named' : List Board) (staged' : List (List ℕ)) → Spells (Begin p) named' staged'
      → IsStaged k roots records (i + 1) (names ++ named_from next 1) (next + 1) (begun + 1) named' staged'
  open_begun p at end named' staged' spelled =
      goes_on (Begin p) at (s.made ++ Begin p ∷ []) (names ++ named_from next 1) (next + 1) (begun + 1) named' staged'
      (begin_open k roots (take i records) s.made names next begun s.is (drop (suc i) records) p (here (Begin p) at) end) spelled

  pub seen_begun : (p : Board) (v : Value) → slice_get records i ≡ Some (Begin p) → end_in roots begun ≡ Some v → is_at_sight draughts k p ≡ true → (named' : List Board) (staged' : List (List ℕ))
      → Spells (Begin p) named' staged' → IsStaged k roots records (i + 1) (names ++ unnamed_for 1) (next + 1) (begun + 1) named' staged'
  seen_begun p v at end sight named' staged' spelled =
      goes_on (Begin p) at (s.made ++ Begin p ∷ []) (names ++ unnamed_for 1) (next + 1) (begun + 1) named' staged'
      (begin_seen k roots (take i records) s.made names next begun s.is (drop (suc i) records) p (here (Begin p) at) v end sight) spelled

  pub solved_begun : (p : Board) (v : Value) (shown : List Certificate) → slice_get records i ≡ Some (Begin p) → end_in roots begun ≡ Some v → is_at_sight draughts k p ≡ false
      → ShowsValue k p v shown → (named' : List Board) (staged' : List (List ℕ))
      → AreSpelled k ((s.made ++ Begin p ∷ []) ++ Solve next p shown ∷ []) named' staged'
      → IsStaged k roots records (i + 1) (names ++ unnamed_for 1) (next + 1) (begun + 1) named' staged'
  solved_begun p v shown at end sight shows named' staged' spelled =
      goes_on (Begin p) at (s.made ++ Begin p ∷ Solve next p shown ∷ []) (names ++ unnamed_for 1) (next + 1) (begun + 1) named' staged'
      (begin_solved k roots (take i records) s.made names next begun s.is (drop (suc i) records) p (here (Begin p) at) v shown end sight shows.tells shows.shelved)
      (subst (λ (l : List BenchRecord). AreSpelled k l named' staged') (append_assoc s.made (Begin p ∷ []) (Solve next p shown ∷ [])) spelled)

-- nothing is done, and all is done
pub staged_none : (k : ℕ) (roots : Forest) (records : List BenchRecord) → IsStaged k roots records 0 [] 0 0 [] []
staged_none k roots records = record { made = []; is = made_none k roots; spelled = record { texts = tt; names = refl } }

pub staged_from : (k : ℕ) (roots : Forest) (records : List BenchRecord) (names : List (Option ℕ)) (named : List Board) (staged : List (List ℕ)) → names ≡ [] → named ≡ [] → staged ≡ []
    → IsStaged k roots records 0 names 0 0 named staged
staged_from k roots records names named staged a b c =
    subst (λ x. IsStaged k roots records 0 x 0 0 named staged) (sym a)
    (subst (λ x. IsStaged k roots records 0 [] 0 0 x staged) (sym b)
    (subst (λ x. IsStaged k roots records 0 [] 0 0 [] x) (sym c) (staged_none k roots records)))

pub staged_all : (k : ℕ) (roots : Forest) (records : List BenchRecord) (i : ℕ) (names : List (Option ℕ)) (next begun : ℕ) (named : List Board) (staged : List (List ℕ)) → IsForestOf k records roots → take i records ≡ records
    → IsStaged k roots records i names next begun named staged → IsCompactStaged k records staged
staged_all k roots records i names next begun named staged forest whole s = record {
  made = s.made;
  stands = made_all k roots records s.made names next begun forest (subst (λ (l : List BenchRecord). IsMade k roots l s.made names next begun) whole s.is);
  spelled = let t = s.spelled in t.texts;
}

pub map_ok : {T E : Type 0} {P Q : Type 0} (r : Result T E) → (P → Q) → OnOk r P → OnOk r Q
map_ok (Ok v) f h = f h
map_ok (Err e) f h = tt

-- what stands at a place of a list that is long enough
pub got_at : {X : Type 0} (xs : List X) (i : ℕ) (x y : X) → i < length xs → x ≡ get_or xs i x → x ≡ y → slice_get xs i ≡ Some y
got_at xs i x y l e is = slice_get-get_or xs i x l ∙ ap Some (sym e ∙ is)

pub some_at : (P : Node → Type 0) (o : Option Node) → IsSome o → IfSome o P → (x : Node) × ((o ≡ Some x) × P x)
some_at P None s h = absurd (false≢true s)
some_at P (Some x) s h = (x, (refl, h))

pub none_is_none : {X : Type 0} (o : Option X) → o ≡ None → IsSome o → ⊥
none_is_none None e h = false≢true h
none_is_none (Some x) e h = cc

-- the node in the end, and how many children it has
pub kids_at : (tree roots : Forest) (n node c : ℕ) → tree ≡ roots → n ≡ node → IsSome (node_at node roots) → IfSome (node_at n tree) (λ x. c ≡ length (nodes x.children))
    → (x : Node) × ((node_at node roots ≡ Some x) × (c ≡ length (nodes x.children)))
kids_at tree roots n node c same is there h =
    some_at (λ x. c ≡ length (nodes x.children)) (node_at node roots) there
    (subst (λ (f : Forest). IfSome (node_at node f) (λ x. c ≡ length (nodes x.children))) same (subst (λ m. IfSome (node_at m tree) (λ x. c ≡ length (nodes x.children))) is h))

-- a root's value in the end is that of its node
pub end_is : (roots : Forest) (i root : ℕ) (v : Option Value) → root ≡ i + 1 → i < length (nodes roots) → IfSome (slice_get (nodes roots) (root - 1)) (λ x. v ≡ value_of x) → end_in roots i ≡ v
end_is roots i root v is l h =
    let at : root - 1 ≡ i = omega arith in
    by (nodes roots) i l (subst (λ n. IfSome (slice_get (nodes roots) n) (λ x. v ≡ value_of x)) at h)
  where
    by : (xs : List Node) (i : ℕ) → i < length xs → IfSome (slice_get xs i) (λ x. v ≡ value_of x) → get_or (map value_of xs) i None ≡ v
    by [] i l h = absurd (omega arith)
    by (x ∷ xs) zero l h = sym h
    by (x ∷ xs) (suc i) l h = by xs i (omega arith) h

-- the same by other names
pub restaged : (k : ℕ) (roots : Forest) (records : List BenchRecord) (i : ℕ) (names names' : List (Option ℕ)) (next next' begun begun' : ℕ) (named : List Board) (staged : List (List ℕ))
    → names' ≡ names → next' ≡ next → begun' ≡ begun → IsStaged k roots records i names next begun named staged → IsStaged k roots records i names' next' begun' named staged
restaged k roots records i names names' next next' begun begun' named staged a b c s =
    subst (λ x. IsStaged k roots records i x next' begun' named staged) (sym a)
    (subst (λ x. IsStaged k roots records i names x begun' named staged) (sym b)
    (subst (λ x. IsStaged k roots records i names next x named staged) (sym c) s))

-- by what a tree says of a root
pub end_of_settled : (tree roots : Forest) (i root : ℕ) (answer v : Option Value) → tree ≡ roots → root ≡ i + 1 → i < length (nodes roots)
    → IfSome (slice_get (nodes tree) (root - 1)) (λ x. answer ≡ value_of x) → answer ≡ v → end_in roots i ≡ v
end_of_settled tree roots i root answer v same is l h e =
    end_is roots i root answer is l (subst (λ (f : Forest). IfSome (slice_get (nodes f) (root - 1)) (λ x. answer ≡ value_of x)) same h) ∙ e

pub nothing_left : {X : Type 0} (xs : List X) → length xs ≡ 0 → xs ≡ []
nothing_left [] e = refl
nothing_left (x ∷ xs) e = absurd (omega arith)

-- ---- a root's position

begun_append : (xs ys : List BenchRecord) → positions_begun (xs ++ ys) ≡ positions_begun xs ++ positions_begun ys
begun_append [] ys = refl
begun_append (Begin p ∷ xs) ys = ap (λ l. p ∷ l) (begun_append xs ys)
begun_append (Solve n p shown ∷ xs) ys = begun_append xs ys
begun_append (Expand n ∷ xs) ys = begun_append xs ys

middle : (xs ys : List Board) (p : Board) (i : ℕ) → i ≡ length xs → slice_get (xs ++ p ∷ ys) i ≡ Some p
middle xs ys p i e = subst (λ n. slice_get (xs ++ p ∷ ys) n ≡ Some p) (let z : length xs + 0 ≡ i = omega (arith, e) in z) (got_right xs (p ∷ ys) 0 p refl)

root_by : (xs : List Node) (i : ℕ) (v : Value) (p : Board) → i < length xs → get_or (map value_of xs) i None ≡ Some v → slice_get (map (λ x. x.own.position) xs) i ≡ Some p
    → (x : Node) × ((slice_get xs i ≡ Some x) × ((x.own.position ≡ p) × (value_of x ≡ Some v)))
root_by [] i v p l e at = absurd (omega arith)
root_by (x ∷ xs) zero v p l e at = (x, (refl, ((let same : x.own.position ≡ p = cc in same), e)))
root_by (x ∷ xs) (suc i) v p l e at = root_by xs i v p (omega arith) e at

pub root_at : (k : ℕ) (roots : Forest) (records : List BenchRecord) (i : ℕ) → IsForestOf k records roots → (names : List (Option ℕ)) (next begun : ℕ) (named : List Board) (staged : List (List ℕ))
    → IsStaged k roots records i names next begun named staged → (p : Board) (v : Value) (root : ℕ) → slice_get records i ≡ Some (Begin p) → end_in roots begun ≡ Some v → root ≡ begun + 1
    → (x : Node) × ((slice_get (nodes roots) (root - 1) ≡ Some x) × ((x.own.position ≡ p) × (value_of x ≡ Some v)))
root_at k roots records i forest names next begun named staged s p v root at end is =
    let l = begin_there k roots records i forest names next begun named staged s p at in
    let m = s.is in
    let old : root_positions m.old ≡ positions_begun (take i records) = roots_are_those_begun k (take i records) m.old m.grows_old in
    let all : root_positions roots ≡ positions_begun (take i records) ++ p ∷ positions_begun (drop (suc i) records) =
    roots_are_those_begun k records roots forest ∙ (ap positions_begun (cut_at records i (Begin p) at) ∙ begun_append (take i records) (Begin p ∷ drop (suc i) records)) in
    let long : begun ≡ length (positions_begun (take i records)) =
    (let a = m.begun_is in let b = length-map (nodes m.old) (λ (x : Node). x.own.position) in let e = ap length old in omega (arith, a, b, e)) in
    let here : slice_get (root_positions roots) begun ≡ Some p =
    subst (λ (ps : List Board). slice_get ps begun ≡ Some p) (sym all) (middle (positions_begun (take i records)) (positions_begun (drop (suc i) records)) p begun long) in
    let x = root_by (nodes roots) begun v p l end here in
    (x.0, (subst (λ n. slice_get (nodes roots) n ≡ Some x.0) (let z : begun ≡ root - 1 = omega (arith, is) in z) x.1.0, x.1.1))

-- what a bench says of it
pub some_value_at : (o : Option Node) (x : Node) (v : Value) → o ≡ Some x → value_of x ≡ Some v → IfSome o (λ x. IsSome (value_of x))
some_value_at o x v e is = subst (λ (o : Option Node). IfSome o (λ x. IsSome (value_of x))) (sym e) (subst IsSome (sym is) refl)

pub joined_at : (k : ℕ) (o : Option Node) (x : Node) (v : Value) (p : Board) (c : Certificate) → o ≡ Some x → value_of x ≡ Some v → x.own.position ≡ p
    → IfSome o (λ x. IfSome (value_of x) (λ v. IsJoined k x.own.position (claim_for v) c)) → IsJoined k p (claim_for v) c
joined_at k o x v p c e is same h =
    let one = subst (λ (o : Option Node). IfSome o (λ x. IfSome (value_of x) (λ v. IsJoined k x.own.position (claim_for v) c))) e h in
    let two = subst (λ (w : Option Value). IfSome w (λ v. IsJoined k x.own.position (claim_for v) c)) is one in
    subst (λ q. IsJoined k q (claim_for v) c) same two

pub few_of : (n m k : ℕ) → IsTableSize n → n ≡ m → m ≡ k → k ≤ 3
few_of n m k size a b = ⊎_elim (λ e. omega (arith, a, b, e)) (λ e. omega (arith, a, b, e)) size
