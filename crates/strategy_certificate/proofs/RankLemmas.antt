-- Short ranks stand in the order of the ranks that they replace.
use Rattle.std.proofs.Common.{◌≡◌, ℕ, suc, ◌<◌, ◌≤◌, Bool, true, false, eqb, inl, inr, ⊎_elim, List, [], ◌∷◌, map, length, get_or, Option, refl, sym, ap, ◌∙◌, subst, arith}
use Rattle.std.specs.Prelude.{◌↔◌, ◌^◌, IsTrue, Contains, All, slice_get, slice_index_or, Some, Result, Err, Ok, MatchResult}
use Rattle.std.specs.Bool.{MatchBool}
use Rattle.std.specs.List.{AllWithin, HoldsAt, range_with_len, position_or_len, dedup}
use Rattle.std.specs.List.Sorted.{IsPermutation, IsSorted, IsBinarySearchResult, IsStrictlyIncreasing}
use Rattle.std.specs.Ordering.{nat_cmp}
use Rattle.std.proofs.lemmas.Bool.{false≢true, eqb-true, eq-eqb, cases_eq, cases_lt}
use Rattle.std.proofs.lemmas.List.{get_or_default}
use Rattle.std.proofs.lemmas.List.FromFn.{length-range_with_len, get_or-range_with_len}
use Rattle.std.proofs.lemmas.List.Sums.{position_or_len_is, prefix_len-le-length}
use Rattle.std.proofs.lemmas.List.Elements.{All-weaker, All-map, All-contains_itself}
use Rattle.std.proofs.lemmas.List.Kept.{AllPairs-from_increasing, Contains-dedup_nat, Contains-from_dedup}
use Rattle.std.proofs.lemmas.List.Sorted.{Contains-permutation, IsPermutation-sym, searched}
use Rattle.std.proofs.lemmas.Map.Keys.{IsStrictlyIncreasing-dedup}
use Rattle.std.proofs.lemmas.Option.{slice_get-get_or, slice_get_cases}
use Rattle.std.specs.List.{IsDistinct}
use Rattle.draughts_board.specs.Board.{Board, same_board}
use Rattle.draughts_board.specs.Draughts.{draughts}
use Rattle.draughts_board.proofs.Members.{Contains-nil, Contains-cons_cases, Contains-head, Contains-tail, Contains-map}
use Rattle.strategy_certificate.specs.declared.oracle.Answer.{Answer}
use Rattle.strategy_certificate.specs.declared.entries.TheConstants.{MOST_FOUND_RANK}
use Rattle.strategy_certificate.specs.declared.entries.WinEntry.{WinEntry}
use Rattle.strategy_certificate.specs.Tables.{IsSoundTable}
use Rattle.strategy_certificate.specs.Parts.{WinList, HasDistinctPositions, IsWinList, IsWinRow, positions_of}
use Rattle.strategy_certificate.specs.Certificates.{IsReached, IsReachedBelow, IsGoodWinEntry, IsGoodWinPart, due_positions}
use Rattle.strategy_certificate.specs.ShortRanks.{AreRanksOf, ranks_of, short_rank, short_row, OneShortPart, ShortPartsAreGood}
use Rattle.strategy_certificate.proofs.TableRanks.{table_ranks_are_low}

-- ---- places

abbrev Rise : List ℕ → Type 0
Rise ranks = (i j : ℕ) → i < j → j < length ranks → get_or ranks i 0 < get_or ranks j 0

pub rises : (ranks : List ℕ) → IsStrictlyIncreasing ranks → Rise ranks
rises ranks h i j l m = AllPairs-from_increasing ranks h i j 0 l m

abbrev pub place : List ℕ → ℕ → ℕ
place ranks rank = position_or_len (λ r. eqb r rank) ranks

-- the place at which a rank stands is its place
pub place_is : (ranks : List ℕ) → Rise ranks → (i r : ℕ) → i < length ranks → get_or ranks i 0 ≡ r → place ranks r ≡ i
place_is ranks h i r within e =
    position_or_len_is (λ x. eqb x r) ranks i 0 (omega arith)
    (λ k before. other (eqb (get_or ranks k 0) r) (λ t. let same = eqb-true (get_or ranks k 0) r t in let lt = h k i before within in omega arith))
    (λ _. eq-eqb (get_or ranks i 0) r e)
  where
    other : (b : Bool) → (b ≡ true → ⊥) → b ≡ false
    other true not_so = absurd (not_so refl)
    other false not_so = refl

-- a rank among them stands at a place
at_place : (ranks : List ℕ) (r : ℕ) → Contains ranks r → (i : ℕ) × ((i < length ranks) × (get_or ranks i 0 ≡ r))
at_place ranks r (i, within, is) = (i, (within, get_or_default ranks i 0 r within ∙ is))

pub place_bound : (ranks : List ℕ) (r : ℕ) → place ranks r ≤ length ranks
place_bound ranks r = prefix_len-le-length _ ranks

get_rises : (ranks : List ℕ) → Rise ranks → (i j : ℕ) → j < length ranks → i < length ranks → get_or ranks i 0 < get_or ranks j 0 → i < j
get_rises ranks h i j lj li l =
    ⊎_elim (λ before. before)
    (λ behind. ⊎_elim (λ same. absurd (let e = ap (λ n. get_or ranks n 0) same in omega (arith, e, l)))
    (λ other. absurd (let lt = h j i (omega (arith, behind, other)) li in omega (arith, lt, l))) (cases_eq i j))
    (cases_lt i j)

-- a lower rank has a lower place
pub places_rise : (ranks : List ℕ) → Rise ranks → (r s : ℕ) → Contains ranks r → Contains ranks s → r < s → place ranks r < place ranks s
places_rise ranks h r s there here l =
    let a = at_place ranks r there in
    let b = at_place ranks s here in
    let first = place_is ranks h a.0 r a.1.0 a.1.1 in
    let second = place_is ranks h b.0 s b.1.0 b.1.1 in
    let x = a.1.1 in
    let y = b.1.1 in
    let lt = get_rises ranks h a.0 b.0 b.1.0 a.1.0 (omega (arith, x, y, l)) in
    omega (arith, first, second, lt)

-- ---- one rising list has these members

below_rest : (x : ℕ) (xs : List ℕ) → Rise (x ∷ xs) → (r : ℕ) → Contains xs r → x < r
below_rest x xs h r there = let at = at_place xs r there in let l = at.1.0 in let is = at.1.1 in let lt : x < get_or xs at.0 0 = h 0 (suc at.0) (omega arith) (omega arith) in omega (arith, lt, is)

rises_on : (x : ℕ) (xs : List ℕ) → Rise (x ∷ xs) → Rise xs
rises_on x xs h i j l m = h (suc i) (suc j) (omega arith) (omega arith)

abbrev AreAmong : List ℕ → List ℕ → Type 0
AreAmong xs ys = (r : ℕ) → Contains xs r → Contains ys r

no_less : (x y : ℕ) (xs ys : List ℕ) → Rise (y ∷ ys) → AreAmong (x ∷ xs) (y ∷ ys) → y ≤ x
no_less x y xs ys h among = elim (Contains-cons_cases y ys x (among x (Contains-head x xs))) [
  | inl same ↦ omega arith
  | inr rest ↦ (let lt = below_rest y ys h x rest in omega arith)
]

rest_among : (x y : ℕ) (xs ys : List ℕ) → x ≡ y → Rise (x ∷ xs) → AreAmong (x ∷ xs) (y ∷ ys) → AreAmong xs ys
rest_among x y xs ys same h among r there = elim (Contains-cons_cases y ys r (among r (Contains-tail x r xs there))) [
  | inl first ↦ (let lt = below_rest x xs h r there in absurd (omega arith))
  | inr rest ↦ rest
]

one_rising : (xs ys : List ℕ) → Rise xs → Rise ys → AreAmong xs ys → AreAmong ys xs → xs ≡ ys
one_rising [] [] h g to from = refl
one_rising [] (y ∷ ys) h g to from = absurd (Contains-nil y (from y (Contains-head y ys)))
one_rising (x ∷ xs) [] h g to from = absurd (Contains-nil x (to x (Contains-head x xs)))
one_rising (x ∷ xs) (y ∷ ys) h g to from =
    let least = no_less x y xs ys g to in
    let also = no_less y x ys xs h from in
    let same : x ≡ y = omega arith in
    let rest = one_rising xs ys (rises_on x xs h) (rises_on y ys g) (rest_among x y xs ys same h to) (rest_among y x ys xs (sym same) g from) in
    λ i. same i ∷ rest i

pub one_short_part : OneShortPart
one_short_part part a b one another =
    let same = one_rising one.ranks another.ranks (rises one.ranks one.are.rising) (rises another.ranks another.are.rising)
    (λ r there. (another.are.are r).1 ((one.are.are r).0 there)) (λ r there. (one.are.are r).1 ((another.are.are r).0 there)) in
    one.is ∙ (ap (λ (ranks : List ℕ). record part { entries = map (short_row ranks) part.entries }) same ∙ sym another.is)

-- ---- a good part

module _ (k : ℕ) (answer : Board → Option Answer) (few : k ≤ 3) (sound : IsSoundTable draughts k answer) (part : WinList) (ranks : List ℕ) (are : AreRanksOf ranks part.entries) where
  abbrev new : WinList
  new = record part { entries = map (short_row ranks) part.entries }

  rise : Rise ranks
  rise = rises ranks are.rising

  of_row : (q : Board) (e : WinEntry) → Contains part.entries (q, e) → Contains ranks e.rank
  of_row q e there = (are.are e.rank).1 (Contains-map (λ (row : Board × WinEntry). row.1.rank) part.entries (q, e) there)

  reached : (r : ℕ) (q : Board) → IsReached part answer r q → (m : ℕ) × IsReached new answer m q
  reached r q (inl (e, (there, is))) =
      (short_rank ranks e.rank, inl ((short_row ranks (q, e)).1, (Contains-map (short_row ranks) part.entries (q, e) there, refl)))
  reached r q (inr table) = (r, inr table)

  below : (s : ℕ) → Contains ranks s → (q : Board) → IsReachedBelow part answer s q → IsReachedBelow new answer (short_rank ranks s) q
  below s here q (m, (l, inl (e, (there, is)))) =
      let lt = places_rise ranks rise e.rank s (of_row q e there) here (omega (arith, is, l)) in
      (short_rank ranks e.rank, (omega (arith, lt), inl ((short_row ranks (q, e)).1, (Contains-map (short_row ranks) part.entries (q, e) there, refl))))
  below s here q (m, (l, inr table)) =
      let low = table_ranks_are_low k answer few sound part.side m q table in (m, (omega (arith, low), inr table))

  good_row : (row : Board × WinEntry) → Contains part.entries row × IsGoodWinEntry part answer row.0 row.1 → IsGoodWinEntry new answer row.0 (short_row ranks row).1
  good_row (q, e) (there, good) = record {
    lawful = good.lawful;
    move = good.move;
    below = All-weaker (IsReachedBelow part answer e.rank) (IsReachedBelow new answer (short_rank ranks e.rank)) (below e.rank (of_row q e there)) (due_positions q e.chosen) good.below;
  }

  both : (xs : List (Board × WinEntry)) → All (Contains part.entries) xs → All (λ row. IsGoodWinEntry part answer row.0 row.1) xs → All (λ row. Contains part.entries row × IsGoodWinEntry part answer row.0 row.1) xs
  both xs p q i d l = (p i d l, q i d l)

  pub good : IsGoodWinPart part answer → IsGoodWinPart new answer
  good h =
      All-map (λ (row : Board × WinEntry). IsGoodWinEntry new answer row.0 row.1) (short_row ranks) part.entries
      (All-weaker (λ row. Contains part.entries row × IsGoodWinEntry part answer row.0 row.1) (λ row. IsGoodWinEntry new answer (short_row ranks row).0 (short_row ranks row).1) good_row part.entries
      (both part.entries (All-contains_itself part.entries) h))

pub short_parts_are_good : ShortPartsAreGood
short_parts_are_good k answer few sound part made is h =
    subst (λ (x : WinList). IsGoodWinPart x answer × ((r : ℕ) (p : Board) → IsReached part answer r p → (m : ℕ) × IsReached x answer m p)) (sym is.is)
    (good k answer few sound part is.ranks is.are h, reached k answer few sound part is.ranks is.are)

-- ---- making one

-- the ranks, sorted and each once
pub are_ranks : (rows : List (Board × WinEntry)) (all sorted kept : List ℕ) → all ≡ ranks_of rows → IsPermutation all sorted → IsSorted nat_cmp sorted → kept ≡ dedup eqb sorted
    → AreRanksOf kept rows
are_ranks rows all sorted kept is moved up once = record {
  rising = subst IsStrictlyIncreasing (sym once) (IsStrictlyIncreasing-dedup sorted up);
  are = λ r. (
    λ h. subst (λ l. Contains l r) is (Contains-permutation sorted all r (IsPermutation-sym all sorted moved) (Contains-from_dedup eqb sorted r (subst (λ l. Contains l r) once h))),
    λ h. subst (λ l. Contains l r) (sym once) (Contains-dedup_nat sorted r (Contains-permutation all sorted r moved (subst (λ l. Contains l r) (sym is) h))),
  );
}

-- each row has its rank among them
pub ranks_there : (ranks : List ℕ) (rows : List (Board × WinEntry)) → AreRanksOf ranks rows → All (λ row. Contains ranks row.1.rank) rows
ranks_there ranks rows are =
    All-weaker (Contains rows) (λ (row : Board × WinEntry). Contains ranks row.1.rank)
    (λ row there. (are.are row.1.rank).1 (Contains-map (λ (x : Board × WinEntry). x.1.rank) rows row there)) rows (All-contains_itself rows)

-- a rank of the part is found
not_missing : (ranks : List ℕ) → Rise ranks → (r i : ℕ) → Contains ranks r → ((k : ℕ) → k < i → get_or ranks k 0 < r) × ((k : ℕ) → i ≤ k → k < length ranks → r < get_or ranks k 0) → ⊥
not_missing ranks h r i there out =
    let at = at_place ranks r there in
    let is = at.1.1 in
    ⊎_elim (λ before. let l = out.0 at.0 before in omega (arith, l, is)) (λ behind. let l = out.1 at.0 behind at.1.0 in omega (arith, l, is)) (cases_lt at.0 i)

not_falling : (ranks : List ℕ) → Rise ranks → (i j : ℕ) → i ≤ j → j < length ranks → get_or ranks i 0 ≤ get_or ranks j 0
not_falling ranks h i j l m =
    ⊎_elim (λ same. let e = ap (λ n. get_or ranks n 0) same in omega (arith, e)) (λ other. let lt = h i j (omega (arith, l, other)) m in omega (arith, lt)) (cases_eq i j)

-- what a search answers for a rank that is there
pub searched_place : (ranks : List ℕ) → IsStrictlyIncreasing ranks → (x : ℕ) → Contains ranks x → (r : Result ℕ ℕ) → IsBinarySearchResult (λ y. nat_cmp y x) ranks r
    → MatchResult r (λ i. place ranks x ≡ i) (λ i. ⊥)
searched_place ranks rising x there (Ok i) is = let h = rises ranks rising in let s = searched ranks x (Ok i) is (not_falling ranks h) in place_is ranks h i x s.0 s.1
searched_place ranks rising x there (Err i) is = let h = rises ranks rising in let s = searched ranks x (Err i) is (not_falling ranks h) in not_missing ranks h x i there (s.1, s.2)

positions-short : (ranks : List ℕ) (rows : List (Board × WinEntry)) → positions_of (map (short_row ranks) rows) ≡ positions_of rows
positions-short ranks [] = refl
positions-short ranks (row ∷ rows) = ap (◌∷◌ row.0) (positions-short ranks rows)

pub distinct-short : (ranks : List ℕ) (rows : List (Board × WinEntry)) → HasDistinctPositions rows → HasDistinctPositions (map (short_row ranks) rows)
distinct-short ranks rows = subst (IsDistinct same_board) (sym (positions-short ranks rows))

pub all_short : (ranks : List ℕ) (rows : List (Board × WinEntry)) → length ranks < 2 ^ 32 → All (λ row. row.1.rank ≤ MOST_FOUND_RANK) (map (short_row ranks) rows)
all_short ranks rows few =
    All-map (λ (row : Board × WinEntry). row.1.rank ≤ MOST_FOUND_RANK) (short_row ranks) rows (λ k d l. let p = place_bound ranks (get_or rows k d).1.rank in omega (arith, p, few))

-- a part with short ranks is one
pub short_list : (ranks : List ℕ) (part : WinList) → length ranks < 2 ^ 32 → IsWinList part → (rows : List (Board × WinEntry)) → rows ≡ map (short_row ranks) part.entries → HasDistinctPositions rows
    → IsWinList (record part { entries = rows })
short_list ranks part few list rows is distinct = record {
  distinct = distinct;
  rows = subst (All IsWinRow) (sym is)
      (All-map IsWinRow (short_row ranks) part.entries
      (λ k d l. let keeps = list.rows k d l in let p = place_bound ranks (get_or part.entries k d).1.rank in (keeps.0, (omega (arith, p, few), keeps.1.1))));
}

-- ---- a test of each row by its place decides about all of them

module _ (rows : List (Board × WinEntry)) (n : ℕ) (long : n ≡ length rows) where
  abbrev pub Short : ℕ → Type 0
  Short i = (row : Board × WinEntry) → slice_get rows i ≡ Some row → row.1.rank ≤ MOST_FOUND_RANK

  abbrev pub Long : ℕ → Type 0
  Long i = (row : Board × WinEntry) → slice_get rows i ≡ Some row → MOST_FOUND_RANK < row.1.rank

  at : (i : ℕ) → i < n → slice_index_or (range_with_len 0 n) i 0 ≡ i
  at i below = let e = get_or-range_with_len 0 n i 0 below in omega (arith, e)

  within : (i : ℕ) → i < n → i < length (range_with_len 0 n)
  within i below = let e = length-range_with_len 0 n in omega (arith, e, below)

  not_long : (i : ℕ) → i < n → Long i → All (λ row. row.1.rank ≤ MOST_FOUND_RANK) rows → ⊥
  not_long i below over all = elim ((slice_get_cases rows i).1) [
    | inl found ↦ let low = subst (λ (row : Board × WinEntry). row.1.rank ≤ MOST_FOUND_RANK) found.3 (all i found.0 found.1) in let high = over found.0 found.2 in omega (arith, low, high)
    | inr past ↦ let p = past.0 in omega (arith, p, below, long)
  ]

  pub ranks_decided : (r : Bool) → MatchBool r (AllWithin Short (range_with_len 0 n) 0 (length (range_with_len 0 n))) ((i : ℕ) × (i < length (range_with_len 0 n)) × HoldsAt Long (range_with_len 0 n) i)
      → IsTrue r ↔ All (λ row. row.1.rank ≤ MOST_FOUND_RANK) rows
  ranks_decided true h = (
    (λ t i d below.
        let b : i < n = omega (arith, below, long) in
        subst Short (at i b) (h i 0 (omega arith) (within i b)) (slice_index_or rows i d) (slice_get-get_or rows i d below)),
    (λ all. refl),
  )
  ranks_decided false h = (
    (λ t. absurd (false≢true t)),
    (λ all. let e = length-range_with_len 0 n in let i = h.0 in let inside = h.1 in let b : i < n = omega (arith, e, inside) in absurd (not_long i b (subst Long (at i b) (h.2 0)) all)),
  )
