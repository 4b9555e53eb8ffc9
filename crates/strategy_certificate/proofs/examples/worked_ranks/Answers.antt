use Rattle.std.proofs.Common.{◌+◌, ◌≤◌, ℕ, zero, suc, inl, inr, List, [], ◌∷◌, None, refl, ap, arith}
use Rattle.std.specs.Prelude.{◌^◌, Contains}
use Rattle.std.specs.List.Sorted.{IsStrictlyIncreasing}
use Rattle.std.proofs.lemmas.List.Elements.{All-nil, All-cons, All-contains}
use Rattle.draughts_board.specs.Board.{Board}
use Rattle.draughts_board.specs.Examples.{king_alone, man_blocked, man_to_block, man_to_lose}
use Rattle.draughts_board.proofs.Members.{Contains-nil, Contains-cons_cases}
use Rattle.strategy_certificate.specs.declared.entries.WinEntry.{WinEntry}
use Rattle.strategy_certificate.specs.declared.entries.TheConstants.{MOST_FOUND_RANK}
use Rattle.strategy_certificate.specs.declared.certificates.Part.TheVariants as part
use Rattle.strategy_certificate.specs.Parts.{WinList}
use Rattle.strategy_certificate.specs.Claims.{HasShortRanks}
use Rattle.strategy_certificate.specs.ShortRanks.{IsShortened}
use Rattle.strategy_certificate.specs.Examples.{ranked, with_rank}
use Rattle.strategy_certificate.proofs.RankLemmas.{one_short_part}
use Rattle.strategy_certificate.proofs.examples.worked_ranks.Goals as goal

abbrev risen : List ℕ
risen = 7 ∷ 2 ^ 50 ∷ 2 ^ 60 ∷ []

abbrev given : List ℕ
given = 2 ^ 50 ∷ 7 ∷ 7 ∷ 2 ^ 60 ∷ []

rising : IsStrictlyIncreasing risen
rising zero l = omega arith
rising (suc zero) l = omega arith
rising (suc (suc k)) l = absurd (omega arith)

-- a member of the one list is one of the other
to_given : (r : ℕ) → Contains risen r → Contains given r
to_given r there = elim (Contains-cons_cases 7 (2 ^ 50 ∷ 2 ^ 60 ∷ []) r there) [
  | inl is ↦ (1, omega arith, is)
  | inr more ↦ elim (Contains-cons_cases (2 ^ 50) (2 ^ 60 ∷ []) r more) [
    | inl is ↦ (0, omega arith, is)
    | inr last ↦ elim (Contains-cons_cases (2 ^ 60) [] r last) [ inl is ↦ (3, omega arith, is) | inr none ↦ absurd (Contains-nil r none) ]
  ]
]

to_risen : (r : ℕ) → Contains given r → Contains risen r
to_risen r there = elim (Contains-cons_cases (2 ^ 50) (7 ∷ 7 ∷ 2 ^ 60 ∷ []) r there) [
  | inl is ↦ (1, omega arith, is)
  | inr more ↦ elim (Contains-cons_cases 7 (7 ∷ 2 ^ 60 ∷ []) r more) [
    | inl is ↦ (0, omega arith, is)
    | inr rest ↦ elim (Contains-cons_cases 7 (2 ^ 60 ∷ []) r rest) [
      | inl is ↦ (0, omega arith, is)
      | inr last ↦ elim (Contains-cons_cases (2 ^ 60) [] r last) [ inl is ↦ (2, omega arith, is) | inr none ↦ absurd (Contains-nil r none) ]
    ]
  ]
]

in_order : IsShortened (ranked (2 ^ 50) 7 7 (2 ^ 60)) (ranked (2 ^ 32 + 1) (2 ^ 32) (2 ^ 32) (2 ^ 32 + 2))
in_order = record { ranks = risen; are = record { rising = rising; are = λ r. (to_given r, to_risen r) }; is = refl }

-- the first rank of a part
first_rank : WinList → ℕ
first_rank part = by part.entries
  where
    by : List (Board × WinEntry) → ℕ
    by [] = 0
    by (row ∷ rows) = row.1.rank

not_as_they_come : IsShortened (ranked (2 ^ 50) 7 7 (2 ^ 60)) (ranked (2 ^ 32) (2 ^ 32 + 1) (2 ^ 32 + 1) (2 ^ 32 + 2)) → ⊥
unfolding first_rank
not_as_they_come other =
    let same = ap first_rank (one_short_part (ranked (2 ^ 50) 7 7 (2 ^ 60)) (ranked (2 ^ 32 + 1) (2 ^ 32) (2 ^ 32) (2 ^ 32 + 2)) (ranked (2 ^ 32) (2 ^ 32 + 1) (2 ^ 32 + 1) (2 ^ 32 + 2)) in_order other) in
    omega arith

abbrev IsShortRow : Board × WinEntry → Type 0
IsShortRow row = row.1.rank ≤ MOST_FOUND_RANK

abbrev row_of : Board → ℕ → Board × WinEntry
row_of p rank = (p, with_rank rank None)

-- the rows behind the first, and behind the second
abbrev behind : ℕ → ℕ → ℕ → List (Board × WinEntry)
behind b c d = row_of man_blocked b ∷ row_of man_to_lose c ∷ row_of king_alone d ∷ []

short_row_of : (p : Board) (rank : ℕ) → rank ≤ MOST_FOUND_RANK → IsShortRow (row_of p rank)
short_row_of p rank low = low

at_most : HasShortRanks (part.Win (ranked (2 ^ 40) 7 7 0))
at_most =
    All-cons IsShortRow (row_of man_to_block (2 ^ 40)) (behind 7 7 0) (short_row_of man_to_block (2 ^ 40) (omega arith))
    (All-cons IsShortRow (row_of man_blocked 7) (row_of man_to_lose 7 ∷ row_of king_alone 0 ∷ []) (short_row_of man_blocked 7 (omega arith))
    (All-cons IsShortRow (row_of man_to_lose 7) (row_of king_alone 0 ∷ []) (short_row_of man_to_lose 7 (omega arith))
    (All-cons IsShortRow (row_of king_alone 0) [] (short_row_of king_alone 0 (omega arith)) (All-nil IsShortRow))))

one_more : HasShortRanks (part.Win (ranked 7 7 (2 ^ 40 + 1) 0)) → ⊥
one_more short =
    let low : 2 ^ 40 + 1 ≤ 2 ^ 40 = All-contains IsShortRow (row_of man_to_block 7 ∷ behind 7 (2 ^ 40 + 1) 0) (row_of man_to_lose (2 ^ 40 + 1)) short (2, omega arith, refl) in
    omega arith

pub returns : goal.returns
returns c = record { in_order = in_order; not_as_they_come = not_as_they_come; at_most = at_most; one_more = one_more }
