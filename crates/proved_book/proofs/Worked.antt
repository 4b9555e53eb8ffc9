-- The worked examples, by computation.
use Rattle.std.proofs.Common.{◌≡◌, ℕ, zero, suc, inl, inr, List, [], ◌∷◌, Option, Some, None, refl, sym, ap, subst, length, map, arith}
use Rattle.std.specs.Prelude.{Contains, IsTrue, ◌↔◌}
use Rattle.std.proofs.lemmas.Bool.{true≢false, false≢true}
use Rattle.draughts_board.specs.Board.{Board, same_board}
use Rattle.draughts_board.specs.Rules.{after}
use Rattle.draughts_board.specs.Examples.{king_alone, man_blocked, man_to_block}
use Rattle.draughts_board.specs.declared.pieces.Side.{Side}
use Rattle.draughts_board.specs.declared.pieces.Side.TheVariants.{Black, White}
use Rattle.draughts_board.proofs.Members.{Contains-nil, Contains-cons_cases, Contains-map, only_one}
use Rattle.strategy_certificate.specs.Parts.{WinList, HasEntry, without_rank}
use Rattle.strategy_certificate.specs.Certificates.{due_positions}
use Rattle.strategy_certificate.specs.Examples.{white_wins, win_in_one, with_rank}
use Rattle.strategy_certificate.proofs.WinInOne.{blocked_ends}
use Rattle.proof_numbers.specs.Known.{nothing_known, win_known, knows_win, knows_hold}
use Rattle.proved_book.specs.Trimming.{Strategy, GoesOn, LeadsIn, Leads, IsTrimmedWin}
use Rattle.proved_book.specs.Books.{KnowsWin, KnowsHold, Knows}
use Rattle.proved_book.specs.Examples.{blocked_alone, blocked_certificate, book_of_one, WorkedTrims, WorkedBooks}
use Rattle.proved_book.proofs.TrimLaws.{leads_here, one_trimmed_win}

-- ---- where the strategy leads

abbrev Row : Type 0
Row = Board × Option (List ℕ)

abbrev rows : Strategy
rows = map without_rank win_in_one.entries

abbrev step : List ℕ
step = 23 ∷ 19 ∷ []

first_there : HasEntry rows man_to_block
first_there = (Some step, (0, omega arith, refl))

second_there : HasEntry rows man_blocked
second_there = (None, (1, omega arith, refl))

goes_on : GoesOn rows man_to_block man_blocked
goes_on = record { chosen = Some step; entry = (0, omega arith, refl); due = (0, omega arith, refl); there = second_there }

leads_to_second : Leads rows man_to_block man_blocked
leads_to_second = (1, (man_to_block, ((refl, first_there), goes_on)))

other_movers : White ≡ Black → ⊥
other_movers h = cc

not_on : (m : Board) → GoesOn rows m man_to_block → ⊥
not_on m on = elim (Contains-cons_cases (man_to_block, Some step) ((man_blocked, None) ∷ []) (m, on.chosen) on.entry) [
  | inl is ↦ (
      let due : Contains (after man_to_block step ∷ []) man_to_block = subst (λ (row : Row). Contains (due_positions row.0 row.1) man_to_block) (sym is) on.due in
      other_movers (ap (λ (b : Board). b.to_move) (sym (only_one (after man_to_block step) man_to_block due))))
  | inr rest ↦ blocked_ends man_to_block (subst (λ (row : Row). Contains (due_positions row.0 row.1) man_to_block) (sym (only_one (man_blocked, None) (m, on.chosen) rest)) on.due)
]

not_back : Leads rows man_blocked man_to_block → ⊥
not_back (zero, (same, there)) = other_movers (ap (λ (b : Board). b.to_move) (sym same))
not_back (suc n, (m, (way, on))) = not_on m on

-- from a position without an entry it leads nowhere
begins_there : (p : Board) (n : ℕ) (q : Board) → LeadsIn rows p n q → HasEntry rows p
begins_there p zero q (same, there) = subst (HasEntry rows) (sym same) there
begins_there p (suc n) q (m, (way, on)) = begins_there p n m way

not_there : HasEntry rows king_alone → ⊥
not_there (chosen, there) = elim (Contains-cons_cases (man_to_block, Some step) ((man_blocked, None) ∷ []) (king_alone, chosen) there) [
  | inl is ↦ other_movers (ap (λ (row : Row). row.0.to_move) is)
  | inr rest ↦ true≢false (ap (λ (row : Row). same_board man_blocked row.0) (only_one (man_blocked, None) (king_alone, chosen) rest))
]

leads_nowhere : (q : Board) → Leads rows king_alone q → ⊥
leads_nowhere q (n, way) = not_there (begins_there king_alone n q way)

-- ---- trimmed

whole : IsTrimmedWin win_in_one man_to_block win_in_one
whole = record {
  side = refl;
  entries = inl (leads_here rows man_to_block first_there, ((man_blocked, with_rank 0 None) ∷ [], (refl, inl (leads_to_second, ([], (refl, refl))))));
}

rest_of_it : IsTrimmedWin win_in_one man_blocked blocked_alone
rest_of_it = record { side = refl; entries = inr (not_back, inl (leads_here rows man_blocked second_there, ([], (refl, refl)))) }

nothing_of_it : IsTrimmedWin win_in_one king_alone (white_wins [])
nothing_of_it = record { side = refl; entries = inr (leads_nowhere man_to_block, inr (leads_nowhere man_blocked, refl)) }

count : WinList → ℕ
count part = length part.entries

not_whole : IsTrimmedWin win_in_one man_blocked win_in_one → ⊥
unfolding count
not_whole other = let same = ap count (one_trimmed_win win_in_one win_in_one blocked_alone man_blocked other rest_of_it) in omega arith

pub worked_trims : WorkedTrims
worked_trims = record { whole = whole; rest = rest_of_it; nothing = nothing_of_it; not_whole = not_whole }

-- ---- known

no_black_win : (p : Board) → KnowsWin book_of_one Black p → ⊥
no_black_win p (e, there) = Contains-nil (p, e) there

no_black_hold : (p : Board) → KnowsHold book_of_one Black p → ⊥
no_black_hold p (inl win) = no_black_win p win
no_black_hold p (inr (e, there)) = Contains-nil (p, e) there

module _ (p : Board) (there : HasEntry win_in_one.entries p) where
  white_wins_known : (s : Side) → IsTrue (knows_win s (win_known White)) ↔ KnowsWin book_of_one s p
  white_wins_known Black = (λ t. absurd (false≢true t), λ known. absurd (no_black_win p known))
  white_wins_known White = (λ t. there, λ known. refl)

  white_holds_known : (s : Side) → IsTrue (knows_hold s (win_known White)) ↔ KnowsHold book_of_one s p
  white_holds_known Black = (λ t. absurd (false≢true t), λ known. absurd (no_black_hold p known))
  white_holds_known White = (λ t. inl there, λ known. refl)

  known : Knows book_of_one p (win_known White)
  known = record { wins = white_wins_known; holds = white_holds_known }

not_known_win : (s : Side) → KnowsWin book_of_one s king_alone → ⊥
not_known_win Black win = no_black_win king_alone win
not_known_win White (e, there) = not_there (e.chosen, Contains-map without_rank win_in_one.entries (king_alone, e) there)

not_known_hold : (s : Side) → KnowsHold book_of_one s king_alone → ⊥
not_known_hold s (inl win) = not_known_win s win
not_known_hold Black (inr (e, there)) = Contains-nil (king_alone, e) there
not_known_hold White (inr (e, there)) = Contains-nil (king_alone, e) there

nothing_wins : (s : Side) → IsTrue (knows_win s nothing_known) ↔ KnowsWin book_of_one s king_alone
nothing_wins Black = (λ t. absurd (false≢true t), λ win. absurd (not_known_win Black win))
nothing_wins White = (λ t. absurd (false≢true t), λ win. absurd (not_known_win White win))

nothing_holds : (s : Side) → IsTrue (knows_hold s nothing_known) ↔ KnowsHold book_of_one s king_alone
nothing_holds Black = (λ t. absurd (false≢true t), λ hold. absurd (not_known_hold Black hold))
nothing_holds White = (λ t. absurd (false≢true t), λ hold. absurd (not_known_hold White hold))

first_won : HasEntry win_in_one.entries man_to_block
first_won = (with_rank 1 (Some step), (0, omega arith, refl))

second_won : HasEntry win_in_one.entries man_blocked
second_won = (with_rank 0 None, (1, omega arith, refl))

pub worked_books : WorkedBooks
worked_books = record {
  first = known man_to_block first_won;
  second = known man_blocked second_won;
  other = record { wins = nothing_wins; holds = nothing_holds };
  answer = inl (record { side = White; known = second_won; won = blocked_certificate; is_won = (blocked_alone, (rest_of_it, refl)); all = refl });
  no_answer = (not_known_win, λ black white. not_known_hold Black black);
}
