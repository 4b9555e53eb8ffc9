-- One ply shows the value of each opening that is made from a seed: whatever Black captures, two
-- pieces are left at most.
use Rattle.std.proofs.Common.{◌≡◌, ℕ, ◌+◌, ◌-◌, ◌<◌, ◌≤◌, ◌&&◌, ◌||◌, not, Bool, true, false, List, [], ◌∷◌, refl, sym, subst, inl, inr, arith}
use Rattle.std.specs.Prelude.{Contains, nat_le, ◌⊎◌}
use Rattle.std.proofs.lemmas.Bool.{true≢false, cases_lt}
use Rattle.std.specs.Cmp.{first_so, second_so}
use Rattle.draughts_board.specs.Board.{Board, IsLawful, is_lawful, piece_count}
use Rattle.draughts_board.specs.Draughts.{draughts}
use Rattle.draughts_board.specs.Play.{captures, grown, is_nil, legal_paths, successors_of}
use Rattle.draughts_board.specs.Geometry.{squares}
use Rattle.draughts_board.specs.Game.{HasValue, Holds, Wins, is_at_sight}
use Rattle.draughts_board.specs.Game.CanForce.{by_move, by_every_reply}
use Rattle.draughts_board.specs.declared.pieces.Side.TheVariants.{Black, White}
use Rattle.draughts_board.specs.declared.pieces.Value.{Value}
use Rattle.draughts_board.specs.declared.pieces.Value.TheVariants.{BlackWins, WhiteWins, Draw}
use Rattle.draughts_board.proofs.Members.{Contains-nil, Contains-cons_cases, Contains-head, Contains-tail}
use Rattle.draughts_board.proofs.Truth.{Wins-holds}
use Rattle.draughts_board.proofs.Decided.{positions_have_one_value}
use Rattle.draughts_board.proofs.Successors.{draughts_takes_turns, lawful-from_test}
use Rattle.capture_positions.specs.Walk.{numbered_position}
use Rattle.capture_positions.proofs.Below.{all_below, at_below}
use Rattle.capture_positions.proofs.CountLemmas.{table_position, position-in_table}
use Rattle.journal_runs.specs.Ample.{ShowsValue}

-- ---- what is computed of each position

-- each has two pieces at most
are_few : List Board → Bool
are_few [] = true
are_few (q ∷ qs) = nat_le (piece_count q) 2 && are_few qs

-- the position is lawful and not decided at sight, and two pieces are left at most after each move
takes_one : Board → Bool
takes_one p = is_lawful p && (not (is_at_sight draughts 2 p) && are_few (successors_of p))

takes_at : ℕ → Bool
takes_at i = takes_one (table_position i)

-- a quarter of them at a time
takes_from : ℕ → ℕ → Bool
takes_from start k = takes_at (start + k)

first_take : all_below (takes_from 0) 1044 ≡ true
unfolding takes_from takes_at takes_one are_few successors_of legal_paths captures grown squares
first_take = refl

second_take : all_below (takes_from 1044) 1044 ≡ true
unfolding takes_from takes_at takes_one are_few successors_of legal_paths captures grown squares
second_take = refl

third_take : all_below (takes_from 2088) 1044 ≡ true
unfolding takes_from takes_at takes_one are_few successors_of legal_paths captures grown squares
third_take = refl

fourth_take : all_below (takes_from 3132) 1044 ≡ true
unfolding takes_from takes_at takes_one are_few successors_of legal_paths captures grown squares
fourth_take = refl

part_take : (start i : ℕ) → all_below (takes_from start) 1044 ≡ true → start ≤ i → i < start + 1044 → takes_at i ≡ true
unfolding takes_from
part_take start i h low high =
    let back : start + (i - start) ≡ i = omega arith in
    subst (λ j. takes_at j ≡ true) back (at_below (takes_from start) 1044 (i - start) h (omega arith))

each_take : (i : ℕ) → i < 4176 → takes_at i ≡ true
each_take i l = elim (cases_lt i 1044) [
  | inl low ↦ part_take 0 i first_take (omega arith) (omega arith)
  | inr high ↦ elim (cases_lt i 2088) [
    | inl low ↦ part_take 1044 i second_take (omega arith) (omega arith)
    | inr high ↦ elim (cases_lt i 3132) [
      | inl low ↦ part_take 2088 i third_take (omega arith) (omega arith)
      | inr high ↦ part_take 3132 i fourth_take (omega arith) (omega arith)
    ]
  ]
]

few_each : (qs : List Board) → are_few qs ≡ true → (q : Board) → Contains qs q → nat_le (piece_count q) 2 ≡ true
unfolding are_few
few_each [] few q here = absurd (Contains-nil q here)
few_each (x ∷ qs) few q here = elim (Contains-cons_cases x qs q here) [
  | inl same ↦ subst (λ (b : Board). nat_le (piece_count b) 2 ≡ true) same (first_so _ _ few)
  | inr there ↦ few_each qs (second_so _ _ few) q there
]

-- ---- what the values of the positions after a move tell

-- Black wins one of them; or Black holds one and White holds all; or White wins all
abbrev Ways : List Board → Type 0
Ways qs =
    ((q : Board) × (Contains qs q × Wins draughts Black q))
    ⊎ ((((q : Board) × (Contains qs q × Holds draughts Black q)) × ((q : Board) → Contains qs q → Holds draughts White q))
    ⊎ ((q : Board) → Contains qs q → Wins draughts White q))

module _ (x : Board) (qs : List Board) where
  for_each : (P : Board → Type 0) → P x → ((q : Board) → Contains qs q → P q) → (q : Board) → Contains (x ∷ qs) q → P q
  for_each P head rest q here = elim (Contains-cons_cases x qs q here) [
    | inl same ↦ subst P same head
    | inr there ↦ rest q there
  ]

  one_more : (v : Value) → HasValue draughts x v → Ways qs → Ways (x ∷ qs)
  one_more BlackWins value rest = inl (x, (Contains-head x qs, value))
  one_more v value (inl found) = inl (found.0, (Contains-tail x found.0 qs found.1.0, found.1.1))
  one_more WhiteWins value (inr (inl both)) =
      inr (inl ((both.0.0, (Contains-tail x both.0.0 qs both.0.1.0, both.0.1.1)), for_each (Holds draughts White) (Wins-holds draughts White x value) both.1))
  one_more WhiteWins value (inr (inr all)) = inr (inr (for_each (Wins draughts White) value all))
  one_more Draw value (inr (inl both)) = inr (inl ((x, (Contains-head x qs, value.0)), for_each (Holds draughts White) value.1 both.1))
  one_more Draw value (inr (inr all)) =
      inr (inl ((x, (Contains-head x qs, value.0)), for_each (Holds draughts White) value.1 (λ q there. Wins-holds draughts White q (all q there))))

find_way : (qs : List Board) → ((q : Board) → Contains qs q → (v : Value) × HasValue draughts q v) → Ways qs
find_way [] valued = inr (inr (λ q here. absurd (Contains-nil q here)))
find_way (x ∷ qs) valued =
    let first = valued x (Contains-head x qs) in
    one_more x qs first.0 first.1 (find_way qs (λ q there. valued q (Contains-tail x q qs there)))

module _ (p : Board) (black : p.to_move ≡ Black) (unseen : is_at_sight draughts 2 p ≡ false) (seen : (q : Board) → Contains (successors_of p) q → is_at_sight draughts 2 q ≡ true) where
  one_ply_shows : Ways (successors_of p) → ShowsValue 2 1 p
  one_ply_shows (inl found) = inl (inr (unseen, by_move found.0 black found.1.0 (seen found.0 found.1.0, found.1.1)))
  one_ply_shows (inr (inl both)) =
      inr (inr (inr (unseen, by_move both.0.0 black both.0.1.0 (inr (seen both.0.0 both.0.1.0, both.0.1.1))), inr (unseen, by_every_reply black (λ q there. inr (seen q there, both.1 q there)))))
  one_ply_shows (inr (inr all)) = inr (inl (inr (unseen, by_every_reply black (λ q there. (seen q there, all q there)))))

-- ---- each numbered position

or_true : (a b : Bool) → b ≡ true → (a || b) ≡ true
or_true true b h = refl
or_true false b h = h

not_true : (b : Bool) → not b ≡ true → b ≡ false
not_true true h = absurd (true≢false (sym h))
not_true false h = refl

-- what an opening is: lawful, not decided at sight, and shown by one ply
pub record IsShown (p : Board) : Type 0 where
  pub lawful : IsLawful p
  pub unseen : is_at_sight draughts 2 p ≡ false
  pub shown : ShowsValue 2 1 p

by_one : (p : Board) → p.to_move ≡ Black → takes_one p ≡ true → IsShown p
unfolding takes_one
by_one p black take =
    let lawful = lawful-from_test p (first_so _ _ take) in
    let rest = second_so (is_lawful p) _ take in
    let few = second_so _ (are_few (successors_of p)) rest in
    let unseen = not_true (is_at_sight draughts 2 p) (first_so _ _ rest) in
    let value : (q : Board) → Contains (successors_of p) q → (v : Value) × HasValue draughts q v = λ q next.
    let one = positions_have_one_value q (lawful-from_test q (draughts_takes_turns.stays_position p q (first_so _ _ take) next)) in (one.0, one.1.0) in
    record {
      lawful = lawful;
      unseen = unseen;
      shown = one_ply_shows p black unseen (λ q next. or_true (is_nil (successors_of q)) (nat_le (piece_count q) 2) (few_each (successors_of p) few q next)) (find_way (successors_of p) value);
    }

pub numbered_shown : (i : ℕ) → i < 4176 → IsShown (numbered_position i)
unfolding takes_at
numbered_shown i l = subst IsShown (sym (position-in_table i)) (by_one (table_position i) refl (each_take i l))
