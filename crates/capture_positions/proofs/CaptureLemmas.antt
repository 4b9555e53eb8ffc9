-- In each position three pieces stand, and Black must capture.
use Rattle.std.proofs.Common.{◌≡◌, ℕ, ◌%◌, ◌<◌, ◌==◌, ◌&&◌, ◌||◌, Bool, true, false, List, [], ◌∷◌, refl, ap, ◌∙◌, inl, inr}
use Rattle.std.specs.Prelude.{Contains}
use Rattle.std.specs.Cmp.{first_so, second_so}
use Rattle.std.specs.Cmp.Derive.{both_true}
use Rattle.std.specs.List.{list_any}
use Rattle.draughts_board.specs.Geometry.{squares, is_square}
use Rattle.draughts_board.specs.Board.{Board, piece_count}
use Rattle.draughts_board.specs.Rules.{is_own, is_jump, has_jump}
use Rattle.draughts_board.proofs.Growth.{Contains-squares}
use Rattle.draughts_board.proofs.Members.{Contains-nil, Contains-cons_cases}
use Rattle.capture_positions.specs.Walk.{numbered_position}
use Rattle.capture_positions.proofs.Below.{all_below, at_below}
use Rattle.capture_positions.proofs.JumpLemmas.{table_jump, eqb-so}
use Rattle.capture_positions.proofs.CountLemmas.{table_position, position-in_table}

-- ---- three pieces

is_three : ℕ → Bool
is_three i = piece_count (table_position i) == 3

all_three : all_below is_three 4176 ≡ true
unfolding is_three
all_three = refl

pub three_stand : (i : ℕ) → i < 4176 → piece_count (numbered_position i) ≡ 3
unfolding is_three
three_stand i l =
    ap piece_count (position-in_table i) ∙ eqb-so (piece_count (table_position i)) 3 (at_below is_three 4176 i all_three l)

-- ---- a capture

is_capture : Board → ℕ → ℕ → Bool
is_capture p a c = is_own p a && (is_square c && is_jump p a a c)

captures_there : ℕ → Bool
captures_there i = is_capture (table_position i) (table_jump (i % 72)).start (table_jump (i % 72)).end

all_capture : all_below captures_there 4176 ≡ true
unfolding captures_there is_capture
all_capture = refl

any-found : (f : ℕ → Bool) (xs : List ℕ) (x : ℕ) → Contains xs x → f x ≡ true → list_any f xs ≡ true
any-found f [] x h e = absurd (Contains-nil x h)
any-found f (y ∷ xs) x h e = elim (Contains-cons_cases y xs x h) [
  | inl same ↦ ap (λ b. b || list_any f xs) (ap f same ∙ e)
  | inr there ↦ by (f y) (any-found f xs x there e)
]
  where
    by : (b : Bool) → list_any f xs ≡ true → (b || list_any f xs) ≡ true
    by true h = refl
    by false h = h

has_jump-found : (p : Board) (a c : ℕ) → is_capture p a c ≡ true → has_jump p ≡ true
unfolding is_capture
has_jump-found p a c h =
    let own : is_own p a ≡ true = first_so _ _ h in
    let rest : (is_square c && is_jump p a a c) ≡ true = second_so _ _ h in
    let inside : is_square a ≡ true = first_so _ _ own in
    let to : list_any (is_jump p a a) squares ≡ true = any-found (is_jump p a a) squares c (Contains-squares c (first_so _ _ rest)) (second_so _ _ rest) in
    any-found (λ x. is_own p x && list_any (is_jump p x x) squares) squares a (Contains-squares a inside) (both_true own to)

pub must_capture : (i : ℕ) → i < 4176 → has_jump (numbered_position i) ≡ true
unfolding captures_there
must_capture i l =
    ap has_jump (position-in_table i)
    ∙ has_jump-found (table_position i) (table_jump (i % 72)).start (table_jump (i % 72)).end (at_below captures_there 4176 i all_capture l)
