-- Each clause of the reader, from what was read.
use Rattle.std.proofs.Common.{◌≡◌, ℕ, ◌≤◌, ◌<◌, ◌↔◌, List, length, Option, Some, None, Result, Ok, Err, refl, sym, subst}
use Rattle.std.specs.Prelude.{MatchOption}
use Rattle.draughts_board.specs.Board.{Board, IsLawful, IsLeastMisplaced, pieces}
use Rattle.draughts_board.specs.declared.pieces.Side.{Side}
use Rattle.draughts_board.specs.declared.pieces.Side.TheVariants.{Black, White}
use Rattle.draughts_board.specs.declared.pieces.Cell.{Cell}
use Rattle.draughts_board.specs.declared.positions.PlaceRefusal.{PlaceRefusal}
use Rattle.draughts_board.specs.declared.positions.PlaceRefusal.TheVariants as places
use Rattle.fen_text.specs.declared.fault.Fault.{Fault}
use Rattle.fen_text.specs.declared.refusal.FenRefusal.{FenRefusal}
use Rattle.fen_text.specs.declared.refusal.FenRefusal.TheVariants.{Twice, TooMany, ManOnLastRow}
use Rattle.fen_text.specs.Spelled.{Group, NoneTwice, IsLeastTwice, cells_named, Spells, IsOver}
use Rattle.fen_text.specs.Printed.{fen_of}
use Rattle.fen_text.specs.Reading.{form_at}
use Rattle.fen_text.specs.Refusal.{IsFenFault, refusal_at, of_place}
use Rattle.fen_text.specs.Setup.{HoldsGroups}
use Rattle.fen_text.proofs.Verdict.{Verdict, GroupsVerdict, decides, cells_are}
use Rattle.fen_text.proofs.RoundTrip.{printed_spells}

pub record Answers (text : List ℕ) (r : Result Board FenRefusal) : Type 0 where
  pub ok : (p : Board) → (r ≡ Ok p) ↔ Spells text p
  pub printed : (p : Board) → IsLawful p → text ≡ fen_of p → r ≡ Ok p
  pub refused : (fault : FenRefusal) → (r ≡ Err fault) ↔ IsFenFault text fault

answers : (text : List ℕ) (r : Result Board FenRefusal) → Verdict (length text) (form_at text) r → Answers text r
answers text r v = record {
  ok = λ p. decides text r (Ok p) v;
  printed = λ p lawful is. (decides text r (Ok p) v).1 (subst (λ t. Spells t p) (sym is) (printed_spells p lawful));
  refused = λ fault. decides text r (Err fault) v;
}

-- the text cannot go on
pub fault_answers : (text : List ℕ) (f : Fault) → form_at text ≡ Err f → Answers text (Err (refusal_at (length text) f))
fault_answers text f read = answers text (Err (refusal_at (length text) f)) (subst (λ x. Verdict (length text) x (Err (refusal_at (length text) f))) (sym read) refl)

-- the text has the form, and names these groups
module _ (text : List ℕ) (mover : Side) (groups : List Group) (read : form_at text ≡ Ok (mover, groups)) where
  of_groups : (r : Result Board FenRefusal) → GroupsVerdict mover groups r → Answers text r
  of_groups r v = answers text r (subst (λ x. Verdict (length text) x r) (sym read) v)

  pub twice_answers : (n : ℕ) → IsLeastTwice groups n → Answers text (Err (Twice n))
  twice_answers n twice = of_groups (Err (Twice n)) twice

  module _ (cells : List Cell) (once : NoneTwice groups) (cells_is : cells ≡ cells_named groups) where
    pub ok_answers : IsLawful (record { cells = cells; to_move = mover }) → Answers text (Ok (record { cells = cells; to_move = mover }))
    ok_answers lawful = of_groups (Ok (record { cells = cells; to_move = mover })) (record { once = once; lawful = lawful; to_move = refl; cells = cells_is })

    pub too_many_answers : (side : Side) → IsOver side cells → Answers text (Err (TooMany side))
    too_many_answers side over = of_groups (Err (TooMany side)) (once, subst (IsOver side) cells_is over)

    pub man_answers : (n : ℕ) → pieces Black cells ≤ 12 → pieces White cells ≤ 12 → IsLeastMisplaced cells n → Answers text (Err (ManOnLastRow n))
    man_answers n black white misplaced = of_groups (Err (ManOnLastRow n)) (record {
      once = once;
      black = subst (λ cs. pieces Black cs ≤ 12) cells_is black;
      white = subst (λ cs. pieces White cs ≤ 12) cells_is white;
      misplaced = subst (λ cs. IsLeastMisplaced cs n) cells_is misplaced;
    })

-- ---- from what the reader holds

twice_is : (twice : Option ℕ) (groups : List Group) (n : ℕ) → MatchOption twice (NoneTwice groups) (IsLeastTwice groups) → twice ≡ Some n → IsLeastTwice groups n
twice_is twice groups n h e = subst (λ o. MatchOption o (NoneTwice groups) (IsLeastTwice groups)) e h

none_twice : (twice : Option ℕ) (groups : List Group) → MatchOption twice (NoneTwice groups) (IsLeastTwice groups) → twice ≡ None → NoneTwice groups
none_twice twice groups h e = subst (λ o. MatchOption o (NoneTwice groups) (IsLeastTwice groups)) e h

module _ (text : List ℕ) (mover : Side) (cells : List Cell) (twice : Option ℕ) (groups : List Group) (read : form_at text ≡ Ok (mover, groups)) (held : HoldsGroups cells twice groups) where
  pub held_twice : (n : ℕ) → twice ≡ Some n → Answers text (Err (Twice n))
  held_twice n e = twice_answers text mover groups read n (twice_is twice groups n held.twice e)

  module _ (none : twice ≡ None) where
    once : NoneTwice groups
    once = none_twice twice groups held.twice none

    named : cells ≡ cells_named groups
    named = cells_are cells groups held.full held.cells

    pub held_ok : (p : Board) → p ≡ record { cells = cells; to_move = mover } → IsLawful (record { cells = cells; to_move = mover }) → Answers text (Ok p)
    held_ok p is lawful = subst (λ q. Answers text (Ok q)) (sym is) (ok_answers text mover groups read cells once named lawful)

    pub held_refusal : (r : Result Board PlaceRefusal) (e : PlaceRefusal) → r ≡ Err e
        → (r ≡ Err (places.TooMany Black)) ↔ (12 < pieces Black cells)
        → (r ≡ Err (places.TooMany White)) ↔ ((pieces Black cells ≤ 12) × (12 < pieces White cells))
        → ((n : ℕ) → (r ≡ Err (places.ManOnLastRow n)) ↔ ((pieces Black cells ≤ 12) × (pieces White cells ≤ 12) × IsLeastMisplaced cells n))
        → Answers text (Err (of_place e))
    held_refusal r (places.TooMany Black) is black white man = too_many_answers text mover groups read cells once named Black (black.0 is)
    held_refusal r (places.TooMany White) is black white man = too_many_answers text mover groups read cells once named White (white.0 is)
    held_refusal r (places.ManOnLastRow n) is black white man = (let m = (man n).0 is in man_answers text mover groups read cells once named n m.0 m.1 m.2)
