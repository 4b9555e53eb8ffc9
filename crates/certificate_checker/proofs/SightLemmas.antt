-- Positions that are decided at sight, and what is known there.
use Rattle.std.proofs.Common.{◌≡◌, ℕ, ◌⊎◌, inl, inr, Bool, true, false, List, [], ◌∷◌, Option, refl, sym, ap, ◌∙◌}
use Rattle.std.specs.Prelude.{IsSome, is_some, ◌||◌, nat_le}
use Rattle.std.proofs.lemmas.Bool.{leb-true, le-leb, false≢true}
use Rattle.draughts_board.specs.declared.pieces.Side.{Side}
use Rattle.draughts_board.specs.declared.pieces.Side.TheVariants.{Black, White}
use Rattle.draughts_board.specs.declared.pieces.Value.TheVariants as value
use Rattle.draughts_board.specs.Board.{Board, IsLawful, other, piece_count}
use Rattle.draughts_board.specs.Play.{successors_of, is_nil}
use Rattle.draughts_board.specs.Game.{Wins, Holds, ShowsWin, ShowsHold, is_at_sight}
use Rattle.draughts_board.specs.Draughts.{draughts}
use Rattle.draughts_board.proofs.Members.{Contains-nil}
use Rattle.draughts_board.proofs.Truth.{Wins-holds}
use Rattle.draughts_board.proofs.Successors.{is_lawful-true}
use Rattle.strategy_certificate.specs.declared.oracle.Answer.{Answer}
use Rattle.strategy_certificate.specs.Tables.{IsSoundTable}
use Rattle.proof_numbers.specs.Known.{win_known, value_known, nothing_known}
use Rattle.proof_numbers.specs.Sight.{AreFactsAtSight}

-- ---- which positions are at sight

or_cases : (a b : Bool) → (a || b) ≡ true → (a ≡ true) ⊎ (b ≡ true)
or_cases true b e = inl refl
or_cases false b e = inr e

or_right : (a b : Bool) → b ≡ true → (a || b) ≡ true
or_right true b e = refl
or_right false b e = e

nil_from : {X : Type 0} (xs : List X) → is_nil xs ≡ true → xs ≡ []
nil_from [] e = refl
nil_from (x ∷ xs) e = cc

not_true : (b : Bool) → (b ≡ true → ⊥) → b ≡ false
not_true true never = absurd (never refl)
not_true false never = refl

pub blocked_at_sight : (k : ℕ) (p : Board) → successors_of p ≡ [] → is_at_sight draughts k p ≡ true
blocked_at_sight k p none = ap (λ next. is_nil next || nat_le (piece_count p) k) none

module _ (k : ℕ) (answer : Board → Option Answer) (sound : IsSoundTable draughts k answer) (p : Board) where
  pub answered_at_sight : IsSome (answer p) → is_at_sight draughts k p ≡ true
  answered_at_sight some = or_right (is_nil (successors_of p)) (nat_le (piece_count p) k) (le-leb (piece_count p) k ((sound.answered p).0 some).1)

  -- a position without an answer is at sight only where nobody can move
  pub unanswered_at_sight : IsLawful p → is_some (answer p) ≡ false → is_at_sight draughts k p ≡ true → successors_of p ≡ []
  unanswered_at_sight lawful none sight = elim (or_cases (is_nil (successors_of p)) (nat_le (piece_count p) k) sight) [
    | inl nil ↦ nil_from (successors_of p) nil
    | inr few ↦ let some = (sound.answered p).1 (is_lawful-true p lawful, leb-true (piece_count p) k few) in cc
  ]

  pub not_at_sight : IsLawful p → is_some (answer p) ≡ false → (successors_of p ≡ [] → ⊥) → is_at_sight draughts k p ≡ false
  not_at_sight lawful none moves = not_true (is_at_sight draughts k p) (λ sight. moves (unanswered_at_sight lawful none sight))

-- ---- what is known at sight

not_false : {A : Type 0} → false ≡ true → A
not_false e = absurd (false≢true e)

module _ (k : ℕ) (p : Board) where
  held_at_sight : (s : Side) → Wins draughts (other s) p → ShowsHold draughts k s 0 [] p → ⊥
  held_at_sight s wins (inl here) = Contains-nil p here
  held_at_sight s wins (inr shows) = shows.1 wins

  pub won_facts : (w : Side) → is_at_sight draughts k p ≡ true → Wins draughts w p → AreFactsAtSight k p (win_known w)
  won_facts Black sight wins = record {
    black_wins = (λ _. (sight, wins), λ _. refl);
    white_wins = (λ t. not_false t, λ shows. absurd (Wins-holds draughts Black p wins shows.1));
    black_holds = (λ _. inr (sight, Wins-holds draughts Black p wins), λ _. refl);
    white_holds = (λ t. not_false t, λ shows. absurd (held_at_sight White wins shows));
  }
  won_facts White sight wins = record {
    black_wins = (λ t. not_false t, λ shows. absurd (Wins-holds draughts White p wins shows.1));
    white_wins = (λ _. (sight, wins), λ _. refl);
    black_holds = (λ t. not_false t, λ shows. absurd (held_at_sight Black wins shows));
    white_holds = (λ _. inr (sight, Wins-holds draughts White p wins), λ _. refl);
  }

  pub drawn_facts : is_at_sight draughts k p ≡ true → Holds draughts Black p → Holds draughts White p → AreFactsAtSight k p (value_known value.Draw)
  drawn_facts sight black white = record {
    black_wins = (λ t. not_false t, λ shows. absurd (white shows.1));
    white_wins = (λ t. not_false t, λ shows. absurd (black shows.1));
    black_holds = (λ _. inr (sight, black), λ _. refl);
    white_holds = (λ _. inr (sight, white), λ _. refl);
  }

  module _ (unseen : is_at_sight draughts k p ≡ false) where
    no_win : (s : Side) → ShowsWin draughts k s 0 p → ⊥
    no_win s shows = false≢true (sym unseen ∙ shows.0)

    no_hold : (s : Side) → ShowsHold draughts k s 0 [] p → ⊥
    no_hold s (inl here) = Contains-nil p here
    no_hold s (inr shows) = false≢true (sym unseen ∙ shows.0)

    pub unknown_facts : AreFactsAtSight k p nothing_known
    unknown_facts = record {
      black_wins = (λ t. not_false t, λ shows. absurd (no_win Black shows));
      white_wins = (λ t. not_false t, λ shows. absurd (no_win White shows));
      black_holds = (λ t. not_false t, λ shows. absurd (no_hold Black shows));
      white_holds = (λ t. not_false t, λ shows. absurd (no_hold White shows));
    }
