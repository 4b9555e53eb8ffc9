-- The numbers of a root that knows its value, or sees it.
use Rattle.std.proofs.Common.{◌≡◌, ℕ, inr, Bool, true, false, cond, [], refl, sym, ap, ◌∙◌}
use Rattle.std.proofs.lemmas.Bool.{false≢true}
use Rattle.draughts_board.specs.Board.{Board, other}
use Rattle.draughts_board.specs.Draughts.{draughts}
use Rattle.draughts_board.specs.Game.{is_at_sight, ShowsWin, ShowsHold}
use Rattle.draughts_board.specs.declared.pieces.Side.{Side}
use Rattle.draughts_board.specs.declared.pieces.Side.TheVariants.{Black, White}
use Rattle.draughts_board.specs.declared.pieces.Value.{Value}
use Rattle.draughts_board.specs.declared.pieces.Value.TheVariants.{BlackWins, WhiteWins, Draw}
use Rattle.proof_numbers.specs.declared.numbers.Numbers.{Numbers}
use Rattle.proof_numbers.specs.Known.{Known, IsConsistent, knows_win, knows_hold, value_known}
use Rattle.proof_numbers.specs.Numbers.{proved, refuted}
use Rattle.proof_numbers.specs.Sight.{AreFactsAtSight}
use Rattle.proof_tree.proofs.Opposed.{fixed, consistent_wins}

-- ---- an unexpanded root that knows the value

pub value_numbers : (v : Value) (goal : Side) (x : Numbers) → cond (knows_win goal (value_known v)) proved (cond (knows_hold (other goal) (value_known v)) refuted x) ≡ fixed v goal
value_numbers BlackWins Black x = refl
value_numbers BlackWins White x = refl
value_numbers WhiteWins Black x = refl
value_numbers WhiteWins White x = refl
value_numbers Draw Black x = refl
value_numbers Draw White x = refl

-- ---- what is seen at sight decides

true_or_not : (b : Bool) → (b ≡ true → ⊥) → b ≡ false
true_or_not true h = absurd (h refl)
true_or_not false h = refl

seen_win : (k : ℕ) (s : Side) (p : Board) (facts : Known) → AreFactsAtSight k p facts → knows_win s facts ≡ true → ShowsWin draughts k s 0 p
seen_win k Black p facts f e = f.black_wins.0 e
seen_win k White p facts f e = f.white_wins.0 e

seen_hold : (k : ℕ) (s : Side) (p : Board) (facts : Known) → AreFactsAtSight k p facts → knows_hold s facts ≡ true → ShowsHold draughts k s 0 [] p
seen_hold k Black p facts f e = f.black_holds.0 e
seen_hold k White p facts f e = f.white_holds.0 e

-- what is not seen to win for the goal is seen to be held by the other side
not_seen : (k : ℕ) (goal : Side) (p : Board) (facts : Known) → is_at_sight draughts k p ≡ true → AreFactsAtSight k p facts
    → knows_win goal facts ≡ false → knows_hold (other goal) facts ≡ true
not_seen k Black p facts sight f e = f.white_holds.1 (inr (sight, λ w. false≢true (sym e ∙ f.black_wins.1 (sight, w))))
not_seen k White p facts sight f e = f.black_holds.1 (inr (sight, λ w. false≢true (sym e ∙ f.white_wins.1 (sight, w))))

sight_by : (w h v l : Bool) (x y : Numbers) → (w ≡ true → v ≡ true) → (h ≡ true → l ≡ true) → (w ≡ false → h ≡ true) → (v ≡ true → l ≡ false)
    → cond w proved (cond h refuted x) ≡ cond v proved (cond l refuted y)
sight_by true h true l x y p q r s = refl
sight_by true h false l x y p q r s = absurd (false≢true (p refl))
sight_by false true true l x y p q r s = absurd (false≢true (sym (s refl) ∙ q refl))
sight_by false true false true x y p q r s = refl
sight_by false true false false x y p q r s = absurd (false≢true (q refl))
sight_by false false v l x y p q r s = absurd (false≢true (r refl))

-- by facts that are those at sight, and by consistent ones that have these
pub seen_numbers : (k : ℕ) (goal : Side) (p : Board) (seen facts : Known) (x y : Numbers) → is_at_sight draughts k p ≡ true → AreFactsAtSight k p seen → IsConsistent facts
    → (ShowsWin draughts k goal 0 p → knows_win goal facts ≡ true) → (ShowsHold draughts k (other goal) 0 [] p → knows_hold (other goal) facts ≡ true)
    → cond (knows_win goal seen) proved (cond (knows_hold (other goal) seen) refuted x) ≡ cond (knows_win goal facts) proved (cond (knows_hold (other goal) facts) refuted y)
seen_numbers k goal p seen facts x y sight f c wins holds =
    sight_by (knows_win goal seen) (knows_hold (other goal) seen) (knows_win goal facts) (knows_hold (other goal) facts) x y
    (λ e. wins (seen_win k goal p seen f e)) (λ e. holds (seen_hold k (other goal) p seen f e)) (not_seen k goal p seen sight f)
    (λ e. (consistent_wins goal facts c e).1)
