-- One more move: moves go on, or stop.
use Rattle.std.proofs.Common.{◌≡◌, ◌∙◌, ℕ, suc, ◌+◌, ◌<◌, List, [], ◌∷◌, ◌++◌, length, get_or, take, drop, Err, refl, sym, ap, subst, arith, drop-cons, take-suc, take-append-drop, length-take-le}
use Rattle.draughts_board.specs.Board.{Board}
use Rattle.draughts_board.specs.Resolution.{resolve_wants_memory}
use Rattle.draughts_board.specs.declared.resolution.ResolveRefusal.{ResolveRefusal}
use Rattle.draughts_board.specs.declared.resolution.ResolveRefusal.TheVariants.{Illegal, Ambiguous, Memory}
use Rattle.std.specs.Bool.{OnFalse}
use Rattle.pdn_openings.specs.Faults.{opening_wants_memory, IsMoveFault, refusal_of}
use Rattle.pdn_openings.specs.Playing.{meaning_of, LeadTo, StopAt}
use Rattle.pdn_openings.proofs.Outcome.{lead-push}
use Rattle.pdn_text.specs.declared.game.MoveText.{MoveText}

-- one element more is taken
pub take-one_more : {X : Type 0} (xs : List X) (i : ℕ) (x : X) → i < length xs → x ≡ get_or xs i x → take (i + 1) xs ≡ take i xs ++ x ∷ []
take-one_more xs i x h is =
    ap (λ n. take n xs) (let n : i + 1 ≡ suc i = omega arith in n) ∙ take-suc xs i x h ∙ ap (λ y. take i xs ++ y ∷ []) (sym is)

-- the elements before one, itself, and those behind it
pub split-at : {X : Type 0} (xs : List X) (i : ℕ) (x : X) → i < length xs → x ≡ get_or xs i x → xs ≡ take i xs ++ x ∷ drop (suc i) xs
split-at xs i x h is =
    sym (take-append-drop i xs) ∙ ap (λ ys. take i xs ++ ys) (drop-cons xs i x h) ∙ ap (λ y. take i xs ++ y ∷ drop (suc i) xs) (sym is)

-- moves lead on
pub lead-next : (p here q : Board) (moves : List MoveText) (i : ℕ) (written : MoveText) → i < length moves → written ≡ get_or moves i written
    → LeadTo p (take i moves) here → LeadTo here (written ∷ []) q → LeadTo p (take (i + 1) moves) q
lead-next p here q moves i written h is led more =
    subst (λ ms. LeadTo p ms q) (sym (take-one_more moves i written h is)) (lead-push p here q (take i moves) written led more)

-- moves stop
stop-here : (p here : Board) (moves : List MoveText) (i : ℕ) (written : MoveText) (cause : ResolveRefusal) → i < length moves
    → written ≡ get_or moves i written → LeadTo p (take i moves) here → meaning_of here written ≡ Err cause → StopAt p moves (i + 1) written.at cause
stop-here p here moves i written cause h is led refused = record {
  before = take i moves;
  written = written;
  behind = drop (suc i) moves;
  all = split-at moves i written h is;
  here = here;
  led = led;
  refused = refused;
  counted = (let n : length (take i moves) ≡ i = length-take-le i moves (omega arith) in omega (arith, n));
  place = refl;
}

pub fault-here : (number : ℕ) (p here : Board) (moves : List MoveText) (i : ℕ) (written : MoveText) (cause : ResolveRefusal) → i < length moves
    → written ≡ get_or moves i written → LeadTo p (take i moves) here → OnFalse (resolve_wants_memory cause) (meaning_of here written ≡ Err cause)
    → OnFalse (opening_wants_memory (refusal_of cause number (i + 1) written.at)) (IsMoveFault number p moves (refusal_of cause number (i + 1) written.at))
fault-here number p here moves i written Illegal h is led refused = (refl, stop-here p here moves i written Illegal h is led refused)
fault-here number p here moves i written (Ambiguous a b) h is led refused =
    (refl, (a, b, stop-here p here moves i written (Ambiguous a b) h is led refused))
fault-here number p here moves i written (Memory error) h is led refused = tt
