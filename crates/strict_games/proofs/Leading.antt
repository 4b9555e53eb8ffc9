-- Where written moves lead, from the front and at the end.
use Rattle.std.proofs.Common.{◌≡◌, ◌∙◌, ℕ, List, [], ◌∷◌, ◌++◌, Option, Some, None, Result, Ok, Err, refl, ap, subst}
use Rattle.std.specs.Prelude.{map}
use Rattle.draughts_board.specs.Board.{Board}
use Rattle.draughts_board.specs.Rules.{after}
use Rattle.draughts_board.specs.declared.resolution.ResolveRefusal.{ResolveRefusal}
use Rattle.pdn_openings.specs.Playing.{LeadTo, meaning_of}
use Rattle.pdn_text.specs.declared.game.MoveText.{MoveText}
use Rattle.draughts_board.specs.Resolution.{matches, meaning}
use Rattle.pdn_text.specs.declared.game.Tag.{Tag}
use Rattle.strict_games.specs.Drafts.{Drafted, IsReadAs, IsTextOf, begins, behind, led_to, squares_of, unplaced}
use Rattle.strict_games.specs.Playing.{Plays, PlaysWritten}

-- moves and one more
pub led_to-append : (p : Option Board) (moves : List (List ℕ)) (more : List (List ℕ)) → led_to p (moves ++ more) ≡ led_to (led_to p moves) more
led_to-append None [] more = refl
led_to-append None (squares ∷ moves) more = refl
led_to-append (Some p) [] more = refl
led_to-append (Some p) (squares ∷ moves) more = led_to-append (behind p (meaning_of p (unplaced squares))) moves more

-- one more move, which means this path
pub led_to-push : (start here q : Board) (moves : List (List ℕ)) (squares path : List ℕ) → led_to (Some start) moves ≡ Some here
    → meaning_of here (unplaced squares) ≡ Ok path → after here path ≡ q → led_to (Some start) (moves ++ squares ∷ []) ≡ Some q
led_to-push start here q moves squares path led means there =
    led_to-append (Some start) moves (squares ∷ []) ∙ ap (λ p. led_to p (squares ∷ [])) led ∙ ap (λ r. led_to (behind here r) []) means ∙ ap Some there

-- a move's place does not matter
meaning-unplaced : (p : Board) (written : MoveText) → meaning_of p written ≡ meaning_of p (unplaced written.squares)
unfolding meaning_of
meaning-unplaced p written = refl

-- a move that means something, and the moves behind it
leads_first : (p q : Board) (written : MoveText) (moves : List MoveText) (r : Result (List ℕ) ResolveRefusal) → meaning_of p (unplaced written.squares) ≡ r
    → ((here : Board) → led_to (Some here) (map squares_of moves) ≡ Some q → LeadTo here moves q)
    → led_to (behind p r) (map squares_of moves) ≡ Some q → LeadTo p (written ∷ moves) q
leads_first p q written moves (Ok path) is on e = (path, (meaning-unplaced p written ∙ is, on (after p path) e))
leads_first p q written [] (Err cause) is on e = let s : ◌≡◌ {A = Option Board} None (Some q) = e in absurd (cc)
leads_first p q written (m ∷ moves) (Err cause) is on e = let s : ◌≡◌ {A = Option Board} None (Some q) = e in absurd (cc)

-- moves that lead somewhere lead there one after another
pub leads : (p q : Board) (moves : List MoveText) → led_to (Some p) (map squares_of moves) ≡ Some q → LeadTo p moves q
leads p q [] e = let s : ◌≡◌ {A = Option Board} (Some p) (Some q) = e in cc
leads p q (written ∷ moves) e =
    leads_first p q written moves (meaning_of p (unplaced written.squares)) refl (λ here led. leads here q moves led) e

-- a draft that goes on by a path
pub plays_on : (set_up : Option Board) (tags : List Tag) (moves moves' : List (List ℕ)) (here q : Board) (start : ℕ) (middle : List ℕ) (end : ℕ) (path written : List ℕ) (old : Drafted)
    → record { set_up = set_up; tags = tags; moves = moves; here = here } ≡ old → meaning here (matches here start middle end) ≡ Ok path → q ≡ after here path → moves' ≡ moves ++ written ∷ []
    → Plays start middle end old (record { set_up = set_up; tags = tags; moves = moves'; here = q })
plays_on set_up tags moves moves' here q start middle end path written old view means leads pushed =
    subst (λ (d : Drafted). Plays start middle end d (record { set_up = set_up; tags = tags; moves = moves'; here = q })) view (record {
      path = path;
      means = means;
      leads = leads;
      written = written;
      one_more = pushed;
      same_tags = refl;
      same_set_up = refl;
    })

-- the same of a move by its squares
pub plays_written : (squares : List ℕ) (start : ℕ) (middle : List ℕ) (end : ℕ) (old new : Drafted) → meaning_of old.here (unplaced squares) ≡ meaning old.here (matches old.here start middle end)
    → Plays start middle end old new → PlaysWritten squares old new
plays_written squares start middle end old new read plays = record {
  path = plays.path;
  means = read ∙ plays.means;
  leads = plays.leads;
  written = plays.written;
  one_more = plays.one_more;
  same_tags = plays.same_tags;
  same_set_up = plays.same_set_up;
}

-- a draft's text
pub is_text_of : (set_up : Option Board) (tags : List Tag) (moves : List (List ℕ)) (here : Board) (old : Drafted) (text : List ℕ) → record { set_up = set_up; tags = tags; moves = moves; here = here } ≡ old
    → led_to (Some (begins set_up)) moves ≡ Some here → IsReadAs set_up tags moves text → IsTextOf old text
is_text_of set_up tags moves here old text view led read =
    subst (λ (d : Drafted). IsTextOf d text) view (record {
      read = read;
      led = leads (begins set_up) here read.game.moves (ap (led_to (Some (begins set_up))) read.same_moves ∙ led);
    })
