-- The steps of a play, which the private functions answer for.
use Rattle.std.specs.Prelude.{◌≡◌, ℕ, ◌++◌, List, [], Option}
use Rattle.draughts_board.specs.declared.resolution.ResolveRefusal.{ResolveRefusal}
use Rattle.draughts_board.specs.declared.resolution.ResolveRefusal.TheVariants as meant
use Rattle.draughts_board.specs.Board.{Board, other}
use Rattle.certificate_player.specs.Plays.{Play, here}
use Rattle.strategy_certificate.specs.declared.oracle.Answer.{Answer}
use Rattle.certificate_plays.specs.Plays.{IsLineFault, LeadTo, Ply, own_moves, said_lines}
use Rattle.certificate_plays.specs.declared.refusals.LineFault.TheVariants as fault
use Rattle.certificate_plays.specs.declared.refusals.LinesRefusal.{LinesRefusal}
use Rattle.certificate_plays.specs.declared.refusals.LinesRefusal.TheVariants.{NotHeld, Line, Memory}

-- The player made its move, if it was its turn, and these are the moves before and after.
pub record Answers (answer : Board → Option Answer) (old new : Play)
    (before after : List (List ℕ)) : Type 0 where
  pub plies : List Ply
  pub led : LeadTo answer old plies new
  pub own : said_lines plies ≡ []
  pub turn : (here new).to_move ≡ other new.side
  pub made : after ≡ before ++ own_moves plies

-- how a move is refused that means no legal one, on the nth line, where the play stands at p
abbrev pub IsUnheard : ℕ → Board → ResolveRefusal → LinesRefusal → Type 0
IsUnheard n p meant.Illegal r = r ≡ Line n p fault.Illegal
IsUnheard n p (meant.Ambiguous one another) r = r ≡ Line n p fault.Ambiguous
IsUnheard n p (meant.Memory error) r = r ≡ Memory error

-- why the nth line is refused where the play stands at p: for a fault of its own, or memory ran out
abbrev pub IsLineRefusal : ℕ → Board → List ℕ → LinesRefusal → Type 0
IsLineRefusal n p line (NotHeld side) = ⊥
IsLineRefusal n p line (Line m q fault) = (m ≡ n) × ((q ≡ p) × IsLineFault p line fault)
IsLineRefusal n p line (Memory error) = Unit {0}
