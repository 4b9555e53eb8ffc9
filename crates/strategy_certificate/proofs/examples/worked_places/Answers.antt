use Rattle.std.proofs.Common.{◌≡◌, Option, Some, None, refl, ap}
use Rattle.draughts_board.specs.Board.{Board}
use Rattle.draughts_board.specs.declared.pieces.Side.{Side}
use Rattle.draughts_board.specs.declared.pieces.Side.TheVariants.{Black, White}
use Rattle.draughts_board.specs.Examples.{man_blocked}
use Rattle.strategy_certificate.specs.declared.entries.WinEntry.{WinEntry}
use Rattle.strategy_certificate.specs.Examples.{with_rank}
use Rattle.strategy_certificate.proofs.examples.worked_places.Goals as goal

mover_of : Option (Board × WinEntry) → Side
mover_of None = Black
mover_of (Some row) = row.0.to_move

not_black : White ≡ Black → ⊥
not_black h = cc

nothing_there : (e : WinEntry) → ◌≡◌ {A = Option (Board × WinEntry)} None (Some (man_blocked, e)) → ⊥
nothing_there e h = cc

pub returns : goal.returns
unfolding mover_of
returns c = record {
  first = (with_rank 1 _, refl);
  second = (with_rank 0 None, refl);
  not_first = λ at. not_black (ap mover_of at.1);
  past = λ at. nothing_there at.0 at.1;
}
