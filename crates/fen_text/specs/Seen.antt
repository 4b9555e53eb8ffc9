-- What the code keeps, as the grammar sees it.
use Rattle.std.specs.Prelude.{◌≡◌, ℕ, List, ◌++◌, Result, Ok, Err}
use Rattle.draughts_board.specs.declared.pieces.Side.{Side}
use Rattle.fen_text.specs.declared.fault.Fault.{Fault}
use Rattle.fen_text.specs.declared.group.Group.{Group as Kept}
use Rattle.fen_text.specs.declared.setup.Setup.{Setup}
use Rattle.fen_text.specs.Spelled.{Group}
use Rattle.fen_text.specs.Setup.{HoldsGroups}

abbrev pub group_seen : Kept → Group
group_seen g = record { side = g.side; king = g.king; first = g.first; last = g.last }

-- the groups are named behind those that the setup held
abbrev pub Adds : Setup → Setup → List Group → Type 0
Adds old new more =
    (groups : List Group) → HoldsGroups old.cells old.twice groups
    → HoldsGroups new.cells new.twice (groups ++ more)

-- a list was read: these groups were added, and these bytes are behind it
abbrev pub GivesGroups : {B : Type 0} → (B → List ℕ) → Setup → Setup → Result B Fault
    → Result (List Group × List ℕ) Fault → Type 0
GivesGroups view old new (Ok behind) read =
    (groups : List Group) × (read ≡ Ok (groups, view behind)) × Adds old new groups
GivesGroups view old new (Err f) read = read ≡ Err f

-- a text was read: this side is to move, and the setup holds these groups
abbrev pub GivesSetup : Result (Side × Setup) Fault → Result (Side × List Group) Fault → Type 0
GivesSetup (Ok found) read =
    (groups : List Group) × (read ≡ Ok (found.0, groups))
    × HoldsGroups found.1.cells found.1.twice groups
GivesSetup (Err f) read = read ≡ Err f
