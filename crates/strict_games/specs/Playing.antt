-- A move that a draft plays.
use Rattle.std.specs.Prelude.{◌≡◌, ◌⊎◌, ℕ, true, List, [], ◌∷◌, ◌++◌, Ok}
use Rattle.draughts_board.specs.Board.{Board, cell_at}
use Rattle.draughts_board.specs.Geometry.{are_jump_apart, are_near}
use Rattle.draughts_board.specs.declared.pieces.Cell.TheVariants.{Man}
use Rattle.draughts_board.specs.declared.pieces.Side.{Side}
use Rattle.draughts_board.specs.Resolution.{matches, meaning}
use Rattle.draughts_board.specs.Rules.{after}
use Rattle.pdn_openings.specs.Playing.{meaning_of}
use Rattle.strict_games.specs.Drafts.{Drafted, unplaced}

-- The squares are near, or a man stands on the first and they are a jump apart. Then the path of these two squares is the one
-- that a piece may go between them.
abbrev pub IsDirect : Board → ℕ → ℕ → Type 0
IsDirect p x z =
    (are_near x z ≡ true)
    ⊎ ((side : Side) × ((cell_at p x ≡ Man side) × (are_jump_apart x z ≡ true)))

-- What is written means a legal path, which leads where the path that is played leads.
abbrev pub LeadsAs : Board → List ℕ → List ℕ → Type 0
LeadsAs p written played =
    (path : List ℕ) × ((meaning_of p (unplaced written) ≡ Ok path) × (after p path ≡ after p played))

-- The game goes on by the legal path that is written with these ends and these squares in between,
-- and has one move more.
pub record Plays (start : ℕ) (middle : List ℕ) (end : ℕ) (old new : Drafted) : Type 0 where
  pub path : List ℕ
  pub means : meaning old.here (matches old.here start middle end) ≡ Ok path
  pub leads : new.here ≡ after old.here path
  pub written : List ℕ
  pub one_more : new.moves ≡ old.moves ++ written ∷ []
  pub same_tags : new.tags ≡ old.tags
  pub same_set_up : new.set_up ≡ old.set_up

-- The same of a move that is written with these squares.
pub record PlaysWritten (squares : List ℕ) (old new : Drafted) : Type 0 where
  pub path : List ℕ
  pub means : meaning_of old.here (unplaced squares) ≡ Ok path
  pub leads : new.here ≡ after old.here path
  pub written : List ℕ
  pub one_more : new.moves ≡ old.moves ++ written ∷ []
  pub same_tags : new.tags ≡ old.tags
  pub same_set_up : new.set_up ≡ old.set_up
