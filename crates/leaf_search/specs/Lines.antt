-- What a depth-first search for a hold does to its part, and what it means that it finds none.
use Rattle.std.specs.Prelude.{◌≡◌, ℕ, List, ◌++◌, ◌∷◌, All, Option}
use Rattle.draughts_board.specs.Board.{Board}
use Rattle.draughts_board.specs.Rules.{after}
use Rattle.draughts_board.specs.Game.{ShowsHold}
use Rattle.draughts_board.specs.Draughts.{draughts}
use Rattle.strategy_certificate.specs.declared.oracle.Answer.{Answer}
use Rattle.strategy_certificate.specs.Parts.{HoldList, HasEntry}
use Rattle.strategy_certificate.specs.Certificates.{IsGoodHoldEntry}

-- The later part has further entries, which are all good in it. Those that were there may still wait for theirs.
pub record Continues (answer : Board → Option Answer) (old new : HoldList) : Type 0 where
  pub side : new.side ≡ old.side
  pub added : List (Board × Option (List ℕ))
  pub entries : new.entries ≡ old.entries ++ added
  pub good : All (λ row. IsGoodHoldEntry new answer row.0 row.1) added

-- the later part begins with the entries of the earlier
pub record KeepsEntries (old new : HoldList) : Type 0 where
  pub side : new.side ≡ old.side
  pub added : List (Board × Option (List ℕ))
  pub entries : new.entries ≡ old.entries ++ added

-- Looking so far ahead shows no hold of the position, whatever path of positions with entries led to it.
abbrev pub HoldFails : ℕ → ℕ → HoldList → Board → Type 0
HoldFails k depth part p =
    (path : List Board) → All (HasEntry part.entries) path → ShowsHold draughts k part.side depth path p → ⊥

-- the same of the position after a move, on a path that goes through the position before it
abbrev pub MoveFails : ℕ → ℕ → HoldList → Board → List ℕ → Type 0
MoveFails k depth part p move =
    (path : List Board) → All (HasEntry part.entries) path → ShowsHold draughts k part.side depth (p ∷ path) (after p move) → ⊥
