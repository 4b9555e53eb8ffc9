use Rattle.std.proofs.Common.{◌≡◌, ℕ, ◌<◌, List, [], ◌∷◌, false, length, refl, arith}
use Rattle.draughts_board.specs.Rules.{contains, jumped}
use Rattle.draughts_rules.proofs.jumps.+has_jumped.Goals as goal

jumped-short : (path : List ℕ) (y : ℕ) → length path < 2 → false ≡ contains (jumped path) y
jumped-short [] y h = refl
jumped-short (x ∷ []) y h = refl
jumped-short (x ∷ z ∷ rest) y h = absurd (omega arith)

pub returns-in_default : goal.returns-in_default
returns-in_default t c = jumped-short c.args.path.now _ c.in_default.len_below
