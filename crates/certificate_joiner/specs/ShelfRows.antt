-- How a shelf keeps its batches. Nobody has to believe it.
use Rattle.std.specs.Prelude.{◌≡◌, ℕ, suc, ◌+◌, ◌≤◌, ◌^◌, List, [], ◌∷◌, length, map, if◌then◌else◌, ◌==◌}
use Rattle.std.specs.Map.{lookup}
use Rattle.std.specs.Option.{option_map_or}
use Rattle.strategy_certificate.specs.declared.certificates.Certificate.{Certificate}
use Rattle.certificate_joiner.specs.Shelf.{Put, batches_of}

abbrev pub ShelfRow : Type 0
ShelfRow = (ℕ × ℕ) × List Certificate

abbrev pub put_of : ShelfRow → Put
put_of row = (row.0.0, row.1)

abbrev pub puts_of : List ShelfRow → List Put
puts_of rows = map put_of rows

-- what was put there, each with its place among those of its node, of which some came before
abbrev pub placed : (ℕ → ℕ) → List Put → List ShelfRow
placed before [] = []
placed before (put ∷ more) =
    ((put.0, before put.0), put.1) ∷ placed (λ n. (if put.0 == n then suc (before n) else before n)) more

-- each batch is kept under its place, and the batches of each node are counted
pub record IsShelf (rows : List ShelfRow) (counts : List (ℕ × ℕ)) (row_space count_space spare : ℕ) : Type 0 where
  pub placed : rows ≡ placed (λ n. 0) (puts_of rows)
  pub counted : (n : ℕ) → option_map_or (λ m. m) (lookup (λ m. n == m) counts) 0 ≡ length (batches_of n (puts_of rows))
  pub few : length rows + spare ≤ 2 ^ 57
  pub room : spare ≤ row_space
  pub count_room : spare ≤ count_space
