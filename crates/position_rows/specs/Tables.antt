-- What rows keep beside their index.
use Rattle.std.specs.Prelude.{◌≡◌, ℕ, ◌+◌, ◌-◌, ◌^◌, ◌<◌, List, [], length, min, vec_capacity}
use Rattle.draughts_board.specs.Board.{Board}
use Rattle.position_rows.specs.declared.tables.Index.{Index}
use Rattle.position_rows.specs.Looks.{AreIndexed}

-- each row is found, and no number of a row or a node that there is room for exceeds 4 bytes
pub record IsIndexOf {E : Type 0} (rows : List (Board × E)) (index : Index) : Type 0 where
  pub indexed : AreIndexed rows index.slots.items index.nodes.items
  pub long : length index.slots.items < 8 → (rows ≡ []) × (index.room ≡ 0)
  pub rows_few : length rows + index.room < 2 ^ 32 - 1
  pub nodes_few : length index.nodes.items + index.room < 2 ^ 32 - 1

-- how many more rows may be entered without new memory
abbrev pub spare_of : Index → ℕ
spare_of index = min (vec_capacity index.nodes - length index.nodes.items) index.room
