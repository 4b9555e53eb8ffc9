-- What the cells of a board add up to, and its index from that.
use Rattle.std.proofs.Common.{◌≡◌, ℕ, ◌+◌, ◌-◌, ◌*◌, ◌^◌, ◌<◌, ◌≤◌, List, length, sym, ap, ap₂, subst, subst₂, ◌∙◌, arith}
use Rattle.draughts_board.specs.declared.pieces.Cell.{Cell}
use Rattle.draughts_board.specs.Board.{Board, IsLawful, piece_count}
use Rattle.table_index.specs.Counting.{choose}
use Rattle.table_index.specs.Order.{first_index, side_number, index_of}
use Rattle.table_index.proofs.OrderLemmas.{count-held, has_index}
use Rattle.table_index.proofs.CellsFrom.{held, later, digits, digits-lt, placed, length-from, length-stood}

-- the numbers are those of these cells
pub record IsTally (cells : List Cell) (a b k : ℕ) : Type 0 where
  pub count : a ≡ held cells
  pub behind : b ≡ later cells
  pub kinds : k ≡ digits cells

pub later-lt : (cells : List Cell) → later cells < choose (held cells) (length cells)
later-lt cells =
    let is = placed 1 cells in
    let whole = is.whole ∙ ap₂ choose (length-stood 1 cells) (length-from 1 (length cells)) in
    omega arith

pub record IsWhole (p : Board) (a b k : ℕ) : Type 0 where
  pub count : a ≡ piece_count p
  pub few : a ≤ 3
  pub choice : b + 1 ≤ choose a 32
  pub kinds : k < 4 ^ a
  pub index : first_index a + ((choose a 32 - 1 - b) * 4 ^ a + k) * 2 + side_number p.to_move ≡ index_of p

pub tally-end : (p : Board) (a b k : ℕ) → IsLawful p → piece_count p ≤ 3 → IsTally p.cells a b k → IsWhole p a b k
tally-end p a b k lawful few tally =
    let count = count-held p in
    let less = subst (λ m. later p.cells < choose (held p.cells) m) lawful.squares (later-lt p.cells) in
    let is = has_index p lawful.squares in
    let whole = is.whole in
    let behind = tally.behind in
    let choices : choose a 32 ≡ choose (held p.cells) 32 = ap (λ n. choose n 32) tally.count in
    let place : choose a 32 - 1 - b ≡ is.place = omega arith in
    record {
      count = tally.count ∙ sym count;
      few = omega (arith, tally.count);
      choice = omega arith;
      kinds = subst₂ (λ x n. x < 4 ^ n) (sym tally.kinds) (sym tally.count) (digits-lt p.cells);
      index = ap₂ (λ n x. first_index n + ((choose a 32 - 1 - b) * 4 ^ n + x) * 2 + side_number p.to_move) tally.count tally.kinds
          ∙ ap (λ x. first_index (held p.cells) + (x * 4 ^ held p.cells + digits p.cells) * 2 + side_number p.to_move) place ∙ sym is.index;
    }
