use Rattle.std.proofs.Common.{◌≡◌, ◌≤◌, true, take, map, length, ◌++◌}
use Rattle.std.specs.List.{list_all}
use Rattle.draughts_board.specs.Geometry.{is_square}
use Rattle.pdn_text.specs.Words.{fields, number}
use Rattle.pdn_text.proofs.WordFields.{later}
use Rattle.pdn_text.proofs.words.path_of.Given as goal

-- the squares so far, and then those of what is left, are those of the word
abbrev pub invariant-loop-rest : goal.invariant-loop-rest
invariant-loop-rest l = record {
  parts : map number (fields l.word) ≡ take l.len l.squares ++ map number (later l.rest);
  squares : list_all is_square (take l.len l.squares) ≡ true;
  least : 1 ≤ l.len;
  most : l.len ≤ 13;
  full : length l.squares ≡ 13;
}

abbrev pub decreases-loop-rest : goal.decreases-loop-rest
decreases-loop-rest l = length l.rest
