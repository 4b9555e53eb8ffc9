use Rattle.std.proofs.Common.{◌≡◌, true, take, length}
use Rattle.std.specs.List.{list_all}
use Rattle.archive_words.specs.Runs.{is_square}
use Rattle.archive_words.proofs.runs.path_of.Given as goal

-- the squares so far are the numbers so far
abbrev pub invariant-loop-place : goal.invariant-loop-place
invariant-loop-place l = record {
  same : take l.place l.squares ≡ take l.place l.numbers;
  full : length l.squares ≡ 13;
  all : list_all is_square (take l.place l.numbers) ≡ true;
}
