-- Worked examples, one a field, each proved by computation.
use Rattle.std.specs.Prelude.{codes}
use Rattle.shared_words.specs.Bytes.{line_end, Lacks}
use Rattle.shared_words.specs.Counts.{last_count, Rose}

pub record WorkedWords : Type 0 where
  -- No line ends in `root 1`; one does in its line.
  pub bare : Lacks line_end (codes "root 1")
  pub ended : ¬ Lacks line_end (codes "root 1\n")
  -- A count rises from 3 to 4 and to 9, not from 3 to 3; at its last value it stays.
  pub by_one : Rose 3 4
  pub by_more : Rose 3 9
  pub not_at_all : ¬ Rose 3 3
  pub at_the_last : Rose last_count last_count
