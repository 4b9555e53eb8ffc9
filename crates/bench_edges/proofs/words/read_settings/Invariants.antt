use Rattle.std.proofs.Common.{◌≡◌, List, length, ◌-◌}
use Rattle.bench_edges.specs.Words.{Setting, texts}
use Rattle.bench_edges.proofs.Settings.{ArePlaced}
use Rattle.bench_edges.proofs.SolveWords.{IsReadTo}
use Rattle.bench_edges.proofs.words.read_settings.Given as goal

abbrev pub invariant-loop-at : goal.invariant-loop-at
invariant-loop-at l = record {
  size : length l.numbers ≡ 6;
  given : List Setting;
  read : IsReadTo (texts l.words) l.at given;
  placed : ArePlaced l.numbers given;
}

abbrev pub decreases-loop-at : goal.decreases-loop-at
decreases-loop-at l = length l.words - l.at
