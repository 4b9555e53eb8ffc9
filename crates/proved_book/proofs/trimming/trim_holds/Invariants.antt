use Rattle.std.proofs.Common.{◌≡◌, take}
use Rattle.proved_book.proofs.Gathering.{AreAt}
use Rattle.proved_book.proofs.trimming.trim_holds.Given as goal

abbrev pub invariant-loop-place : goal.invariant-loop-place
invariant-loop-place l = record {
  side : l.kept.side ≡ l.part.side;
  entries : AreAt l.part.entries (take l.place-index l.place-items) l.kept.entries;
}
