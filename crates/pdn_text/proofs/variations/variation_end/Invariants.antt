use Rattle.std.proofs.Common.{◌≡◌, ◌≤◌, ◌<◌, drop, length, None, IfSome}
use Rattle.pdn_text.specs.Scans.{variation_end}
use Rattle.pdn_text.proofs.variations.variation_end.Given as goal

-- the rest, from here on, decides as the whole does
abbrev pub invariant-loop-i : goal.invariant-loop-i
invariant-loop-i l = record {
  same : variation_end l.depth l.comment l.i (drop l.i l.rest) ≡ variation_end 0 None 0 l.rest;
  few : l.depth ≤ l.i;
  inside : IfSome l.comment (λ place. place < length l.rest);
}
