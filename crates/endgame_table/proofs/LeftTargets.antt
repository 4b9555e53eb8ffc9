-- What is left to touch in a loop over targets.
use Rattle.std.proofs.Common.{◌≡◌, ℕ, suc, ◌+◌, ◌<◌, ◌≤◌, List, [], ◌++◌, length, drop, sym, ◌∙◌, ap, arith}
use Rattle.std.specs.Prelude.{flat_map, slice_index}
use Rattle.std.proofs.Math.Seq.{drop-cons}
use Rattle.std.proofs.lemmas.List.{drop_all}
use Rattle.endgame_table.specs.declared.origins.Origins.{Origins}
use Rattle.endgame_table.specs.Origins.{origins_at}

-- the touched indices of what is left begin with the origins of the target at hand
pub left_from : (o : Origins) (targets : List ℕ) (k : ℕ) (t : ℕ) → k < length targets → t ≡ slice_index targets k → flat_map (origins_at o) (drop k targets) ≡ origins_at o t ++ flat_map (origins_at o) (drop (k + 1) targets)
left_from o targets k t below is =
    let next : suc k ≡ k + 1 = omega arith in
    ap (flat_map (origins_at o)) (drop-cons targets k 0 below)
    ∙ (λ i. origins_at o (sym is i) ++ flat_map (origins_at o) (drop (next i) targets))

pub none_left : (o : Origins) (targets : List ℕ) (k : ℕ) → length targets ≤ k → flat_map (origins_at o) (drop k targets) ≡ []
none_left o targets k past = ap (flat_map (origins_at o)) (drop_all k targets past)
