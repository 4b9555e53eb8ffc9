-- Two blanks, and those of a ply less.
use Rattle.std.proofs.Common.{◌≡◌, ◌<◌, ◌+◌, ◌-◌, ◌++◌, ◌∙◌, ℕ, suc, List, ap, arith, append_assoc, codes, refl}
use Rattle.tree_texts.specs.TreeTexts.{indent}

indent-more : (k : ℕ) → codes "  " ++ indent k ≡ indent (suc k)
unfolding indent
indent-more k = refl

pub indent-step : (old new whole : List ℕ) (depth i : ℕ) → i < depth → new ≡ old ++ codes "  " → old ++ indent (depth - i) ≡ whole → new ++ indent (depth - (i + 1)) ≡ whole
indent-step old new whole depth i less is so_far =
    let k = depth - (i + 1) in
    let e : suc k ≡ depth - i = omega (arith, less) in
    ap (λ t. t ++ indent k) is ∙ (append_assoc old (codes "  ") (indent k) ∙ (ap (λ t. old ++ t) (indent-more k) ∙ (ap (λ n. old ++ indent n) e ∙ so_far)))
