use Rattle.std.proofs.Common.{◌≡◌, ℕ, suc, ◌+◌, ◌-◌, ◌<◌, ◌≤◌, List, [], ◌∷◌, ◌++◌, length, get_or, take, replicate, set, subst, ap, sym, ◌∙◌, append_assoc, arith, length-take}
use Rattle.std.proofs.Math.Seq.{set-append_seam}
use Rattle.std.proofs.lemmas.List.{take_more, get_or_read}
use Rattle.std.proofs.lemmas.List.Elements.{All-more}
use Rattle.draughts_board.specs.Geometry.{IsSquare}
use Rattle.draughts_board.proofs.squares.Square.padded.Goals as goal

-- a write at the end of what is filled moves the padding on by one
padded_step : (path squares : List ℕ) (i x : ℕ) → i < length path → length path ≤ 13 → get_or path i 1 ≡ x → squares ≡ take i path ++ replicate (13 - i) 1 → set squares i x ≡ take (i + 1) path ++ replicate (13 - (i + 1)) 1
padded_step path squares i x within most at_i filled =
    let pad : List ℕ = replicate (13 - (i + 1)) 1 in
    let one_less : 13 - i ≡ suc (13 - (i + 1)) = omega arith in
    let here : length (take i path) ≡ i = omega (arith, length-take i path) in
    let written : set (take i path ++ 1 ∷ pad) i x ≡ take i path ++ x ∷ pad = subst (λ k. set (take i path ++ 1 ∷ pad) k x ≡ take i path ++ x ∷ pad) here (set-append_seam (take i path) 1 pad x) in
    ap (λ s. set s i x) (filled ∙ ap (λ n. take i path ++ replicate n 1) one_less) ∙ written ∙ sym (append_assoc (take i path) (x ∷ []) pad) ∙ sym (ap (λ p. p ++ pad) (take_more path i 1 within ∙ ap (λ y. take i path ++ y ∷ []) at_i))

pub loop-i-preserved : goal.loop-i-preserved
loop-i-preserved c =
    let path = c.args.path.now in
    let i = c.loop-i.i in
    let within : i < length path = omega arith in
    let at_i : get_or path i 1 ≡ c.square.inside.number = sym (get_or_read path i _ within c.index-path-i.is 1) ∙ sym c.square.view_is in
    (padded_step path _ i _ within (omega arith) at_i c.loop-i.invariant.0, All-more IsSquare path i 1 within c.loop-i.invariant.1 (rw at_i c.square.invariant))
