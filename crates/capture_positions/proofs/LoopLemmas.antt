-- The positions that are kept after a number of steps.
use Rattle.std.proofs.Common.{◌≡◌, ℕ, ◌+◌, ◌<◌, ◌≤◌, Bool, true, false, cond, ◌||◌, List, [], ◌∷◌, ◌++◌, length, take, refl, ap, sym, ◌∙◌, subst, append-nil, inl, inr, arith}
use Rattle.std.proofs.Math.Seq.{take-append_seam}
use Rattle.std.specs.Cmp.{both_ways}
use Rattle.std.proofs.lemmas.Bool.{cases_lt}
use Rattle.std.specs.List.{list_any}
use Rattle.indexmap.specs.IndexSet.{insert_key}
use Rattle.draughts_board.specs.Board.{Board, same_board}
use Rattle.draughts_board.specs.Same.{same_board-Decides}
use Rattle.draughts_board.specs.Rules.{first_places}
use Rattle.draughts_board.proofs.FirstPlaces.{first_places-push}
use Rattle.capture_positions.specs.Walk.{index_of_step, numbered_position, walk, openings_from}
use Rattle.capture_positions.proofs.WalkLemmas.{walk-begins, walk-more}
use Rattle.capture_positions.proofs.CountLemmas.{enough}

either_way : (p q : Board) → same_board p q ≡ same_board q p
either_way p q = both_ways (same_board p q) (same_board q p)
    (λ e. (same_board-Decides q p).1 (sym ((same_board-Decides p q).0 e)))
    (λ e. (same_board-Decides p q).1 (sym ((same_board-Decides q p).0 e)))

any-either_way : (p : Board) (kept : List Board) → list_any (same_board p) kept ≡ list_any (λ q. same_board q p) kept
any-either_way p [] = refl
any-either_way p (q ∷ kept) = ap (λ b. b || list_any (same_board p) kept) (either_way p q) ∙ ap (λ b. same_board q p || b) (any-either_way p kept)

kept_or_more : (there : Bool) (kept : List Board) (p : Board) → cond there kept (kept ++ p ∷ []) ≡ kept ++ cond there [] (p ∷ [])
kept_or_more true kept p = sym (append-nil kept)
kept_or_more false kept p = refl

-- one step more
pub kept-more : (seed n : ℕ) (before now : List Board) → before ≡ first_places (walk seed n) → now ≡ insert_key same_board before (numbered_position (index_of_step seed n)) → now ≡ first_places (walk seed (n + 1))
kept-more seed n before now kept more =
    let p = numbered_position (index_of_step seed n) in
    more
    ∙ ap (λ b. cond b before (before ++ p ∷ [])) (any-either_way p before)
    ∙ kept_or_more (list_any (λ q. same_board q p) before) before p
    ∙ ap (λ ps. ps ++ cond (list_any (λ q. same_board q p) ps) [] (p ∷ [])) kept
    ∙ sym (first_places-push (walk seed n) p)
    ∙ ap first_places (sym (walk-more seed n))

too_many : (all kept count : ℕ) → 2000 ≤ all → kept ≡ all → count ≤ 2000 → kept < count → ⊥
too_many all kept count many long most due = omega (arith, many, long, most, due)

-- the last step is not made where a position is still due
pub not_last : (seed n count : ℕ) (kept : List Board) → kept ≡ first_places (walk seed n) → n ≤ 4176 → count ≤ 2000 → length kept < count → n < 4176
not_last seed n count kept met l most due = elim (cases_lt n 4176) [
  | inl less ↦ less
  | inr more ↦ (
      let last : n ≡ 4176 = omega (arith, l, more) in
      let many : 2000 ≤ length (first_places (walk seed n)) = subst (λ m. 2000 ≤ length (first_places (walk seed m))) (sym last) (enough seed) in
      let long = ap length met in
      absurd (too_many _ _ _ many long most due)
      )
]

-- one position more at most
pub one_more : (there : Bool) (before now count : ℕ) → now ≡ before + cond there 1 0 → before < count → now ≤ count
one_more true before now count more due = omega (arith, more, due)
one_more false before now count more due = omega (arith, more, due)

-- as many as are due are the openings
pub kept-all : (seed n count : ℕ) (kept : List Board) → kept ≡ first_places (walk seed n) → n ≤ 4176 → length kept ≡ count → kept ≡ openings_from seed count
kept-all seed n count kept met l whole =
    let r = walk-begins seed n l in
    met
    ∙ sym (take-append_seam (first_places (walk seed n)) r.rest)
    ∙ ap (λ m. take m (first_places (walk seed n) ++ r.rest)) (ap length (sym met) ∙ whole)
    ∙ ap (take count) (sym r.split)
