-- What written squares mean.
use Rattle.std.proofs.Common.{◌≡◌, ◌∙◌, ℕ, ◌-◌, ◌≤◌, nat_eq, true, false, List, [], ◌∷◌, ◌++◌, length, take, Ok, refl, sym, ap, subst, arith, length-append}
use Rattle.std.specs.Prelude.{filter, Contains, IfOk}
use Rattle.std.specs.Cmp.Lexicographic.{pointwise_decides}
use Rattle.std.proofs.Math.Seq.{take-append_seam}
use Rattle.std.proofs.lemmas.Bool.{eqb-true}
use Rattle.std.proofs.lemmas.Bool.Decides.{Decides-eqb}
use Rattle.std.proofs.lemmas.List.Elements.{All-contains, filter_passes}
use Rattle.draughts_board.specs.Board.{Board}
use Rattle.draughts_board.specs.Play.{legal_paths}
use Rattle.draughts_board.specs.Resolution.{is_written, matches, meaning}
use Rattle.draughts_board.specs.Rules.{last_square}
use Rattle.draughts_board.proofs.Written.{meaning-among}
use Rattle.pdn_openings.specs.Playing.{meaning_of, squares_between}
use Rattle.strict_games.specs.Drafts.{unplaced}

pub none_between : (middle : List ℕ) → true ≡ nat_eq (length middle) 0 → middle ≡ []
none_between [] e = refl
none_between (x ∷ middle) e = absurd (omega (arith, eqb-true (length (x ∷ middle)) 0 (sym e)))

pub some_between : (middle : List ℕ) → false ≡ nat_eq (length middle) 0 → 1 ≤ length middle
some_between [] e = cc
some_between (x ∷ middle) e = omega arith

-- two squares
pub direct_means : (p : Board) (from to : ℕ) → meaning_of p (unplaced (from ∷ to ∷ [])) ≡ meaning p (matches p from [] to)
unfolding meaning_of
direct_means p from to = refl

-- a match with squares between has just these
match-all : (p : Board) (from x : ℕ) (middle : List ℕ) (to : ℕ) (path : List ℕ) → Contains (matches p from (x ∷ middle) to) path → path ≡ from ∷ (x ∷ middle) ++ to ∷ []
unfolding matches
match-all p from x middle to path among =
    let passes = All-contains (λ a. is_written from (x ∷ middle) to a ≡ true) (filter (is_written from (x ∷ middle) to) (legal_paths p)) path (filter_passes (is_written from (x ∷ middle) to) (legal_paths p)) among in
    (pointwise_decides Decides-eqb path (from ∷ (x ∷ middle) ++ to ∷ [])).0 passes

meant-all : (p : Board) (from x : ℕ) (middle : List ℕ) (to : ℕ) (path : List ℕ) → meaning p (matches p from (x ∷ middle) to) ≡ Ok path → path ≡ from ∷ (x ∷ middle) ++ to ∷ []
meant-all p from x middle to path means =
    let among = meaning-among p (matches p from (x ∷ middle) to) (λ a. a ≡ from ∷ (x ∷ middle) ++ to ∷ []) (match-all p from x middle to) in
    subst (λ r. IfOk r (λ a. a ≡ from ∷ (x ∷ middle) ++ to ∷ [])) means among

last-seam : (xs : List ℕ) (z : ℕ) → last_square (xs ++ z ∷ []) ≡ z
last-seam [] z = refl
last-seam (x ∷ []) z = refl
last-seam (x ∷ y ∷ xs) z = last-seam (y ∷ xs) z

between-seam : (from : ℕ) (middle : List ℕ) (to : ℕ) → squares_between (from ∷ middle ++ to ∷ []) ≡ middle
between-seam from middle to =
    let n : length (from ∷ middle ++ to ∷ []) - 1 - 1 ≡ length middle = omega (arith, length-append middle (to ∷ [])) in
    ap (λ k. take k (middle ++ to ∷ [])) n ∙ take-append_seam middle (to ∷ [])

spelled-out : (p : Board) (from : ℕ) (middle : List ℕ) (to : ℕ) → meaning_of p (unplaced (from ∷ middle ++ to ∷ [])) ≡ meaning p (matches p from middle to)
unfolding meaning_of
spelled-out p from middle to =
    let l = last-seam (from ∷ middle) to in
    let b = between-seam from middle to in
    λ i. meaning p (matches p from (b i) (l i))

-- all squares of a path that is meant by its ends and the squares between mean that path
pub whole_means : (p : Board) (from : ℕ) (middle : List ℕ) (to : ℕ) (path : List ℕ) → 1 ≤ length middle → meaning p (matches p from middle to) ≡ Ok path
    → meaning_of p (unplaced path) ≡ Ok path
whole_means p from [] to path some means = absurd (omega arith)
whole_means p from (x ∷ middle) to path some means =
    ap (λ s. meaning_of p (unplaced s)) (meant-all p from x middle to path means) ∙ spelled-out p from (x ∷ middle) to ∙ means
