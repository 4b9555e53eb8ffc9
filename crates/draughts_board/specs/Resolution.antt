-- Which move a written one means.
use Rattle.std.specs.Prelude.{ℕ, ◌-◌, ◌==◌, ◌&&◌, ◌||◌, Bool, true, false, not, List, [], ◌∷◌, ◌++◌, length, take, drop, filter, Option, Some, None, Result, Ok, Err}
use Rattle.std.specs.Cmp.Lexicographic.{pointwise}
use Rattle.draughts_board.specs.Board.{Board, same_board}
use Rattle.draughts_board.specs.Rules.{first_square, last_square, after}
use Rattle.draughts_board.specs.Play.{legal_paths}
use Rattle.draughts_board.specs.declared.resolution.ResolveRefusal.{ResolveRefusal}
use Rattle.draughts_board.specs.declared.resolution.ResolveRefusal.TheVariants.{Illegal, Ambiguous, Memory}

-- The path is written with these ends and these squares in between. With none in between, any path
-- with these ends is.
abbrev pub is_written : ℕ → List ℕ → ℕ → List ℕ → Bool
is_written start [] end path = first_square path == start && last_square path == end
is_written start (x ∷ middle) end path = pointwise ◌==◌ path (start ∷ (x ∷ middle) ++ end ∷ [])

-- the same as a test of a path of two squares or more, beside that of its ends
abbrev pub lies_between : List ℕ → List ℕ → Bool
lies_between path middle =
    length middle == 0 || pointwise ◌==◌ (take (length path - 1 - 1) (drop 1 path)) middle

-- the legal paths that are written so, in rising order
unfoldable pub matches : Board → ℕ → List ℕ → ℕ → List (List ℕ)
matches p start middle end = filter (is_written start middle end) (legal_paths p)

-- the paths that lead elsewhere than to q
abbrev pub elsewhere : Board → Board → List (List ℕ) → List (List ℕ)
elsewhere p q paths = filter (λ path. not (same_board (after p path) q)) paths

abbrev pub first_of : List (List ℕ) → Option (List ℕ)
first_of [] = None
first_of (path ∷ paths) = Some path

-- the first path, unless another one leads elsewhere
abbrev pub meaning_beside : List ℕ → Option (List ℕ) → Result (List ℕ) ResolveRefusal
meaning_beside a None = Ok a
meaning_beside a (Some b) = Err (Ambiguous a b)

-- What these paths together mean: illegal, if there is none; the first one, if all lead to one
-- position; else it is ambiguous between the first and the first of those that lead elsewhere.
abbrev pub meaning : Board → List (List ℕ) → Result (List ℕ) ResolveRefusal
meaning p [] = Err Illegal
meaning p (a ∷ paths) = meaning_beside a (first_of (elsewhere p (after p a) paths))

-- the refusal says nothing of the moves: memory ran out
abbrev pub resolve_wants_memory : ResolveRefusal → Bool
resolve_wants_memory (Memory e) = true
resolve_wants_memory other = false
