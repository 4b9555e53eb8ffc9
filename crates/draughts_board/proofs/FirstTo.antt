-- The first of some paths that leads to a position, and whether the list of the legal paths is empty.
use Rattle.std.proofs.Common.{◌≡◌, ◌≢◌, ℕ, Bool, true, false, cond, not, List, [], ◌∷◌, refl, sym, ◌∙◌, ap, inl, inr}
use Rattle.std.specs.Prelude.{Option, Some, None, IfSome, IsNone, Contains, ◌↔◌, IsTrue}
use Rattle.std.proofs.lemmas.Bool.{true≢false}
use Rattle.draughts_board.specs.Board.{Board, IsLawful, same_board}
use Rattle.draughts_board.specs.Same.{same_board-Decides}
use Rattle.draughts_board.specs.Rules.{IsLegal, AreLegalPaths, after}
use Rattle.draughts_board.specs.Play.{is_nil, legal_paths, first_to}
use Rattle.draughts_board.proofs.Members.{Contains-nil, Contains-head, Contains-tail, Contains-cons_cases}
use Rattle.draughts_board.proofs.Legal.{legal_paths_are_legal}

-- what is found among the paths leads there
pub first_to-leads : (p next : Board) (paths : List (List ℕ)) → IfSome (first_to p next paths) (λ path. Contains paths path × (after p path ≡ next))
first_to-leads p next [] = tt
first_to-leads p next (x ∷ paths) = by (same_board (after p x) next) refl (first_to-leads p next paths)
  where
    later : (found : Option (List ℕ)) → IfSome found (λ path. Contains paths path × (after p path ≡ next)) → IfSome found (λ path. Contains (x ∷ paths) path × (after p path ≡ next))
    later None h = tt
    later (Some path) h = (Contains-tail x path paths h.0, h.1)

    by : (b : Bool) → same_board (after p x) next ≡ b → IfSome (first_to p next paths) (λ path. Contains paths path × (after p path ≡ next)) → IfSome (cond b (Some x) (first_to p next paths)) (λ path. Contains (x ∷ paths) path × (after p path ≡ next))
    by true e rest = (Contains-head x paths, (same_board-Decides (after p x) next).0 e)
    by false e rest = later (first_to p next paths) rest

-- nothing is found exactly where none of the paths leads there
pub first_to-none : (p next : Board) (paths : List (List ℕ)) → IsNone (first_to p next paths) ↔ ((path : List ℕ) → Contains paths path → after p path ≢ next)
first_to-none p next [] = (λ n path h. absurd (Contains-nil path h), λ h. refl)
first_to-none p next (x ∷ paths) = by (same_board (after p x) next) refl (first_to-none p next paths)
  where
    by : (b : Bool) → same_board (after p x) next ≡ b → IsNone (first_to p next paths) ↔ ((path : List ℕ) → Contains paths path → after p path ≢ next)
        → IsNone (cond b (Some x) (first_to p next paths)) ↔ ((path : List ℕ) → Contains (x ∷ paths) path → after p path ≢ next)
    by true e rest = (λ n. absurd (let k : IsNone (Some x) = n in cc), λ h. absurd (h x (Contains-head x paths) ((same_board-Decides (after p x) next).0 e)))
    by false e rest = (
      λ n path h. elim (Contains-cons_cases x paths path h) [
        | inl same ↦ (λ leads. true≢false (sym ((same_board-Decides (after p x) next).1 (ap (after p) same ∙ leads)) ∙ e))
        | inr t ↦ rest.0 n path t
      ],
      λ h. rest.1 (λ path k. h path (Contains-tail x path paths k)),
    )

-- the same of the legal paths
pub first_to-legal : (p next : Board) (paths : List (List ℕ)) → AreLegalPaths p paths → IfSome (first_to p next paths) (λ path. IsLegal p path × (after p path ≡ next))
first_to-legal p next paths legal = by (first_to p next paths) (first_to-leads p next paths)
  where
    by : (found : Option (List ℕ)) → IfSome found (λ path. Contains paths path × (after p path ≡ next)) → IfSome found (λ path. IsLegal p path × (after p path ≡ next))
    by None h = tt
    by (Some path) h = (legal.sound path h.0, h.1)

pub first_to-no_legal : (p next : Board) (paths : List (List ℕ)) → AreLegalPaths p paths → IsNone (first_to p next paths) ↔ ((path : List ℕ) → IsLegal p path → after p path ≢ next)
first_to-no_legal p next paths legal =
    let none = first_to-none p next paths in
    (λ n path l. none.0 n path (legal.complete path l), λ h. none.1 (λ path k. h path (legal.sound path k)))

-- a test that tells whether there is a legal path tells whether the list of them is empty
listed_by : (p : Board) (paths : List (List ℕ)) (b : Bool) → AreLegalPaths p paths → IsTrue b ↔ ((path : List ℕ) × IsLegal p path) → b ≡ not (is_nil paths)
listed_by p [] true legal tells = let r = tells.0 refl in absurd (Contains-nil r.0 (legal.complete r.0 r.1))
listed_by p [] false legal tells = refl
listed_by p (x ∷ paths) b legal tells = tells.1 (x, legal.sound x (Contains-head x paths))

pub some_listed : (p : Board) (b : Bool) → IsLawful p → IsTrue b ↔ ((path : List ℕ) × IsLegal p path) → b ≡ not (is_nil (legal_paths p))
some_listed p b lawful tells = listed_by p (legal_paths p) b (legal_paths_are_legal p lawful) tells
