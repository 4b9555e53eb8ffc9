-- Which paths are written so, and what they mean together.
use Rattle.std.proofs.Common.{◌≡◌, ℕ, zero, suc, ◌-◌, ◌<◌, ◌≤◌, ◌==◌, Bool, true, false, cond, ◌&&◌, ◌||◌, List, [], ◌∷◌, ◌++◌, length, get_or, take, drop, refl, sym, ◌∙◌, ap, subst, arith, inl, inr}
use Rattle.std.specs.Prelude.{filter, Option, Some, None, Result, Ok, Err, MatchResult, IfOk, Contains}
use Rattle.std.specs.Cmp.Lexicographic.{pointwise}
use Rattle.std.proofs.lemmas.Bool.{cases_Bool, eqb-true}
use Rattle.std.proofs.lemmas.List.{take_all}
use Rattle.draughts_board.specs.Board.{Board}
use Rattle.draughts_board.specs.Rules.{first_square, last_square, after}
use Rattle.draughts_board.proofs.Members.{Contains-head}
use Rattle.draughts_board.specs.declared.resolution.ResolveRefusal.{ResolveRefusal}
use Rattle.draughts_board.specs.declared.resolution.ResolveRefusal.TheVariants.{Illegal, Ambiguous, Memory}
use Rattle.draughts_board.specs.Resolution.{is_written, lies_between, elsewhere, first_of, meaning, meaning_beside, resolve_wants_memory}
use Rattle.shared_words.specs.Answers.{Unless}

-- ---- paths that are written so

and_false : (b : Bool) → (b && false) ≡ false
and_false true = refl
and_false false = refl

and_across : (a b c : Bool) → (a && (b && c)) ≡ (b && (a && c))
and_across true true c = refl
and_across true false c = refl
and_across false true c = refl
and_across false false c = refl

and_regroup : (a b c : Bool) → (a && b && c) ≡ (a && (b && c))
and_regroup true b c = refl
and_regroup false b c = refl

none-as_more : (xs : List ℕ) (e : ℕ) → pointwise ◌==◌ [] (xs ++ e ∷ []) ≡ false
none-as_more [] e = refl
none-as_more (x ∷ xs) e = refl

-- squares are these and then the end exactly where the last is the end and those before it are these
then-end : (x : ℕ) (rest middle : List ℕ) (e : ℕ) → pointwise ◌==◌ (x ∷ rest) (middle ++ e ∷ []) ≡ ((last_square (x ∷ rest) == e) && pointwise ◌==◌ (take (length rest) (x ∷ rest)) middle)
then-end x [] [] e = refl
then-end x [] (m ∷ middle) e = ap (λ b. (x == m) && b) (none-as_more middle e) ∙ and_false (x == m) ∙ sym (and_false (x == e))
then-end x (y ∷ rest) [] e = and_false (x == e) ∙ sym (and_false (last_square (y ∷ rest) == e))
then-end x (y ∷ rest) (m ∷ middle) e =
    ap (λ b. (x == m) && b) (then-end y rest middle e) ∙ and_across (x == m) (last_square (y ∷ rest) == e) (pointwise ◌==◌ (take (length rest) (y ∷ rest)) middle)

some_length : (m : ℕ) (middle : List ℕ) → (length (m ∷ middle) == 0) ≡ false
some_length m middle = elim (cases_Bool (length (m ∷ middle) == 0)) [ inl e ↦ absurd (let z = eqb-true (length (m ∷ middle)) 0 e in omega arith) | inr e ↦ e ]

-- the test says which paths are written so
pub written-test : (start : ℕ) (middle : List ℕ) (end : ℕ) (path : List ℕ) → 2 ≤ length path → (first_square path == start && last_square path == end && lies_between path middle) ≡ is_written start middle end path
written-test start middle end [] h = absurd (omega arith)
written-test start middle end (x ∷ []) h = absurd (omega arith)
written-test start [] end (x ∷ y ∷ rest) h = and_true _
  where
    and_true : (b : Bool) → (b && true) ≡ b
    and_true true = refl
    and_true false = refl
written-test start (m ∷ middle) end (x ∷ y ∷ rest) h =
    let inner : length (x ∷ y ∷ rest) - 1 - 1 ≡ length rest = omega arith in
    ap (λ b. (x == start) && (last_square (y ∷ rest) == end) && (b || pointwise ◌==◌ (take (length (x ∷ y ∷ rest) - 1 - 1) (y ∷ rest)) (m ∷ middle))) (some_length m middle) ∙
    and_regroup (x == start) (last_square (y ∷ rest) == end) (pointwise ◌==◌ (take (length (x ∷ y ∷ rest) - 1 - 1) (y ∷ rest)) (m ∷ middle))
    ∙ ap (λ n. (x == start) && ((last_square (y ∷ rest) == end) && pointwise ◌==◌ (take n (y ∷ rest)) (m ∷ middle))) inner
    ∙ ap (λ b. (x == start) && b) (sym (then-end y rest (m ∷ middle) end))

-- ---- what they mean together

-- the first that passes stands behind those that do not
pub first-found : (test : List ℕ → Bool) (paths : List (List ℕ)) (i : ℕ) (d : List ℕ) → i < length paths → filter test (take i paths) ≡ [] → test (get_or paths i d) ≡ true → first_of (filter test paths) ≡ Some (get_or paths i d)
first-found test [] i d l none pass = absurd (omega arith)
first-found test (x ∷ paths) zero d l none pass = ap (λ b. first_of (cond b (x ∷ filter test paths) (filter test paths))) pass
first-found test (x ∷ paths) (suc i) d l none pass = by (test x) none (first-found test paths i d (omega arith))
  where
    by : (b : Bool) → cond b (x ∷ filter test (take i paths)) (filter test (take i paths)) ≡ [] → (filter test (take i paths) ≡ [] → test (get_or paths i d) ≡ true → first_of (filter test paths) ≡ Some (get_or paths i d)) → first_of (cond b (x ∷ filter test paths) (filter test paths)) ≡ Some (get_or paths i d)
    by true e rest = absurd (cc)
    by false e rest = rest e pass

-- the paths behind the first, as a slice from place 1 on
abbrev pub behind_first : List (List ℕ) → List (List ℕ)
behind_first paths = take (length paths - 1) (drop 1 paths)

behind-cons : (x : List ℕ) (paths : List (List ℕ)) → behind_first (x ∷ paths) ≡ paths
behind-cons x paths = take_all (length (x ∷ paths) - 1) paths (omega arith)

-- some paths, the first apart
pub meaning-apart : (p : Board) (paths : List (List ℕ)) (a : List ℕ) → 1 ≤ length paths → a ≡ get_or paths 0 a → meaning p paths ≡ meaning_beside a (first_of (elsewhere p (after p a) (behind_first paths)))
meaning-apart p [] a h e = absurd (omega arith)
meaning-apart p (x ∷ paths) a h e =
    ap (λ y. meaning_beside y (first_of (elsewhere p (after p y) paths))) (sym e)
    ∙ ap (λ l. meaning_beside a (first_of (elsewhere p (after p a) l))) (sym (behind-cons x paths))

pub Contains-behind : (paths : List (List ℕ)) (path : List ℕ) → Contains (behind_first paths) path → Contains paths path
Contains-behind [] path h = h
Contains-behind (x ∷ paths) path h = (let k = subst (λ l. Contains l path) (behind-cons x paths) h in (suc k.0, omega (arith, k.1), k.2))

-- what the paths have, their meaning has
pub meaning-among : (p : Board) (paths : List (List ℕ)) (P : List ℕ → Type 0) → ((path : List ℕ) → Contains paths path → P path) → IfOk (meaning p paths) P
meaning-among p [] P each = tt
meaning-among p (a ∷ paths) P each = by (first_of (elsewhere p (after p a) paths))
  where
    by : (o : Option (List ℕ)) → IfOk (meaning_beside a o) P
    by None = each a (Contains-head a paths)
    by (Some b) = tt

pub unless-memory : (r : Result (List ℕ) ResolveRefusal) (P : Type 0) → P → Unless resolve_wants_memory r P
unless-memory (Ok path) P h = h
unless-memory (Err Illegal) P h = h
unless-memory (Err (Ambiguous a b)) P h = h
unless-memory (Err (Memory e)) P h = tt

-- what holds of a result's value holds of it behind a change of the error
pub behind-map_err : {A E : Type 0} (F : Type 0) (r : Result A E) (m : A) (Q : E → Type 0) (P : A → Type 0) → MatchResult r (λ x. ◌≡◌ {A = Result A F} (Ok m) (Ok x)) Q → ((e : E) → Q e → ⊥) → IfOk r P → P m
behind-map_err F (Ok x) m Q P h never k = let e : x ≡ m = cc in subst P e k
behind-map_err F (Err e) m Q P h never k = absurd (never e h)
