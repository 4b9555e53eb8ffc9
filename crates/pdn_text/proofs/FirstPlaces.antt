-- First places in a list.
use Rattle.std.proofs.Common.{◌&&◌, [], ◌∷◌, ◌++◌, take, drop, get_or, ◌≡◌, ℕ, ◌<◌, Bool, true, false, List, length, unwrap_or, refl, arith, not}
use Rattle.std.specs.List.{position, position_or_len, prefix_len, list_all, AllPass}
use Rattle.std.proofs.lemmas.List.{get_or-take, drop_at}
use Rattle.std.proofs.lemmas.List.Folds.{length-prefix_len}
use Rattle.std.proofs.lemmas.List.Sums.{prefix_len-le-length, prefix_len_passes, list_all-from_AllPass}
use Rattle.std.proofs.lemmas.Grind.{common_steps}

-- the first place that passes, or the end where none does
pub place_or_end : (p : ℕ → Bool) (xs : List ℕ) → unwrap_or (position p xs) (length xs) ≡ position_or_len p xs
place_or_end p xs = grind (arith, common_steps, prefix_len-le-length (λ x. not (p x)) xs)

-- tests
pub and_true : (a b : Bool) → (a && b) ≡ true → (a ≡ true) × (b ≡ true)
and_true true b e = (refl, e)
and_true false b e = cc

pub not_true : (a : Bool) → not a ≡ true → a ≡ false
not_true true e = cc
not_true false e = refl

pub not_not : (a : Bool) → not (not a) ≡ true → a ≡ true
not_not true e = refl
not_not false e = e

-- the run at the front passes
pub run_passes : (p : ℕ → Bool) (xs : List ℕ) → AllPass p (take (position_or_len (λ b. not (p b)) xs) xs)
run_passes p xs k d h =
    let q = λ (b : ℕ). not (not (p b)) in
    let short : k < prefix_len q xs = omega (arith, length-prefix_len q xs) in
    rw (get_or-take (prefix_len q xs) xs k d short) (not_not (p (get_or xs k d)) (prefix_len_passes q xs k d short))

pub run_all : (p : ℕ → Bool) (xs : List ℕ) → list_all p (take (position_or_len (λ b. not (p b)) xs) xs) ≡ true
run_all p xs = list_all-from_AllPass p (take (position_or_len (λ b. not (p b)) xs) xs) (run_passes p xs)

-- how long a run is that ends at a byte
pub run_len : (p : ℕ → Bool) (run : List ℕ) (x : ℕ) (more : List ℕ) → list_all p run ≡ true → p x ≡ false → position_or_len (λ b. not (p b)) (run ++ x ∷ more) ≡ length run
run_len p [] x more e stop = rw stop refl
run_len p (y ∷ run) x more e stop =
    let h = and_true (p y) (list_all p run) e in
    let rest = run_len p run x more h.1 stop in
    rw h.0 (rw rest (omega arith))

pub behind_run : (p : ℕ → Bool) (run : List ℕ) (x : ℕ) (more : List ℕ) → list_all p run ≡ true → p x ≡ false → drop (position_or_len (λ b. not (p b)) (run ++ x ∷ more)) (run ++ x ∷ more) ≡ x ∷ more
behind_run p run x more e stop = rw (run_len p run x more e stop) (drop_at run (x ∷ more) (length run) refl)
