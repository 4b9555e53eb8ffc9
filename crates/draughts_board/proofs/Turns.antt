-- One turn of a loop that adds what each element gives, if it passes a test.
use Rattle.std.proofs.Common.{◌≡◌, ℕ, ◌+◌, ◌<◌, Bool, true, false, cond, List, [], ◌∷◌, ◌++◌, length, get_or, take, refl, sym, ◌∙◌, ap, append_assoc}
use Rattle.std.specs.Prelude.{filter, flat_map, IfOk, Result}
use Rattle.std.specs.Prelude.{Ok, Err}
use Rattle.std.proofs.lemmas.List.{append-nil}
use Rattle.std.proofs.lemmas.List.Concat.{flat_map-append}
use Rattle.std.proofs.lemmas.List.Elements.{filter_more}

if_one : {X Y : Type 0} (f : X → List Y) (b : Bool) (x : X) → flat_map f (cond b (x ∷ []) []) ≡ cond b (f x) []
if_one f true x = append-nil (f x)
if_one f false x = refl

pub filter_turn : {X Y : Type 0} (f : X → List Y) (test : X → Bool) (before now : List Y) (xs : List X) (i : ℕ) (d : X) → i < length xs → now ≡ before ++ flat_map f (filter test (take i xs)) → now ++ cond (test (get_or xs i d)) (f (get_or xs i d)) [] ≡ before ++ flat_map f (filter test (take (i + 1) xs))
filter_turn {X} f test before now xs i d l h =
    let x : X = get_or xs i d in
    ap (λ n. n ++ cond (test x) (f x) []) h
    ∙ append_assoc before (flat_map f (filter test (take i xs))) (cond (test x) (f x) [])
    ∙ ap (λ n. before ++ n)
    (ap (λ n. flat_map f (filter test (take i xs)) ++ n) (sym (if_one f (test x) x))
    ∙ sym (flat_map-append f (filter test (take i xs)) (cond (test x) (x ∷ []) []))
    ∙ ap (flat_map f) (sym (filter_more test xs i d l)))

pub if_ok_map : {A E : Type 0} (P Q : A → Type 0) (r : Result A E) → ((a : A) → P a → Q a) → IfOk r P → IfOk r Q
if_ok_map P Q (Ok a) f h = f a h
if_ok_map P Q (Err e) f h = h
