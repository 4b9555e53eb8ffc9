-- A word among the words, as its bytes.
use Rattle.std.proofs.Common.{take, ◌≡◌, ◌≢◌, ℕ, ◌<◌, ◌==◌, List, [], ◌∷◌, length, get_or, Bool, true, false, Bor, refl, sym, ◌∙◌, ap, rules, arith}
use Rattle.std.proofs.lemmas.Grind.{common_steps}
use Rattle.std.proofs.lemmas.List.{get_or-map}
use Rattle.std.proofs.lemmas.Slice.Eq.{bytes_eq-Decides}
use Rattle.std.specs.Str.{bytes_eq}
use Rattle.bench_edges.specs.Words.{texts}

-- the bytes of the word at a place
pub text_at : (words : List (Bor (List ℕ))) (at : ℕ) (none : Bor (List ℕ)) → at < length words → get_or (texts words) at [] ≡ (get_or words at none).now
text_at words at none within = get_or-map (λ (word : Bor (List ℕ)). word.now) words at none [] within

-- what a test `words[at] == name` shows
pub text_eq : (words : List (Bor (List ℕ))) (at : ℕ) (none : Bor (List ℕ)) (name : List ℕ) (eq : Bool) → at < length words → eq ≡ bytes_eq (get_or words at none).now name → eq ≡ true → get_or (texts words) at [] ≡ name
text_eq words at none name eq within test e =
    text_at words at none within ∙ (bytes_eq-Decides (get_or words at none).now name).0 (sym test ∙ e)

pub text_ne : (words : List (Bor (List ℕ))) (at : ℕ) (none : Bor (List ℕ)) (name : List ℕ) (eq : Bool) → at < length words → eq ≡ bytes_eq (get_or words at none).now name → eq ≡ false → get_or (texts words) at [] ≢ name
text_ne words at none name eq within test e same =
    let wrong : false ≡ true = sym (sym test ∙ e) ∙ (bytes_eq-Decides (get_or words at none).now name).1 (sym (text_at words at none within) ∙ same) in
    search rules

nil_from_length : (word : List ℕ) → length word ≡ 0 → word ≡ []
nil_from_length [] e = refl
nil_from_length (x ∷ xs) e = let wrong : length (x ∷ xs) ≡ 0 = e in grind (arith, common_steps)

-- what `words[at].is_empty()` shows
pub text_empty : (words : List (Bor (List ℕ))) (at : ℕ) (none : Bor (List ℕ)) (empty : Bool) → at < length words → empty ≡ (length (get_or words at none).now == 0) → empty ≡ true → get_or (texts words) at [] ≡ []
text_empty words at none empty within test e =
    let short : length (get_or words at none).now ≡ 0 = grind (arith, common_steps) in
    text_at words at none within ∙ nil_from_length _ short

pub text_some : (words : List (Bor (List ℕ))) (at : ℕ) (none : Bor (List ℕ)) (empty : Bool) → at < length words → empty ≡ (length (get_or words at none).now == 0) → empty ≡ false → get_or (texts words) at [] ≢ []
text_some words at none empty within test e same =
    let short : length (get_or words at none).now ≡ 0 = ap (λ (word : List ℕ). length word) (sym (text_at words at none within) ∙ same) in
    grind (arith, common_steps)

-- What the tests in front of a command's reader show: a path that is not empty, and then the command's name.
pub front_read : (words : List (Bor (List ℕ))) (none : Bor (List ℕ)) (name : List ℕ) (empty : Bool) → 1 < length words → empty ≡ (length (get_or words 0 none).now == 0) → empty ≡ false → (get_or words 1 none).now ≡ name → (path : List ℕ) × (path ≢ []) × (take 2 (texts words) ≡ path ∷ name ∷ [])
front_read words none name empty within test e called =
    let path = get_or (texts words) 0 [] in
    let two : take 2 (texts words) ≡ path ∷ get_or (texts words) 1 [] ∷ [] = grind (arith, common_steps) in
    (path, text_some words 0 none empty (omega arith) test e, two ∙ ap (λ (word : List ℕ). path ∷ word ∷ []) (text_at words 1 none within ∙ called))
