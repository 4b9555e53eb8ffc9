-- Where words are refused behind `generate`.
use Rattle.std.proofs.Common.{◌≡◌, ◌≢◌, ℕ, ◌<◌, ◌≤◌, List, [], ◌∷◌, ◌++◌, length, take, get_or, codes, decimal, refl, ap, sym, ◌∙◌, subst, append-nil, arith}
use Rattle.std.proofs.lemmas.Grind.{common_steps}
use Rattle.bench_edges.specs.declared.words.Command.{Command}
use Rattle.bench_edges.specs.declared.words.Command.TheVariants.{Generate}
use Rattle.bench_edges.specs.declared.words.TheConstants.{MOST_SEED, LEAST_COUNT, MOST_COUNT}
use Rattle.bench_edges.specs.Words.{AreGenerated, SaysGenerate, Says, BeginsCommand, IsRefusedAt}
use Rattle.bench_edges.proofs.Settings.{cons_head, cons_tail, not_nil}
use Rattle.bench_edges.proofs.Grammar.{IsStuck, name_said, only_generate, refused_at, refused_in}

-- what stands behind its name
record Numbers (rest : List (List ℕ)) : Type 0 where
  seed : ℕ
  count : ℕ
  limits : AreGenerated seed count
  digits : rest ≡ decimal seed ∷ decimal count ∷ []

numbers_behind : (words : List (List ℕ)) (path : List ℕ) (rest : List (List ℕ)) (command : Command) → words ≡ path ∷ codes "generate" ∷ rest → Says words command → Numbers rest
numbers_behind words path rest command spelling says =
    let found = only_generate words command says (name_said words path (codes "generate") rest command spelling says) in
    record {
      seed = found.0;
      count = found.1;
      limits = found.2.1.1;
      digits = cons_tail _ _ _ _ (cons_tail _ _ _ _ (sym spelling ∙ found.2.1.0.spelling));
    }

-- a path, the name and two numbers say it
says_numbers : (path : List ℕ) (seed count : ℕ) → path ≢ [] → AreGenerated seed count → Says (path ∷ codes "generate" ∷ decimal seed ∷ decimal count ∷ []) (Generate seed count)
says_numbers path seed count named limits = (record { path = path; spelling = refl; named = named }, limits)

-- a word behind the name that is no seed, or none
pub refused_seed : (words : List (List ℕ)) (path : List ℕ) → 1 < length words → path ≢ [] → take 2 words ≡ path ∷ codes "generate" ∷ [] → (2 < length words → (n : ℕ) → n ≤ MOST_SEED → get_or words 2 [] ≢ decimal n) → IsRefusedAt words 2
refused_seed words path within named front other = refused_in words 2 (omega arith) good stuck none
  where
    good : BeginsCommand (take 2 words)
    good = (decimal 0 ∷ decimal 1 ∷ [], Generate 0 1, subst (λ (ws : List (List ℕ)). Says (ws ++ decimal 0 ∷ decimal 1 ∷ []) (Generate 0 1)) (sym front) (says_numbers path 0 1 named (omega arith, (omega arith, omega arith))))

    stuck : 2 < length words → IsStuck (take 2 words) (get_or words 2 [])
    stuck inside rest command says =
        let n = numbers_behind _ path (get_or words 2 [] ∷ rest) command (ap (λ (ws : List (List ℕ)). ws ++ get_or words 2 [] ∷ rest) front) says in
        other inside n.seed n.limits.0 (cons_head _ _ _ _ n.digits)

    none : 2 ≡ length words → (command : Command) → Says (take 2 words) command → ⊥
    none end command says =
        let n = numbers_behind _ path [] command front says in
        not_nil _ _ n.digits

-- the seed is read
pub seed_read : (words : List (List ℕ)) (path : List ℕ) (seed : ℕ) → 2 < length words → take 2 words ≡ path ∷ codes "generate" ∷ [] → get_or words 2 [] ≡ decimal seed → take 3 words ≡ path ∷ codes "generate" ∷ decimal seed ∷ []
seed_read words path seed within front digits =
    let three : take 3 words ≡ take 2 words ++ get_or words 2 [] ∷ [] = grind (arith, common_steps) in
    three ∙ ap (λ (w : List ℕ). take 2 words ++ w ∷ []) digits ∙ ap (λ (ws : List (List ℕ)). ws ++ decimal seed ∷ []) front

-- a word behind the seed that is no count, or none
pub refused_count : (words : List (List ℕ)) (path : List ℕ) (seed : ℕ) → 2 < length words → path ≢ [] → seed ≤ MOST_SEED → take 3 words ≡ path ∷ codes "generate" ∷ decimal seed ∷ [] → (3 < length words → (n : ℕ) → LEAST_COUNT ≤ n → n ≤ MOST_COUNT → get_or words 3 [] ≢ decimal n) → IsRefusedAt words 3
refused_count words path seed within named small front other = refused_in words 3 (omega arith) good stuck none
  where
    good : BeginsCommand (take 3 words)
    good = (decimal 1 ∷ [], Generate seed 1, subst (λ (ws : List (List ℕ)). Says (ws ++ decimal 1 ∷ []) (Generate seed 1)) (sym front) (says_numbers path seed 1 named (small, (omega arith, omega arith))))

    stuck : 3 < length words → IsStuck (take 3 words) (get_or words 3 [])
    stuck inside rest command says =
        let n = numbers_behind _ path (decimal seed ∷ get_or words 3 [] ∷ rest) command (ap (λ (ws : List (List ℕ)). ws ++ get_or words 3 [] ∷ rest) front) says in
        other inside n.count n.limits.1.0 n.limits.1.1 (cons_head _ _ _ _ (cons_tail _ _ _ _ n.digits))

    none : 3 ≡ length words → (command : Command) → Says (take 3 words) command → ⊥
    none end command says =
        let n = numbers_behind _ path (decimal seed ∷ []) command front says in
        not_nil _ _ (cons_tail _ _ _ _ n.digits)

-- the words that are read say it
pub generate_says : (words : List (List ℕ)) (path : List ℕ) (seed count : ℕ) → 3 < length words → path ≢ [] → take 3 words ≡ path ∷ codes "generate" ∷ decimal seed ∷ [] → get_or words 3 [] ≡ decimal count → SaysGenerate (take 4 words) seed count
generate_says words path seed count within named front digits =
    let four : take 4 words ≡ take 3 words ++ get_or words 3 [] ∷ [] = grind (arith, common_steps) in
    record {
      path = path;
      spelling = four ∙ ap (λ (w : List ℕ). take 3 words ++ w ∷ []) digits ∙ ap (λ (ws : List (List ℕ)). ws ++ decimal count ∷ []) front;
      named = named;
    }

-- a word behind the count
pub refused_behind_count : (words : List (List ℕ)) (seed count : ℕ) → AreGenerated seed count → 4 < length words → SaysGenerate (take 4 words) seed count → IsRefusedAt words 4
refused_behind_count words seed count limits within said = refused_at words 4 within good stuck
  where
    good : BeginsCommand (take 4 words)
    good = ([], Generate seed count, subst (λ (ws : List (List ℕ)). Says ws (Generate seed count)) (sym (append-nil (take 4 words))) (said, limits))

    stuck : IsStuck (take 4 words) (get_or words 4 [])
    stuck rest command says =
        let n = numbers_behind _ said.path (decimal seed ∷ decimal count ∷ get_or words 4 [] ∷ rest) command (ap (λ (ws : List (List ℕ)). ws ++ get_or words 4 [] ∷ rest) said.spelling) says in
        not_nil _ _ (sym (cons_tail _ _ _ _ (cons_tail _ _ _ _ n.digits)))
