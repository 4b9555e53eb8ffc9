-- Where words are refused behind a command that its name and a number say, and behind one that its name alone says.
use Rattle.std.proofs.Common.{◌≡◌, ◌≢◌, ◌⊎◌, ℕ, ◌==◌, Bool, true, false, ◌<◌, ◌≤◌, List, [], ◌∷◌, ◌++◌, length, take, get_or, codes, decimal, inl, inr, refl, ap, sym, ◌∙◌, subst, append-nil, arith}
use Rattle.std.proofs.lemmas.Grind.{common_steps}
use Rattle.bench_edges.specs.declared.words.Command.{Command}
use Rattle.bench_edges.specs.declared.words.Command.TheVariants.{MakeTable, Certify}
use Rattle.strategy_certificate.specs.Tables.{IsTableSize}
use Rattle.bench_edges.specs.Words.{IsRootNumber, SaysNumbered, Says, IsPlain, BeginsCommand, IsRefusedAt}
use Rattle.bench_edges.proofs.Settings.{cons_head, cons_tail, not_nil, is_two_or_three}
use Rattle.bench_edges.proofs.Grammar.{IsStuck, name_of, name_said, only_table, only_certify, only_plain, plain_said, refused_at, refused_in}

-- A command that its name and a number say: its name, which numbers it has, and how it is made of one.
pub record IsNumbered (name : List ℕ) (P : ℕ → Type 0) (make : ℕ → Command) : Type 0 where
  pub says : (words : List (List ℕ)) (n : ℕ) → SaysNumbered name words n → P n → Says words (make n)
  pub only : (words : List (List ℕ)) (command : Command) → Says words command → name_of command ≡ name → (n : ℕ) × (SaysNumbered name words n × P n)

pub table_numbered : IsNumbered (codes "table") IsTableSize (λ n. MakeTable n)
table_numbered = record {
  says = λ words n said size. (said, size);
  only = λ words command says named. (let table = only_table words command says named in (table.0, table.1.1));
}

pub certify_numbered : IsNumbered (codes "certify") IsRootNumber (λ n. Certify n)
certify_numbered = record {
  says = λ words n said size. (said, size);
  only = λ words command says named. (let root = only_certify words command says named in (root.0, root.1.1));
}

-- what stands behind its name
number_rest : (name : List ℕ) (P : ℕ → Type 0) (make : ℕ → Command) → IsNumbered name P make → (words : List (List ℕ)) (path : List ℕ) (rest : List (List ℕ)) (command : Command) → words ≡ path ∷ name ∷ rest → Says words command → (n : ℕ) × (P n × (rest ≡ decimal n ∷ []))
number_rest name P make one words path rest command spelling says =
    let found = one.only words command says (name_said words path name rest command spelling says) in
    (found.0, (found.1.1, cons_tail _ _ _ _ (cons_tail _ _ _ _ (sym spelling ∙ found.1.0.spelling))))

-- a word behind it that is no number that it has, or none; `some` is one that it has
pub refused_number : (name : List ℕ) (P : ℕ → Type 0) (make : ℕ → Command) → IsNumbered name P make → (some : ℕ) → P some → (words : List (List ℕ)) (path : List ℕ) → 1 < length words → path ≢ [] → take 2 words ≡ path ∷ name ∷ [] → (2 < length words → (n : ℕ) → P n → get_or words 2 [] ≢ decimal n) → IsRefusedAt words 2
refused_number name P make one some size words path within named front other = refused_in words 2 (omega arith) good stuck none
  where
    good : BeginsCommand (take 2 words)
    good = (decimal some ∷ [], make some, one.says (take 2 words ++ decimal some ∷ []) some (record { path = path; spelling = ap (λ (ws : List (List ℕ)). ws ++ decimal some ∷ []) front; named = named }) size)

    stuck : 2 < length words → IsStuck (take 2 words) (get_or words 2 [])
    stuck inside rest command says =
        let t = number_rest name P make one _ path (get_or words 2 [] ∷ rest) command (ap (λ (ws : List (List ℕ)). ws ++ get_or words 2 [] ∷ rest) front) says in
        other inside t.0 t.1.0 (cons_head _ _ _ _ t.1.1)

    none : 2 ≡ length words → (command : Command) → Says (take 2 words) command → ⊥
    none end command says =
        let t = number_rest name P make one _ path [] command front says in
        not_nil _ _ t.1.1

-- the words that are read say it
pub number_says : (name : List ℕ) (words : List (List ℕ)) (path : List ℕ) (n : ℕ) → 2 < length words → path ≢ [] → take 2 words ≡ path ∷ name ∷ [] → get_or words 2 [] ≡ decimal n → SaysNumbered name (take 3 words) n
number_says name words path n within named front digits =
    let three : take 3 words ≡ take 2 words ++ get_or words 2 [] ∷ [] = grind (arith, common_steps) in
    record {
      path = path;
      spelling = three ∙ ap (λ (w : List ℕ). take 2 words ++ w ∷ []) digits ∙ ap (λ (ws : List (List ℕ)). ws ++ decimal n ∷ []) front;
      named = named;
    }

-- a word behind the number
pub refused_behind_number : (name : List ℕ) (P : ℕ → Type 0) (make : ℕ → Command) → IsNumbered name P make → (words : List (List ℕ)) (n : ℕ) → P n → 3 < length words → SaysNumbered name (take 3 words) n → IsRefusedAt words 3
refused_behind_number name P make one words n size within said = refused_at words 3 within good stuck
  where
    good : BeginsCommand (take 3 words)
    good = ([], make n, subst (λ (ws : List (List ℕ)). Says ws (make n)) (sym (append-nil (take 3 words))) (one.says (take 3 words) n said size))

    stuck : IsStuck (take 3 words) (get_or words 3 [])
    stuck rest command says =
        let t = number_rest name P make one _ said.path (decimal n ∷ get_or words 3 [] ∷ rest) command (ap (λ (ws : List (List ℕ)). ws ++ get_or words 3 [] ∷ rest) said.spelling) says in
        not_nil _ _ (sym (cons_tail _ _ _ _ t.1.1))

-- a word behind a command that its name alone says
pub refused_behind_name : (words : List (List ℕ)) (command : Command) → IsPlain command → 2 < length words → Says (take 2 words) command → IsRefusedAt words 2
refused_behind_name words command plain within said = refused_at words 2 within good stuck
  where
    good : BeginsCommand (take 2 words)
    good = ([], command, subst (λ (ws : List (List ℕ)). Says ws command) (sym (append-nil (take 2 words))) said)

    stuck : IsStuck (take 2 words) (get_or words 2 [])
    stuck rest other says =
        let word = get_or words 2 [] in
        let front = plain_said (take 2 words) command plain said in
        let spelling : take 2 words ++ word ∷ rest ≡ front.path ∷ name_of command ∷ word ∷ rest = ap (λ (ws : List (List ℕ)). ws ++ word ∷ rest) front.spelling in
        let same = only_plain command other plain (name_said _ front.path (name_of command) (word ∷ rest) other spelling says) in
        let whole = plain_said _ command plain (subst (Says (take 2 words ++ word ∷ rest)) same says) in
        not_nil _ _ (cons_tail _ _ _ _ (cons_tail _ _ _ _ (sym whole.spelling ∙ spelling)))
