-- `solve`, read so far, and where its options are refused.
use Rattle.std.proofs.Common.{◌≡◌, ◌≢◌, ℕ, ◌+◌, ◌<◌, ◌≤◌, List, [], ◌∷◌, ◌++◌, length, take, get_or, unwrap_or, codes, decimal, refl, ap, sym, ◌∙◌, subst, append_assoc, append-nil, arith}
use Rattle.std.proofs.lemmas.Grind.{common_steps, flat_map-append}
use Rattle.std.specs.List.{flat_map}
use Rattle.bench_edges.specs.declared.words.Command.{Command}
use Rattle.bench_edges.specs.declared.words.Command.TheVariants.{Solve}
use Rattle.bench_edges.specs.declared.words.Options.{Options}
use Rattle.bench_edges.specs.declared.words.SolveOption.TheVariants.{Workers, Depth, Pieces, Plies, Budget, Lease}
use Rattle.bench_edges.specs.Words.{Setting, setting_words, IsSetting, IsNew, AreSettings, number_of, solve_words, SaysSolve, Says, BeginsCommand, IsRefusedAt}
use Rattle.bench_edges.proofs.Settings.{cons_head, cons_tail, not_nil, settings_split, new_before, AreSettings-more}
use Rattle.bench_edges.proofs.Grammar.{IsStuck, only_solve, name_said, refused_at, refused_in}

-- the words in front of a place say `solve` with these settings
pub record IsReadTo (words : List (List ℕ)) (at : ℕ) (given : List Setting) : Type 0 where
  pub path : List ℕ
  pub front : take at words ≡ solve_words path given
  pub named : path ≢ []
  pub settings : AreSettings given
  pub within : at ≤ length words

-- the options that settings give
abbrev pub options_of : List Setting → Options
options_of given = record {
  workers = number_of Workers given;
  depth = number_of Depth given;
  pieces = number_of Pieces given;
  plies = number_of Plies given;
  budget = number_of Budget given;
  lease = number_of Lease given;
}

-- settings that are read say a whole `solve`
pub solve_said : (words : List (List ℕ)) (path : List ℕ) (given : List Setting) → words ≡ solve_words path given → path ≢ [] → AreSettings given → SaysSolve words (options_of given)
solve_said words path given spelling named settings = record {
  path = path;
  given = given;
  spelling = spelling;
  named = named;
  settings = settings;
  workers = refl;
  depth = refl;
  pieces = refl;
  plies = refl;
  budget = refl;
  lease = refl;
}

begins_with : (front rest : List (List ℕ)) (path : List ℕ) (given : List Setting) → front ++ rest ≡ solve_words path given → path ≢ [] → AreSettings given → BeginsCommand front
begins_with front rest path given spelling named settings = (rest, Solve (options_of given), solve_said (front ++ rest) path given spelling named settings)

begins_there : (words : List (List ℕ)) (at : ℕ) (given : List Setting) → IsReadTo words at given → BeginsCommand (take at words)
begins_there words at given r = begins_with (take at words) [] r.path given (append-nil (take at words) ∙ r.front) r.named r.settings

-- a longer `solve` goes on with a setting of a new name
record GoesOn (given : List Setting) (word : List ℕ) (rest : List (List ℕ)) : Type 0 where
  next : Setting
  more : List Setting
  setting : IsSetting next
  new : IsNew next.name given
  name : next.name ≡ word
  value : decimal next.value ∷ flat_map setting_words more ≡ rest

goes_on : (words : List (List ℕ)) (at : ℕ) (given : List Setting) (r : IsReadTo words at given) (word : List ℕ) (rest : List (List ℕ)) (command : Command) → Says (take at words ++ word ∷ rest) command → GoesOn given word rest
goes_on words at given r word rest command said_so =
    let whole = take at words ++ word ∷ rest in
    let behind = flat_map setting_words given ++ word ∷ rest in
    let spelling : whole ≡ r.path ∷ codes "solve" ∷ behind = ap (λ (ws : List (List ℕ)). ws ++ word ∷ rest) r.front in
    let says = (only_solve whole command said_so (name_said whole r.path (codes "solve") behind command spelling said_so)).1.1 in
    let all : says.path ∷ codes "solve" ∷ flat_map setting_words says.given ≡ r.path ∷ codes "solve" ∷ behind = sym says.spelling ∙ spelling in
    let s = settings_split given says.given word rest r.settings says.settings (cons_tail _ _ _ _ (cons_tail _ _ _ _ all)) in
    let placed = new_before given s.next s.more (subst AreSettings s.split says.settings) in
    record { next = s.next; more = s.more; setting = placed.0; new = placed.1; name = s.name; value = s.value }

-- a word that is no new option's name
pub refused_name : (words : List (List ℕ)) (at : ℕ) (given : List Setting) → IsReadTo words at given → at < length words → ((s : Setting) → IsSetting s → get_or words at [] ≡ s.name → IsNew s.name given → ⊥) → IsRefusedAt words at
refused_name words at given r within other = refused_at words at within (begins_there words at given r) stuck
  where
    stuck : IsStuck (take at words) (get_or words at [])
    stuck rest command says =
        let g = goes_on words at given r (get_or words at []) rest command says in
        other g.next g.setting (sym g.name) g.new

longer_words : (path : List ℕ) (given : List Setting) (next : Setting) → solve_words path given ++ next.name ∷ decimal next.value ∷ [] ≡ solve_words path (given ++ next ∷ [])
longer_words path given next = ap (λ (ws : List (List ℕ)). path ∷ codes "solve" ∷ ws) (sym (flat_map-append setting_words given (next ∷ [])))

-- an option and its number are read
pub read_on : (words : List (List ℕ)) (at : ℕ) (given : List Setting) (next : Setting) → IsReadTo words at given → IsSetting next → IsNew next.name given → at + 1 < length words → get_or words at [] ≡ next.name → get_or words (at + 1) [] ≡ decimal next.value → IsReadTo words (at + 2) (given ++ next ∷ [])
read_on words at given next r setting new within name digits =
    let two : take (at + 2) words ≡ take at words ++ get_or words at [] ∷ get_or words (at + 1) [] ∷ [] = grind (arith, common_steps) in
    let front : take (at + 2) words ≡ solve_words r.path (given ++ next ∷ []) =
    two ∙ ap (λ (w : List ℕ). take at words ++ w ∷ get_or words (at + 1) [] ∷ []) name ∙ ap (λ (w : List ℕ). take at words ++ next.name ∷ w ∷ []) digits ∙ ap (λ (ws : List (List ℕ)). ws ++ next.name ∷ decimal next.value ∷ []) r.front ∙ longer_words r.path given next in
    record {
      path = r.path;
      front = front;
      named = r.named;
      settings = AreSettings-more given next r.settings setting new;
      within = omega arith;
    }

-- what stands in front of an option's number begins a command
begins_value : (words : List (List ℕ)) (at : ℕ) (given : List Setting) (next : Setting) → IsReadTo words at given → IsSetting next → IsNew next.name given → at < length words → get_or words at [] ≡ next.name → BeginsCommand (take (at + 1) words)
begins_value words at given next r setting new within name =
    let one : take (at + 1) words ≡ take at words ++ get_or words at [] ∷ [] = grind (arith, common_steps) in
    let front : take (at + 1) words ++ decimal next.value ∷ [] ≡ solve_words r.path (given ++ next ∷ []) =
    ap (λ (ws : List (List ℕ)). ws ++ decimal next.value ∷ []) (one ∙ ap (λ (w : List ℕ). take at words ++ w ∷ []) name ∙ ap (λ (ws : List (List ℕ)). ws ++ next.name ∷ []) r.front) ∙ append_assoc (solve_words r.path given) (next.name ∷ []) (decimal next.value ∷ []) ∙ longer_words r.path given next in
    begins_with (take (at + 1) words) (decimal next.value ∷ []) r.path (given ++ next ∷ []) front r.named (AreSettings-more given next r.settings setting new)

-- A word behind a new option's name that is no number of it, or none. `some` is a number that it could have.
pub refused_value : (words : List (List ℕ)) (at : ℕ) (given : List Setting) (some : Setting) → IsReadTo words at given → IsSetting some → IsNew some.name given → at < length words → get_or words at [] ≡ some.name → (at + 1 < length words → (s : Setting) → IsSetting s → s.name ≡ some.name → get_or words (at + 1) [] ≢ decimal s.value) → IsRefusedAt words (at + 1)
refused_value words at given some r setting new within name other =
    refused_in words (at + 1) (omega arith) (begins_value words at given some r setting new within name) stuck none
  where
    one : take (at + 1) words ≡ take at words ++ some.name ∷ []
    one = let e : take (at + 1) words ≡ take at words ++ get_or words at [] ∷ [] = grind (arith, common_steps) in e ∙ ap (λ (w : List ℕ). take at words ++ w ∷ []) name

    value_of : (rest : List (List ℕ)) (command : Command) → Says (take (at + 1) words ++ rest) command → GoesOn given some.name rest
    value_of rest command says =
        let spelling : take (at + 1) words ++ rest ≡ take at words ++ some.name ∷ rest = ap (λ (ws : List (List ℕ)). ws ++ rest) one ∙ append_assoc (take at words) (some.name ∷ []) rest in
        goes_on words at given r some.name rest command (subst (λ (ws : List (List ℕ)). Says ws command) spelling says)

    stuck : at + 1 < length words → IsStuck (take (at + 1) words) (get_or words (at + 1) [])
    stuck inside rest command says =
        let g = value_of (get_or words (at + 1) [] ∷ rest) command says in
        other inside g.next g.setting g.name (sym (cons_head _ _ _ _ g.value))

    none : at + 1 ≡ length words → (command : Command) → Says (take (at + 1) words) command → ⊥
    none end command says =
        let g = value_of [] command (subst (λ (ws : List (List ℕ)). Says ws command) (sym (append-nil (take (at + 1) words))) says) in
        not_nil _ _ (sym g.value)

-- nothing but `solve` stands behind the path
pub solve_says : (path : List ℕ) → path ≢ [] → SaysSolve (path ∷ codes "solve" ∷ []) (options_of [])
solve_says path named = solve_said (path ∷ codes "solve" ∷ []) path [] refl named tt
