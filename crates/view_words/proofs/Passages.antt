-- How far the words are read: what may follow, and what stands in front.
use Rattle.std.proofs.Common.{◌≡◌, ◌≢◌, ◌≤◌, ◌+◌, ℕ, zero, suc, List, [], ◌∷◌, ◌++◌, Bool, true, false, Option, Some, None, refl, sym, ◌∙◌, ap, subst, arith, drop, decimal}
use Rattle.std.proofs.lemmas.List.{drop-drop}
use Rattle.std.specs.Prelude.{IfNone, IfSome}
use Rattle.view_words.specs.Places.{HasNoNumber, LacksNumber, ReadsNumber, ReadsOption}
use Rattle.view_words.specs.Words.{IsCalled, IsRefusedAt, flag_words, number_words, option_words}
use Rattle.view_words.specs.declared.requests.Kind.{Kind}
use Rattle.view_words.proofs.CommandWords.{Tail}
use Rattle.view_words.proofs.Languages.{End, Flag, Found, Num, Opt, Refused, end_refused, flag_said, flag_skipped, found_said, found_skipped, num_passed, num_refused, opt_named, opt_skipped}
use Rattle.view_words.proofs.WordLemmas.{refused_of}

-- how many words an option has, a word that may be said, and a number that may be given
abbrev option_length : Option ℕ → ℕ
option_length None = 0
option_length (Some n) = 2

abbrev flag_length : Bool → ℕ
flag_length false = 0
flag_length true = 1

abbrev number_length : Option ℕ → ℕ
number_length None = 0
number_length (Some n) = 1

-- ---- refusals behind what is read

module _ (L : List (List ℕ) → Type 0) (name : List ℕ) (most : ℕ) (ends : L []) (never : (rest : List (List ℕ)) → L (name ∷ rest) → ⊥) where
  option_passed : (words : List (List ℕ)) (given : Option ℕ) → ReadsOption name most words given → (rest : List (List ℕ)) → words ≡ option_words name given ++ rest
      → (at : ℕ) → Refused L rest at → Refused (Opt name most L) words (at + option_length given)
  option_passed words None read rest is at r =
      subst (λ m. Refused (Opt name most L) words m) (let e : at ≡ at + 0 = omega arith in e)
      (opt_skipped L name most ends words at read (subst (λ (ws : List (List ℕ)). Refused L ws at) (sym is) r))
  option_passed words (Some n) read rest is at r =
      subst (λ m. Refused (Opt name most L) words m) (let e : suc (suc at) ≡ at + 2 = omega arith in e)
      (subst (λ (ws : List (List ℕ)). Refused (Opt name most L) ws (suc (suc at))) (sym is)
      (opt_named L name most never (decimal n ∷ rest) (suc at) (num_passed L 0 most n (omega arith) read.0 rest at r)))

  option_refused : (words : List (List ℕ)) → LacksNumber name most words → Refused (Opt name most L) words 1
  option_refused words lacks =
      subst (λ (ws : List (List ℕ)). Refused (Opt name most L) ws 1) (sym lacks.0)
      (opt_named L name most never (drop 1 words) zero (num_refused L 0 most (omega arith) ends (drop 1 words) lacks.1))

  flag_passed : (words : List (List ℕ)) (said : Bool) → (said ≡ false → (rest : List (List ℕ)) → words ≢ name ∷ rest) → (rest : List (List ℕ)) → words ≡ flag_words name said ++ rest
      → (at : ℕ) → Refused L rest at → Refused (Flag name L) words (at + flag_length said)
  flag_passed words false other rest is at r =
      subst (λ m. Refused (Flag name L) words m) (let e : at ≡ at + 0 = omega arith in e)
      (flag_skipped L name ends words at (other refl) (subst (λ (ws : List (List ℕ)). Refused L ws at) (sym is) r))
  flag_passed words true other rest is at r =
      subst (λ m. Refused (Flag name L) words m) (let e : suc at ≡ at + 1 = omega arith in e)
      (subst (λ (ws : List (List ℕ)). Refused (Flag name L) ws (suc at)) (sym is) (flag_said L name never rest at r))

module _ (L : List (List ℕ) → Type 0) (least most : ℕ) (ends : L []) (never : (n : ℕ) → least ≤ n → n ≤ most → (rest : List (List ℕ)) → L (decimal n ∷ rest) → ⊥) where
  found_passed : (words : List (List ℕ)) (given : Option ℕ) → ReadsNumber least most words given → (rest : List (List ℕ)) → words ≡ number_words given ++ rest
      → (at : ℕ) → Refused L rest at → Refused (Found least most L) words (at + number_length given)
  found_passed words None read rest is at r =
      subst (λ m. Refused (Found least most L) words m) (let e : at ≡ at + 0 = omega arith in e)
      (found_skipped L least most ends words at read (subst (λ (ws : List (List ℕ)). Refused L ws at) (sym is) r))
  found_passed words (Some n) read rest is at r =
      subst (λ m. Refused (Found least most L) words m) (let e : suc at ≡ at + 1 = omega arith in e)
      (subst (λ (ws : List (List ℕ)). Refused (Found least most L) ws (suc at)) (sym is) (found_said L least most n read.0 read.1.0 (never n read.0 read.1.0) rest at r))

end_more : (words : List (List ℕ)) → words ≢ [] → Refused End words zero
end_more [] more = absurd (more refl)
end_more (w ∷ ws) more = end_refused w ws

-- ---- what stands at a place, and behind it

option_at : (words : List (List ℕ)) (name : List ℕ) (most at next : ℕ) (given : Option ℕ) → ReadsOption name most (drop at words) given → IfSome given (λ n. next ≡ at + 2) → IfNone given (next ≡ at)
    → (drop at words ≡ option_words name given ++ drop next words) × (next ≡ at + option_length given)
option_at words name most at next None read some none = (ap (λ n. drop n words) (sym none), none ∙ (let e : at ≡ at + 0 = omega arith in e))
option_at words name most at next (Some n) read some none =
    (read.1 ∙ ap (λ (l : List (List ℕ)). name ∷ decimal n ∷ l) (drop-drop 2 at words ∙ ap (λ m. drop m words) (sym some)), some)

found_at : (words : List (List ℕ)) (least most at next : ℕ) (given : Option ℕ) → ReadsNumber least most (drop at words) given → IfSome given (λ n. next ≡ at + 1) → IfNone given (next ≡ at)
    → (drop at words ≡ number_words given ++ drop next words) × (next ≡ at + number_length given)
found_at words least most at next None read some none = (ap (λ n. drop n words) (sym none), none ∙ (let e : at ≡ at + 0 = omega arith in e))
found_at words least most at next (Some n) read some none =
    (read.1.1 ∙ ap (λ (l : List (List ℕ)). decimal n ∷ l) (drop-drop 1 at words ∙ ap (λ m. drop m words) (sym some)), some)

flag_at : (words : List (List ℕ)) (name : List ℕ) (at next : ℕ) (said : Bool) → (said ≡ true → drop at words ≡ name ∷ drop (at + 1) words) → (said ≡ true → next ≡ at + 1) → (said ≡ false → next ≡ at)
    → (drop at words ≡ flag_words name said ++ drop next words) × (next ≡ at + flag_length said)
flag_at words name at next true here one none = (here refl ∙ ap (λ n. name ∷ drop n words) (sym (one refl)), one refl)
flag_at words name at next false here one none = (ap (λ n. drop n words) (sym (none refl)), none refl ∙ (let e : at ≡ at + 0 = omega arith in e))

-- ---- passages

-- The words are read up to this place: `front` stands before it, behind the two words that name a path and what
-- is shown, and words of L may follow.
pub record Passage (words : List (List ℕ)) (L : List (List ℕ) → Type 0) (place : ℕ) (front : List (List ℕ) → List (List ℕ)) : Type 0 where
  pub refused : (at refusal : ℕ) → refusal ≡ place + at → Refused L (drop place words) at → IsRefusedAt words refusal
  pub spelled : (rest : List (List ℕ)) → drop place words ≡ rest → drop 2 words ≡ front rest

pub start : (words : List (List ℕ)) (k : Kind) → IsCalled k words → Passage words (Tail k) 2 (λ rest. rest)
start words k called = record {
  refused = λ at refusal is r. refused_of k words called at refusal (omega (arith, is)) r;
  spelled = λ rest is. is;
}

module _ (words : List (List ℕ)) (L : List (List ℕ) → Type 0) (place : ℕ) (front : List (List ℕ) → List (List ℕ)) where
  -- the number is missing
  pub no_number : (least most : ℕ) → Passage words (Num least most L) place front → least ≤ most → L [] → HasNoNumber least most (drop place words)
      → (refusal : ℕ) → refusal ≡ place → IsRefusedAt words refusal
  no_number least most passage fits ends other refusal is = passage.refused 0 refusal (omega (arith, is)) (num_refused L least most fits ends (drop place words) other)

  -- behind a number
  pub behind_number : (least most : ℕ) → Passage words (Num least most L) place front → (n : ℕ) → ReadsNumber least most (drop place words) (Some n)
      → Passage words L (place + 1) (λ rest. front (decimal n ∷ rest))
  behind_number least most passage n read =
      let is : drop place words ≡ decimal n ∷ drop (place + 1) words = read.1.1 ∙ ap (λ (l : List (List ℕ)). decimal n ∷ l) (drop-drop 1 place words) in
      record {
        refused = λ at refusal at_is r.
            passage.refused (suc at) refusal (omega (arith, at_is))
            (subst (λ (ws : List (List ℕ)). Refused (Num least most L) ws (suc at)) (sym is) (num_passed L least most n read.0 read.1.0 (drop (place + 1) words) at r));
        spelled = λ rest rest_is. passage.spelled (decimal n ∷ rest) (is ∙ ap (λ (l : List (List ℕ)). decimal n ∷ l) rest_is);
      }

  -- an option has no number
  pub no_option : (name : List ℕ) (most : ℕ) → Passage words (Opt name most L) place front → L [] → ((rest : List (List ℕ)) → L (name ∷ rest) → ⊥) → LacksNumber name most (drop place words)
      → (refusal : ℕ) → refusal ≡ place + 1 → IsRefusedAt words refusal
  no_option name most passage ends never lacks refusal is = passage.refused 1 refusal is (option_refused L name most ends never (drop place words) lacks)

  -- behind an option that may be given
  pub behind_option : (name : List ℕ) (most : ℕ) → Passage words (Opt name most L) place front → L [] → ((rest : List (List ℕ)) → L (name ∷ rest) → ⊥)
      → (given : Option ℕ) → ReadsOption name most (drop place words) given → (next : ℕ) → IfSome given (λ n. next ≡ place + 2) → IfNone given (next ≡ place)
      → Passage words L next (λ rest. front (option_words name given ++ rest))
  behind_option name most passage ends never given read next some none =
      let here = option_at words name most place next given read some none in
      let long = here.1 in
      record {
        refused = λ at refusal is r.
            passage.refused (at + option_length given) refusal (omega (arith, is, long)) (option_passed L name most ends never (drop place words) given read (drop next words) here.0 at r);
        spelled = λ rest is. passage.spelled (option_words name given ++ rest) (here.0 ∙ ap (λ (l : List (List ℕ)). option_words name given ++ l) is);
      }

  -- behind a word that may be said
  pub behind_flag : (name : List ℕ) → Passage words (Flag name L) place front → L [] → ((rest : List (List ℕ)) → L (name ∷ rest) → ⊥)
      → (said : Bool) → (said ≡ true → drop place words ≡ name ∷ drop (place + 1) words) → (said ≡ false → (rest : List (List ℕ)) → drop place words ≢ name ∷ rest)
      → (next : ℕ) → (said ≡ true → next ≡ place + 1) → (said ≡ false → next ≡ place) → Passage words L next (λ rest. front (flag_words name said ++ rest))
  behind_flag name passage ends never said stands absent next one none =
      let here = flag_at words name place next said stands one none in
      let long = here.1 in
      record {
        refused = λ at refusal is r. passage.refused (at + flag_length said) refusal (omega (arith, is, long)) (flag_passed L name 0 ends never (drop place words) said absent (drop next words) here.0 at r);
        spelled = λ rest is. passage.spelled (flag_words name said ++ rest) (here.0 ∙ ap (λ (l : List (List ℕ)). flag_words name said ++ l) is);
      }

  -- behind a number that may be given
  pub behind_found : (least most : ℕ) → Passage words (Found least most L) place front → L [] → ((n : ℕ) → least ≤ n → n ≤ most → (rest : List (List ℕ)) → L (decimal n ∷ rest) → ⊥)
      → (given : Option ℕ) → ReadsNumber least most (drop place words) given → (next : ℕ) → IfSome given (λ n. next ≡ place + 1) → IfNone given (next ≡ place)
      → Passage words L next (λ rest. front (number_words given ++ rest))
  behind_found least most passage ends never given read next some none =
      let here = found_at words least most place next given read some none in
      let long = here.1 in
      record {
        refused = λ at refusal is r.
            passage.refused (at + number_length given) refusal (omega (arith, is, long)) (found_passed L least most ends never (drop place words) given read (drop next words) here.0 at r);
        spelled = λ rest is. passage.spelled (number_words given ++ rest) (here.0 ∙ ap (λ (l : List (List ℕ)). number_words given ++ l) is);
      }

-- a word too many
pub too_many : (words : List (List ℕ)) (place : ℕ) (front : List (List ℕ) → List (List ℕ)) → Passage words End place front → drop place words ≢ []
    → (refusal : ℕ) → refusal ≡ place → IsRefusedAt words refusal
too_many words place front passage more refusal is = passage.refused 0 refusal (omega (arith, is)) (end_more (drop place words) more)

-- what words say that are read to their end
pub said_of_option : (name : List ℕ) (most : ℕ) (words : List (List ℕ)) (given : Option ℕ) → ReadsOption name most words given → IfSome given (λ n. n ≤ most)
said_of_option name most words None read = tt
said_of_option name most words (Some n) read = read.0

pub said_of_number : (least most : ℕ) (words : List (List ℕ)) (given : Option ℕ) → ReadsNumber least most words given → IfSome given (λ n. (least ≤ n) × (n ≤ most))
said_of_number least most words None read = tt
said_of_number least most words (Some n) read = (read.0, read.1.0)
