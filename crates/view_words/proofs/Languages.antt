-- Languages of words, and the place of the words that shows that they are not of one.
use Rattle.std.proofs.Common.{◌≡◌, ◌≢◌, ◌≤◌, ◌<◌, ◌+◌, ◌⊎◌, inl, inr, ℕ, zero, suc, List, [], ◌∷◌, ◌++◌, Bool, true, false, Option, Some, None, refl, sym, ◌∙◌, ap, arith, length, take, drop, get_or, decimal}
use Rattle.std.proofs.lemmas.List.{drop_all, drop_more}
use Rattle.std.specs.Prelude.{IfSome}
use Rattle.view_words.specs.Words.{flag_words, number_words, option_words}

abbrev pub Begins : (List (List ℕ) → Type 0) → List (List ℕ) → Type 0
Begins L front = (rest : List (List ℕ)) × L (front ++ rest)

pub record Refused (L : List (List ℕ) → Type 0) (words : List (List ℕ)) (at : ℕ) : Type 0 where
  pub none : L words → ⊥
  pub within : at ≤ length words
  pub front : Begins L (take at words)
  pub stuck : at < length words → Begins L (take (suc at) words) → ⊥

-- ---- lists

pub cons_head : {X : Type 0} (x y : X) (xs ys : List X) → x ∷ xs ≡ y ∷ ys → x ≡ y
cons_head x y xs ys same = cc

pub cons_tail : {X : Type 0} (x y : X) (xs ys : List X) → x ∷ xs ≡ y ∷ ys → xs ≡ ys
cons_tail x y xs ys same = cc

pub not_cons : {X : Type 0} (x : X) (xs : List X) → [] ≡ x ∷ xs → ⊥
not_cons x xs same = cc

-- the words from a place on, by the one at the place
pub front_is : (words : List (List ℕ)) (at : ℕ) (w : List ℕ) → at < length words → get_or words at [] ≡ w → drop at words ≡ w ∷ drop (at + 1) words
front_is words at w inside is = drop_more words at [] inside ∙ ap (λ (x : List ℕ). x ∷ drop (at + 1) words) is

-- and the word at a place, by those from it on
pub at_front : (words : List (List ℕ)) (at : ℕ) (w : List ℕ) (rest : List (List ℕ)) → at < length words → drop at words ≡ w ∷ rest → get_or words at [] ≡ w
at_front words at w rest inside is = cons_head (get_or words at []) w (drop (at + 1) words) rest (sym (drop_more words at [] inside) ∙ is)

pub past_front : (words : List (List ℕ)) (at : ℕ) (w : List ℕ) (rest : List (List ℕ)) → length words ≤ at → drop at words ≡ w ∷ rest → ⊥
past_front words at w rest past is = not_cons w rest (sym (drop_all at words past) ∙ is)

-- ---- languages

-- no more words
abbrev pub End : List (List ℕ) → Type 0
End [] = Unit {0}
End (w ∷ ws) = ⊥

-- a number, and then words of L
abbrev pub Num : ℕ → ℕ → (List (List ℕ) → Type 0) → List (List ℕ) → Type 0
Num least most L [] = ⊥
Num least most L (w ∷ ws) = ((n : ℕ) × ((least ≤ n) × ((n ≤ most) × (w ≡ decimal n)))) × L ws

-- perhaps a number, and then words of L
abbrev pub Found : ℕ → ℕ → (List (List ℕ) → Type 0) → List (List ℕ) → Type 0
Found least most L [] = L []
Found least most L (w ∷ ws) = L (w ∷ ws) ⊎ Num least most L (w ∷ ws)

-- perhaps an option with its number, and then words of L
abbrev pub Opt : List ℕ → ℕ → (List (List ℕ) → Type 0) → List (List ℕ) → Type 0
Opt name most L [] = L []
Opt name most L (w ∷ ws) = L (w ∷ ws) ⊎ ((w ≡ name) × Num 0 most L ws)

-- perhaps a word, and then words of L
abbrev pub Flag : List ℕ → (List (List ℕ) → Type 0) → List (List ℕ) → Type 0
Flag name L [] = L []
Flag name L (w ∷ ws) = L (w ∷ ws) ⊎ ((w ≡ name) × L ws)

-- ---- refusals

-- one word more in front
module _ (L M : List (List ℕ) → Type 0) (w : List ℕ) (into : (ws : List (List ℕ)) → L ws → M (w ∷ ws)) (out : (ws : List (List ℕ)) → M (w ∷ ws) → L ws) where
  pub behind_word : (ws : List (List ℕ)) (at : ℕ) → Refused L ws at → Refused M (w ∷ ws) (suc at)
  behind_word ws at r = record {
    none = λ m. r.none (out ws m);
    within = (let h = r.within in omega (arith, h));
    front = (r.front.0, into (take at ws ++ r.front.0) r.front.1);
    stuck = λ inside b. r.stuck (omega (arith, inside)) (b.0, out (take (suc at) ws ++ b.0) b.1);
  }

-- the same words begin with this one
module _ (L M : List (List ℕ) → Type 0) (into : (ws : List (List ℕ)) → L ws → M ws) (w : List ℕ) (out : (ws : List (List ℕ)) → M (w ∷ ws) → L (w ∷ ws)) where
  pub before_word : (ws : List (List ℕ)) (at : ℕ) → Refused L (w ∷ ws) at → Refused M (w ∷ ws) at
  before_word ws at r = record {
    none = λ m. r.none (out ws m);
    within = r.within;
    front = (r.front.0, into (take at (w ∷ ws) ++ r.front.0) r.front.1);
    stuck = λ inside b. r.stuck inside (b.0, out (take at ws ++ b.0) b.1);
  }

pub end_refused : (w : List ℕ) (ws : List (List ℕ)) → Refused End (w ∷ ws) zero
end_refused w ws = record {
  none = λ e. e;
  within = omega arith;
  front = ([], tt);
  stuck = λ inside b. b.1;
}

module _ (L : List (List ℕ) → Type 0) where
  pub opt_in : (name : List ℕ) (most : ℕ) (ws : List (List ℕ)) → L ws → Opt name most L ws
  opt_in name most [] l = l
  opt_in name most (w ∷ ws) l = inl l

  pub found_in : (least most : ℕ) (ws : List (List ℕ)) → L ws → Found least most L ws
  found_in least most [] l = l
  found_in least most (w ∷ ws) l = inl l

  pub flag_in : (name : List ℕ) (ws : List (List ℕ)) → L ws → Flag name L ws
  flag_in name [] l = l
  flag_in name (w ∷ ws) l = inl l

  module _ (least most : ℕ) (fits : least ≤ most) (ends : L []) where
    num_begins : Begins (Num least most L) []
    num_begins = (decimal least ∷ [], ((least, (omega arith, (fits, refl))), ends))

    -- the number is missing, or there is another word
    pub num_refused : (ws : List (List ℕ)) → ((n : ℕ) → least ≤ n → n ≤ most → (rest : List (List ℕ)) → ws ≢ decimal n ∷ rest) → Refused (Num least most L) ws zero
    num_refused [] other = record {
      none = λ m. m;
      within = omega arith;
      front = num_begins;
      stuck = λ inside. absurd (omega (arith, inside));
    }
    num_refused (w ∷ ws) other = record {
      none = λ m. other m.0.0 m.0.1.0 m.0.1.1.0 ws (ap (λ (x : List ℕ). x ∷ ws) m.0.1.1.1);
      within = omega arith;
      front = num_begins;
      stuck = λ inside b. other b.1.0.0 b.1.0.1.0 b.1.0.1.1.0 ws (ap (λ (x : List ℕ). x ∷ ws) b.1.0.1.1.1);
    }

  -- the number is there
  pub num_passed : (least most n : ℕ) → least ≤ n → n ≤ most → (ws : List (List ℕ)) (at : ℕ) → Refused L ws at → Refused (Num least most L) (decimal n ∷ ws) (suc at)
  num_passed least most n from to ws at r =
      behind_word L (Num least most L) (decimal n) (λ rest l. ((n, (from, (to, refl))), l)) (λ rest m. m.1) ws at r

  module _ (least most : ℕ) where
    -- no number is there
    pub found_skipped : L [] → (ws : List (List ℕ)) (at : ℕ) → ((n : ℕ) → least ≤ n → n ≤ most → (rest : List (List ℕ)) → ws ≢ decimal n ∷ rest) → Refused L ws at → Refused (Found least most L) ws at
    found_skipped ends [] at other r = absurd (r.none ends)
    found_skipped ends (w ∷ ws) at other r =
        before_word L (Found least most L) (found_in least most) w
        (λ rest m. elim m [ inl l ↦ l | inr o ↦ absurd (other o.0.0 o.0.1.0 o.0.1.1.0 ws (ap (λ (x : List ℕ). x ∷ ws) o.0.1.1.1)) ]) ws at r

    -- a number is there
    pub found_said : (n : ℕ) → least ≤ n → n ≤ most → ((rest : List (List ℕ)) → L (decimal n ∷ rest) → ⊥) → (ws : List (List ℕ)) (at : ℕ) → Refused L ws at → Refused (Found least most L) (decimal n ∷ ws) (suc at)
    found_said n from to never ws at r =
        behind_word L (Found least most L) (decimal n) (λ rest l. inr ((n, (from, (to, refl))), l)) (λ rest m. elim m [ inl l ↦ absurd (never rest l) | inr o ↦ o.1 ]) ws at r

  module _ (name : List ℕ) (most : ℕ) where
    -- the option is not there
    pub opt_skipped : L [] → (ws : List (List ℕ)) (at : ℕ) → ((rest : List (List ℕ)) → ws ≢ name ∷ rest) → Refused L ws at → Refused (Opt name most L) ws at
    opt_skipped ends [] at other r = absurd (r.none ends)
    opt_skipped ends (w ∷ ws) at other r =
        before_word L (Opt name most L) (opt_in name most) w (λ rest m. elim m [ inl l ↦ l | inr o ↦ absurd (other ws (ap (λ (x : List ℕ). x ∷ ws) o.0)) ]) ws at r

    -- its name is there
    pub opt_named : ((rest : List (List ℕ)) → L (name ∷ rest) → ⊥) → (ws : List (List ℕ)) (at : ℕ) → Refused (Num 0 most L) ws at → Refused (Opt name most L) (name ∷ ws) (suc at)
    opt_named never ws at r =
        behind_word (Num 0 most L) (Opt name most L) name (λ rest n. inr (refl, n)) (λ rest m. elim m [ inl l ↦ absurd (never rest l) | inr o ↦ o.1 ]) ws at r

  module _ (name : List ℕ) where
    pub flag_skipped : L [] → (ws : List (List ℕ)) (at : ℕ) → ((rest : List (List ℕ)) → ws ≢ name ∷ rest) → Refused L ws at → Refused (Flag name L) ws at
    flag_skipped ends [] at other r = absurd (r.none ends)
    flag_skipped ends (w ∷ ws) at other r =
        before_word L (Flag name L) (flag_in name) w (λ rest m. elim m [ inl l ↦ l | inr o ↦ absurd (other ws (ap (λ (x : List ℕ). x ∷ ws) o.0)) ]) ws at r

    pub flag_said : ((rest : List (List ℕ)) → L (name ∷ rest) → ⊥) → (ws : List (List ℕ)) (at : ℕ) → Refused L ws at → Refused (Flag name L) (name ∷ ws) (suc at)
    flag_said never ws at r =
        behind_word L (Flag name L) name (λ rest l. inr (refl, l)) (λ rest m. elim m [ inl l ↦ absurd (never rest l) | inr o ↦ o.1 ]) ws at r

  -- ---- what they spell

  pub opt_spelled : (name : List ℕ) (most : ℕ) (given : Option ℕ) → IfSome given (λ n. n ≤ most) → (rest : List (List ℕ)) → L rest → Opt name most L (option_words name given ++ rest)
  opt_spelled name most None within rest l = opt_in name most rest l
  opt_spelled name most (Some n) within rest l = inr (refl, ((n, (omega arith, (within, refl))), l))

  pub found_spelled : (least most : ℕ) (given : Option ℕ) → IfSome given (λ n. (least ≤ n) × (n ≤ most)) → (rest : List (List ℕ)) → L rest → Found least most L (number_words given ++ rest)
  found_spelled least most None within rest l = found_in least most rest l
  found_spelled least most (Some n) within rest l = inr ((n, (within.0, (within.1, refl))), l)

  pub flag_spelled : (name : List ℕ) (said : Bool) (rest : List (List ℕ)) → L rest → Flag name L (flag_words name said ++ rest)
  flag_spelled name false rest l = flag_in name rest l
  flag_spelled name true rest l = inr (refl, l)

  -- words of an option, and what stands behind it
  pub record OptParts (name : List ℕ) (most : ℕ) (ws : List (List ℕ)) : Type 0 where
    pub given : Option ℕ
    pub rest : List (List ℕ)
    pub spelling : ws ≡ option_words name given ++ rest
    pub within : IfSome given (λ n. n ≤ most)
    pub behind : L rest

  pub opt_parts : (name : List ℕ) (most : ℕ) (ws : List (List ℕ)) → Opt name most L ws → OptParts name most ws
  opt_parts name most [] l = record { given = None; rest = []; spelling = refl; within = tt; behind = l }
  opt_parts name most (w ∷ []) (inl l) = record { given = None; rest = w ∷ []; spelling = refl; within = tt; behind = l }
  opt_parts name most (w ∷ []) (inr o) = absurd o.1
  opt_parts name most (w ∷ v ∷ ws) (inl l) = record { given = None; rest = w ∷ v ∷ ws; spelling = refl; within = tt; behind = l }
  opt_parts name most (w ∷ v ∷ ws) (inr o) = record {
    given = Some o.1.0.0;
    rest = ws;
    spelling = ap (λ (x : List ℕ). x ∷ v ∷ ws) o.0 ∙ ap (λ (x : List ℕ). name ∷ x ∷ ws) o.1.0.1.1.1;
    within = o.1.0.1.1.0;
    behind = o.1.1;
  }

  -- perhaps a number, and what stands behind it
  pub record FoundParts (least most : ℕ) (ws : List (List ℕ)) : Type 0 where
    pub given : Option ℕ
    pub rest : List (List ℕ)
    pub spelling : ws ≡ number_words given ++ rest
    pub within : IfSome given (λ n. (least ≤ n) × (n ≤ most))
    pub behind : L rest

  pub found_parts : (least most : ℕ) (ws : List (List ℕ)) → Found least most L ws → FoundParts least most ws
  found_parts least most [] l = record { given = None; rest = []; spelling = refl; within = tt; behind = l }
  found_parts least most (w ∷ ws) (inl l) = record { given = None; rest = w ∷ ws; spelling = refl; within = tt; behind = l }
  found_parts least most (w ∷ ws) (inr o) = record {
    given = Some o.0.0;
    rest = ws;
    spelling = ap (λ (x : List ℕ). x ∷ ws) o.0.1.1.1;
    within = (o.0.1.0, o.0.1.1.0);
    behind = o.1;
  }

pub end_words : (ws : List (List ℕ)) → End ws → ws ≡ []
end_words [] e = refl
end_words (w ∷ ws) e = absurd e

-- a flag at the end
pub flag_end : (name : List ℕ) (said : Bool) → Flag name End (flag_words name said)
flag_end name false = tt
flag_end name true = inr (refl, tt)

pub flag_parts : (name : List ℕ) (ws : List (List ℕ)) → Flag name End ws → (said : Bool) × (ws ≡ flag_words name said)
flag_parts name [] l = (false, refl)
flag_parts name (w ∷ ws) (inl l) = absurd l
flag_parts name (w ∷ ws) (inr o) = (true, ap (λ (x : List ℕ). x ∷ ws) o.0 ∙ ap (λ (xs : List (List ℕ)). name ∷ xs) (end_words ws o.1))
