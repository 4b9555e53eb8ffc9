-- Options with their numbers, as words and as what they give.
use Rattle.std.proofs.Common.{if◌then◌else◌, set, ◌≡◌, ◌≢◌, ℕ, ◌<◌, ◌≤◌, ◌==◌, ◌^◌, ◌⊎◌, List, [], ◌∷◌, ◌++◌, length, drop, get_or, Option, Some, None, unwrap_or, inl, inr, codes, decimal, Bool, true, false, cond, Decides, refl, ap, sym, ◌∙◌, subst, arith, rules}
use Rattle.std.proofs.lemmas.Fmt.{decimal_injective}
use Rattle.std.proofs.lemmas.Grind.{common_steps, get_or-set_at}
use Rattle.std.proofs.lemmas.List.{get_or-set_other}
use Rattle.std.proofs.lemmas.Slice.Eq.{bytes_eq-Decides}
use Rattle.std.specs.List.{flat_map}
use Rattle.std.specs.Str.{bytes_eq}
use Rattle.bench_edges.specs.declared.words.SolveOption.{SolveOption}
use Rattle.bench_edges.specs.declared.words.SolveOption.TheVariants.{Workers, Depth, Pieces, Plies, Budget, Lease}
use Rattle.bench_edges.specs.Words.{Setting, setting_words, IsSetting, IsNew, AreSettings, Takes, option_name, least_of, most_of, default_of, place_of, number_for, number_of}
use Rattle.strategy_certificate.specs.Tables.{IsTableSize}

-- lists of words

pub cons_head : {A : Type 0} (x y : A) (xs ys : List A) → x ∷ xs ≡ y ∷ ys → x ≡ y
cons_head x y xs ys e = ap (λ l. get_or l 0 x) e

pub cons_tail : {A : Type 0} (x y : A) (xs ys : List A) → x ∷ xs ≡ y ∷ ys → xs ≡ ys
cons_tail x y xs ys e = ap (λ l. drop 1 l) e

pub not_nil : {A : Type 0} (x : A) (xs : List A) → [] ≡ x ∷ xs → ⊥
not_nil x xs e = let long = ap length e in omega arith

-- settings

most_fits : (option : SolveOption) → most_of option < 2 ^ 32
most_fits Workers = omega arith
most_fits Depth = omega arith
most_fits Pieces = omega arith
most_fits Plies = omega arith
most_fits Budget = omega arith
most_fits Lease = omega arith

value_fits : (s : Setting) → IsSetting s → s.value < 2 ^ 64
value_fits s setting = let most = most_fits setting.0 in let value = setting.1.1.1 in omega arith

same_setting : (s t : Setting) → IsSetting s → IsSetting t → s.name ≡ t.name → decimal s.value ≡ decimal t.value → s ≡ t
same_setting s t first second name digits =
    let value : s.value ≡ t.value = decimal_injective s.value t.value (value_fits s first) (value_fits t second) digits in
    ap (λ (n : List ℕ). record { name = n; value = s.value }) name ∙ ap (λ (v : ℕ). record { name = t.name; value = v }) value

-- the options' names differ

-- the place of the option with this name
place_of_name : List ℕ → ℕ
place_of_name name =
    if bytes_eq name (codes "--workers") then 0 else if bytes_eq name (codes "--depth") then 1 else if bytes_eq name (codes "--pieces") then 2 else if bytes_eq name (codes "--plies") then 3 else if bytes_eq name (codes "--budget") then 4 else 5

option_at : ℕ → SolveOption
option_at place = if place == 0 then Workers else if place == 1 then Depth else if place == 2 then Pieces else if place == 3 then Plies else if place == 4 then Budget else Lease

place_by_name : (option : SolveOption) → place_of_name (option_name option) ≡ place_of option
unfolding place_of_name
place_by_name Workers = refl
place_by_name Depth = refl
place_by_name Pieces = refl
place_by_name Plies = refl
place_by_name Budget = refl
place_by_name Lease = refl

option_by_place : (option : SolveOption) → option_at (place_of option) ≡ option
unfolding option_at
option_by_place Workers = refl
option_by_place Depth = refl
option_by_place Pieces = refl
option_by_place Plies = refl
option_by_place Budget = refl
option_by_place Lease = refl

pub same_by_place : (one other : SolveOption) → place_of one ≡ place_of other → one ≡ other
same_by_place one other same = sym (option_by_place one) ∙ ap option_at same ∙ option_by_place other

pub same_by_name : (one other : SolveOption) → option_name one ≡ option_name other → one ≡ other
same_by_name one other same = same_by_place one other (sym (place_by_name one) ∙ ap place_of_name same ∙ place_by_name other)

pub is_two_or_three : (pieces : ℕ) → 2 ≤ pieces → pieces ≤ 3 → IsTableSize pieces
is_two_or_three pieces least most = go (pieces == 2) refl
  where
    go : (b : Bool) → (pieces == 2) ≡ b → IsTableSize pieces
    go true e = inl (grind (arith, common_steps))
    go false e = inr (grind (arith, common_steps))

-- a setting with an option's name has a number that the option takes
pub takes_value : (option : SolveOption) (s : Setting) → IsSetting s → s.name ≡ option_name option → Takes option s.value
takes_value option s setting named = subst (λ o. Takes o s.value) (same_by_name setting.0 option (sym setting.1.0 ∙ named)) setting.1.1

-- the settings that stand behind others in the same words
pub record Splits (given whole : List Setting) (word : List ℕ) (rest : List (List ℕ)) : Type 0 where
  pub next : Setting
  pub more : List Setting
  pub split : whole ≡ given ++ next ∷ more
  pub name : next.name ≡ word
  pub value : decimal next.value ∷ flat_map setting_words more ≡ rest

pub settings_split : (given whole : List Setting) (word : List ℕ) (rest : List (List ℕ)) → AreSettings given → AreSettings whole → flat_map setting_words whole ≡ flat_map setting_words given ++ word ∷ rest → Splits given whole word rest
settings_split [] [] word rest first second e = absurd (not_nil _ _ e)
settings_split [] (s ∷ ss) word rest first second e = record { next = s; more = ss; split = refl; name = cons_head _ _ _ _ e; value = cons_tail _ _ _ _ e }
settings_split (g ∷ gs) [] word rest first second e = absurd (not_nil _ _ e)
settings_split (g ∷ gs) (s ∷ ss) word rest first second e =
    let behind = cons_tail _ _ _ _ e in
    let same : s ≡ g = same_setting s g second.0 first.0 (cons_head _ _ _ _ e) (cons_head _ _ _ _ behind) in
    let r = settings_split gs ss word rest first.2 second.2 (cons_tail _ _ _ _ behind) in
    record { next = r.next; more = r.more; split = ap (λ t. t ∷ ss) same ∙ ap (λ l. g ∷ l) r.split; name = r.name; value = r.value }

-- words are those of one list of settings
pub same_settings : (given whole : List Setting) → AreSettings given → AreSettings whole → flat_map setting_words whole ≡ flat_map setting_words given → whole ≡ given
same_settings [] [] first second e = refl
same_settings [] (s ∷ ss) first second e = absurd (not_nil _ _ (sym e))
same_settings (g ∷ gs) [] first second e = absurd (not_nil _ _ e)
same_settings (g ∷ gs) (s ∷ ss) first second e =
    let behind = cons_tail _ _ _ _ e in
    let same : s ≡ g = same_setting s g second.0 first.0 (cons_head _ _ _ _ e) (cons_head _ _ _ _ behind) in
    ap (λ t. t ∷ ss) same ∙ ap (λ l. g ∷ l) (same_settings gs ss first.2 second.2 (cons_tail _ _ _ _ behind))

-- behind others, a setting has a name of its own and is one that there is
pub new_before : (given : List Setting) (next : Setting) (more : List Setting) → AreSettings (given ++ next ∷ more) → IsSetting next × IsNew next.name given
new_before [] next more all = (all.0, tt)
new_before (g ∷ gs) next more all =
    let r = new_before gs next more all.2 in
    (r.0, ((λ same. other_name gs next more g.name all.1 (sym same)), r.1))
  where
    other_name : (given : List Setting) (next : Setting) (more : List Setting) (name : List ℕ) → IsNew name (given ++ next ∷ more) → next.name ≢ name
    other_name [] next more name new = new.0
    other_name (g ∷ gs) next more name new = other_name gs next more name new.1

-- a setting with a new name may stand behind others
pub IsNew-more : (name : List ℕ) (given : List Setting) (next : Setting) → IsNew name given → next.name ≢ name → IsNew name (given ++ next ∷ [])
IsNew-more name [] next new other = (other, tt)
IsNew-more name (g ∷ gs) next new other = (new.0, IsNew-more name gs next new.1 other)

pub AreSettings-more : (given : List Setting) (next : Setting) → AreSettings given → IsSetting next → IsNew next.name given → AreSettings (given ++ next ∷ [])
AreSettings-more [] next all one new = (one, tt, tt)
AreSettings-more (g ∷ gs) next all one new = (all.0, IsNew-more g.name gs next all.1 (λ same. new.0 (sym same)), AreSettings-more gs next all.2 one new.1)

-- which number an option has

cond_skipped : (b : Bool) (P : Type 0) (x rest : Option ℕ) → Decides b P → ¬ P → cond b x rest ≡ rest
cond_skipped true P x rest d none = absurd (none (d.0 refl))
cond_skipped false P x rest d none = refl

cond_taken : (b : Bool) (P : Type 0) (x rest : Option ℕ) → Decides b P → P → cond b x rest ≡ x
cond_taken true P x rest d one = refl
cond_taken false P x rest d one = let wrong : false ≡ true = d.1 one in search rules

some_none : {A : Type 0} (n : A) → Some n ≡ None → ⊥
some_none n e = search rules

cond_unnamed : (b : Bool) (P : Type 0) (n : ℕ) (rest : Option ℕ) → Decides b P → cond b (Some n) rest ≡ None → (¬ P) × (rest ≡ None)
cond_unnamed true P n rest d e = absurd (some_none n e)
cond_unnamed false P n rest d e = ((λ p. let wrong : false ≡ true = d.1 p in search rules), e)

-- a new name has no number
pub number_for-new : (name : List ℕ) (given : List Setting) → IsNew name given → number_for name given ≡ None
number_for-new name [] new = refl
number_for-new name (g ∷ gs) new =
    cond_skipped (bytes_eq g.name name) (g.name ≡ name) (Some g.value) (number_for name gs) (bytes_eq-Decides g.name name) new.0 ∙ number_for-new name gs new.1

pub IsNew-from_none : (name : List ℕ) (given : List Setting) → number_for name given ≡ None → IsNew name given
IsNew-from_none name [] e = tt
IsNew-from_none name (g ∷ gs) e =
    let u = cond_unnamed (bytes_eq g.name name) (g.name ≡ name) g.value (number_for name gs) (bytes_eq-Decides g.name name) e in
    (u.0, IsNew-from_none name gs u.1)

-- one setting more gives its name its number, and no other name one
pub number_for-same : (given : List Setting) (next : Setting) → IsNew next.name given → number_for next.name (given ++ next ∷ []) ≡ Some next.value
number_for-same [] next new = cond_taken (bytes_eq next.name next.name) (next.name ≡ next.name) (Some next.value) None (bytes_eq-Decides next.name next.name) refl
number_for-same (g ∷ gs) next new =
    cond_skipped (bytes_eq g.name next.name) (g.name ≡ next.name) (Some g.value) (number_for next.name (gs ++ next ∷ [])) (bytes_eq-Decides g.name next.name) new.0 ∙ number_for-same gs next new.1

pub number_for-other : (name : List ℕ) (given : List Setting) (next : Setting) → next.name ≢ name → number_for name (given ++ next ∷ []) ≡ number_for name given
number_for-other name [] next other = cond_skipped (bytes_eq next.name name) (next.name ≡ name) (Some next.value) None (bytes_eq-Decides next.name name) other
number_for-other name (g ∷ gs) next other = ap (λ (r : Option ℕ). cond (bytes_eq g.name name) (Some g.value) r) (number_for-other name gs next other)

-- ---- which numbers options may have

-- the number of an option is that of a setting with its name, or none
number_from : (name : List ℕ) (given : List Setting) → AreSettings given → (number_for name given ≡ None) ⊎ ((s : Setting) × (IsSetting s × ((s.name ≡ name) × (number_for name given ≡ Some s.value))))
number_from name [] all = inl refl
number_from name (g ∷ gs) all = by (bytes_eq g.name name) refl (number_from name gs all.2)
  where
    by : (b : Bool) → bytes_eq g.name name ≡ b → (number_for name gs ≡ None) ⊎ ((s : Setting) × (IsSetting s × ((s.name ≡ name) × (number_for name gs ≡ Some s.value))))
        → (cond b (Some g.value) (number_for name gs) ≡ None) ⊎ ((s : Setting) × (IsSetting s × ((s.name ≡ name) × (cond b (Some g.value) (number_for name gs) ≡ Some s.value))))
    by true e rest = inr (g, (all.0, ((bytes_eq-Decides g.name name).0 e, refl)))
    by false e rest = rest

-- so it, or the default, is as the option's limits have it
pub within_limits : (P : ℕ → Type 0) (name : List ℕ) (given : List Setting) (default : ℕ) → AreSettings given → ((s : Setting) → IsSetting s → s.name ≡ name → P s.value) → P default
    → P (unwrap_or (number_for name given) default)
within_limits P name given default all each other = elim (number_from name given all) [
  | inl none ↦ subst (λ o. P (unwrap_or o default)) (sym none) other
  | inr some ↦ subst (λ o. P (unwrap_or o default)) (sym some.1.1.1) (each some.0 some.1.0 some.1.1.0)
]

takes_default : (option : SolveOption) → Takes option (default_of option)
takes_default Workers = (omega arith, omega arith)
takes_default Depth = (omega arith, omega arith)
takes_default Pieces = (omega arith, omega arith)
takes_default Plies = (omega arith, omega arith)
takes_default Budget = (omega arith, omega arith)
takes_default Lease = (omega arith, omega arith)

-- the option takes the number that it has
pub takes_number : (option : SolveOption) (given : List Setting) → AreSettings given → Takes option (number_of option given)
takes_number option given all = within_limits (Takes option) (option_name option) given (default_of option) all (takes_value option) (takes_default option)

takes_least : (option : SolveOption) → Takes option (least_of option)
takes_least Workers = (omega arith, omega arith)
takes_least Depth = (omega arith, omega arith)
takes_least Pieces = (omega arith, omega arith)
takes_least Plies = (omega arith, omega arith)
takes_least Budget = (omega arith, omega arith)
takes_least Lease = (omega arith, omega arith)

-- a setting of each option
pub least_setting : (option : SolveOption) → IsSetting (record { name = option_name option; value = least_of option })
least_setting option = (option, (refl, takes_least option))

-- ---- the numbers that are read

-- each number stands at its option's place
abbrev pub ArePlaced : List (Option ℕ) → List Setting → Type 0
ArePlaced numbers given = (option : SolveOption) → get_or numbers (place_of option) None ≡ number_for (option_name option) given

-- one number more
pub placed_more : (numbers : List (Option ℕ)) (given : List Setting) (option : SolveOption) (place n : ℕ) → place ≡ place_of option → place < length numbers → ArePlaced numbers given → IsNew (option_name option) given
    → ArePlaced (set numbers place (Some n)) (given ++ record { name = option_name option; value = n } ∷ [])
placed_more numbers given option place n at within placed new o = by (place_of o == place) refl
  where
    next : Setting
    next = record { name = option_name option; value = n }

    by : (b : Bool) → (place_of o == place) ≡ b → get_or (set numbers place (Some n)) (place_of o) None ≡ number_for (option_name o) (given ++ next ∷ [])
    by true e =
        let here : place_of o ≡ place = grind (arith, common_steps) in
        let same : o ≡ option = same_by_place o option (here ∙ at) in
        get_or-set_at numbers place (place_of o) (Some n) None here within
        ∙ sym (number_for-same given next new)
        ∙ ap (λ q. number_for (option_name q) (given ++ next ∷ [])) (sym same)
    by false e =
        let other : place_of o ≢ place = grind (arith, common_steps) in
        get_or-set_other numbers place (place_of o) (Some n) None other
        ∙ placed o
        ∙ sym (number_for-other (option_name o) given next (λ same. other (ap place_of (same_by_name o option (sym same)) ∙ sym at)))
