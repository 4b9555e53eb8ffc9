-- What one entry more does to a line's records.
use Rattle.std.proofs.Common.{◌≡◌, List, [], ◌∷◌, ◌++◌, refl, ap, sym, ◌∙◌, arith, append_assoc, append-nil}
use Rattle.std.specs.Prelude.{Bool, true, false, cond, ◌||◌}
use Rattle.std.specs.List.{list_any}
use Rattle.std.proofs.lemmas.Bool.{true≢false}
use Rattle.bench_records.specs.declared.records.BenchRecord.{BenchRecord}
use Rattle.tree_manager.specs.declared.entries.Entry.{Entry}
use Rattle.tree_manager.specs.declared.entries.Entry.TheVariants.{Put, Attached, Leased, Released, Acked, Broken}
use Rattle.tree_manager.specs.Entries.{record_put, acknowledges}
use Rattle.tree_manager.specs.Lines.{recorded, applied_in, unapplied_in}

-- ---- tests

pub or-false : (b : Bool) → (b || false) ≡ b
or-false true = refl
or-false false = refl

or_assoc : (a b c : Bool) → (a || (b || c)) ≡ ((a || b) || c)
or_assoc true b c = refl
or_assoc false b c = refl

pub any_push : {X : Type 0} (p : X → Bool) (xs : List X) (x : X) → list_any p (xs ++ x ∷ []) ≡ (list_any p xs || p x)
any_push p [] x = or-false (p x)
any_push p (y ∷ xs) x = rw (any_push p xs x) (or_assoc (p y) (list_any p xs) (p x))

pub any_push_not : {X : Type 0} (p : X → Bool) (xs : List X) (x : X) → p x ≡ false → list_any p (xs ++ x ∷ []) ≡ list_any p xs
any_push_not p xs x h = any_push p xs x ∙ ap (λ b. list_any p xs || b) h ∙ or-false (list_any p xs)

or_right_true : (a b : Bool) → b ≡ true → (a || b) ≡ true
or_right_true true b h = refl
or_right_true false b h = h

pub any_push_yes : {X : Type 0} (p : X → Bool) (xs : List X) (x : X) → p x ≡ true → list_any p (xs ++ x ∷ []) ≡ true
any_push_yes p xs x h = any_push p xs x ∙ or_right_true (list_any p xs) (p x) h

-- ---- records

pub acknowledged_puts_none : (e : Entry) → acknowledges e ≡ true → record_put e ≡ []
acknowledged_puts_none (Put r) h = absurd (true≢false (sym h))
acknowledged_puts_none (Attached a) h = refl
acknowledged_puts_none (Leased l) h = refl
acknowledged_puts_none (Released id) h = refl
acknowledged_puts_none (Acked m) h = refl
acknowledged_puts_none (Broken f) h = refl

pub recorded_push : (line : List Entry) (e : Entry) → recorded (line ++ e ∷ []) ≡ recorded line ++ record_put e
recorded_push [] e = append-nil (record_put e)
recorded_push (x ∷ line) e = ap (λ rs. record_put x ++ rs) (recorded_push line e) ∙ sym (append_assoc (record_put x) (recorded line) (record_put e))

pub applied_more : (line : List Entry) (e : Entry) → acknowledges e ≡ false → applied_in (line ++ e ∷ []) ≡ applied_in line
applied_more [] e h = refl
applied_more (x ∷ line) e h = rw (any_push_not acknowledges line e h, applied_more line e h) refl

pub applied_all : (line : List Entry) (e : Entry) → acknowledges e ≡ true → applied_in (line ++ e ∷ []) ≡ recorded line
applied_all [] e h = refl
applied_all (x ∷ line) e h = rw (any_push_yes acknowledges line e h, applied_all line e h) refl

cond_appends : (b : Bool) (xs ys zs : List BenchRecord) → cond b (xs ++ zs) (ys ++ (xs ++ zs)) ≡ cond b xs (ys ++ xs) ++ zs
cond_appends true xs ys zs = refl
cond_appends false xs ys zs = sym (append_assoc ys xs zs)

pub staged_more : (line : List Entry) (e : Entry) → acknowledges e ≡ false → unapplied_in (line ++ e ∷ []) ≡ unapplied_in line ++ record_put e
staged_more [] e h = rw h (append-nil (record_put e))
staged_more (x ∷ line) e h =
    rw (any_push_not acknowledges line e h, staged_more line e h) (cond_appends (acknowledges x || list_any acknowledges line) (unapplied_in line) (record_put x) (record_put e))

cond_true_or : (b : Bool) (ys : List BenchRecord) → cond (b || true) [] (ys ++ []) ≡ []
cond_true_or true ys = refl
cond_true_or false ys = refl

pub staged_none : (line : List Entry) (e : Entry) → acknowledges e ≡ true → unapplied_in (line ++ e ∷ []) ≡ []
staged_none [] e h = rw h refl
staged_none (x ∷ line) e h = rw (any_push_yes acknowledges line e h, staged_none line e h) (cond_true_or (acknowledges x) (record_put x))

-- nothing is applied where nothing was acknowledged
applied_unacknowledged : (line : List Entry) → list_any acknowledges line ≡ false → applied_in line ≡ []
applied_unacknowledged [] h = refl
applied_unacknowledged (x ∷ line) h = grind arith

split_at : (x : Entry) (line : List Entry) (a b : Bool) → a ≡ acknowledges x → b ≡ list_any acknowledges line → recorded line ≡ applied_in line ++ unapplied_in line
    → record_put x ++ recorded line ≡ cond b (record_put x ++ applied_in line) [] ++ cond (a || b) (unapplied_in line) (record_put x ++ unapplied_in line)
split_at x line true true p q ih = ap (λ rs. record_put x ++ rs) ih ∙ sym (append_assoc (record_put x) (applied_in line) (unapplied_in line))
split_at x line false true p q ih = ap (λ rs. record_put x ++ rs) ih ∙ sym (append_assoc (record_put x) (applied_in line) (unapplied_in line))
split_at x line true false p q ih = rw (acknowledged_puts_none x (sym p)) (ih ∙ ap (λ rs. rs ++ unapplied_in line) (applied_unacknowledged line (sym q)))
split_at x line false false p q ih = ap (λ rs. record_put x ++ rs) (ih ∙ ap (λ rs. rs ++ unapplied_in line) (applied_unacknowledged line (sym q)))

-- the records are those that are applied and then those that are staged
pub recorded_split : (line : List Entry) → recorded line ≡ applied_in line ++ unapplied_in line
recorded_split [] = refl
recorded_split (x ∷ line) = split_at x line (acknowledges x) (list_any acknowledges line) refl refl (recorded_split line)
