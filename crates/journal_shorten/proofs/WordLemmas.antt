-- Which words ask for a task, and where others are refused.
use Rattle.std.proofs.Common.{◌≡◌, ◌≢◌, ◌<◌, ◌≤◌, ◌+◌, ℕ, List, [], ◌∷◌, ◌++◌, inl, inr, ◌⊎◌, refl, sym, ◌∙◌, ap, subst, arith, length, take, get_or, codes, ◌==◌, if◌then◌else◌}
use Rattle.journal_shorten.specs.Words.{BeginsRequest, IsRefusedAt, Says, task_word}
use Rattle.journal_shorten.specs.declared.words.Task.{Task}
use Rattle.journal_shorten.specs.declared.words.Task.TheVariants.{Shorten, Which}

cons_head : {X : Type 0} (x y : X) (xs ys : List X) → x ∷ xs ≡ y ∷ ys → x ≡ y
cons_head x y xs ys same = cc

cons_tail : {X : Type 0} (x y : X) (xs ys : List X) → x ∷ xs ≡ y ∷ ys → xs ≡ ys
cons_tail x y xs ys same = cc

-- the task whose word begins so
task_told : List ℕ → Task
task_told text = if get_or text 0 0 == 115 then Shorten else Which

task_told_is : (task : Task) → task_told (task_word task) ≡ task
unfolding task_told
task_told_is Shorten = refl
task_told_is Which = refl

same_task_word : (one other : Task) → task_word one ≡ task_word other → one ≡ other
same_task_word one other same = sym (task_told_is one) ∙ ap task_told same ∙ task_told_is other

pub says_by : (words : List (List ℕ)) (task : Task) (old new : List ℕ) → words ≡ task_word task ∷ old ∷ new ∷ [] → old ≢ [] → new ≢ [] → new ≢ old → Says words task
says_by words task old new spelling old_named new_named unlike =
    record { old = old; new = new; spelling = spelling; old_named = old_named; new_named = new_named; unlike = unlike }

-- one task
pub says_once : (words : List (List ℕ)) (one other : Task) → Says words one → Says words other → one ≡ other
says_once words one other first second =
    same_task_word one other (cons_head (task_word one) (task_word other) (first.old ∷ first.new ∷ []) (second.old ∷ second.new ∷ []) (sym first.spelling ∙ second.spelling))

-- what words say by their parts
module _ (task : Task) (word old new : List ℕ) (rest : List (List ℕ)) where
  said_word : word ∷ rest ≡ task_word task ∷ old ∷ new ∷ [] → word ≡ task_word task
  said_word same = cons_head word (task_word task) rest (old ∷ new ∷ []) same

  said_rest : word ∷ rest ≡ task_word task ∷ old ∷ new ∷ [] → rest ≡ old ∷ new ∷ []
  said_rest same = cons_tail word (task_word task) rest (old ∷ new ∷ []) same

longer : (word : List ℕ) → 100 ∷ word ≢ word
longer word same = (let e = ap length same in absurd (omega (arith, e)))

some_word : (letter : ℕ) (word : List ℕ) → letter ∷ word ≢ []
some_word letter word same = cc

begins_none : BeginsRequest []
begins_none = (task_word Shorten ∷ codes "a" ∷ (100 ∷ codes "a") ∷ [], (Shorten, says_by _ Shorten (codes "a") (100 ∷ codes "a") refl (some_word 97 []) (some_word 100 (codes "a")) (longer (codes "a"))))

begins_task : (task : Task) → BeginsRequest (task_word task ∷ [])
begins_task task = (codes "a" ∷ (100 ∷ codes "a") ∷ [], (task, says_by _ task (codes "a") (100 ∷ codes "a") refl (some_word 97 []) (some_word 100 (codes "a")) (longer (codes "a"))))

begins_old : (task : Task) (old : List ℕ) → old ≢ [] → BeginsRequest (task_word task ∷ old ∷ [])
begins_old task old named = ((100 ∷ old) ∷ [], (task, says_by _ task old (100 ∷ old) refl named (some_word 100 old) (longer old)))

begins_new : (task : Task) (old new : List ℕ) → old ≢ [] → new ≢ [] → new ≢ old → BeginsRequest (task_word task ∷ old ∷ new ∷ [])
begins_new task old new named new_named unlike = ([], (task, says_by _ task old new refl named new_named unlike))

-- ---- the words, by their number

refused_none : IsRefusedAt [] 0
refused_none = record {
  no_request = λ task says. (let e = says.spelling in cc);
  within = omega arith;
  good_before = begins_none;
  bad_with_it = λ inside. absurd (omega (arith, inside));
}

refused_task : (word : List ℕ) (rest : List (List ℕ)) → ((task : Task) → word ≢ task_word task) → IsRefusedAt (word ∷ rest) 0
refused_task word rest none = record {
  no_request = λ task says. none task (said_word task word says.old says.new rest says.spelling);
  within = omega arith;
  good_before = begins_none;
  bad_with_it = λ inside begins. (let says = begins.1.1 in none begins.1.0 (said_word begins.1.0 word says.old says.new begins.0 says.spelling));
}

refused_lone : (task : Task) → IsRefusedAt (task_word task ∷ []) 1
refused_lone task = record {
  no_request = λ other says. (let e = said_rest other (task_word task) says.old says.new [] says.spelling in cc);
  within = omega arith;
  good_before = begins_task task;
  bad_with_it = λ inside. absurd (omega (arith, inside));
}

-- the second word is empty
refused_old : (task : Task) (rest : List (List ℕ)) → IsRefusedAt (task_word task ∷ [] ∷ rest) 1
refused_old task rest = record {
  no_request = λ other says. says.old_named (sym (cons_head [] says.old rest _ (said_rest other (task_word task) says.old says.new ([] ∷ rest) says.spelling)));
  within = omega arith;
  good_before = begins_task task;
  bad_with_it = λ inside begins. (let says = begins.1.1 in
      says.old_named (sym (cons_head [] says.old begins.0 _ (said_rest begins.1.0 (task_word task) says.old says.new ([] ∷ begins.0) says.spelling))));
}

refused_pair : (task : Task) (old : List ℕ) → old ≢ [] → IsRefusedAt (task_word task ∷ old ∷ []) 2
refused_pair task old named = record {
  no_request = λ other says. (let e = ap length says.spelling in absurd (omega (arith, e)));
  within = omega arith;
  good_before = begins_old task old named;
  bad_with_it = λ inside. absurd (omega (arith, inside));
}

-- the third word is empty, or like the second
no_new : (task : Task) (word old new : List ℕ) (rest : List (List ℕ)) → (new ≡ []) ⊎ (new ≡ old) → (other : Task) → Says (word ∷ old ∷ new ∷ rest) other → ⊥
no_new task word old new rest bad other says =
    let paths = said_rest other word says.old says.new (old ∷ new ∷ rest) says.spelling in
    let same_old = cons_head old says.old (new ∷ rest) (says.new ∷ []) paths in
    let same_new = cons_head new says.new rest [] (cons_tail old says.old (new ∷ rest) (says.new ∷ []) paths) in
    by bad same_old same_new
  where
    by : (new ≡ []) ⊎ (new ≡ old) → old ≡ says.old → new ≡ says.new → ⊥
    by (inl empty) same_old same_new = says.new_named (sym same_new ∙ empty)
    by (inr like) same_old same_new = says.unlike (sym same_new ∙ like ∙ same_old)

refused_new : (task : Task) (old new : List ℕ) (rest : List (List ℕ)) → old ≢ [] → (new ≡ []) ⊎ (new ≡ old) → IsRefusedAt (task_word task ∷ old ∷ new ∷ rest) 2
refused_new task old new rest named bad = record {
  no_request = λ other says. no_new task (task_word task) old new rest bad other says;
  within = omega arith;
  good_before = begins_old task old named;
  bad_with_it = λ inside begins. no_new task (task_word task) old new begins.0 bad begins.1.0 begins.1.1;
}

refused_more : (task : Task) (old new more : List ℕ) (rest : List (List ℕ)) → old ≢ [] → new ≢ [] → new ≢ old → IsRefusedAt (task_word task ∷ old ∷ new ∷ more ∷ rest) 3
refused_more task old new more rest named new_named unlike = record {
  no_request = λ other says. (let e = ap length says.spelling in absurd (omega (arith, e)));
  within = omega arith;
  good_before = begins_new task old new named new_named unlike;
  bad_with_it = λ inside begins. (let e = ap length begins.1.1.spelling in absurd (omega (arith, e)));
}

-- ---- by what the code reads of them

pub at_nothing : (words : List (List ℕ)) → length words ≡ 0 → IsRefusedAt words 0
at_nothing [] long = refused_none
at_nothing (word ∷ rest) long = absurd (omega (arith, long))

pub at_no_task : (words : List (List ℕ)) → 0 < length words → ((task : Task) → get_or words 0 [] ≢ task_word task) → IsRefusedAt words 0
at_no_task [] long none = absurd (omega (arith, long))
at_no_task (word ∷ rest) long none = refused_task word rest none

pub at_task_alone : (words : List (List ℕ)) (task : Task) → length words ≡ 1 → get_or words 0 [] ≡ task_word task → IsRefusedAt words 1
at_task_alone [] task long is = absurd (omega (arith, long))
at_task_alone (word ∷ []) task long is = subst (λ (w : List ℕ). IsRefusedAt (w ∷ []) 1) (sym is) (refused_lone task)
at_task_alone (word ∷ old ∷ rest) task long is = absurd (omega (arith, long))

pub at_no_old : (words : List (List ℕ)) (task : Task) → 1 < length words → get_or words 0 [] ≡ task_word task → get_or words 1 [] ≡ [] → IsRefusedAt words 1
at_no_old [] task long is empty = absurd (omega (arith, long))
at_no_old (word ∷ []) task long is empty = absurd (omega (arith, long))
at_no_old (word ∷ old ∷ rest) task long is empty =
    subst (λ (w : List ℕ). IsRefusedAt (w ∷ old ∷ rest) 1) (sym is)
    (subst (λ (w : List ℕ). IsRefusedAt (task_word task ∷ w ∷ rest) 1) (sym empty) (refused_old task rest))

pub at_old_alone : (words : List (List ℕ)) (task : Task) → length words ≡ 2 → get_or words 0 [] ≡ task_word task → get_or words 1 [] ≢ [] → IsRefusedAt words 2
at_old_alone [] task long is named = absurd (omega (arith, long))
at_old_alone (word ∷ []) task long is named = absurd (omega (arith, long))
at_old_alone (word ∷ old ∷ []) task long is named = subst (λ (w : List ℕ). IsRefusedAt (w ∷ old ∷ []) 2) (sym is) (refused_pair task old named)
at_old_alone (word ∷ old ∷ new ∷ rest) task long is named = absurd (omega (arith, long))

pub at_no_new : (words : List (List ℕ)) (task : Task) → 2 < length words → get_or words 0 [] ≡ task_word task → get_or words 1 [] ≢ []
    → (get_or words 2 [] ≡ []) ⊎ (get_or words 2 [] ≡ get_or words 1 []) → IsRefusedAt words 2
at_no_new [] task long is named bad = absurd (omega (arith, long))
at_no_new (word ∷ []) task long is named bad = absurd (omega (arith, long))
at_no_new (word ∷ old ∷ []) task long is named bad = absurd (omega (arith, long))
at_no_new (word ∷ old ∷ new ∷ rest) task long is named bad = subst (λ (w : List ℕ). IsRefusedAt (w ∷ old ∷ new ∷ rest) 2) (sym is) (refused_new task old new rest named bad)

pub at_more : (words : List (List ℕ)) (task : Task) → 3 < length words → get_or words 0 [] ≡ task_word task → get_or words 1 [] ≢ [] → get_or words 2 [] ≢ []
    → get_or words 2 [] ≢ get_or words 1 [] → IsRefusedAt words 3
at_more [] task long is named new_named unlike = absurd (omega (arith, long))
at_more (word ∷ []) task long is named new_named unlike = absurd (omega (arith, long))
at_more (word ∷ old ∷ []) task long is named new_named unlike = absurd (omega (arith, long))
at_more (word ∷ old ∷ new ∷ []) task long is named new_named unlike = absurd (omega (arith, long))
at_more (word ∷ old ∷ new ∷ more ∷ rest) task long is named new_named unlike =
    subst (λ (w : List ℕ). IsRefusedAt (w ∷ old ∷ new ∷ more ∷ rest) 3) (sym is) (refused_more task old new more rest named new_named unlike)

pub at_three : (words : List (List ℕ)) (task : Task) → length words ≡ 3 → get_or words 0 [] ≡ task_word task → get_or words 1 [] ≢ [] → get_or words 2 [] ≢ []
    → get_or words 2 [] ≢ get_or words 1 [] → Says words task
at_three [] task long is named new_named unlike = absurd (omega (arith, long))
at_three (word ∷ []) task long is named new_named unlike = absurd (omega (arith, long))
at_three (word ∷ old ∷ []) task long is named new_named unlike = absurd (omega (arith, long))
at_three (word ∷ old ∷ new ∷ []) task long is named new_named unlike =
    says_by (word ∷ old ∷ new ∷ []) task old new (ap (λ (w : List ℕ). w ∷ old ∷ new ∷ []) is) named new_named unlike
at_three (word ∷ old ∷ new ∷ more ∷ rest) task long is named new_named unlike = absurd (omega (arith, long))
