use Rattle.std.proofs.Common.{◌≡◌, ℕ, ◌-◌, true, false, cond, eqb, ◌&&◌, List, [], ◌∷◌, ◌++◌, refl, sym, ◌∙◌, ap}
use Rattle.std.specs.Prelude.{Result, Ok, Err, OnOk, slice_index, slice_set}
use Rattle.std.proofs.lemmas.Bool.{eq-eqb, ne_eqb}
use Rattle.std.proofs.lemmas.List.{append-nil}
use Rattle.endgame_table.specs.Marking.{Marks, lower, marked, newly, lowered, marked_last, newly_last, MarksLast}
use Rattle.endgame_table.proofs.marking.mark_last.Goals as goal

on_ok_map : {A E : Type 0} (P Q : Type 0) (r : Result A E) → (P → Q) → OnOk r P → OnOk r Q
on_ok_map P Q (Ok a) f h = f h
on_ok_map P Q (Err e) f h = h

-- what waits for no target any more is marked like any index
marks_last : (number i : ℕ) (waiting old new found more : List ℕ) → eqb (slice_index waiting i - 1) 0 ≡ true → Marks number (i ∷ []) old new found more
    → MarksLast number (i ∷ []) waiting (lower waiting i) old new found more
unfolding marked newly lowered marked_last newly_last
marks_last number i waiting old new found more e marks = record {
  waiting_are = refl;
  numbers_are = marks.numbers_are ∙ sym (ap (λ b. cond (b && eqb (slice_index old i) 0) (slice_set old i number) old) e);
  found_are = marks.found_are ∙ sym (ap (λ b. found ++ cond (b && eqb (slice_index old i) 0) (i ∷ []) []) e);
}

-- and what waits still is not
marks_none : (number i : ℕ) (waiting old found : List ℕ) → eqb (slice_index waiting i - 1) 0 ≡ false → MarksLast number (i ∷ []) waiting (lower waiting i) old old found found
unfolding lowered marked_last newly_last
marks_none number i waiting old found e = record {
  waiting_are = refl;
  numbers_are = sym (ap (λ b. cond (b && eqb (slice_index old i) 0) (slice_set old i number) old) e);
  found_are = sym (ap (λ b. found ++ cond (b && eqb (slice_index old i) 0) (i ∷ []) []) e ∙ append-nil found);
}

pub returns-then-is_last : goal.returns-then-is_last
returns-then-is_last c =
    on_ok_map _ _ c.mark.result
    (marks_last c.args.number c.args.index c.args.waiting.now c.args.numbers.now c.mark.new.numbers c.args.found.now.items c.mark.new.found.items (eq-eqb (slice_index c.args.waiting.now c.args.index - 1) 0 c.if-is_last.true))
    c.mark.ensures

pub returns-else-is_last : goal.returns-else-is_last
returns-else-is_last c = marks_none c.args.number c.args.index c.args.waiting.now c.args.numbers.now c.args.found.now.items (ne_eqb (slice_index c.args.waiting.now c.args.index - 1) 0 c.if-is_last.false)
