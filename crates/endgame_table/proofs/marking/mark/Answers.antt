use Rattle.std.proofs.Common.{◌≡◌, true, false, cond, eqb, [], ◌∷◌, ◌++◌, sym, ◌∙◌, ap}
use Rattle.std.specs.Prelude.{slice_index, slice_set}
use Rattle.std.proofs.lemmas.Bool.{eq-eqb, ne_eqb}
use Rattle.std.proofs.lemmas.List.{append-nil}
use Rattle.endgame_table.specs.Marking.{marked, newly}
use Rattle.endgame_table.proofs.marking.mark.Goals as goal

pub returns-then-numbers-index-ne0 : goal.returns-then-numbers-index-ne0
unfolding marked newly
returns-then-numbers-index-ne0 c =
    let i = c.args.index in
    let numbers = c.args.numbers.now in
    let found = c.args.found.now.items in
    let e : eqb (slice_index numbers i) 0 ≡ false = ne_eqb (slice_index numbers i) 0 c.if-numbers-index-ne0.true in
    record {
      numbers_are = sym (ap (λ b. cond b (slice_set numbers i c.args.number) numbers) e);
      found_are = sym (ap (λ b. found ++ cond b (i ∷ []) []) e ∙ append-nil found);
    }

pub returns : goal.returns
unfolding marked newly
returns c =
    let i = c.args.index in
    let numbers = c.args.numbers.now in
    let found = c.args.found.now.items in
    let e : eqb (slice_index numbers i) 0 ≡ true = eq-eqb (slice_index numbers i) 0 c.if-numbers-index-ne0.false in
    record {
      numbers_are = sym (ap (λ b. cond b (slice_set numbers i c.args.number) numbers) e);
      found_are = c.in_ok-push.ensures.items ∙ sym (ap (λ b. found ++ cond b (i ∷ []) []) e);
    }
