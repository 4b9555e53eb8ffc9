-- What the slots of a window say, and what a row put in a free one changes.
use Rattle.std.proofs.Common.{◌≡◌, ℕ, ◌+◌, ◌<◌, inl, inr, List, length, sym, ◌∙◌, subst, ap, arith}
use Rattle.std.proofs.lemmas.Bool.{cases_lt, cases_eq}
use Rattle.draughts_board.specs.Board.{Board}
use Rattle.position_rows.specs.declared.windows.Slot.{Slot}
use Rattle.position_rows.specs.declared.windows.Found.TheVariants.{Free, Full}
use Rattle.position_rows.specs.Rows.{IsNumberOf}
use Rattle.position_rows.specs.Words.{hash_of}
use Rattle.position_rows.specs.Windows.{AreTaken, AreMissed, IsInWindow, IsFirstFree, IsPut, Tells, first_slot, in_window, slot_at, tag_of}

module _ {E : Type 0} (rows : List (Board × E)) (slots : List Slot) (p : Board) where
  pub none_missed : AreTaken slots p 0 × AreMissed rows slots p 0
  none_missed = (λ i lt. absurd (omega (arith, lt)), λ i lt. absurd (omega (arith, lt)))

  pub one_more_taken : (j : ℕ) → AreTaken slots p j → 0 < (in_window slots p j).number → AreTaken slots p (j + 1)
  one_more_taken j taken here i lt =
      elim (cases_lt i j) [
        | inl less ↦ taken i less
        | inr ge ↦ subst (λ (x : ℕ). 0 < (in_window slots p x).number) (omega (arith, lt, ge)) here
      ]

  pub one_more_missed : (j : ℕ) → AreMissed rows slots p j
      → ((in_window slots p j).tag ≡ tag_of (hash_of p) → ¬ IsNumberOf rows (in_window slots p j).number p)
      → AreMissed rows slots p (j + 1)
  one_more_missed j missed here i lt =
      elim (cases_lt i j) [
        | inl less ↦ missed i less
        | inr ge ↦ subst (λ (x : ℕ). (in_window slots p x).tag ≡ tag_of (hash_of p) → ¬ IsNumberOf rows (in_window slots p x).number p)
            (omega (arith, lt, ge)) here
      ]

  pub ends_full : AreTaken slots p 8 → AreMissed rows slots p 8 → Tells rows slots p Full
  ends_full taken missed = (taken, λ r row w. missed w.slot w.inside w.tag (r, w.number, row))

  pub ends_free : (j k : ℕ) → AreTaken slots p j → AreMissed rows slots p j → j < 8
      → k ≡ first_slot (hash_of p) (length slots) + j → k < length slots → (slot_at slots k).number ≡ 0
      → Tells rows slots p (Free k)
  ends_free j k taken missed inside place within free =
      let here : (in_window slots p j).number ≡ 0 = ap (λ (x : ℕ). (slot_at slots x).number) (sym place) ∙ free in (
        record { slot = j; inside = inside; taken = taken; place = place; within = within; free = free },
        λ r row w. elim (cases_lt w.slot j) [
          | inl less ↦ missed w.slot less w.tag (r, w.number, row)
          | inr ge ↦ elim (cases_eq w.slot j) [
            | inl same ↦ (
                let is : (in_window slots p w.slot).number ≡ 0 = ap (λ (x : ℕ). (in_window slots p x).number) same ∙ here in
                let number : (in_window slots p w.slot).number ≡ r + 1 = w.number in
                omega (arith, is, number))
            | inr ne ↦ (
                let past : 0 < (in_window slots p j).number = w.taken j (omega (arith, ge, ne)) in
                omega (arith, here, past))
          ]
        ],
      )

module _ (old new : List Slot) (k tag number : ℕ) (put : IsPut old new k tag number) where
  -- the slots of another window, or of this one
  pub taken_stays : (q : Board) (j : ℕ) → AreTaken old q j → AreTaken new q j
  taken_stays q j taken i lt = subst (λ (n : ℕ). 0 < (slot_at new (first_slot (hash_of q) n + i)).number) (sym put.long)
      (put.taken (first_slot (hash_of q) (length old) + i) (taken i lt))

  pub window_stays : (q : Board) (s : ℕ) → IsInWindow old q s → IsInWindow new q s
  window_stays q s w =
      let at : ℕ = first_slot (hash_of q) (length old) + w.slot in
      let same : slot_at new at ≡ slot_at old at = put.others at (λ e. omega (
        arith,
        sym (ap (λ (x : ℕ). (slot_at old x).number) (sym e) ∙ w.number) ∙ put.was,
      )) in
      record {
        slot = w.slot;
        inside = w.inside;
        taken = taken_stays q w.slot w.taken;
        tag = subst (λ (n : ℕ). (slot_at new (first_slot (hash_of q) n + w.slot)).tag ≡ tag_of (hash_of q)) (sym put.long)
            (ap (λ (x : Slot). x.tag) same ∙ w.tag);
        number = subst (λ (n : ℕ). (slot_at new (first_slot (hash_of q) n + w.slot)).number ≡ s + 1) (sym put.long)
            (ap (λ (x : Slot). x.number) same ∙ w.number);
      }

  pub put_in_window : (p : Board) (r : ℕ) → IsFirstFree old p k → tag ≡ tag_of (hash_of p) → number ≡ r + 1 → IsInWindow new p r
  put_in_window p r free is_tag is_number = record {
    slot = free.slot;
    inside = free.inside;
    taken = taken_stays p free.slot free.taken;
    tag = subst (λ (n : ℕ). (slot_at new (first_slot (hash_of p) n + free.slot)).tag ≡ tag_of (hash_of p)) (sym put.long)
        (subst (λ (x : ℕ). (slot_at new x).tag ≡ tag_of (hash_of p)) free.place (put.tag ∙ is_tag));
    number = subst (λ (n : ℕ). (slot_at new (first_slot (hash_of p) n + free.slot)).number ≡ r + 1) (sym put.long)
        (subst (λ (x : ℕ). (slot_at new x).number ≡ r + 1) free.place (put.number ∙ is_number));
  }
