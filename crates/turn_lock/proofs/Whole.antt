-- The table as it is made, and as it is closed.
use Rattle.std.proofs.Common.{◌≡◌, ℕ, zero, suc, ◌<◌, ◌^◌, List, [], ◌∷◌, length, refl, ap, sym, ◌∙◌, subst}
use Rattle.std.specs.Prelude.{Option, Some, None}
use mathlib.Core.Option.{some, some-injective, some-ne-none}
use lib.ListN.{get_elem?}
use Rattle.atomic_table.specs.Table.{opening, Final, Seen}
use Rattle.turn_lock.specs.declared.view.SeatView.{SeatView}
use Rattle.turn_lock.specs.Growth.{GrowsTo}
use Rattle.turn_lock.specs.Turns.{IsHome}
use Rattle.turn_lock.specs.Views.{Seated, outside, entering}
use Rattle.turn_lock.proofs.Growing.{GrowsTo-same}
use Rattle.turn_lock.proofs.Keeping.{Home, Rule, KnowsView, EachSeat}

module _ {V E : Type 0} (entries : V → List E) (may_add : E → Type 0) where
  only_seat : (P : ℕ → SeatView E → Type 0) (mine : SeatView E) → P 0 mine → EachSeat entries may_add P (mine ∷ [])
  only_seat P mine here zero v at = subst (P 0) (some-injective mine v at) here
  only_seat P mine here (suc seat) v at = absurd (some-ne-none v (sym at))

  pub begins : (value : V) → length (entries value) < 2 ^ 64 → Rule entries may_add (opening (0 ∷ length (entries value) ∷ []) (Some value ∷ []) (outside (entries value)))
  begins value fits = record {
    turn = 0;
    holder = 0;
    home = some (Some value);
    log = entries value;
    words = refl;
    homes = refl;
    fits = fits;
    at_rest = λ _. (value, refl, refl);
    each_seat = only_seat (KnowsView entries may_add 0 0 (some (Some value)) (entries value)) (outside (entries value)) (GrowsTo-same may_add (entries value));
  }

  -- what is found in a table that was closed with the turn: the value, which the front grew to, and its number of entries
  abbrev pub Found : List E → ℕ → Option V → Type 0
  Found front count found = (value : V) × (found ≡ Some value) × GrowsTo may_add front (entries value) × (length (entries value) ≡ count)

  pub closes : (id : ℕ) (front : List E) (me : Seated V E) (words : List ℕ) (slots : List (Option V)) (count : ℕ) (found : Option V) → me ≡ (entering front, []) → Final (Seen (Rule entries may_add) id me.0) words slots
      → get_elem? words 1 ≡ some count → get_elem? slots 0 ≡ some found → Found front count found
  closes id front me words slots count found is end at_count at_slot =
      let s = end.0 in
      let r = end.1.0 in
      let at : get_elem? s.views id ≡ some (entering front) = end.1.1 ∙ ap (λ (m : Seated V E). some m.0) is in
      let known = r.each_seat id (entering front) at in
      let there : IsHome entries may_add r.log r.home = known.3 in
      let home : get_elem? s.homes 0 ≡ some (some (Some there.0)) = ap (λ (homes : List (Home entries may_add)). get_elem? homes 0) r.homes ∙ ap some there.1 in
      let value : found ≡ Some there.0 = some-injective found (Some there.0) (sym at_slot ∙ end.4 0 (Some there.0) home) in
      let number : length r.log ≡ count = some-injective (length r.log) count (sym (ap (λ (ws : List ℕ). get_elem? ws 1) r.words) ∙ (ap (λ (ws : List ℕ). get_elem? ws 1) end.2 ∙ at_count)) in
      (there.0, value, subst (GrowsTo may_add front) (sym there.2) known.2, ap length there.2 ∙ number)

  pub closes_some : (front : List E) (count : ℕ) (found : Option V) (value : V) → found ≡ Some value → Found front count found → GrowsTo may_add front (entries value) × (length (entries value) ≡ count)
  closes_some front count found value is end =
      let same : end.0 ≡ value = cc (end.1, is) in
      subst (λ (v : V). GrowsTo may_add front (entries v) × (length (entries v) ≡ count)) same (end.2, end.3)

  pub closes_none : (front : List E) (count : ℕ) (found : Option V) → found ≡ None → Found front count found → ⊥
  closes_none front count found is end = absurd (cc (end.1, is))
