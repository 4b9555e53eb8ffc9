-- The pass that holds the value adds entries, and gives value and turn back.
use Rattle.std.proofs.Common.{◌≡◌, ℕ, ◌+◌, ◌%◌, ◌<◌, ◌^◌, List, [], ◌∷◌, length, refl, ap, sym, ◌∙◌, subst, arith}
use Rattle.std.specs.Prelude.{Option, Some}
use mathlib.Core.Option.{some, none}
use lib.ListN.{get_elem?}
use Rattle.atomic_table.specs.Table.{step, keeps, gives, Allows}
use Rattle.turn_lock.specs.declared.view.SeatView.{SeatView}
use Rattle.turn_lock.specs.Growth.{GrowsTo}
use Rattle.turn_lock.specs.Told.{NotesEntries, GivesTurn}
use Rattle.turn_lock.specs.Views.{Seated, outside, holding}
use Rattle.turn_lock.proofs.Growing.{GrowsTo-same}
use Rattle.turn_lock.proofs.Keeping.{Home, Rule, KnowsView, EachSeat, plain, is_plain, seats_stay, others_know, no_wrap, Goes}

module _ {V E : Type 0} (entries : V → List E) (may_add : E → Type 0) where
  notes_entries_at : (turn holder : ℕ) (home : Home entries may_add) (log : List E) (views : List (SeatView E)) (slots id : ℕ) (front noted : List E) (added : ℕ) (out : List (ℕ × Option V))
      → GrowsTo may_add front noted → length front + added ≡ length noted → length noted < 2 ^ 64
      → EachSeat entries may_add (KnowsView entries may_add turn holder home log) views → get_elem? views id ≡ some (holding front)
      → Goes entries may_add id (holding front, out) 1 (λ n. (n + added) % 2 ^ 64) (NotesEntries noted (step slots 1 added 0 none) (holding front, out)) (plain entries may_add turn (length log) home views)
  notes_entries_at turn holder home log views slots id front noted added out grows long fits all at =
      let known = all id (holding front) at in
      let mine : id ≡ holder = known.0 in
      let positive : 0 < turn = known.1 in
      let whole : front ≡ log = known.2 in
      let sum : length log + added ≡ length noted = subst (λ (z : List E). length z + added ≡ length noted) whole long in
      let more : GrowsTo may_add log noted = subst (λ (z : List E). GrowsTo may_add z noted) whole grows in (
        holding noted,
        keeps,
        tt,
        record {
          turn = turn;
          holder = holder;
          home = home;
          log = noted;
          words = ap (λ n. turn ∷ n ∷ []) (no_wrap (length log) added (omega arith) ∙ sum);
          homes = refl;
          fits = fits;
          at_rest = λ e. absurd (omega arith);
          each_seat = seats_stay entries may_add (KnowsView entries may_add turn holder home log) (KnowsView entries may_add turn holder home noted) views id (holding noted) (mine, positive, refl)
              (λ seat v ne other. others_know entries may_add turn holder home log turn holder home noted seat more (λ _ e. ne (e ∙ sym mine)) v.front v.joined v.stage other) all;
        },
        refl,
      )

  pub notes_entries : (slots id : ℕ) (front noted : List E) (added : ℕ) (out : List (ℕ × Option V)) (me : Seated V E) → me ≡ (holding front, out)
      → GrowsTo may_add front noted → length front + added ≡ length noted → length noted < 2 ^ 64
      → Allows (Rule entries may_add) slots id me 1 (λ n. (n + added) % 2 ^ 64) (NotesEntries noted (step slots 1 added 0 none) me)
  notes_entries slots id front noted added out me is grows long fits = subst (λ (m : Seated V E). Allows (Rule entries may_add) slots id m 1 (λ n. (n + added) % 2 ^ 64) (NotesEntries noted (step slots 1 added 0 none) m)) (sym is)
      (λ s r _ at _. subst (Goes entries may_add id (holding front, out) 1 (λ n. (n + added) % 2 ^ 64) (NotesEntries noted (step slots 1 added 0 none) (holding front, out))) (is_plain entries may_add s r)
      (notes_entries_at r.turn r.holder r.home r.log s.views slots id front noted added out grows long fits r.each_seat at))

  gives_turn_at : (turn holder : ℕ) (home : Home entries may_add) (log : List E) (views : List (SeatView E)) (slots id : ℕ) (front : List E) (value : V) → entries value ≡ front → length log < 2 ^ 64
      → EachSeat entries may_add (KnowsView entries may_add turn holder home log) views → get_elem? views id ≡ some (holding front)
      → Goes entries may_add id (holding front, (0, Some value) ∷ []) 0 (λ _. 0) (λ _. GivesTurn (step slots 0 0 0 none) (holding front, (0, Some value) ∷ []) 0) (plain entries may_add turn (length log) home views)
  gives_turn_at turn holder home log views slots id front value same fits all at =
      let known = all id (holding front) at in
      let mine : id ≡ holder = known.0 in
      let whole : front ≡ log = known.2 in (
        outside front,
        gives,
        tt,
        record {
          turn = 0;
          holder = holder;
          home = some (Some value);
          log = log;
          words = refl;
          homes = refl;
          fits = fits;
          at_rest = λ _. (value, refl, same ∙ whole);
          each_seat = seats_stay entries may_add (KnowsView entries may_add turn holder home log) (KnowsView entries may_add 0 holder (some (Some value)) log) views id (outside front) (subst (GrowsTo may_add front) whole (GrowsTo-same may_add front))
              (λ seat v ne other. others_know entries may_add turn holder home log 0 holder (some (Some value)) log seat (GrowsTo-same may_add log) (λ _ e. ne (e ∙ sym mine)) v.front v.joined v.stage other) all;
        },
        refl,
      )

  pub gives_turn : (slots id : ℕ) (front : List E) (value : V) (me : Seated V E) → me ≡ (holding front, (0, Some value) ∷ []) → entries value ≡ front
      → Allows (Rule entries may_add) slots id me 0 (λ _. 0) (λ _. GivesTurn (step slots 0 0 0 none) me 0)
  gives_turn slots id front value me is same = subst (λ (m : Seated V E). Allows (Rule entries may_add) slots id m 0 (λ _. 0) (λ _. GivesTurn (step slots 0 0 0 none) m 0)) (sym is)
      (λ s r _ at _. subst (Goes entries may_add id (holding front, (0, Some value) ∷ []) 0 (λ _. 0) (λ _. GivesTurn (step slots 0 0 0 none) (holding front, (0, Some value) ∷ []) 0)) (is_plain entries may_add s r)
      (gives_turn_at r.turn r.holder r.home r.log s.views slots id front value same r.fits r.each_seat at))
