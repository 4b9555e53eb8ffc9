-- The turn is taken, and then the value.
use Rattle.std.proofs.Common.{◌≡◌, ℕ, zero, suc, ◌+◌, ◌%◌, ◌<◌, ◌^◌, eqb, ne_eqb, List, [], ◌∷◌, length, refl, ap, sym, ◌∙◌, subst, arith}
use Rattle.std.specs.Prelude.{Some}
use mathlib.Core.Option.{some, none}
use lib.ListN.{get_elem?}
use prog.Atomic.{either}
use Rattle.atomic_table.specs.Table.{step, keeps, takes, Allows}
use Rattle.atomic_table.proofs.Lists.{set_again}
use Rattle.turn_lock.specs.declared.view.SeatView.{SeatView}
use Rattle.turn_lock.specs.Growth.{GrowsTo}
use Rattle.turn_lock.specs.Told.{TakesTurn, TakesValue}
use Rattle.turn_lock.specs.Turns.{IsHome}
use Rattle.turn_lock.specs.Views.{Seated, outside, entering, holding}
use Rattle.turn_lock.proofs.Growing.{GrowsTo-same}
use Rattle.turn_lock.proofs.Keeping.{Home, Rule, KnowsView, EachSeat, plain, is_plain, seats_stay, others_know, no_wrap, Goes}

module _ {V E : Type 0} (entries : V → List E) (may_add : E → Type 0) where
  takes_turn_at : (turn holder : ℕ) (home : Home entries may_add) (log : List E) (views : List (SeatView E)) (slots id : ℕ) (front : List E) → length log < 2 ^ 64 → (turn ≡ 0 → IsHome entries may_add log home)
      → EachSeat entries may_add (KnowsView entries may_add turn holder home log) views → get_elem? views id ≡ some (outside front)
      → Goes entries may_add id (outside front, []) 0 (λ n. either (eqb n 0) 1 n) (TakesTurn (step slots 0 0 1 none) (outside front, [])) (plain entries may_add turn (length log) home views)
  takes_turn_at zero holder home log views slots id front fits rest all at = (
    entering front,
    keeps,
    tt,
    record {
      turn = 1;
      holder = id;
      home = home;
      log = log;
      words = refl;
      homes = refl;
      fits = fits;
      at_rest = λ e. absurd (omega arith);
      each_seat = seats_stay entries may_add (KnowsView entries may_add 0 holder home log) (KnowsView entries may_add 1 id home log) views id (entering front) (refl, omega arith, all id (outside front) at, rest refl)
          (λ seat v ne known. others_know entries may_add 0 holder home log 1 id home log seat (GrowsTo-same may_add log) (λ lt. absurd (omega arith)) v.front v.joined v.stage known) all;
    },
    (λ _. refl, λ ne. absurd (ne refl)),
  )
  takes_turn_at (suc turn) holder home log views slots id front fits rest all at = (
    outside front,
    keeps,
    tt,
    record {
      turn = suc turn;
      holder = holder;
      home = home;
      log = log;
      words = ap (λ b. either b 1 (suc turn) ∷ length log ∷ []) (ne_eqb (suc turn) 0 (λ e. omega arith));
      homes = refl;
      fits = fits;
      at_rest = rest;
      each_seat = subst (EachSeat entries may_add (KnowsView entries may_add (suc turn) holder home log)) (sym (set_again views id (outside front) at)) all;
    },
    (λ e. absurd (omega arith), λ _. refl),
  )

  pub takes_turn : (slots id : ℕ) (front : List E) (me : Seated V E) → me ≡ (outside front, [])
      → Allows (Rule entries may_add) slots id me 0 (λ n. either (eqb n 0) 1 n) (TakesTurn (step slots 0 0 1 none) me)
  takes_turn slots id front me is = subst (λ (m : Seated V E). Allows (Rule entries may_add) slots id m 0 (λ n. either (eqb n 0) 1 n) (TakesTurn (step slots 0 0 1 none) m)) (sym is)
      (λ s r _ at _. subst (Goes entries may_add id (outside front, []) 0 (λ n. either (eqb n 0) 1 n) (TakesTurn (step slots 0 0 1 none) (outside front, []))) (is_plain entries may_add s r)
      (takes_turn_at r.turn r.holder r.home r.log s.views slots id front r.fits r.at_rest r.each_seat at))

  takes_value_at : (turn holder : ℕ) (home : Home entries may_add) (log : List E) (views : List (SeatView E)) (slots id : ℕ) (front : List E) → length log < 2 ^ 64
      → EachSeat entries may_add (KnowsView entries may_add turn holder home log) views → get_elem? views id ≡ some (entering front)
      → Goes entries may_add id (entering front, []) 1 (λ n. (n + 0) % 2 ^ 64) (TakesValue entries may_add (step slots 1 0 0 none) (entering front, [])) (plain entries may_add turn (length log) home views)
  takes_value_at turn holder home log views slots id front fits all at =
      let known = all id (entering front) at in
      let there : IsHome entries may_add log home = known.3 in
      let mine : id ≡ holder = known.0 in
      let positive : 0 < turn = known.1 in (
        holding (entries there.0),
        takes 0 (Some there.0),
        ap some there.1,
        record {
          turn = turn;
          holder = holder;
          home = none;
          log = log;
          words = ap (λ n. turn ∷ n ∷ []) (no_wrap (length log) 0 (omega arith) ∙ omega arith);
          homes = refl;
          fits = fits;
          at_rest = λ e. absurd (omega arith);
          each_seat = seats_stay entries may_add (KnowsView entries may_add turn holder home log) (KnowsView entries may_add turn holder none log) views id (holding (entries there.0)) (mine, positive, there.2)
              (λ seat v ne other. others_know entries may_add turn holder home log turn holder none log seat (GrowsTo-same may_add log) (λ _ e. ne (e ∙ sym mine)) v.front v.joined v.stage other) all;
        },
        (there.0, refl, subst (GrowsTo may_add front) (sym there.2) known.2),
      )

  pub takes_value : (slots id : ℕ) (front : List E) (me : Seated V E) → me ≡ (entering front, [])
      → Allows (Rule entries may_add) slots id me 1 (λ n. (n + 0) % 2 ^ 64) (TakesValue entries may_add (step slots 1 0 0 none) me)
  takes_value slots id front me is = subst (λ (m : Seated V E). Allows (Rule entries may_add) slots id m 1 (λ n. (n + 0) % 2 ^ 64) (TakesValue entries may_add (step slots 1 0 0 none) m)) (sym is)
      (λ s r _ at _. subst (Goes entries may_add id (entering front, []) 1 (λ n. (n + 0) % 2 ^ 64) (TakesValue entries may_add (step slots 1 0 0 none) (entering front, []))) (is_plain entries may_add s r)
      (takes_value_at r.turn r.holder r.home r.log s.views slots id front r.fits r.each_seat at))
