-- A seat is split, and two seats are joined.
use Rattle.std.proofs.Common.{◌≡◌, ◌⊎◌, ℕ, ◌<◌, ◌≤◌, ◌^◌, List, [], ◌∷◌, ◌++◌, length, set, refl, ap, sym, ◌∙◌, subst, inl, inr, ⊎_elim, arith}
use Rattle.std.specs.Prelude.{Option}
use mathlib.Core.Option.{some, none}
use mathlib.Core.Logic.{dite}
use native.Mathlib.Decide.{dec_le}
use lib.ListN.{get_elem?}
use Rattle.atomic_table.specs.Table.{step, keeps, Allows, Splits, Joins}
use Rattle.atomic_table.proofs.Lists.{set_again, set_else, at_snoc}
use Rattle.turn_lock.specs.declared.view.SeatView.{SeatView}
use Rattle.turn_lock.specs.declared.view.Stage.TheVariants.{Joining}
use Rattle.turn_lock.specs.Growth.{GrowsTo}
use Rattle.turn_lock.specs.Told.{KeepsLonger}
use Rattle.turn_lock.specs.Turns.{IsHome, Knows}
use Rattle.turn_lock.specs.Views.{Seated, outside, joining, gone}
use Rattle.turn_lock.proofs.Growing.{GrowsTo-same, GrowsTo-longer}
use Rattle.turn_lock.proofs.Keeping.{Tables, Home, Rule, KnowsView, EachSeat, plain, is_plain, seats_stay, Goes}

module _ {V E : Type 0} (entries : V → List E) (may_add : E → Type 0) where
  -- the rule, with other views
  with_views : (s : Tables entries may_add) (r : Rule entries may_add s) (views : List (SeatView E)) → EachSeat entries may_add (KnowsView entries may_add r.turn r.holder r.home r.log) views
      → Rule entries may_add record { words = s.words; homes = s.homes; views = views }
  with_views s r views all = record {
    turn = r.turn;
    holder = r.holder;
    home = r.home;
    log = r.log;
    words = r.words;
    homes = r.homes;
    fits = r.fits;
    at_rest = r.at_rest;
    each_seat = all;
  }

  pub splits : (id : ℕ) (front : List E) (v : SeatView E) → v ≡ outside front → Splits (Rule entries may_add) id v v v
  splits id front v is s r at = with_views s r (set s.views id v ++ v ∷ [])
      (λ seat u there. let before = subst (λ (views : List (SeatView E)). get_elem? (views ++ v ∷ []) seat ≡ some u) (set_again s.views id v at) there in
      ⊎_elim (r.each_seat seat u) (λ (same : v ≡ u). let P = KnowsView entries may_add r.turn r.holder r.home r.log in subst (P seat) (sym is ∙ same) (subst (P id) is (r.each_seat id v at))) (at_snoc s.views v u seat before))

  pub joins : (id : ℕ) (front : List E) (v : SeatView E) (other : ℕ) (front' : List E) (w : SeatView E) → v ≡ outside front → w ≡ outside front'
      → Joins (Rule entries may_add) id v other w (joining v w) gone
  joins id front v other front' w is is' s r at apart at' =
      let P = KnowsView entries may_add r.turn r.holder r.home r.log in
      let here = subst (P id) is (r.each_seat id v at) in
      let beside : get_elem? s.views other ≡ some w = sym (set_else s.views id other (joining v w) apart) ∙ at' in
      let there = subst (P other) is' (r.each_seat other w beside) in
      let this = subst (λ (z : SeatView E). GrowsTo may_add z.front r.log) (sym is) here in
      let that = subst (λ (z : SeatView E). GrowsTo may_add z.front r.log) (sym is') there in
      with_views s r (set (set s.views id (joining v w)) other gone)
      (seats_stay entries may_add P P (set s.views id (joining v w)) other gone tt (λ _ _ _ known. known) (seats_stay entries may_add P P s.views id (joining v w) (this, that) (λ _ _ _ known. known) r.each_seat))

  keeps_longer_at : (turn holder : ℕ) (home : Home entries may_add) (log : List E) (views : List (SeatView E)) (slots id : ℕ) (m : Seated V E) → m.0.stage ≡ Joining → m.1 ≡ [] → length log < 2 ^ 64
      → (turn ≡ 0 → IsHome entries may_add log home) → EachSeat entries may_add (KnowsView entries may_add turn holder home log) views → get_elem? views id ≡ some m.0 → Dec (length m.0.front ≤ length m.0.joined)
      → Goes entries may_add id m 0 (λ n. n) (KeepsLonger may_add (step slots 0 0 0 none) m) (plain entries may_add turn (length log) home views)
  keeps_longer_at turn holder home log views slots id m stage empty fits rest all at longer =
      let known = subst (Knows entries may_add turn holder home log id m.0.front m.0.joined) stage (all id m.0 at) in
      let goes : (xs : List E) → ((xs ≡ m.0.front) ⊎ (xs ≡ m.0.joined)) → GrowsTo may_add m.0.front xs → GrowsTo may_add m.0.joined xs → GrowsTo may_add xs log
      → Goes entries may_add id m 0 (λ n. n) (KeepsLonger may_add (step slots 0 0 0 none) m) (plain entries may_add turn (length log) home views) =
      λ xs which this that whole. (
        outside xs,
        keeps,
        tt,
        record {
          turn = turn;
          holder = holder;
          home = home;
          log = log;
          words = refl;
          homes = refl;
          fits = fits;
          at_rest = rest;
          each_seat = seats_stay entries may_add (KnowsView entries may_add turn holder home log) (KnowsView entries may_add turn holder home log) views id (outside xs) whole (λ _ _ _ k. k) all;
        },
        (xs, ap (λ (out : List (ℕ × Option V)). (outside xs, out)) empty, which, this, that),
      ) in
      dite longer
      (λ (le : length m.0.front ≤ length m.0.joined). goes m.0.joined (inr refl) (GrowsTo-longer may_add m.0.front m.0.joined log known.0 known.1 le) (GrowsTo-same may_add m.0.joined) known.1)
      (λ (gt : ¬ (length m.0.front ≤ length m.0.joined)). goes m.0.front (inl refl) (GrowsTo-same may_add m.0.front) (GrowsTo-longer may_add m.0.joined m.0.front log known.1 known.0 (omega arith)) known.0)

  pub keeps_longer : (slots id : ℕ) (me : Seated V E) → me.0.stage ≡ Joining → me.1 ≡ [] → Allows (Rule entries may_add) slots id me 0 (λ n. n) (KeepsLonger may_add (step slots 0 0 0 none) me)
  keeps_longer slots id me stage empty s r _ at _ = subst (Goes entries may_add id me 0 (λ n. n) (KeepsLonger may_add (step slots 0 0 0 none) me)) (is_plain entries may_add s r)
      (keeps_longer_at r.turn r.holder r.home r.log s.views slots id me stage empty r.fits r.at_rest r.each_seat at (dec_le (length me.0.front) (length me.0.joined)))
