-- What the proofs of the steps share: the table with its words and its slot written out, and the seats that a step leaves alone.
use Rattle.std.proofs.Common.{◌≡◌, ◌≢◌, ℕ, ◌+◌, ◌%◌, ◌<◌, ◌^◌, List, [], ◌∷◌, length, set, sym, subst, ⊎_elim}
use Rattle.std.specs.Prelude.{Option, slice_index}
use Rattle.std.proofs.Math.Nat.{mod-eq_of_lt}
use mathlib.Core.Option.{some}
use mathlib.Core.Option as maybe
use lib.ListN.{get_elem?}
use Rattle.atomic_table.specs.Table.{State, Act, stepped, Valid, carried_after}
use Rattle.atomic_table.proofs.Lists.{at_set}
use Rattle.turn_lock.specs.declared.view.SeatView.{SeatView}
use Rattle.turn_lock.specs.declared.view.Stage.{Stage}
use Rattle.turn_lock.specs.declared.view.Stage.TheVariants.{Outside, Entering, Holding, Joining, Gone}
use Rattle.turn_lock.specs.Growth.{GrowsTo}
use Rattle.turn_lock.specs.Turns.{Knows, Turns}
use Rattle.turn_lock.specs.Views.{Seated}
use Rattle.turn_lock.proofs.Growing.{GrowsTo-trans}

-- a count word that does not wrap
pub no_wrap : (count added : ℕ) → count + added < 2 ^ 64 → (count + added) % 2 ^ 64 ≡ count + added
no_wrap count added fits = mod-eq_of_lt fits

module _ {V E : Type 0} (entries : V → List E) (may_add : E → Type 0) where
  abbrev pub Tables : Type 0
  Tables = State (Option V) (SeatView E)

  abbrev pub Home : Type 0
  Home = maybe.Option (Option V)

  abbrev pub Rule : Tables → Type 0
  Rule = Turns entries may_add

  abbrev pub KnowsView : ℕ → ℕ → Home → List E → ℕ → SeatView E → Type 0
  KnowsView turn holder home log seat v = Knows entries may_add turn holder home log seat v.front v.joined v.stage

  -- a fact of each seat and its view
  abbrev pub EachSeat : (ℕ → SeatView E → Type 0) → List (SeatView E) → Type 0
  EachSeat P views = (seat : ℕ) (v : SeatView E) → get_elem? views seat ≡ some v → P seat v

  -- the table with its words and its slot written out
  abbrev pub plain : ℕ → ℕ → Home → List (SeatView E) → Tables
  plain turn count home views = record { words = turn ∷ count ∷ []; homes = home ∷ []; views = views }

  pub is_plain : (s : Tables) (r : Rule s) → plain r.turn (length r.log) r.home s.views ≡ s
  is_plain s r i = record { words = sym r.words i; homes = sym r.homes i; views = s.views }

  -- one seat's view changes, and the others know what they did
  pub seats_stay : (P Q : ℕ → SeatView E → Type 0) (views : List (SeatView E)) (me : ℕ) (mine : SeatView E) → Q me mine → ((seat : ℕ) (v : SeatView E) → seat ≢ me → P seat v → Q seat v) → EachSeat P views
      → EachSeat Q (set views me mine)
  seats_stay P Q views me mine known others all seat v at = ⊎_elim (λ (here : (seat ≡ me) × (mine ≡ v)). subst (λ (x : ℕ × SeatView E). Q x.0 x.1) (λ i. (sym here.0 i, here.1 i)) known)
      (λ (there : (seat ≢ me) × (get_elem? views seat ≡ some v)). others seat v there.0 (all seat v there.1)) (at_set views me seat mine v at)

  -- a seat that does not have the turn knows the same of a longer log, whatever becomes of the turn and the slot
  pub others_know : (turn holder : ℕ) (home : Home) (log : List E) (turn' holder' : ℕ) (home' : Home) (log' : List E) (seat : ℕ) → GrowsTo may_add log log' → (0 < turn → seat ≢ holder)
      → (front joined : List E) (stage : Stage) → Knows entries may_add turn holder home log seat front joined stage → Knows entries may_add turn' holder' home' log' seat front joined stage
  others_know turn holder home log turn' holder' home' log' seat more away front joined Outside known = GrowsTo-trans may_add front log log' known more
  others_know turn holder home log turn' holder' home' log' seat more away front joined Entering known = absurd (away known.1 known.0)
  others_know turn holder home log turn' holder' home' log' seat more away front joined Holding known = absurd (away known.1 known.0)
  others_know turn holder home log turn' holder' home' log' seat more away front joined Joining known = (GrowsTo-trans may_add front log log' known.0 more, GrowsTo-trans may_add joined log log' known.1 more)
  others_know turn holder home log turn' holder' home' log' seat more away front joined Gone known = tt

  -- what a step on the word owes at one state of the table: a new view and an act that keep the rule, and what the step tells
  abbrev pub Goes : ℕ → Seated V E → ℕ → (ℕ → ℕ) → (ℕ → Seated V E → Type 0) → Tables → Type 0
  Goes id me word change told s = (v : SeatView E) × (act : Act (Option V)) × Valid s.homes me.1 act × Rule (stepped s word (change (slice_index s.words word)) id me.1 v act) × told (slice_index s.words word) (v, carried_after me.1 act)
