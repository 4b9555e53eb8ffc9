-- What a look-up in the whole index tells, and what a new row changes.
use Rattle.std.proofs.Common.{◌≡◌, ℕ, ◌+◌, ◌<◌, inl, inr, Bool, List, [], ◌∷◌, refl, sym, subst, arith}
use Rattle.draughts_board.specs.Board.{Board}
use Rattle.position_rows.specs.declared.tree.Node.{Node}
use Rattle.position_rows.specs.declared.windows.Slot.{Slot}
use Rattle.position_rows.specs.declared.windows.Found.TheVariants as found
use Rattle.position_rows.specs.declared.tree.End.TheVariants as end
use Rattle.position_rows.specs.declared.index.Look.TheVariants as look
use Rattle.position_rows.specs.Words.{hash_of}
use Rattle.position_rows.specs.Walks.{IsHung, TellsBehind, node_at}
use Rattle.position_rows.specs.Windows.{IsPut, Tells, in_window, slot_at, tag_of}
use Rattle.position_rows.specs.Looks.{AreIndexed, IsEntered, IsPlaceFor, TellsAll}
use Rattle.position_rows.proofs.WalkLemmas.{hung_behind, behind_stays}
use Rattle.position_rows.proofs.WindowLemmas.{taken_stays, window_stays, put_in_window}

module _ {E : Type 0} (rows : List (Board × E)) (slots : List Slot) (nodes : List Node) (p : Board)
    (indexed : AreIndexed rows slots nodes) where
  -- a window with a free slot and without the row: it stands nowhere
  pub tells_free : (k : ℕ) → Tells rows slots p (found.Free k) → TellsAll rows slots nodes p (look.Free k)
  tells_free k (free, missed) = (
    free,
    λ r row. elim (indexed r p row) [
      | inl w ↦ missed r row w
      | inr b ↦ (
          let taken : 0 < (in_window slots p free.slot).number = b.0 free.slot free.inside in
          let none : (in_window slots p free.slot).number ≡ 0 = subst (λ (x : ℕ). (slot_at slots x).number ≡ 0) free.place free.free in
          omega (arith, taken, none))
    ],
  )

  pub tells_first : Tells rows slots p found.Full → nodes ≡ [] → TellsAll rows slots nodes p look.First
  tells_first (taken, missed) none = (
    (taken, none),
    λ r row. elim (indexed r p row) [
      | inl w ↦ missed r row w
      | inr b ↦ (
          let number : (node_at [] b.1.node).number ≡ r + 1 = subst (λ (x : List Node). (node_at x b.1.node).number ≡ r + 1) none b.1.number in
          omega (arith, number))
    ],
  )

  pub tells_behind : (i : ℕ) (d : Bool) → Tells rows slots p found.Full
      → TellsBehind rows nodes p (end.Behind i d) → TellsAll rows slots nodes p (look.Behind i d)
  tells_behind i d (taken, missed) (there, behind) = (
    (taken, there),
    λ r row. elim (indexed r p row) [
      | inl w ↦ missed r row w
      | inr b ↦ behind r row b.1
    ],
  )

module _ (slots : List Slot) (nodes : List Node) (p : Board) (r : ℕ) where
  pub entered_free : (new : List Slot) (k : ℕ) → IsPlaceFor slots nodes p (look.Free k)
      → IsPut slots new k (tag_of (hash_of p)) (r + 1) → IsEntered slots new nodes nodes p r
  entered_free new k free put = record {
    entered = inl (put_in_window slots new k (tag_of (hash_of p)) (r + 1) put p r free refl refl);
    others = λ q s h. elim h [
      | inl w ↦ inl (window_stays slots new k (tag_of (hash_of p)) (r + 1) put q s w)
      | inr b ↦ inr (taken_stays slots new k (tag_of (hash_of p)) (r + 1) put q 8 b.0, b.1)
    ];
  }

  pub entered_behind : (new : List Node) (i : ℕ) (d : Bool) → IsPlaceFor slots nodes p (look.Behind i d)
      → IsHung nodes new i d (r + 1) → IsEntered slots slots nodes new p r
  entered_behind new i d place hung = record {
    entered = inr (place.0, hung_behind nodes new p i r d hung place.1);
    others = λ q s h. elim h [
      | inl w ↦ inl w
      | inr b ↦ inr (b.0, behind_stays nodes new p i r d hung q s b.1)
    ];
  }

  pub entered_first : (new : List Node) → IsPlaceFor slots nodes p look.First
      → new ≡ record { number = r + 1; zero = 0; one = 0 } ∷ [] → IsEntered slots slots nodes new p r
  entered_first new place is = record {
    entered = inr (
      place.0,
      record {
        steps = 0;
        node = 0;
        reached = refl;
        number = subst (λ (x : List Node). (node_at x 0).number ≡ r + 1) (sym is) refl;
      },
    );
    others = λ q s h. elim h [
      | inl w ↦ inl w
      | inr b ↦ absurd (
          let number : (node_at [] b.1.node).number ≡ s + 1 = subst (λ (x : List Node). (node_at x b.1.node).number ≡ s + 1) place.1 b.1.number in
          omega (arith, number))
    ];
  }
