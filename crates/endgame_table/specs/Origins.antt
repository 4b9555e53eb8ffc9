-- Where moves come from: for each index the indices with a move that leads there, in a list that
-- runs through one array of links.
use Rattle.std.specs.Prelude.{◌≡◌, ℕ, zero, suc, ◌+◌, ◌-◌, ◌<◌, ◌≤◌, ◌==◌, List, [], ◌∷◌, length, All, slice_index, slice_index_or, if◌then◌else◌}
use Rattle.endgame_table.specs.declared.origins.Link.{Link}
use Rattle.endgame_table.specs.declared.origins.Origins.{Origins}
use Rattle.endgame_table.specs.Marking.{times}

-- what stands behind the last link
abbrev pub no_link : Link
no_link = record { origin = 0; next = 0 }

-- the link at a place, which is counted from 1
abbrev pub link_at : List Link → ℕ → Link
link_at links place = slice_index_or links (place - 1) no_link

-- the first n origins of the list that begins at this place; place 0 is the end of a list
unfoldable pub origins_within : ℕ → List Link → ℕ → List ℕ
origins_within zero links place = []
origins_within (suc n) links place =
    (if place == 0 then []
    else (link_at links place).origin ∷ origins_within n links (link_at links place).next)

-- all its origins: a link leads to an earlier place, so there are no more of them than the place
-- says
abbrev pub origins_from : List Link → ℕ → List ℕ
origins_from links place = origins_within place links place

-- the link at each place, counted from 0, leads to an earlier one or to the end
abbrev pub AreLinks : List Link → Type 0
AreLinks links = (k : ℕ) → (slice_index_or links k no_link).next ≤ k

-- the origins of an index
abbrev pub origins_at : Origins → ℕ → List ℕ
origins_at o target = origins_from o.links.items (slice_index o.heads.items target)

-- lists of origins for `count` indices, each origin one of them
pub record AreOrigins (o : Origins) (count : ℕ) : Type 0 where
  pub links : AreLinks o.links.items
  pub heads : length o.heads.items ≡ count
  pub places : (target : ℕ) → slice_index o.heads.items target ≤ length o.links.items
  pub inside : (target : ℕ) → All (λ i. i < count) (origins_at o target)

-- An index stands among the origins of a target as often as the target among those that its moves
-- lead to.
abbrev pub TurnsRound : List (List ℕ) → Origins → Type 0
TurnsRound rows o =
    (target i : ℕ) → target < length rows
    → times i (origins_at o target) ≡ times target (slice_index_or rows i [])

-- the index is put in front of the origins of each of these targets
pub record AddsOrigins (index : ℕ) (targets : List ℕ) (old new : Origins) : Type 0 where
  pub heads : length new.heads.items ≡ length old.heads.items
  pub links : length new.links.items ≡ length old.links.items + length targets
  pub origins : (target i : ℕ) → target < length old.heads.items
      → times i (origins_at new target)
      ≡ times i (origins_at old target) + (if i == index then times target targets else 0)
