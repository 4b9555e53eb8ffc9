-- Items as a reader sees them: where they end, and what they say of a game.
use Rattle.std.specs.Prelude.{ℕ, Bool, true, false, Some, None}
use Rattle.pdn_text.specs.declared.items.Item.{Item}
use Rattle.pdn_text.specs.declared.items.Sign.{Sign}
use Rattle.pdn_text.specs.declared.refusal.PdnRefusal.{PdnRefusal}
use Rattle.pdn_text.specs.declared.refusal.PdnRefusal.TheVariants.{Memory}

-- an item that says nothing of a game
abbrev pub skipped : ℕ → Item
skipped end = record { end = end; sign = None }

-- an item that says this
abbrev pub saying : ℕ → Sign → Item
saying end sign = record { end = end; sign = Some sign }

-- memory ran out
abbrev pub pdn_wants_memory : PdnRefusal → Bool
pdn_wants_memory (Memory error) = true
pdn_wants_memory other = false
