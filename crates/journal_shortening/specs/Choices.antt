-- Which of two journals counts.
use Rattle.std.specs.Prelude.{◌≡◌, ◌≢◌, ℕ, List, []}
use Rattle.disk_journal.specs.Format.{HasPayloads}
use Rattle.journal_shortening.specs.declared.choosing.Chosen.{Chosen}
use Rattle.journal_shortening.specs.declared.choosing.Chosen.TheVariants.{Old, New}

-- by the new journal's file: the new one where it has a payload, and the old one where it has none
abbrev pub IsChosenBy : List ℕ → Chosen → Type 0
IsChosenBy file Old = (pieces : ℕ) × HasPayloads pieces file []
IsChosenBy file New =
    (pieces : ℕ) × ((payloads : List (List ℕ)) × (HasPayloads pieces file payloads × (payloads ≢ [])))
