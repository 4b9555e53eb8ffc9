-- How the text on warnings begins.
use Rattle.std.specs.Prelude.{◌≡◌, ℕ, List, [], ◌∷◌, ◌++◌, codes}
use Rattle.source_warnings.specs.declared.causes.Warning.{Warning}
use Rattle.terminal_text.specs.Places.{place_text}
use Rattle.terminal_text.specs.Shown.{shown}

-- It is empty where there are none, and else it begins with the place of the first.
abbrev pub IsToldOf : List ℕ → List Warning → List ℕ → Type 0
IsToldOf source [] text = text ≡ []
IsToldOf source (w ∷ more) text =
    (rest : List ℕ) × (text ≡ shown (codes "warning: " ++ (place_text source w.at ++ rest)))
