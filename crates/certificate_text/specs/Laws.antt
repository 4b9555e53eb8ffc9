-- A text fixes its answer.
use Rattle.std.specs.Prelude.{◌≡◌, ℕ, List, [], ◌++◌}
use Rattle.strategy_certificate.specs.declared.certificates.Certificate.{Certificate}
use Rattle.certificate_text.specs.Text.{text_of_certificate, IsPrinted, ReadsAs}
use Rattle.certificate_text.specs.Refusals.{IsTextRefusal}
use Rattle.certificate_text.specs.declared.refusal.TextRefusal.{TextRefusal}

-- No two certificates have one text, and no certificate's text begins another's.
abbrev pub TextsTellApart : Type 0
TextsTellApart =
    (c d : Certificate) (rest : List ℕ) → IsPrinted c → IsPrinted d
    → text_of_certificate c ≡ text_of_certificate d ++ rest
    → (c ≡ d) × (rest ≡ [])

-- The text of a certificate has no refusal.
abbrev pub PrintedIsNotRefused : Type 0
PrintedIsNotRefused =
    (text : List ℕ) (c : Certificate) (r : TextRefusal) → ReadsAs text c → IsTextRefusal text r → ⊥

-- There is one refusal of a text.
abbrev pub OneTextRefusal : Type 0
OneTextRefusal =
    (text : List ℕ) (one another : TextRefusal) → IsTextRefusal text one
    → IsTextRefusal text another → one ≡ another
