-- What is believed of a text that is written.
use Rattle.std.specs.Prelude.{◌≡◌, ◌≢◌, ℕ, ◌+◌, ◌<◌, ◌^◌, List, ◌++◌, length, take, codes, Contains}
use Rattle.opening_report.specs.declared.roots.Root.{Root}
use Rattle.opening_report.specs.declared.refusals.Refusal.{Refusal}
use Rattle.opening_report.specs.Lines.{IsLine}
use Rattle.opening_report.specs.Report.{report_of, ValuesAreTrue, SaysRoots, SaysNoRoot, StandsOnce, AreTrueRoots, AreApart}
use Rattle.opening_report.specs.Refusals.{refusal_text}

-- The report on true roots, and each front of it, has true values alone.
abbrev pub ReportsAreTrue : Type 0
ReportsAreTrue =
    (roots : List Root) (front back : List ℕ) → 1 + length roots < 2 ^ 64 → AreTrueRoots roots
    → report_of roots ≡ front ++ back
    → ValuesAreTrue front

-- The report on true roots, and each front of it, says these roots alone.
abbrev pub ReportsSayRoots : Type 0
ReportsSayRoots =
    (roots : List Root) (front back : List ℕ) → 1 + length roots < 2 ^ 64 → AreTrueRoots roots
    → report_of roots ≡ front ++ back
    → SaysRoots roots front

-- In the report on roots that are apart, the position of each stands in exactly one line.
abbrev pub RootsStandOnce : Type 0
RootsStandOnce =
    (roots : List Root) (r : Root) → 1 + length roots < 2 ^ 64 → AreTrueRoots roots → AreApart roots
    → Contains roots r → StandsOnce (report_of roots) r.position

-- The line of a refusal, and each front of it, says no root.
abbrev pub RefusalsSayNoRoot : Type 0
RefusalsSayNoRoot =
    (r : Refusal) (front back : List ℕ) → IsLine (refusal_text r) → refusal_text r ≡ front ++ back
    → SaysNoRoot front

-- A line that does not begin with `root `, and each front of it, says no root.
abbrev pub OtherLinesSayNoRoot : Type 0
OtherLinesSayNoRoot =
    (line front back : List ℕ) → IsLine line → take 5 line ≢ codes "root " → line ≡ front ++ back
    → SaysNoRoot front

-- A text in which `root ` stands nowhere says no root.
abbrev pub TextsWithoutRootsSayNone : Type 0
TextsWithoutRootsSayNone =
    (text : List ℕ) → ((before after : List ℕ) → text ≢ before ++ (codes "root " ++ after))
    → SaysNoRoot text
