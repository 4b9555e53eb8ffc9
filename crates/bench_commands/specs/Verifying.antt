-- What `verify` does: the certificate of which a source is the text, and whether it is good.
use Rattle.std.specs.Prelude.{◌≡◌, ℕ, ◌⊎◌, List}
use Rattle.strategy_certificate.specs.Certificates.{IsGood, IsTrueOf}
use Rattle.strategy_certificate.specs.declared.certificates.Certificate.{Certificate}
use Rattle.certificate_text.specs.Text.{ReadsAs}
use Rattle.certificate_text.specs.Refusals.{IsTextRefusal}
use Rattle.certificate_text.specs.declared.refusal.TextRefusal.{TextRefusal}
use Rattle.certificate_checker.specs.Refusals.{IsRefusal}
use Rattle.certificate_checker.specs.declared.refusals.CheckRefusal.{CheckRefusal}
use Rattle.endgame_table.specs.Entries.{IsTable, answers}
use Rattle.opening_report.specs.Conversions.{of_text, of_check}
use Rattle.opening_report.specs.Findings.{verified_text}
use Rattle.opening_report.specs.declared.refusals.Refusal.{Refusal}

-- ---- what is written

-- The text says what a source shows: the source is the text of a certificate that is good by the
-- table that it names, so that its claim is true of its position by the definition of who wins; the
-- text says both.
pub record IsVerifiedOf (source text : List ℕ) : Type 0 where
  pub certificate : Certificate
  pub spelled : ReadsAs source certificate
  pub good : IsGood certificate
  pub right : IsTrueOf certificate.claim certificate.position
  pub text_is : text ≡ verified_text certificate.position certificate.claim

-- ---- what is wrong

-- by the table of the pieces that it names the certificate is refused so
abbrev pub IsCheckedFault : Certificate → CheckRefusal → Type 0
IsCheckedFault c fault =
    (numbers : List ℕ) × (IsTable c.pieces numbers × IsRefusal (answers c.pieces numbers) c fault)

-- The source is no certificate's text, or that of one that is not good, and this is why.
abbrev pub HasCertificateFault : List ℕ → Refusal → Type 0
HasCertificateFault source r =
    ((fault : TextRefusal) × ((r ≡ of_text fault) × IsTextRefusal source fault))
    ⊎ ((c : Certificate) × (ReadsAs source c × ((fault : CheckRefusal) × ((r ≡ of_check fault)
    × IsCheckedFault c fault))))
