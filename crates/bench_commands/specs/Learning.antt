-- What `learn` writes, and which certificate its source is the text of.
use Rattle.std.specs.Prelude.{◌≡◌, ℕ, List}
use Rattle.strategy_certificate.specs.Certificates.{IsGood, IsTrueOf}
use Rattle.strategy_certificate.specs.declared.certificates.Certificate.{Certificate}
use Rattle.certificate_text.specs.Text.{ReadsAs}
use Rattle.opening_report.specs.Findings.{learnt_text}

-- The text says what a journal has learnt: the source is the text of a certificate that is good by
-- the table that it names, so that its claim is true of its position; the text says both, and the
-- number of a root.
pub record IsLearntOf (source text : List ℕ) : Type 0 where
  pub certificate : Certificate
  pub spelled : ReadsAs source certificate
  pub good : IsGood certificate
  pub right : IsTrueOf certificate.claim certificate.position
  pub number : ℕ
  pub text_is : text ≡ learnt_text number certificate.position certificate.claim
