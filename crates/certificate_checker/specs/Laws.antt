-- Each answer of the checker comes exactly where it is due.
use Rattle.std.specs.Prelude.{◌≡◌, Option}
use Rattle.draughts_board.specs.Board.{Board}
use Rattle.strategy_certificate.specs.declared.oracle.Answer.{Answer}
use Rattle.strategy_certificate.specs.declared.certificates.Certificate.{Certificate}
use Rattle.strategy_certificate.specs.Certificates.{IsGoodBy}
use Rattle.certificate_checker.specs.declared.refusals.CheckRefusal.{CheckRefusal}
use Rattle.certificate_checker.specs.Refusals.{IsRefusal}

-- What is refused is not good.
abbrev pub RefusedIsNotGood : Type 0
RefusedIsNotGood =
    (answer : Board → Option Answer) (c : Certificate) (refusal : CheckRefusal)
    → IsRefusal answer c refusal → IsGoodBy answer c → ⊥

-- There is one refusal of a certificate.
abbrev pub OneRefusal : Type 0
OneRefusal =
    (answer : Board → Option Answer) (c : Certificate) (one another : CheckRefusal)
    → IsRefusal answer c one → IsRefusal answer c another → one ≡ another
