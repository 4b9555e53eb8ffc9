use Rattle.std.proofs.Common.{◌≡◌, ◌≤◌, All, drop, length}
use Rattle.proof_numbers.specs.Facts.{known}
use Rattle.strategy_certificate.specs.Certificates.{IsGood}
use Rattle.certificate_checker.specs.Told.{facts_shown}
use Rattle.certificate_checker.proofs.claimed.told_by_all.Given as goal

abbrev pub invariant-loop-at : goal.invariant-loop-at
invariant-loop-at l = record {
  inside : l.at ≤ length l.proofs;
  told : known l.facts ≡ facts_shown (drop l.at l.proofs);
  good : All IsGood (drop l.at l.proofs);
}

abbrev pub decreases-loop-at : goal.decreases-loop-at
decreases-loop-at l = l.at
