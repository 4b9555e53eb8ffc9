use Rattle.std.proofs.Common.{◌≡◌, ◌++◌, drop}
use Rattle.record_texts.specs.Records.{claims_text}
use Rattle.record_texts.proofs.lines.push_claims.Given as goal

abbrev pub invariant-loop-certificate : goal.invariant-loop-certificate
invariant-loop-certificate l = l.text.items ++ claims_text (drop l.certificate-index l.shown) ≡ l.initial.text.items ++ claims_text l.shown
