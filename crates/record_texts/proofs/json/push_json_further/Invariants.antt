use Rattle.std.proofs.Common.{◌≡◌, ◌++◌, drop}
use Rattle.record_texts.specs.Json.{json_further}
use Rattle.record_texts.proofs.json.push_json_further.Given as goal

abbrev pub invariant-loop-certificate : goal.invariant-loop-certificate
invariant-loop-certificate l = l.text.items ++ json_further (drop l.certificate-index l.shown) ≡ l.initial.text.items ++ json_further l.shown
