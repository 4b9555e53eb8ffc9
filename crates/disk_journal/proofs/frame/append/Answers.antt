use Rattle.std.specs.Prelude.{◌-◌, ◌∷◌, [], ◌++◌, length, take}
use Rattle.std.proofs.Common.{rules, ◌≡◌, ◌∙◌, ◌≤◌, ap, arith, length-append, length-take}
use Rattle.disk_journal.specs.Format.{payload_length}
use Rattle.disk_journal.proofs.StagedLemmas.{appended, sealed}
use Rattle.disk_journal.proofs.frame.append.Goals as goal

pub returns : goal.returns
unfolding payload_length
returns c = λ payloads e.
    let payload = c.args.payload.now in
    let old = c.args.text.now.items in
    let open_text = c.extend_from_slice-2.new.self.items in
    let is : open_text ≡ (take (length old - 1) old ++ payload_length (length payload)) ++ payload = search rules in
    let long : 8 ≤ length open_text = omega (arith, c.requires.sealed, ap length is, length-append (take (length old - 1) old ++ payload_length (length payload)) payload, length-append (take (length old - 1) old) (payload_length (length payload)), length-take (length old - 1) old) in
    c.seal.ensures.text ∙ sealed (payloads ++ payload ∷ []) open_text long (appended payloads payload old open_text e is)
