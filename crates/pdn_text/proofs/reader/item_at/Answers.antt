use Rattle.std.proofs.Common.{◌≡◌, drop, subst, Bool}
use Rattle.pdn_text.specs.Forms.{form_of}
use Rattle.pdn_text.specs.Scans.{item_of}
use Rattle.pdn_text.specs.Signs.{pdn_wants_memory}
use Rattle.shared_words.specs.Answers.{Unless}
use Rattle.pdn_text.proofs.OneReading.{exact_item}
use Rattle.pdn_text.proofs.reader.item_at.Goals as goal

pub returns-clause-exact : goal.returns-clause-exact
returns-clause-exact c =
    let text = c.args.text.now in
    let at = c.args.at in
    let r = c.item_of.result in
    exact_item text at r
    (subst (λ (start : Bool). Unless pdn_wants_memory r (r ≡ item_of (form_of start (drop at text)) at (drop at text))) c.begins_line.ensures c.item_of.ensures.gives)
