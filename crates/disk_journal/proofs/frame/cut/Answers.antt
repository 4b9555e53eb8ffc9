use Rattle.std.specs.Prelude.{◌+◌, ◌-◌, length}
use Rattle.std.proofs.Common.{◌≡◌, ◌∙◌, ◌≤◌, arith}
use Rattle.disk_journal.proofs.StagedLemmas.{sealed, trimmed}
use Rattle.disk_journal.proofs.frame.cut.Goals as goal

pub returns : goal.returns
returns c = λ payloads last sized e.
    let old = c.args.text.now.items in
    let open_text = c.truncate.new.self.items in
    let long : 8 ≤ length open_text = omega (arith, c.requires, c.truncate.ensures.len, c.len.ensures) in
    let size : (c.len.result - 1 - 4 - c.args.size) + 5 + length last ≡ length old = omega (arith, c.requires, c.len.ensures, sized) in
    c.seal.ensures.text ∙ sealed payloads open_text long (trimmed payloads last old open_text (c.len.result - 1 - 4 - c.args.size) e size c.truncate.ensures.items)
