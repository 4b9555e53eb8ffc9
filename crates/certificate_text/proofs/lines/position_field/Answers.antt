use Rattle.std.proofs.Common.{◌≡◌, ◌∙◌, sym, ap, subst, drop}
use Rattle.shared_words.specs.Bytes.{Lacks}
use Rattle.shared_words.proofs.LackingBytes.{Lacks-split}
use Rattle.certificate_text.proofs.lines.position_field.Goals as goal

pub returns-in-Some-clause-none : goal.returns-in-Some-clause-none
returns-in-Some-clause-none c field lacks same =
    let whole : field ≡ c.in_ok-field.field.now = ap (drop 9) (sym same ∙ c.in_ok-field.ensures.some) in
    Lacks-split 32 c.in-Some.field-0.0.now c.in-Some.field-0.1.now (subst (Lacks 32) (whole ∙ c.in-Some.ensures.whole) lacks)
