use Rattle.std.proofs.Common.{◌≡◌, ◌∙◌, ◌++◌, ◌+◌, ◌<◌, ◌≤◌, ◌∷◌, [], drop, ap, arith, sym, subst, length, get_or, List, append-nil}
use Rattle.strategy_certificate.specs.declared.certificates.Part.{Part}
use Rattle.std.specs.Prelude.{All}
use Rattle.std.proofs.lemmas.List.{take_all, drop_all}
use Rattle.std.specs.List.{flat_map}
use Rattle.certificate_text.specs.Lines.{text_of_lines}
use Rattle.certificate_text.specs.Text.{part_lines, head_lines, IsPrintedPart}
use Rattle.certificate_text.proofs.Printed.{parts_step, All_next, whole_text}
use Rattle.certificate_text.proofs.printing.print_certificate.Goals as goal

pub loop-part-preserved : goal.loop-part-preserved
loop-part-preserved c =
    let parts = c.args.c.now.parts in
    let within : c.loop-part.part-index < length parts = omega (arith, ap length c.as_slice-part-items.ensures) in
    let item : c.part-item.result ≡ get_or parts c.loop-part.part-index c.part-item.result =
    c.part-item.is ∙ ap (λ (xs : List Part). get_or xs c.loop-part.part-index c.part-item.result) c.as_slice-part-items.ensures in
    record {
      lines = ap (λ t. t ++ text_of_lines (flat_map part_lines (drop (c.loop-part.part-index + 1) parts))) c.in_ok-push_part.ensures.lines
          ∙ parts_step parts c.loop-part.part-index c.part-item.result c.loop-part.text.items _ within item c.loop-part.invariant.lines;
      printed = All_next IsPrintedPart parts c.loop-part.part-index c.part-item.result within item c.loop-part.invariant.printed c.in_ok-push_part.ensures.printed;
    }

pub returns-clause-text : goal.returns-clause-text
returns-clause-text c =
    let parts = c.args.c.now.parts in
    let past : length parts ≤ c.loop-part.part-index = omega (arith, ap length c.as_slice-part-items.ensures) in
    let none : drop c.loop-part.part-index parts ≡ [] = drop_all c.loop-part.part-index parts past in
    let text : c.loop-part.text.items ≡ c.push_head.new.text.items ++ text_of_lines (flat_map part_lines parts) =
    sym (append-nil c.loop-part.text.items) ∙ ap (λ ps. c.loop-part.text.items ++ text_of_lines (flat_map part_lines ps)) (sym none) ∙ c.loop-part.invariant.lines in
    c.in_ok-push_word.ensures
    ∙ ap (λ t. t ++ (101 ∷ 110 ∷ 100 ∷ 10 ∷ [])) (text ∙ ap (λ t. t ++ text_of_lines (flat_map part_lines parts)) (c.in_ok-push_head.ensures.lines ∙ ap (λ t. t ++ text_of_lines (head_lines c.args.c.now)) c.new-text.ensures.items))
    ∙ sym (whole_text c.args.c.now)

pub returns-clause-printed : goal.returns-clause-printed
returns-clause-printed c =
    let parts = c.args.c.now.parts in
    let past : length parts ≤ c.loop-part.part-index = omega (arith, ap length c.as_slice-part-items.ensures) in
    record { pieces = c.requires; lawful = c.in_ok-push_head.ensures.lawful; parts = subst (All IsPrintedPart) (take_all c.loop-part.part-index parts past) c.loop-part.invariant.printed }
