use Rattle.std.proofs.Common.{◌∙◌, ◌++◌, ◌∷◌, [], ap, codes, decimal}
use Rattle.fen_text.specs.Printed.{fen_of}
use Rattle.certificate_text.specs.Lines.{claim_word}
use Rattle.certificate_text.proofs.Printed.{head_grouped}
use Rattle.certificate_text.proofs.printing.push_head.Goals as goal

pub returns-clause-lines : goal.returns-clause-lines
returns-clause-lines c =
    let p = c.args.c.now in
    let one = c.in_ok-push_word.ensures in
    let two = c.in_ok-push_number.ensures.ok ∙ (λ i. one i ++ decimal (c.from.ensures i)) in
    let three = c.in_ok-push_word-2.ensures ∙ ap (λ t. t ++ codes "\nposition ") two in
    let four = c.in_ok-push_position.ensures.text ∙ ap (λ t. t ++ fen_of p.position) three in
    let five = c.in_ok-push_word-3.ensures ∙ ap (λ t. t ++ codes "\nclaim ") four in
    let six = c.in_ok-push_word-4.ensures ∙ (λ i. five i ++ c.claim_word.ensures i) in
    let seven = c.in_ok-push.ensures.items ∙ ap (λ t. t ++ 10 ∷ []) six in
    seven ∙ head_grouped c.args.text.now.items (decimal p.pieces) (fen_of p.position) (claim_word p.claim)
