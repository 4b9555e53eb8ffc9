use Rattle.certificate_text.specs.Text.{ReadsAs}
use Rattle.certificate_text.specs.Refusals.{IsTextRefusal, text_wants_memory}
use Rattle.certificate_text.proofs.Exact.{one_certificate_read, printed_is_not_refused, one_text_refusal}
use Rattle.certificate_text.proofs.reading.read_certificate.Goals as goal
use Rattle.shared_words.proofs.Exactness.{exact_from_one}

pub returns : goal.returns
returns c =
    let text = c.args.text.now in
    exact_from_one text_wants_memory (ReadsAs text) (IsTextRefusal text) c.read_lines.result c.read_lines.ensures.read c.read_lines.ensures.refused
    (one_certificate_read text) (printed_is_not_refused text) (one_text_refusal text)
