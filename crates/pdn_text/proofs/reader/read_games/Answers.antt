use Rattle.pdn_text.specs.Pdn.{Reads, Refused}
use Rattle.pdn_text.specs.Signs.{pdn_wants_memory}
use Rattle.shared_words.proofs.Exactness.{exact_list_from_one}
use Rattle.pdn_text.proofs.OneReading.{one_reading, not_both, one_refusal}
use Rattle.pdn_text.proofs.reader.read_games.Goals as goal

pub returns : goal.returns
returns c =
    let text = c.args.text.now in
    exact_list_from_one pdn_wants_memory (Reads text) (Refused text) c.read_items.result c.read_items.ensures.games c.read_items.ensures.refused (one_reading text) (not_both text) (one_refusal text)
