use Rattle.text_tests.proofs.records.begin_text.Goals as goal

pub encode_full-requires : goal.encode_full-requires
encode_full-requires c = (2, tt)
