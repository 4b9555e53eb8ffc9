use Rattle.text_tests.proofs.shared_positions.shared.Goals as goal

pub encode-requires : goal.encode-requires
encode-requires c = (3, c.in_ok-record.ensures.good.shows)
