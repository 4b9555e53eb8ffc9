use Rattle.records_trial.proofs.write_again.Goals as goal

pub encode-requires : goal.encode-requires
encode-requires c = (2, c.in_ok-record.ensures.good.shows)

pub encode_full-requires : goal.encode_full-requires
encode_full-requires c = (2, c.in_ok-record.ensures.good.shows)
