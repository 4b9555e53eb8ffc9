use Rattle.shortening_trial.proofs.versions.full_text.Goals as goal

pub encode_full-requires : goal.encode_full-requires
encode_full-requires c = (2, c.in_ok-record.ensures.good.shows)
