use Rattle.throughput_bench.proofs.names.sheets_of.Goals as goal

pub sheet_of-requires : goal.sheet_of-requires
sheet_of-requires c = (2, c.in_ok-record.ensures.good.shows)
