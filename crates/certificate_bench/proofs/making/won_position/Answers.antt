use Rattle.certificate_bench.proofs.making.won_position.Goals as goal

pub returns : goal.returns
returns c = (c.white_rank.ensures c.in_ok-rank.rank).0 c.in_ok-rank.was
