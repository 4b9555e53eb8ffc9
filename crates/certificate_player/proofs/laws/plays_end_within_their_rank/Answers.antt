use Rattle.certificate_player.proofs.LawLemmas.{never_stuck, within_rank, won_at_last}
use Rattle.certificate_player.proofs.laws.plays_end_within_their_rank.Goals as goal

pub returns : goal.returns
returns c = record { never_stuck = never_stuck; within = within_rank; at_last = won_at_last }
