use Rattle.bench_core.proofs.EventLaws.{events_keep_sound, sound_values_are_true, leaves_are_leased_once}
use Rattle.bench_core.proofs.laws.events_keep_sound.Goals as goal

pub returns-clause-events : goal.returns-clause-events
returns-clause-events c = events_keep_sound

pub returns-clause-values : goal.returns-clause-values
returns-clause-values c = sound_values_are_true

pub returns-clause-leases : goal.returns-clause-leases
returns-clause-leases c = leaves_are_leased_once
