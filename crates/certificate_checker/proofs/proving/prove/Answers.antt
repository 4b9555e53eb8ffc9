use Rattle.std.proofs.Common.{refl}
use Rattle.certificate_checker.proofs.AloneLemmas.{refused_for_memory}
use Rattle.certificate_checker.proofs.proving.prove.Goals as goal

pub memory_of-requires : goal.memory_of-requires
memory_of-requires g c = refused_for_memory _ _ _ (c.in-Err.ensures.exact.only_good _ (refl, c.requires.good))
