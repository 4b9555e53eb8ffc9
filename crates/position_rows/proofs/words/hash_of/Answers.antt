use Rattle.std.proofs.Common.{refl}
use Rattle.position_rows.specs.Words.{hash_of}
use Rattle.position_rows.proofs.words.hash_of.Goals as goal

pub returns : goal.returns
unfolding hash_of
returns c = rw (c.pair_of-black.ensures, c.pair_of-white.ensures, c.masks.ensures.value) refl
