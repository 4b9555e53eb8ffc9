use Rattle.std.proofs.Common.{refl}
use Rattle.position_rows.specs.Words.{word_of}
use Rattle.position_rows.proofs.words.word_of.Goals as goal

pub returns : goal.returns
unfolding word_of
returns c = rw (c.pair_of.ensures, c.pair_of-2.ensures, c.masks.ensures.value) refl
