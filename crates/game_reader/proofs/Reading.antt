-- Bytes that are read of a source in pieces.
use Rattle.std.proofs.Common.{◌≡◌, ℕ, ◌+◌, List, [], ◌++◌, length, Option, arith, length-append}
use Rattle.std.proofs.KnownBytes.{Consumes-nil, Consumes-trans}
use Rattle.std.specs.Io.KnownBytes.{Consumes}
use Rattle.game_reader.specs.Reading.{HasRead}

-- nothing is read
pub reads_none : (source : Option (List ℕ)) (before after : ℕ) → after ≡ before → HasRead source source before after
reads_none source before after same =
    record { bytes = []; consumed = Consumes-nil source; counted = omega arith }

-- a piece is read
pub reads_piece : (old new : Option (List ℕ)) (before after : ℕ) (bytes : List ℕ) → Consumes old new bytes → after ≡ before + length bytes → HasRead old new before after
reads_piece old new before after bytes consumed counted =
    record { bytes = bytes; consumed = consumed; counted = counted }

-- and a further one
pub reads_more : (old mid new : Option (List ℕ)) (before between after : ℕ) → HasRead old mid before between → HasRead mid new between after → HasRead old new before after
reads_more old mid new before between after first second = record {
  bytes = first.bytes ++ second.bytes;
  consumed = Consumes-trans old mid new first.bytes second.bytes first.consumed second.consumed;
  counted =
      let counted = second.counted in
      let earlier = first.counted in
      omega (arith, length-append first.bytes second.bytes);
}
