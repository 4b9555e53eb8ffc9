use Rattle.std.proofs.Common.{◌≡◌, List, length}
use Rattle.fen_text.specs.Spelled.{Group as Named}
use Rattle.fen_text.specs.Reading.{items_at}
use Rattle.fen_text.specs.Seen.{Adds}
use Rattle.fen_text.proofs.Items.{with_front}
use Rattle.fen_text.proofs.reading.items.Given as goal

-- these groups were read and added, and the rest gives the others
abbrev pub invariant-loop-group : goal.invariant-loop-group
invariant-loop-group l = (front : List Named) × Adds l.initial.setup l.setup front × (with_front front (items_at l.side l.rest) ≡ items_at l.side l.bytes)

abbrev pub decreases-loop-group : goal.decreases-loop-group
decreases-loop-group l = length l.rest
