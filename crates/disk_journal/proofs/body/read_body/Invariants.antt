use Rattle.std.proofs.Common.{◌≡◌, ◌+◌, ◌++◌, All, List, ℕ, length, map}
use Rattle.disk_journal.specs.Format.{IsPayload, body, places_in_body}
use Rattle.disk_journal.proofs.body.read_body.Given as goal

abbrev pub invariant-loop-rest : goal.invariant-loop-rest
invariant-loop-rest l = record {
  place : l.place + length l.rest ≡ l.at + length l.fn.bytes;
  parts : (found : List (List ℕ)) × All IsPayload found × (l.fn.bytes ≡ body found ++ l.rest)
      × (map (λ p. p.bytes.items) l.payloads.items ≡ map (λ p. p.bytes.items) l.fn.payloads.items ++ found)
      × (map (λ p. p.at) l.payloads.items ≡ map (λ p. p.at) l.fn.payloads.items ++ places_in_body l.at found);
}

abbrev pub decreases-loop-rest : goal.decreases-loop-rest
decreases-loop-rest l = length l.rest
