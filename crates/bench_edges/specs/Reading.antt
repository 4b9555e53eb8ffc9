-- Why a source was not read to its end.
use Rattle.std.specs.Prelude.{◌≡◌, ℕ, ◌<◌, List, length, Option, IfSome}
use Rattle.shared_words.specs.Counts.{Rose}
use Rattle.bench_edges.specs.declared.source.ReadRefusal.{ReadRefusal}
use Rattle.bench_edges.specs.declared.source.ReadRefusal.TheVariants.{TooLong, Fault, Memory}

-- Too long: the source had more bytes left than the limit, where it tells them. A fault: the count
-- of faults rose. Without a fault the count is what it was.
abbrev pub IsRefusedFor : ℕ → Option (List ℕ) → ℕ → ℕ → ReadRefusal → Type 0
IsRefusedFor limit left before after TooLong =
    IfSome left (λ bytes. limit < length bytes) × (after ≡ before)
IsRefusedFor limit left before after (Fault _) = Rose before after
IsRefusedFor limit left before after (Memory _) = after ≡ before

-- one read that was refused: for a fault that raised the count, or for memory
abbrev pub IsStopped : ℕ → ℕ → ReadRefusal → Type 0
IsStopped before after TooLong = ⊥
IsStopped before after (Fault _) = Rose before after
IsStopped before after (Memory _) = after ≡ before
