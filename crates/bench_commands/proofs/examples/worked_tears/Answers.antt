use Rattle.std.proofs.Common.{◌≡◌, ◌≤◌, ◌<◌, ◌⊎◌, inl, inr, ℕ, zero, suc, List, [], ◌∷◌, refl, arith, lit<, lit≤}
use Rattle.std.specs.Prelude.{slice_index}
use Rattle.bench_disk.specs.Disk.{IsTorn}
use Rattle.bench_commands.proofs.examples.worked_tears.Goals as goal

-- the first two bytes stay
first_stay : (new : List ℕ) → slice_index new 0 ≡ 1 → slice_index new 1 ≡ 2 → (k : ℕ) → k < 3 → (k < 2) ⊎ (4 ≤ k) → slice_index new k ≡ slice_index (1 ∷ 2 ∷ 3 ∷ []) k
first_stay new one two zero less side = one
first_stay new one two (suc zero) less side = two
first_stay new one two (suc (suc k)) less (inl before) = absurd (omega (arith, before))
first_stay new one two (suc (suc k)) less (inr behind) = absurd (omega (arith, less, behind))

other_byte : IsTorn 2 2 (1 ∷ 2 ∷ 3 ∷ []) (1 ∷ 4 ∷ 8 ∷ 9 ∷ []) → ⊥
other_byte torn = let same : ◌≡◌ {A = ℕ} 4 2 = torn.outside 1 (lit< tt) (inl (lit< tt)) in omega (arith, same)

lost_byte : IsTorn 2 2 (1 ∷ 2 ∷ 3 ∷ []) (1 ∷ 2 ∷ []) → ⊥
lost_byte torn = let less : 3 ≤ 2 = torn.no_shorter in omega (arith, less)

byte_behind : IsTorn 2 2 (1 ∷ 2 ∷ 3 ∷ []) (1 ∷ 2 ∷ 8 ∷ 9 ∷ 0 ∷ []) → ⊥
byte_behind torn = let more : 5 ≤ 4 = torn.no_longer in omega (arith, more)

pub returns : goal.returns
returns c = record {
  nothing = record { no_shorter = lit≤ tt; no_longer = lit≤ tt; outside = first_stay (1 ∷ 2 ∷ 3 ∷ []) refl refl };
  all = record { no_shorter = lit≤ tt; no_longer = lit≤ tt; outside = first_stay (1 ∷ 2 ∷ 8 ∷ 9 ∷ []) refl refl };
  half = record { no_shorter = lit≤ tt; no_longer = lit≤ tt; outside = first_stay (1 ∷ 2 ∷ 8 ∷ []) refl refl };
  others = record { no_shorter = lit≤ tt; no_longer = lit≤ tt; outside = first_stay (1 ∷ 2 ∷ 7 ∷ 0 ∷ []) refl refl };
  not_before = other_byte;
  not_shorter = lost_byte;
  not_longer = byte_behind;
}
