-- Laws of what is torn by a range.
use Rattle.std.specs.Prelude.{◌≡◌, ◌⊎◌, ℕ, ◌+◌, ◌-◌, ◌<◌, ◌≤◌, min, List, ◌++◌, length, take, drop, get_or, refl}
use Rattle.std.proofs.Common.{sym, ◌∙◌, ap, inl, inr, ⊎_elim, arith, length-append, length-take, length-drop}
use Rattle.std.proofs.lemmas.List.{get_or-take, get_or-drop, get_or_append_left, get_or-append_right, ext_get_or}
use Rattle.bench_disk.specs.Disk.{written, IsTorn}

pub torn_same : (at n : ℕ) (bytes : List ℕ) → IsTorn at n bytes bytes
torn_same at n bytes =
    record { no_shorter = omega arith; no_longer = omega arith; outside = λ k l out. refl }

pub length-written : (old : List ℕ) (at : ℕ) (bytes : List ℕ)
    → length (written old at bytes) ≡ min at (length old) + length bytes +
    (length old - (at + length bytes))
length-written old at bytes =
    omega (
      arith,
      length-append (take at old ++ bytes) (drop (at + length bytes) old),
      length-append (take at old) bytes,
      length-take at old,
      length-drop (at + length bytes) old,
    )

-- what stands outside of the range stays
kept : (old : List ℕ) (at : ℕ) (bytes : List ℕ) (k : ℕ) → k < length old
    → (k < at) ⊎ (at + length bytes ≤ k) → get_or (written old at bytes) k 0 ≡ get_or old k 0
kept old at bytes k l (inl before) =
    let fits : k < length (take at old) = omega (arith, length-take at old) in
    let fits_both : k < length (take at old ++ bytes) =
    omega (arith, length-append (take at old) bytes) in
    get_or_append_left (take at old ++ bytes) (drop (at + length bytes) old) 0 k fits_both
    ∙ get_or_append_left (take at old) bytes 0 k fits ∙ get_or-take at old k 0 before
kept old at bytes k l (inr behind) =
    let front : length (take at old ++ bytes) ≡ at + length bytes =
    omega (arith, length-append (take at old) bytes, length-take at old) in
    get_or-append_right (take at old ++ bytes) (drop (at + length bytes) old)
    (at + length bytes) k 0 front behind
    ∙ get_or-drop (at + length bytes) old (k - (at + length bytes)) 0
    ∙ ap (λ i. get_or old i 0) (omega arith)

pub written_is_torn : (old : List ℕ) (at : ℕ) (bytes : List ℕ)
    → IsTorn at (length bytes) old (written old at bytes)
written_is_torn old at bytes =
    let size = length-written old at bytes in
    record {
      no_shorter = omega (arith, size);
      no_longer = omega (arith, size);
      outside = λ k l out. kept old at bytes k l out;
    }

-- a front before the range stays
pub take-torn : (at n j : ℕ) (old new : List ℕ) → IsTorn at n old new → j ≤ at → j ≤ length old
    → take j new ≡ take j old
take-torn at n j old new torn le fits =
    ext_get_or 0 (take j new) (take j old) (omega
    (arith, torn.no_shorter, length-take j old, length-take j new))
    (λ k l. let below : k < j = omega (arith, length-take j new) in
    get_or-take j new k 0 below ∙ torn.outside k (omega arith) (inl (omega arith))
    ∙ sym (get_or-take j old k 0 below))

-- what stands behind the range stays, where the range is within the bytes
pub drop-torn : (at n : ℕ) (old new : List ℕ) → IsTorn at n old new → at + n ≤ length old
    → drop (at + n) new ≡ drop (at + n) old
drop-torn at n old new torn fits =
    ext_get_or 0 (drop (at + n) new) (drop (at + n) old)
    (omega (
      arith,
      torn.no_shorter,
      torn.no_longer,
      length-drop (at + n) old,
      length-drop (at + n) new,
    ))
    (λ k l. get_or-drop (at + n) new k 0 ∙ torn.outside (at + n + k)
    (omega (arith, l, torn.no_shorter, torn.no_longer, length-drop (at + n) new))
    (inr (omega arith)) ∙ sym (get_or-drop (at + n) old k 0))

-- what is torn within a range that was torn is torn by that range
pub torn_then : (at count from n : ℕ) (old mid new : List ℕ) → at ≤ from → from + n ≤ at + count
    → IsTorn at count old mid → IsTorn from n mid new → IsTorn at count old new
torn_then at count from n old mid new low high first second = record {
  no_shorter = omega (arith, first.no_shorter, second.no_shorter);
  no_longer = omega (arith, first.no_longer, second.no_longer);
  outside = λ k l out. second.outside k (omega (arith, first.no_shorter))
      (⊎_elim (λ before. inl (omega arith)) (λ behind. inr (omega arith)) out)
      ∙ first.outside k l out;
}
