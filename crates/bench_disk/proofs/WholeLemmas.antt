-- A file that does a part of what is asked, again and again.
use Rattle.std.specs.Prelude.{◌≡◌, ◌⊎◌, ℕ, ◌+◌, ◌-◌, ◌≤◌, List, ◌++◌, length, take, drop}
use Rattle.std.proofs.Common.{sym, ◌∙◌, ap, subst, ⊎_elim, arith, append_assoc, length-append, length-take, length-drop}
use Rattle.std.proofs.lemmas.List.{append-nil, drop-drop, drop_all, drop_at, take_all, take_at}
use Rattle.std.proofs.Math.Seq.{take-add}
use Rattle.bench_disk.specs.Disk.{HasRead, written}
use Rattle.bench_disk.specs.Handle.{HasReadSome}

-- the rest of a buffer, put back behind its front
pub put_back : (n : ℕ) (into part : List ℕ) → take n into ++ (part ++ drop (length into - n) (drop n into)) ≡ take n into ++ part
put_back n into part =
    ap (λ (l : List ℕ). take n into ++ l) (ap (λ (l : List ℕ). part ++ l) (drop_all (length into - n) (drop n into) (omega (arith, length-drop n into))) ∙ append-nil part)

-- the rest of a buffer
pub whole_rest : (n : ℕ) (into : List ℕ) → take (length into - n) (drop n into) ≡ drop n into
whole_rest n into = take_all (length into - n) (drop n into) (omega (arith, length-drop n into))

pub some_of : (place at : ℕ) (found bytes part rest : List ℕ) (count : ℕ) (new : List ℕ) → place ≡ at → found ≡ bytes → part ≡ rest → HasReadSome place found count part new → HasReadSome at bytes count rest new
some_of place at found bytes part rest count new p q r some =
    subst (λ l. HasReadSome at bytes count l new) r (subst (λ l. HasReadSome at l count part new) q (subst (λ n. HasReadSome n found count part new) p some))

module _ (at filled : ℕ) (bytes before into : List ℕ) (there : filled ≤ length (drop at bytes)) (is : into ≡ take filled (drop at bytes) ++ drop filled before) where
  size : length (take filled (drop at bytes)) ≡ filled
  size = omega (arith, length-take filled (drop at bytes), there)

  pub front : take filled into ≡ take filled (drop at bytes)
  front = ap (take filled) is ∙ take_at (take filled (drop at bytes)) (drop filled before) filled size

  pub behind : drop filled into ≡ drop filled before
  behind = ap (drop filled) is ∙ drop_at (take filled (drop at bytes)) (drop filled before) filled size

  -- more bytes were read behind those that were
  module _ (count : ℕ) (part next : List ℕ) (some : HasReadSome (at + filled) bytes count (drop filled into) part) (whole : next ≡ take filled into ++ part) where
    pub more_there : filled + count ≤ length (drop at bytes)
    more_there = omega (arith, some.there, length-drop (at + filled) bytes, length-drop at bytes, there)

    pub more : next ≡ take (filled + count) (drop at bytes) ++ drop (filled + count) before
    more =
        whole ∙ ap (λ (l : List ℕ). l ++ part) front
        ∙ ap (λ (l : List ℕ). take filled (drop at bytes) ++ l)
        (some.filled ∙ ap (λ (l : List ℕ). take count l ++ drop count (drop filled into)) (sym (drop-drop filled at bytes))
        ∙ ap (λ (l : List ℕ). take count (drop filled (drop at bytes)) ++ l) (ap (drop count) behind ∙ drop-drop count filled before))
        ∙ sym (append_assoc (take filled (drop at bytes)) (take count (drop filled (drop at bytes))) (drop (filled + count) before))
        ∙ ap (λ (l : List ℕ). l ++ drop (filled + count) before) (sym (take-add filled count (drop at bytes)))

  -- the buffer is full, or the bytes end
  pub read : filled ≤ length before → (filled ≡ length before) ⊎ (length (drop at bytes) ≤ filled) → HasRead at bytes filled before into
  read fits end =
      let same : take filled (drop at bytes) ≡ take (length before) (drop at bytes) =
      ⊎_elim (λ full. ap (λ n. take n (drop at bytes)) full) (λ short. take_all filled (drop at bytes) short ∙ sym (take_all (length before) (drop at bytes) (omega (arith, short, fits)))) end in
      record { number = sym size ∙ ap length same; filled = is ∙ ap (λ (l : List ℕ). l ++ drop filled before) same }

-- one write behind another
pub written_then : (old : List ℕ) (at : ℕ) (first second : List ℕ) → at ≤ length old → written (written old at first) (at + length first) second ≡ written old at (first ++ second)
written_then old at first second within =
    let front = take at old ++ first in
    let size : length front ≡ at + length first = omega (arith, length-append (take at old) first, length-take at old, within) in
    let rest = drop (at + length first) old in
    let begins : take (at + length first) (front ++ rest) ≡ front = take_at front rest (at + length first) size in
    let ends : drop (at + length first + length second) (front ++ rest) ≡ drop (at + length (first ++ second)) old =
    sym (drop-drop (length second) (at + length first) (front ++ rest)) ∙ ap (drop (length second)) (drop_at front rest (at + length first) size)
    ∙ drop-drop (length second) (at + length first) old ∙ ap (λ n. drop n old) (omega (arith, length-append first second)) in
    ap (λ (l : List ℕ). l ++ second ++ drop (at + length first + length second) (front ++ rest)) begins
    ∙ ap (λ (l : List ℕ). front ++ second ++ l) ends
    ∙ ap (λ (l : List ℕ). l ++ drop (at + length (first ++ second)) old) (append_assoc (take at old) first second)

-- more of the bytes were written behind those that were
pub wrote_more : (old mid new from : List ℕ) (at done count : ℕ) → at ≤ length old → done ≤ length from → mid ≡ written old at (take done from) → new ≡ written mid (at + done) (take count (drop done from))
    → new ≡ written old at (take (done + count) from)
wrote_more old mid new from at done count within fits first second =
    second ∙ ap (λ (l : List ℕ). written l (at + done) (take count (drop done from))) first
    ∙ ap (λ n. written (written old at (take done from)) (at + n) (take count (drop done from))) (omega (arith, length-take done from, fits))
    ∙ written_then old at (take done from) (take count (drop done from)) within
    ∙ ap (λ (l : List ℕ). written old at l) (sym (take-add done count from))

-- where the next bytes are due there are as many already
pub long_enough : (old mid from : List ℕ) (at done : ℕ) → at ≤ length old → done ≤ length from → mid ≡ written old at (take done from) → at + done ≤ length mid
long_enough old mid from at done within fits is =
    omega (
      arith,
      ap length is,
      length-append (take at old ++ take done from) (drop (at + length (take done from)) old),
      length-append (take at old) (take done from),
      length-take at old,
      length-take done from,
      within,
      fits,
    )
