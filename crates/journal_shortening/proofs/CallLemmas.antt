-- From what a call answers to what the call above it answers.
use Rattle.std.proofs.Common.{◌≡◌, ◌<◌, ◌≤◌, ◌⊎◌, ℕ, List, [], map, length, refl, sym, ap, ◌∙◌, subst, arith}
use Rattle.std.specs.Prelude.{Bool, true, false, IfOk, IfErr, IsErrAnd, MatchResult, Result, Ok, Err}
use Rattle.std.proofs.lemmas.Bool.{false≢true}
use Rattle.std.proofs.lemmas.List.{length-map}
use Rattle.shared_words.specs.Counts.{Rose}
use Rattle.disk_journal.specs.Format.{HasPayloads, IsFresh}
use Rattle.disk_journal.specs.declared.payload.Payload.{Payload}
use Rattle.journal_shortening.specs.Refusals.{is_of_from}
use Rattle.journal_shortening.specs.declared.refusals.CompactRefusal.{CompactRefusal}
use Rattle.journal_shortening.specs.declared.refusals.CompactRefusal.TheVariants.{FromDisk, IntoDisk}
use Rattle.journal_shortening.proofs.CauseLemmas.{fresh_none}

pub map_ok : {T E : Type 0} (r : Result T E) (P Q : T → Type 0) → ((v : T) → P v → Q v) → IfOk r P → IfOk r Q
map_ok (Ok v) P Q f h = f v h
map_ok (Err e) P Q f h = tt

pub map_err : {T E : Type 0} (r : Result T E) (P Q : E → Type 0) → ((e : E) → P e → Q e) → IfErr r P → IfErr r Q
map_err (Ok v) P Q f h = tt
map_err (Err e) P Q f h = f e h

pub map_match : {T E : Type 0} (r : Result T E) (P Q : T → Type 0) (R S : E → Type 0) → ((v : T) → P v → Q v) → ((e : E) → R e → S e) → MatchResult r P R → MatchResult r Q S
map_match (Ok v) P Q R S f g h = f v h
map_match (Err e) P Q R S f g h = g e h

of_from_false : (e : CompactRefusal) → is_of_from e ≡ false → is_of_from e ≡ true → ⊥
of_from_false e own other = false≢true (sym own ∙ other)

-- a refusal that is not of the first journal is not of its disk
pub not_from_disk : {T D : Type 0} (r : Result T (D × CompactRefusal)) → IfErr r (λ e. is_of_from e.1 ≡ false) → IsErrAnd r (λ e. e.1 ≡ FromDisk) → ⊥
not_from_disk (Ok v) own is = is
not_from_disk (Err e) own is = false≢true (sym own ∙ ap is_of_from is)

pub not_of_from : {T D : Type 0} (r : Result T (D × CompactRefusal)) (into : D) → IfErr r (λ e. is_of_from e.1 ≡ false) → IfErr r (λ e. is_of_from e.1 ≡ true → e.0 ≡ into)
not_of_from r into own = map_err r (λ e. is_of_from e.1 ≡ false) (λ e. is_of_from e.1 ≡ true → e.0 ≡ into) (λ e isnt is. absurd (of_from_false e.1 isnt is)) own

-- faults that rose behind a look rose since before it
pub faults_behind : {T D : Type 0} (faults : D → ℕ) (into mid : D) (r : Result (D × T) (D × CompactRefusal)) → faults into ≤ faults mid
    → MatchResult r (λ done. faults mid ≤ faults done.0) (λ e. (faults mid ≤ faults e.0) × (e.1 ≡ IntoDisk → Rose (faults mid) (faults e.0)))
    → MatchResult r (λ done. faults into ≤ faults done.0) (λ e. (faults into ≤ faults e.0) × (e.1 ≡ IntoDisk → Rose (faults into) (faults e.0)))
faults_behind faults into mid (Ok done) le h = omega (arith, le, h)
faults_behind faults into mid (Err e) le h = (omega (arith, le, h.0), λ is. let rose = h.1 is in omega (arith, le, rose))

pub rose_behind : {T D : Type 0} (faults : D → ℕ) (into mid : D) (r : Result (D × T) (D × CompactRefusal)) → faults into ≤ faults mid
    → MatchResult r (λ done. faults mid ≤ faults done.0) (λ e. (faults mid ≤ faults e.0) × Rose (faults mid) (faults e.0))
    → MatchResult r (λ done. faults into ≤ faults done.0) (λ e. (faults into ≤ faults e.0) × (e.1 ≡ IntoDisk → Rose (faults into) (faults e.0)))
rose_behind faults into mid (Ok done) le h = omega (arith, le, h)
rose_behind faults into mid (Err e) le h = (omega (arith, le, h.0), λ is. let rose = h.1 in omega (arith, le, rose))

-- a fresh file has no payload
pub fresh_count : (k : ℕ) (file : List ℕ) (items : List Payload) → HasPayloads k file (map (λ p. p.bytes.items) items) → IsFresh file → length items ≡ 0
fresh_count k file items has fresh =
    let none = ap length (fresh_none k file (map (λ (p : Payload). p.bytes.items) items) has fresh) in
    let long = length-map items (λ (p : Payload). p.bytes.items) in
    omega (arith, none, long)
