-- What is noted of roots, where one more is settled.
use Rattle.std.proofs.Common.{◌≡◌, ℕ, suc, ◌⊎◌, ⊎_elim, List, slice_get, Some, subst, arith}
use Rattle.std.proofs.lemmas.Bool.{cases_lt}
use Rattle.proof_tree.specs.Forest.{Node}
use Rattle.proof_tree.specs.Rows.{IsSettledAt, AreSettled, AreNoted}

-- a list as it was, but for what stands at one place
abbrev pub Differs : List ℕ → List ℕ → ℕ → ℕ → Type 0
Differs old new place number = (k n : ℕ) → slice_get new k ≡ Some n → (slice_get old k ≡ Some n) ⊎ ((k ≡ place) × (n ≡ number))

-- one more stretch is noted at its first place, or at its last
pub noted_ahead : (roots : List Node) (ends starts ends' : List ℕ) (place end : ℕ) → Differs ends ends' place end → AreSettled roots place end → AreNoted roots ends starts → AreNoted roots ends' starts
noted_ahead roots ends starts ends' place end differs settled noted = record {
  ahead = λ k e at n from to. ⊎_elim (λ old. noted.ahead k e old n from to)
      (λ new. let p = new.0 in let q = new.1 in settled n (omega (arith, p, from)) (omega (arith, q, to))) (differs k e at);
  behind = noted.behind;
}

pub noted_behind : (roots : List Node) (ends starts starts' : List ℕ) (place start : ℕ) → Differs starts starts' place start → AreSettled roots start (suc place) → AreNoted roots ends starts → AreNoted roots ends starts'
noted_behind roots ends starts starts' place start differs settled noted = record {
  ahead = noted.ahead;
  behind = λ k b at n from to. ⊎_elim (λ old. noted.behind k b old n from to)
      (λ new. let p = new.0 in let q = new.1 in settled n (omega (arith, q, from)) (omega (arith, p, to))) (differs k b at);
}

-- the stretches on both sides of a root, and the root between them
pub joined : (roots : List Node) (place start end : ℕ) → IsSettledAt roots place → AreSettled roots start place → AreSettled roots (suc place) end → AreSettled roots start end
joined roots place start end here before after n from to = ⊎_elim
    (λ below. before n from below)
    (λ above. ⊎_elim (λ behind. after n (omega (arith, behind)) to) (λ at. let same : place ≡ n = omega (arith, above, at) in subst (IsSettledAt roots) same here) (cases_lt place n))
    (cases_lt n place)
