-- From the tests of targets to what they say.
use Rattle.std.proofs.Common.{◌≡◌, ◌≢◌, ℕ, ◌-◌, ◌/◌, ◌%◌, true, not, eqb, sym, ◌∙◌, ap, arith}
use Rattle.std.proofs.lemmas.Bool.{false≢true, eqb-true, eq-eqb, ne_eqb, and_parts, and_from}
use Rattle.endgame_table.specs.Rounds.{win, IsWonNumber, is_won}

pub won-test : (n : ℕ) → is_won n ≡ true → IsWonNumber n
won-test n h =
    let parts = and_parts (not (eqb n 0)) (eqb (n % 2) 0) h in
    let some : n ≢ 0 = λ e. false≢true (sym (ap not (eq-eqb n 0 e)) ∙ parts.0) in
    let even : n % 2 ≡ 0 = eqb-true (n % 2) 0 parts.1 in
    (n / 2 - 1, omega arith)

pub test-won : (n m : ℕ) → n ≡ win m → is_won n ≡ true
test-won n m is =
    let some : n ≢ 0 = omega arith in
    let even : n % 2 ≡ 0 = omega arith in
    and_from (not (eqb n 0)) (eqb (n % 2) 0) (ap not (ne_eqb n 0 some)) (eq-eqb (n % 2) 0 even)
