-- The numbers of answers.
use Rattle.std.proofs.Common.{◌≡◌, ◌≢◌, ℕ, ◌+◌, ◌-◌, ◌*◌, ◌/◌, ◌%◌, ◌<◌, eqb, Option, Some, None, refl, sym, ◌∙◌, ap, subst, inl, inr, arith}
use Rattle.std.proofs.lemmas.Bool.{eq-eqb, ne_eqb, cases_eq, cond-true, cond-false}
use Rattle.strategy_certificate.specs.declared.oracle.Answer.{Answer}
use Rattle.strategy_certificate.specs.declared.oracle.Answer.TheVariants.{Win, Loss, Draw}
use Rattle.endgame_table.specs.Numbers.{no_position, answer_of}

pub answer_of-none : answer_of no_position ≡ None
unfolding answer_of
answer_of-none = refl

pub answer_of-draw : answer_of 0 ≡ Some Draw
unfolding answer_of
answer_of-draw = refl

answer_of-odd : (n : ℕ) → n ≢ no_position → n ≢ 0 → n % 2 ≡ 1 → answer_of n ≡ Some (Loss ((n - 1) / 2))
unfolding answer_of
answer_of-odd n inside some odd =
    cond-false (eqb n no_position) _ _ (ne_eqb n no_position inside)
    ∙ (cond-false (eqb n 0) _ _ (ne_eqb n 0 some) ∙ cond-true (eqb (n % 2) 1) _ _ (eq-eqb (n % 2) 1 odd))

answer_of-even : (n : ℕ) → n ≢ no_position → n ≢ 0 → n % 2 ≢ 1 → answer_of n ≡ Some (Win ((n - 2) / 2))
unfolding answer_of
answer_of-even n inside some even =
    cond-false (eqb n no_position) _ _ (ne_eqb n no_position inside)
    ∙ (cond-false (eqb n 0) _ _ (ne_eqb n 0 some) ∙ cond-false (eqb (n % 2) 1) _ _ (ne_eqb (n % 2) 1 even))

pub answer_of-loss : (n r : ℕ) → n ≡ 2 * r + 1 → 2 * r + 2 < no_position → answer_of n ≡ Some (Loss r)
answer_of-loss n r is small =
    let half : (n - 1) / 2 ≡ r = omega arith in
    answer_of-odd n (omega arith) (omega arith) (omega arith) ∙ ap (λ r. Some (Loss r)) half

pub answer_of-win : (n r : ℕ) → n ≡ 2 * r + 2 → 2 * r + 2 < no_position → answer_of n ≡ Some (Win r)
answer_of-win n r is small =
    let half : (n - 2) / 2 ≡ r = omega arith in
    answer_of-even n (omega arith) (omega arith) (omega arith) ∙ ap (λ r. Some (Win r)) half

-- ---- back from the answer

-- what a number is, by its answer
abbrev pub IsNumberOf : ℕ → Option Answer → Type 0
IsNumberOf n None = n ≡ no_position
IsNumberOf n (Some Draw) = n ≡ 0
IsNumberOf n (Some (Loss r)) = n ≡ 2 * r + 1
IsNumberOf n (Some (Win r)) = n ≡ 2 * r + 2

pub number_of_answer : (n : ℕ) → IsNumberOf n (answer_of n)
number_of_answer n =
    elim (cases_eq n no_position) [
      | inl outside ↦ subst (IsNumberOf n) (sym (ap answer_of outside ∙ answer_of-none)) outside
      | inr inside ↦ elim (cases_eq n 0) [
        | inl draw ↦ subst (IsNumberOf n) (sym (ap answer_of draw ∙ answer_of-draw)) draw
        | inr some ↦ elim (cases_eq (n % 2) 1) [
          | inl odd ↦ subst (IsNumberOf n) (sym (answer_of-odd n inside some odd)) (let e : n ≡ 2 * ((n - 1) / 2) + 1 = omega arith in e)
          | inr even ↦ subst (IsNumberOf n) (sym (answer_of-even n inside some even)) (let e : n ≡ 2 * ((n - 2) / 2) + 2 = omega arith in e)
        ]
      ]
    ]

pub number_of-loss : (n r : ℕ) → answer_of n ≡ Some (Loss r) → n ≡ 2 * r + 1
number_of-loss n r is = subst (IsNumberOf n) is (number_of_answer n)

-- two numbers with the same answer are one
pub same_number : (m n : ℕ) → answer_of m ≡ answer_of n → m ≡ n
same_number m n same = by (answer_of n) (subst (IsNumberOf m) same (number_of_answer m)) (number_of_answer n)
  where
    by : (o : Option Answer) → IsNumberOf m o → IsNumberOf n o → m ≡ n
    by None a b = a ∙ sym b
    by (Some Draw) a b = a ∙ sym b
    by (Some (Loss r)) a b = a ∙ sym b
    by (Some (Win r)) a b = a ∙ sym b
