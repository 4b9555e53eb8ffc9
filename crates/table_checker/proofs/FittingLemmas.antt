-- What the tests of the next answers tell, together.
use Rattle.std.proofs.Common.{◌≡◌, inl, inr, ◌↔◌, ℕ, suc, ◌≤◌, ◌<◌, ◌==◌, true, not, List, [], ◌∷◌, length, refl, sym, ◌∙◌, ap, subst, arith, Option, Some, None}
use Rattle.std.specs.Prelude.{Contains}
use Rattle.std.specs.List.{list_any, list_all}
use Rattle.std.proofs.lemmas.Bool.{false≢true, ltb-true, lt-ltb, eqb-true, cases_lt, and_parts, and_from, not-true, not_from_false, false_from_ne_true}
use Rattle.draughts_board.proofs.Members.{any_true, true_any, Contains-nil, Contains-head, Contains-tail, Contains-cons_cases}
use Rattle.strategy_certificate.specs.declared.oracle.Answer.{Answer}
use Rattle.strategy_certificate.specs.declared.oracle.Answer.TheVariants.{Win, Loss, Draw}
use Rattle.table_checker.specs.Fitting.{FitsNext, is_loss, is_loss_below, is_win_below}

-- ---- one answer

loss_of : (a : Option Answer) → is_loss a ≡ true → (m : ℕ) × (a ≡ Some (Loss m))
loss_of (Some (Loss m)) t = (m, refl)
loss_of (Some (Win m)) t = absurd (false≢true t)
loss_of (Some Draw) t = absurd (false≢true t)
loss_of None t = absurd (false≢true t)

lower_loss_of : (r : ℕ) (a : Option Answer) → is_loss_below r a ≡ true → (m : ℕ) × ((a ≡ Some (Loss m)) × (m < r))
lower_loss_of r (Some (Loss m)) t = (m, (refl, ltb-true m r t))
lower_loss_of r (Some (Win m)) t = absurd (false≢true t)
lower_loss_of r (Some Draw) t = absurd (false≢true t)
lower_loss_of r None t = absurd (false≢true t)

lower_win_of : (r : ℕ) (a : Option Answer) → is_win_below r a ≡ true → (m : ℕ) × ((a ≡ Some (Win m)) × (m < r))
lower_win_of r (Some (Win m)) t = (m, (refl, ltb-true m r t))
lower_win_of r (Some (Loss m)) t = absurd (false≢true t)
lower_win_of r (Some Draw) t = absurd (false≢true t)
lower_win_of r None t = absurd (false≢true t)

-- ---- all of them

all_lower : (r : ℕ) (next : List (Option Answer)) → list_all (is_win_below r) next ≡ true
    → (a : Option Answer) → Contains next a → (m : ℕ) × ((a ≡ Some (Win m)) × (m < r))
all_lower r [] t a has = absurd (Contains-nil a has)
all_lower r (b ∷ next) t a has =
    let both = and_parts (is_win_below r b) (list_all (is_win_below r) next) t in
    elim (Contains-cons_cases b next a has) [ inl e ↦ lower_win_of r a (ap (is_win_below r) (sym e) ∙ both.0) | inr k ↦ all_lower r next both.1 a k ]

lower_all : (r : ℕ) (next : List (Option Answer)) → ((a : Option Answer) → Contains next a → (m : ℕ) × ((a ≡ Some (Win m)) × (m < r)))
    → list_all (is_win_below r) next ≡ true
lower_all r [] each = refl
lower_all r (b ∷ next) each =
    let won = each b (Contains-head b next) in
    and_from (is_win_below r b) (list_all (is_win_below r) next) (ap (is_win_below r) won.1.0 ∙ lt-ltb won.0 r won.1.1) (lower_all r next (λ a k. each a (Contains-tail b a next k)))

-- ---- the three answers

pub win_fits : (next : List (Option Answer)) (l : ℕ) → Contains next (Some (Loss l))
    → (not (list_any (is_loss_below l) next) ≡ true) ↔ FitsNext next (Win (suc l))
win_fits next l there = (
  (λ none. (
    l,
    (
      refl,
      (
        there,
        λ m has. elim (cases_lt m l) [
          | inl lower ↦ absurd (false≢true (sym (not-true (list_any (is_loss_below l) next) none) ∙ any_true (is_loss_below l) next (Some (Loss m)) has (lt-ltb m l lower)))
          | inr above ↦ above
        ],
      ),
    ),
  )),
  (λ fits. not_from_false (list_any (is_loss_below l) next) (false_from_ne_true (list_any (is_loss_below l) next) (λ some.
      let found = true_any (is_loss_below l) next some in
      let loss = lower_loss_of l found.0 found.1.1 in
      let low : fits.0 ≤ loss.0 = fits.1.1.1 loss.0 (subst (Contains next) loss.1.0 found.1.0) in
      let same : suc l ≡ suc fits.0 = fits.1.0 in
      absurd (omega arith)))),
)

pub loss_fits : (next : List (Option Answer)) (m : ℕ) → Contains next (Some (Win m))
    → (list_all (is_win_below (suc m)) next ≡ true) ↔ FitsNext next (Loss (suc m))
loss_fits next m there = (
  (λ all. (all_lower (suc m) next all, inr (m, (there, refl)))),
  (λ fits. lower_all (suc m) next fits.0),
)

pub lost_fits : (next : List (Option Answer)) → ((length next == 0) ≡ true) ↔ FitsNext next (Loss 0)
lost_fits [] = ((λ _. ((λ a has. absurd (Contains-nil a has)), inl refl)), (λ _. refl))
lost_fits (a ∷ next) = (
  (λ t. absurd (let e : length (a ∷ next) ≡ 0 = eqb-true (length (a ∷ next)) 0 t in omega arith)),
  (λ fits. let won = fits.0 a (Contains-head a next) in let lt : won.0 < 0 = won.1.1 in absurd (omega arith)),
)

pub draw_fits : (next : List (Option Answer)) → Contains next (Some Draw)
    → (not (list_any is_loss next) ≡ true) ↔ FitsNext next Draw
draw_fits next there = (
  (λ none. (there, λ m has. false≢true (sym (not-true (list_any is_loss next) none) ∙ any_true is_loss next (Some (Loss m)) has refl))),
  (λ fits. not_from_false (list_any is_loss next) (false_from_ne_true (list_any is_loss next) (λ some.
      let found = true_any is_loss next some in
      let loss = loss_of found.0 found.1.1 in
      fits.1 loss.0 (subst (Contains next) loss.1 found.1.0)))),
)
