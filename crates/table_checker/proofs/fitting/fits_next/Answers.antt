use Rattle.std.proofs.Common.{◌≡◌, ◌↔◌, ℕ, suc, ◌-◌, Bool, true, not, List, Option, sym, ◌∙◌, ap, subst, arith}
use Rattle.strategy_certificate.specs.declared.oracle.Answer.{Answer}
use Rattle.strategy_certificate.specs.declared.oracle.Answer.TheVariants.{Win, Loss}
use Rattle.std.specs.List.{list_all}
use Rattle.table_checker.specs.Fitting.{FitsNext, is_win_below}
use Rattle.table_checker.proofs.FittingLemmas.{win_fits, loss_fits, lost_fits, draw_fits}
use Rattle.table_checker.proofs.fitting.fits_next.Goals as goal

-- a test of the same value decides the same
along : (next : List (Option Answer)) (a b : Answer) (s t : Bool) → a ≡ b → s ≡ t → (t ≡ true) ↔ FitsNext next b → (s ≡ true) ↔ FitsNext next a
along next a b s t same test decides = subst (λ v. (s ≡ true) ↔ FitsNext next v) (sym same) (subst (λ u. (u ≡ true) ↔ FitsNext next b) (sym test) decides)

pub returns-then-has : goal.returns-then-has
returns-then-has c =
    let r : ℕ = c.in-Win.rank in
    let some : r ≡ 0 → ⊥ = rw c.in-Win.is at c.in-Win.rank-test.1 in
    let step : r ≡ suc (r - 1) = omega (arith, some) in
    along _ _ _ _ _ (c.in-Win.is ∙ ap (λ (n : ℕ). Win n) step) (ap not c.has_loss_below.ensures) (win_fits _ (r - 1) (c.has.ensures.0 c.if-has.true))

pub returns-in-Loss-eq0 : goal.returns-in-Loss-eq0
returns-in-Loss-eq0 c =
    let none : c.in-Loss-eq0.field-0 ≡ 0 = sym c.in-Loss-eq0.field-0-is ∙ c.in-Loss-eq0.field-0-test in
    along _ _ _ _ _ (c.in-Loss-eq0.is ∙ ap (λ (n : ℕ). Loss n) none) c.is_empty.ensures (lost_fits _)

pub returns-then-has-2 : goal.returns-then-has-2
returns-then-has-2 c =
    let r : ℕ = c.in-Loss.rank in
    let some : r ≡ 0 → ⊥ = rw c.in-Loss.is at c.in-Loss.rank-test.1 in
    let step : r ≡ suc (r - 1) = omega (arith, some) in
    along _ _ _ _ _ (c.in-Loss.is ∙ ap (λ (n : ℕ). Loss n) step)
    (c.are_wins_below.ensures ∙ ap (λ (n : ℕ). list_all (is_win_below n) c.args.next.now) step)
    (loss_fits _ (r - 1) (c.has-in-Loss.ensures.0 c.if-has-2.true))

pub returns-then-has-3 : goal.returns-then-has-3
returns-then-has-3 c =
    let there = c.has-in-Draw.ensures.0 c.if-has-3.true in
    along _ _ _ _ _ c.in-Draw.is (ap not c.has_loss.ensures) (draw_fits _ there)
