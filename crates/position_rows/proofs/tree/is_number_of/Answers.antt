use Rattle.std.proofs.Common.{subst, ◌<◌, length, arith, ℕ}
use Rattle.std.proofs.lemmas.Bool.{false≢true}
use Rattle.position_rows.specs.Rows.{IsNumberOf}
use Rattle.position_rows.proofs.RowLemmas.{number-iff, no_number, no_zero}
use Rattle.position_rows.proofs.tree.is_number_of.Goals as goal

pub returns-then-number-eq0 : goal.returns-then-number-eq0
returns-then-number-eq0 g c = (
  λ t. absurd (false≢true t),
  λ there. absurd (no_zero c.args.rows.now c.args.p.now (subst (λ (n : ℕ). IsNumberOf c.args.rows.now n c.args.p.now) c.if-number-eq0.true there)),
)

pub returns-then-i-rows : goal.returns-then-i-rows
returns-then-i-rows g c =
    let past : length c.args.rows.now < c.args.number = omega (arith, c.if-number-eq0.false, c.if-i-rows.true) in (
      λ t. absurd (false≢true t),
      λ there. absurd (no_number c.args.rows.now c.args.number c.args.p.now past there),
    )

pub returns : goal.returns
returns g c =
    let iff = number-iff c.args.rows.now c.args.number _ c.args.p.now (omega (arith, c.if-number-eq0.false)) in
    (λ t. iff.0 (c.is_row_at.ensures.0 t), λ there. c.is_row_at.ensures.1 (iff.1 there))
