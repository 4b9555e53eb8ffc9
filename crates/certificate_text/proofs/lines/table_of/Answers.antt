use Rattle.std.proofs.Common.{◌≡◌, ◌∷◌, ◌∙◌, sym, ap, inl, inr, refl, arith, codes}
use Rattle.std.proofs.lemmas.Bool.{false≢true}
use Rattle.std.proofs.lemmas.Fmt.{decimal_digit}
use Rattle.certificate_text.specs.Lines.{line_text, table}
use Rattle.certificate_text.proofs.lines.table_of.Goals as goal

two : line_text (table 2) ≡ codes "table 2"
two = ap (λ t. 116 ∷ 97 ∷ 98 ∷ 108 ∷ 101 ∷ 32 ∷ t) (decimal_digit 2 (omega arith))

three : line_text (table 3) ≡ codes "table 3"
three = ap (λ t. 116 ∷ 97 ∷ 98 ∷ 108 ∷ 101 ∷ 32 ∷ t) (decimal_digit 3 (omega arith))

pub returns-then-is-clause-some : goal.returns-then-is-clause-some
returns-then-is-clause-some c = (inl refl, c.if-is.ensures.0 refl ∙ sym two)

pub returns-then-is-2-clause-some : goal.returns-then-is-2-clause-some
returns-then-is-2-clause-some c = (inr refl, c.if-is-2.ensures.0 refl ∙ sym three)

pub returns-else-is-2-clause-none : goal.returns-else-is-2-clause-none
returns-else-is-2-clause-none c pieces (inl e) same = absurd (false≢true (c.if-is.ensures.1 (same ∙ ap (λ k. line_text (table k)) e ∙ two)))
returns-else-is-2-clause-none c pieces (inr e) same = absurd (false≢true (c.if-is-2.ensures.1 (same ∙ ap (λ k. line_text (table k)) e ∙ three)))
