use Rattle.std.proofs.Common.{◌∙◌, ◌++◌, refl, sym, subst, arith, decimal}
use Rattle.certificate_text.specs.Lines.{choice_text}
use Rattle.shared_words.specs.Bytes.{Lacks}
use Rattle.shared_words.proofs.LackingBytes.{halves_agree, Lacks-split}
use Rattle.shared_words.proofs.Numerals.{Lacks-decimal}
use Rattle.certificate_text.proofs.Fields.{if_none, choice_cut}
use Rattle.certificate_text.proofs.lines.win_entry.Goals as goal

pub returns-in_err-field-clause-none : goal.returns-in_err-field-clause-none
returns-in_err-field-clause-none c =
    if_none c.from_residual.result _ (λ field rank chosen lacks small path same. Lacks-split 32 field (decimal rank ++ choice_text chosen) (subst (Lacks 32) same c.in_err-field.ensures.none))

pub returns-in_err-rank-clause-none : goal.returns-in_err-rank-clause-none
returns-in_err-rank-clause-none c =
    if_none c.from_residual-in_err-rank.result _ (λ field rank chosen lacks small path same.
    let halves = halves_agree 32 _ field _ (decimal rank ++ choice_text chosen) c.in_ok-field.ensures.before lacks (sym c.in_ok-field.ensures.whole ∙ same) in
    let both = choice_cut _ (decimal rank) _ chosen c.split_field.ensures.field (Lacks-decimal 32 rank refl (omega arith)) (sym c.split_field.ensures.line ∙ halves.1) in
    c.in_err-rank.ensures.other rank (omega arith) both.0)

pub returns-in_err-chosen-clause-none : goal.returns-in_err-chosen-clause-none
returns-in_err-chosen-clause-none c =
    if_none c.from_residual-in_err-chosen.result _ (λ field rank chosen lacks small path same.
    let halves = halves_agree 32 _ field _ (decimal rank ++ choice_text chosen) c.in_ok-field.ensures.before lacks (sym c.in_ok-field.ensures.whole ∙ same) in
    let both = choice_cut _ (decimal rank) _ chosen c.split_field.ensures.field (Lacks-decimal 32 rank refl (omega arith)) (sym c.split_field.ensures.line ∙ halves.1) in
    c.in_err-chosen.ensures.none chosen path both.1)
