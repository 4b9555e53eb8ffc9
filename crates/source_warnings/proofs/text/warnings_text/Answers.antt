use Rattle.std.proofs.Common.{◌≡◌, List, IfOk, subst}
use Rattle.terminal_text.specs.Shown.{shown}
use Rattle.source_warnings.specs.Told.{IsToldOf}
use Rattle.source_warnings.specs.declared.causes.Warning.{Warning}
use Rattle.source_warnings.proofs.Steps.{first_told, told_result}
use Rattle.source_warnings.proofs.text.warnings_text.Goals as goal

pub returns-clause-told : goal.returns-clause-told
returns-clause-told c =
    let source = c.args.source.now in
    let found = c.in_ok-found.found in
    let same : IfOk c.shown.result (λ text. text.items ≡ shown c.in_ok-text.text.items) =
    subst (λ raw. IfOk c.shown.result (λ text. text.items ≡ shown raw)) c.deref.ensures.value c.shown.ensures.same in
    let told = first_told (λ text. text.items) source c.as_slice.result.now _ c.in_ok-text.text.items c.in_ok-text.ensures.0 c.shown.result c.in-len1-up.len_at_least c.in_ok-text.ensures.1 same in
    told_result (λ text. text.items) source c.args.asked found c.shown.result c.in_ok-found.ensures.exact
    (subst (λ (ws : List Warning). IfOk c.shown.result (λ text. IsToldOf source ws text.items)) c.as_slice.ensures.value told)
