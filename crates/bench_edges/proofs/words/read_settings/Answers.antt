use Rattle.std.proofs.Common.{◌≡◌, ◌≢◌, ◌<◌, ◌+◌, ℕ, [], ◌∷◌, ◌++◌, List, get_or, length, decimal, None, refl, sym, ◌∙◌, subst, arith, rules}
use Rattle.std.proofs.lemmas.Grind.{common_steps}
use Rattle.std.proofs.lemmas.List.{length-set}
use Rattle.bench_edges.specs.declared.words.SolveOption.{SolveOption}
use Rattle.bench_edges.specs.Words.{Setting, IsSetting, IsNew, IsRefusedAt, option_name, least_of, place_of, texts}
use Rattle.bench_edges.proofs.Settings.{IsNew-from_none, least_setting, number_for-new, placed_more, takes_value}
use Rattle.bench_edges.proofs.SolveWords.{read_on, refused_name, refused_value}
use Rattle.bench_edges.proofs.Texts.{text_at}
use Rattle.bench_edges.proofs.words.read_settings.Goals as goal

pub returns-in_default-clause-refused : goal.returns-in_default-clause-refused
returns-in_default-clause-refused c =
    let words = texts c.args.words.now in
    let at = c.loop-at.at in
    let so_far = c.loop-at.invariant in
    let within : at < length words = grind (arith, common_steps) in
    let inside : at < length c.args.words.now = grind (arith, common_steps) in
    refused_name words at so_far.given so_far.read within
    (λ s setting same new. c.named.ensures.none c.in_default.is setting.0 (sym (text_at c.args.words.now at _ inside) ∙ same ∙ setting.1.0))

pub returns-then-is_some-clause-refused : goal.returns-then-is_some-clause-refused
returns-then-is_some-clause-refused c =
    let words = texts c.args.words.now in
    let at = c.loop-at.at in
    let so_far = c.loop-at.invariant in
    let option = c.in-Some.option in
    let within : at < length words = grind (arith, common_steps) in
    let inside : at < length c.args.words.now = grind (arith, common_steps) in
    let name : get_or words at [] ≡ option_name option = text_at c.args.words.now at _ inside ∙ c.in-Some.ensures.some in
    refused_name words at so_far.given so_far.read within
    (λ s setting same new.
    let none : get_or c.loop-at.numbers (place_of option) None ≡ None =
    so_far.placed option ∙ number_for-new (option_name option) so_far.given (subst (λ (n : List ℕ). IsNew n so_far.given) (sym same ∙ name) new) in
    let place : c.place.result ≡ place_of option = c.place.ensures.place in
    grind (arith, common_steps))

pub returns-in_err-number-clause-refused : goal.returns-in_err-number-clause-refused
returns-in_err-number-clause-refused c =
    let words = texts c.args.words.now in
    let at = c.loop-at.at in
    let so_far = c.loop-at.invariant in
    let option = c.in-Some.option in
    let within : at < length words = grind (arith, common_steps) in
    let inside : at < length c.args.words.now = grind (arith, common_steps) in
    let name : get_or words at [] ≡ option_name option = text_at c.args.words.now at _ inside ∙ c.in-Some.ensures.some in
    let place : c.place.result ≡ place_of option = c.place.ensures.place in
    let none : get_or c.loop-at.numbers (place_of option) None ≡ None = grind (arith, common_steps) in
    let new : IsNew (option_name option) so_far.given = IsNew-from_none (option_name option) so_far.given (sym (so_far.placed option) ∙ none) in
    let some : Setting = record { name = option_name option; value = least_of option } in
    let other : at + 1 < length words → (s : Setting) → IsSetting s → s.name ≡ option_name option → get_or words (at + 1) [] ≢ decimal s.value =
    λ within_more s setting same.
    let takes = takes_value option s setting same in
    let least = c.least.ensures in
    let most = c.most.ensures in
    c.in_err-number.ensures.other (grind (arith, common_steps)) s.value (omega (arith, takes, least)) (omega (arith, takes, most)) in
    let refused : IsRefusedAt words c.in_err-number.field-0.0.at =
    subst (λ (place : ℕ). IsRefusedAt words place) (sym c.in_err-number.ensures.place) (refused_value words at so_far.given some so_far.read (least_setting option) new within name other) in
    search (rules, refused)

pub loop-at-preserved : goal.loop-at-preserved
loop-at-preserved c =
    let words = texts c.args.words.now in
    let at = c.loop-at.at in
    let so_far = c.loop-at.invariant in
    let option = c.in-Some.option in
    let n = c.in_ok-number.number in
    let next : Setting = record { name = option_name option; value = n } in
    let inside : at < length c.args.words.now = grind (arith, common_steps) in
    let within : at + 1 < length words = grind (arith, common_steps) in
    let name : get_or words at [] ≡ option_name option = text_at c.args.words.now at _ inside ∙ c.in-Some.ensures.some in
    let place : c.place.result ≡ place_of option = c.place.ensures.place in
    let none : get_or c.loop-at.numbers (place_of option) None ≡ None = grind (arith, common_steps) in
    let new : IsNew (option_name option) so_far.given = IsNew-from_none (option_name option) so_far.given (sym (so_far.placed option) ∙ none) in
    let least = c.least.ensures in
    let most = c.most.ensures in
    let above = c.in_ok-number.ensures.least in
    let below = c.in_ok-number.ensures.most in
    let fits = c.place-in-loop-at.ensures.within in
    let long = so_far.size in
    record {
      size = length-set c.loop-at.numbers c.place-in-loop-at.result _ ∙ long;
      given = so_far.given ++ next ∷ [];
      read = read_on words at so_far.given next so_far.read (option, (refl, (omega (arith, least, above), omega (arith, most, below)))) new within name c.in_ok-number.ensures.word;
      placed = placed_more c.loop-at.numbers so_far.given option c.place-in-loop-at.result n c.place-in-loop-at.ensures.place (omega (arith, fits, long)) so_far.placed new;
    }
