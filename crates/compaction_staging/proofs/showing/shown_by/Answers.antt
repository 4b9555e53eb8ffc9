use Rattle.std.proofs.Common.{◌≡◌, ◌≤◌, ◌∙◌, ◌∷◌, ◌++◌, [], ℕ, List, length, sym, subst, ap, arith}
use Rattle.compaction_staging.proofs.ProgressLemmas.{nothing_left}
use Rattle.compaction_staging.proofs.ShownLemmas.{few_parts, joined_one, joined_two, none_before}
use Rattle.compaction_staging.proofs.showing.shown_by.Goals as goal

pub unreachable-requires : goal.unreachable-requires
unreachable-requires c =
    let r = c.requires in
    let few = few_parts r.0 r.1.1.0 r.1.1.1.0 c.args.c r.1.1.1.1.1.0 r.1.1.1.1.0 r.1.1.1.1.1.1 in
    let same = ap length c.into_vec-parts.ensures in
    let none = c.in_default.ensures.cases.0 in
    omega (arith, few.0, same, none, c.into_vec-parts.result.ok.0)

pub returns-in-None : goal.returns-in-None
returns-in-None c =
    let rest = nothing_left c.pop.new.self.items (let none = c.in-None.ensures.cases.0 in omega (arith, none, c.pop.new.self.ok.0)) in
    joined_one c.args.c c.in-Some.last (sym c.into_vec-parts.ensures ∙ (c.in-Some.ensures.items ∙ ap (λ l. l ++ c.in-Some.last ∷ []) rest)) c.one_shown.result c.one_shown.ensures

pub returns : goal.returns
returns c =
    let r = c.requires in
    let few = few_parts r.0 r.1.1.0 r.1.1.1.0 c.args.c r.1.1.1.1.1.0 r.1.1.1.1.0 r.1.1.1.1.1.1 in
    let all = sym c.into_vec-parts.ensures ∙ (c.in-Some.ensures.items ∙ ap (λ l. l ++ c.in-Some.last ∷ []) c.in-Some-pop.ensures.items) in
    joined_two c.args.c c.in-Some-pop.first c.in-Some.last (none_before c.pop-2.new.self.items c.in-Some-pop.first c.in-Some.last c.args.c.parts all few.1) c.two_shown.result c.two_shown.ensures
