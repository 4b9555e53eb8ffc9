use Rattle.std.proofs.Common.{◌∙◌, ◌++◌, ◌∷◌, [], ◌≤◌, append_assoc, ap, arith, length, subst, sym, take}
use Rattle.std.proofs.lemmas.List.{take_all}
use Rattle.pdn_openings.proofs.Steps.{take-one_more}
use Rattle.strict_games.specs.Pages.{PageSays}
use Rattle.strict_games.specs.Tags.{IsTaken}
use Rattle.strict_games.proofs.printing.Page.push_tags.Goals as goal

pub push_one-requires-clause-taken : goal.push_one-requires-clause-taken
push_one-requires-clause-taken c = subst IsTaken (sym c.tag-item.is) (c.requires.taken c.loop-tag.tag-index c.tag-item.result c.loop-tag-test.true)

pub loop-tag-preserved : goal.loop-tag-preserved
loop-tag-preserved c =
    let tags = c.args.tags.now in
    let i = c.loop-tag.tag-index in
    let tag = c.tag-item.result in
    record {
      says = λ before s. subst (λ ts. PageSays c.push_one.new.self ts []) (append_assoc before (take i tags) (tag ∷ []) ∙ ap (λ t. before ++ t) (sym (take-one_more tags i tag c.loop-tag-test.true c.tag-item.is)))
          (c.in_ok-push_one.ensures.says (before ++ take i tags) (c.loop-tag.invariant.says before s));
      inside = c.in_ok-push_one.ensures.inside;
    }

pub returns-clause-says : goal.returns-clause-says
returns-clause-says c =
    let all : length c.args.tags.now ≤ c.loop-tag.tag-index = omega arith in
    λ before s. subst (λ t. PageSays c.loop-tag.self (before ++ t) []) (take_all c.loop-tag.tag-index c.args.tags.now all) (c.loop-tag.invariant.says before s)
