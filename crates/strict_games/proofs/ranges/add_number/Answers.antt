use Rattle.std.proofs.Common.{◌≡◌, ◌∙◌, ◌+◌, [], ◌∷◌, ◌++◌, rules, sym, ap}
use Rattle.std.specs.List.{flat_map}
use Rattle.std.proofs.lemmas.Bool.{eqb-true}
use Rattle.strict_games.specs.Groups.{numbers_in}
use Rattle.strict_games.proofs.Counted.{all-more}
use Rattle.strict_games.proofs.ranges.add_number.Goals as goal

pub returns-in_ok-push-in-Some : goal.returns-in_ok-push-in-Some
returns-in_ok-push-in-Some c =
    let last = c.in-Some.last in
    let kept = c.pop.new.self.items in
    let old : c.args.ranges.now.items ≡ kept ++ last ∷ [] = search rules in
    let pushed : c.push-in-Some.new.self.items ≡ kept ++ record { first = last.first; more = last.more + 1 } ∷ [] = search rules in
    let next : last.first + last.more + 1 ≡ c.args.number = eqb-true (last.first + last.more + 1) c.args.number (sym c.goes_on.ensures ∙ c.if-goes_on.true) in
    ap (flat_map numbers_in) pushed ∙ all-more kept last.first last.more c.args.number next ∙ ap (λ rs. flat_map numbers_in rs ++ c.args.number ∷ []) (sym old)
