use Rattle.std.proofs.Common.{◌≡◌, ◌++◌, ◌∷◌, [], not, true, rules, subst, sym}
use Rattle.std.specs.List.{list_all}
use Rattle.pdn_text.specs.Bytes.{is_line_end}
use Rattle.strict_games.proofs.Printed.{same_tag, taken_name}
use Rattle.strict_games.specs.Pages.{PageSays}
use Rattle.strict_games.specs.Tags.{is_name}
use Rattle.strict_games.proofs.printing.Page.push_one.Goals as goal

pub lay_tag-requires-clause-named : goal.lay_tag-requires-clause-named
lay_tag-requires-clause-named c =
    let name : c.as_slice.result.now ≡ c.args.tag.now.name = search rules in
    subst (λ n. is_name n ≡ true) (sym name) (taken_name c.args.tag.now c.requires.taken)

pub lay_tag-requires-clause-one_line : goal.lay_tag-requires-clause-one_line
lay_tag-requires-clause-one_line c =
    let value : c.as_slice-2.result.now ≡ c.args.tag.now.value = search rules in
    subst (λ v. list_all (λ b. not (is_line_end b)) v ≡ true) (sym value) c.requires.taken.one_line

pub returns-clause-says : goal.returns-clause-says
returns-clause-says c =
    let name : c.as_slice.result.now ≡ c.args.tag.now.name = search rules in
    let value : c.as_slice-2.result.now ≡ c.args.tag.now.value = search rules in
    λ tags s. subst (λ tag. PageSays c.lay_tag.new.self (tags ++ tag ∷ []) []) (same_tag c.args.tag.now c.as_slice.result.now c.as_slice-2.result.now name value) (c.in_ok-lay_tag.ensures.says tags s)
