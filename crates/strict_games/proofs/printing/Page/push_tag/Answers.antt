use Rattle.std.proofs.Common.{◌≡◌, ◌++◌, [], rules}
use Rattle.strict_games.proofs.Printed.{page_tag}
use Rattle.strict_games.specs.Spelling.{tag_text}
use Rattle.strict_games.proofs.printing.Page.push_tag.Goals as goal

pub returns-clause-says : goal.returns-clause-says
returns-clause-says c =
    let mid = c.part.new.self in
    let text : c.push_tag_text.new.text.items ≡ mid.text.items ++ tag_text c.args.name.now c.args.value.now = search rules in
    λ tags s. page_tag mid.text.items (record { text = c.push_tag_text.new.text; line = mid.line; width = mid.width }) c.args.name.now c.args.value.now text c.in_ok-part.ensures.inside c.requires.named
    c.requires.one_line tags (c.in_ok-part.ensures.says tags [] s)
