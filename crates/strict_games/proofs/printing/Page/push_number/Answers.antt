use Rattle.std.proofs.Common.{◌≡◌, ◌++◌, ◌^◌, ◌<◌, arith, rules}
use Rattle.strict_games.proofs.Printed.{page_number}
use Rattle.strict_games.specs.Spelling.{number_text}
use Rattle.strict_games.proofs.printing.Page.push_number.Goals as goal

pub returns-clause-says : goal.returns-clause-says
returns-clause-says c =
    let mid = c.part.new.self in
    let n = c.args.number in
    let small : n.number < 2 ^ 64 = omega arith in
    let text : c.push_number_text.new.text.items ≡ mid.text.items ++ number_text n.number n.is_white = search rules in
    λ tags moves s. page_number mid.text.items (record { text = c.push_number_text.new.text; line = mid.line; width = mid.width }) n.number n.is_white small text c.in_ok-part.ensures.inside
    tags moves (c.in_ok-part.ensures.says tags moves s)
