use Rattle.std.proofs.Common.{◌≡◌, ◌++◌, rules}
use Rattle.strict_games.proofs.Printed.{page_move}
use Rattle.strict_games.specs.Spelling.{move_text}
use Rattle.strict_games.proofs.printing.Page.push_move.Goals as goal

pub returns-clause-says : goal.returns-clause-says
returns-clause-says c =
    let mid = c.part.new.self in
    let text : c.push_move_text.new.text.items ≡ mid.text.items ++ move_text c.args.squares.now = search rules in
    λ tags moves s. page_move mid.text.items (record { text = c.push_move_text.new.text; line = mid.line; width = mid.width }) c.args.squares.now text c.in_ok-part.ensures.inside
    c.in_ok-push_move_text.ensures.squares c.in_ok-push_move_text.ensures.least c.in_ok-push_move_text.ensures.most tags moves (c.in_ok-part.ensures.says tags moves s)
