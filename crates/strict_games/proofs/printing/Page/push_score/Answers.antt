use Rattle.std.proofs.Common.{◌≡◌, ◌++◌, ◌∷◌, [], rules}
use Rattle.strict_games.proofs.Printed.{page_score}
use Rattle.strict_games.specs.Spelling.{score_text}
use Rattle.strict_games.proofs.printing.Page.push_score.Goals as goal

pub returns : goal.returns
returns c =
    let mid = c.part.new.self in
    let text : c.push.new.self.items ≡ (mid.text.items ++ score_text c.args.score) ++ 10 ∷ [] = search rules in
    λ tags moves s. page_score mid.text.items c.push.new.self.items c.args.score text tags moves (c.in_ok-part.ensures.says tags moves s)
