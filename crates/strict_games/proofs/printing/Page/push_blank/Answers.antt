use Rattle.std.proofs.Common.{◌≡◌, ◌++◌, ◌∷◌, [], rules}
use Rattle.strict_games.proofs.Printed.{page_parts}
use Rattle.strict_games.proofs.printing.Page.push_blank.Goals as goal

pub returns-clause-whole : goal.returns-clause-whole
returns-clause-whole c =
    let pushed : c.push.new.self.items ≡ c.args.self.now.text.items ++ 32 ∷ [] = search rules in
    page_parts c.args.self.now c.push.new.self.items pushed
