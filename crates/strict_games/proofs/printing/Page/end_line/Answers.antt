use Rattle.std.proofs.Common.{◌≡◌, ◌++◌, ◌∷◌, [], length, rules}
use Rattle.strict_games.proofs.Printed.{page_ended, page_ends}
use Rattle.strict_games.proofs.printing.Page.end_line.Goals as goal

pub returns-clause-says : goal.returns-clause-says
returns-clause-says c =
    let pushed : c.push.new.self.items ≡ c.args.self.now.text.items ++ 10 ∷ [] = search rules in
    let line : c.len-self.result ≡ length c.push.new.self.items = search rules in
    page_ends c.args.self.now (record { text = c.push.new.self; line = c.len-self.result; width = c.args.self.now.width }) pushed line

pub returns-clause-whole : goal.returns-clause-whole
returns-clause-whole c =
    let pushed : c.push.new.self.items ≡ c.args.self.now.text.items ++ 10 ∷ [] = search rules in
    page_ended c.args.self.now c.push.new.self.items pushed
