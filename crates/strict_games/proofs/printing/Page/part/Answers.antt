use Rattle.std.proofs.Common.{◌≡◌, length, arith}
use Rattle.std.proofs.lemmas.Grind.{common_steps}
use Rattle.strict_games.proofs.Printed.{page_begun}
use Rattle.strict_games.proofs.printing.Page.part.Goals as goal

pub returns-then-is_begun-clause-says : goal.returns-then-is_begun-clause-says
returns-then-is_begun-clause-says c =
    let line : c.args.self.now.line ≡ length c.args.self.now.text.items = grind (arith, common_steps) in
    page_begun c.args.self.now line
