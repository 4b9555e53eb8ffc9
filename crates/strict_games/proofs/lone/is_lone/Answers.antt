use Rattle.std.proofs.Common.{◌≡◌, true, rules}
use Rattle.strict_games.proofs.LonePaths.{lone_if, so}
use Rattle.strict_games.specs.Playing.{IsDirect}
use Rattle.strict_games.proofs.lone.is_lone.Goals as goal

pub returns-then-is_direct-clause-alone : goal.returns-then-is_direct-clause-alone
returns-then-is_direct-clause-alone c =
    let p = c.args.p.now in
    let yes : c.is_direct.result ≡ true = search rules in
    lone_if c.is_legal.result p c.args.from c.args.to c.direct.result c.direct.ensures c.is_direct.ensures.lawful (so c.is_direct.result (IsDirect p c.args.from c.args.to) yes c.is_direct.ensures.direct) c.is_legal.ensures
