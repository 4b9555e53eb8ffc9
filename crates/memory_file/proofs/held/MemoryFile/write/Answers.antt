use Rattle.std.proofs.Common.{rules, ◌≡◌}
use Rattle.memory_file.proofs.held.MemoryFile.write.Goals as goal

pub returns-clause-ok : goal.returns-clause-ok
returns-clause-ok c =
    let same : c.in_ok-bytes.bytes.items ≡ c.args.from.now = search rules in
    (c.in_ok-bytes.bytes, same, c.in_ok-push.ensures.items)
