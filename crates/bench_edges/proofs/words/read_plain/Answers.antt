use Rattle.std.proofs.Common.{arith}
use Rattle.std.proofs.lemmas.Grind.{common_steps}
use Rattle.bench_edges.specs.Words.{texts}
use Rattle.bench_edges.proofs.ShortWords.{refused_behind_name}
use Rattle.bench_edges.proofs.words.read_plain.Goals as goal

pub returns-then-words-gt2-clause-refused : goal.returns-then-words-gt2-clause-refused
returns-then-words-gt2-clause-refused c =
    refused_behind_name (texts c.args.words.now) c.args.command c.requires.plain (grind (arith, common_steps)) c.requires.front
