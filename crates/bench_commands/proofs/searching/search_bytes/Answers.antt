use Rattle.bench_commands.proofs.RunLemmas.{generated_answer}
use Rattle.bench_commands.proofs.searching.search_bytes.Goals as goal

pub returns-in-Generate : goal.returns-in-Generate
returns-in-Generate g c = record {
  answers = generated_answer c.in-Generate.is c.generate.ensures.leaves c.generate.ensures.answers c.generate.ensures.says c.generate.ensures.refused c.generate.ensures.unused;
}
