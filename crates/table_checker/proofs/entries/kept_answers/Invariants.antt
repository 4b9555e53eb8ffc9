use Rattle.std.proofs.Common.{◌≡◌, map, take}
use Rattle.table_checker.specs.Kept.{kept_answer}
use Rattle.table_checker.proofs.entries.kept_answers.Given as goal

abbrev pub invariant-loop-p : goal.invariant-loop-p
invariant-loop-p l = l.answers.items ≡ map (kept_answer l.numbers) (take l.p-index l.positions)
