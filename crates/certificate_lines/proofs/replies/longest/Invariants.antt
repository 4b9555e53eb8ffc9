use Rattle.std.proofs.Common.{◌≡◌, take}
use Rattle.std.specs.Prelude.{IfNone, IfSome}
use Rattle.certificate_lines.specs.Steps.{IsLongest}
use Rattle.certificate_lines.proofs.replies.longest.Given as goal

abbrev pub invariant-loop-path : goal.invariant-loop-path
invariant-loop-path g l = IfSome l.best (λ b. IsLongest (g.O.Oracle.answer_at l.oracle) l.part l.p l.rank (take l.path-index l.moves) b.path b.rank) × IfNone l.best (l.path-index ≡ 0)
