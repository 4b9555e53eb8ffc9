use Rattle.std.proofs.Common.{arith}
use Rattle.shared_words.proofs.LackingBytes.{Lacks-take, Lacks-each, split_at_place}
use Rattle.shared_words.proofs.splitting.split_once.Goals as goal

pub returns-then-b-byte-clause-before : goal.returns-then-b-byte-clause-before
returns-then-b-byte-clause-before c = Lacks-take c.args.byte c.args.text.now c.loop-place.place (omega arith) c.loop-place.invariant

pub returns-then-b-byte-clause-whole : goal.returns-then-b-byte-clause-whole
returns-then-b-byte-clause-whole c = split_at_place c.args.text.now c.loop-place.place c.args.byte (omega arith) c.if-b-byte.true

pub returns-clause-none : goal.returns-clause-none
returns-clause-none c = Lacks-each c.args.byte c.args.text.now (λ k lt. c.loop-place.invariant k (omega arith))
