use Rattle.std.specs.Prelude.{◌++◌, ◌∷◌, [], ◌+◌, length}
use Rattle.std.proofs.Common.{◌≡◌, ◌≤◌, ◌∙◌, sym, arith}
use Rattle.disk_journal.proofs.StagedLemmas.{long_enough, popped}
use Rattle.disk_journal.proofs.frame.Frame.pop.Goals as goal

pub cut-requires : goal.cut-requires
cut-requires c =
    let lengths = c.self.inside.lengths.items in
    let text = c.self.inside.text.items in
    let long : 13 + c.in-Some.size ≤ length text = long_enough lengths text c.pop.new.self.items c.in-Some.size c.self.invariant c.in-Some.ensures.items in
    omega (arith, long)

pub invariant_of-self : goal.invariant_of-self
invariant_of-self c =
    (popped c.self.inside.lengths.items c.self.inside.text.items c.pop.new.self.items c.cut.new.text.items c.in-Some.size c.self.invariant c.in-Some.ensures.items c.cut.ensures).0

pub returns-in-Some : goal.returns-in-Some
returns-in-Some c =
    let rest = (popped c.self.inside.lengths.items c.self.inside.text.items c.pop.new.self.items c.cut.new.text.items c.in-Some.size c.self.invariant c.in-Some.ensures.items c.cut.ensures).1 in
    (rest.0, sym c.self.view_is ∙ rest.1)
