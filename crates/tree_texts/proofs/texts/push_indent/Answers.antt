use Rattle.std.proofs.Common.{◌++◌}
use Rattle.tree_texts.specs.TreeTexts.{indent}
use Rattle.tree_texts.proofs.IndentLemmas.{indent-step}
use Rattle.tree_texts.proofs.texts.push_indent.Goals as goal

pub loop-preserved : goal.loop-preserved
loop-preserved c =
    indent-step c.loop.text.items c.extend_from_slice.new.self.items (c.args.text.now.items ++ indent c.args.depth) c.args.depth c.loop.counter c.loop-test.true
    c.in_ok-extend_from_slice.ensures.items c.loop.invariant
