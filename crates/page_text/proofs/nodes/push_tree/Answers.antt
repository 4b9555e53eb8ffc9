use Rattle.std.proofs.Common.{◌≡◌, ◌++◌, List, ℕ, map, subst}
use Rattle.std.specs.Prelude.{OnOk}
use Rattle.page_text.specs.Nodes.{words_of}
use Rattle.page_text.proofs.NodeLemmas.{tree-text}
use Rattle.page_text.proofs.nodes.push_tree.Goals as goal

pub returns : goal.returns
returns c twigs at is =
    subst (λ (t : List ℕ). OnOk c.push_nodes.result (c.push_nodes.new.text.items ≡ c.args.text.now.items ++ t)) (tree-text twigs (map words_of c.args.nodes.now) at is) c.push_nodes.ensures
