use Rattle.std.proofs.Common.{refl, sym, ap}
use Rattle.std.specs.Prelude.{Option, true, ◌||◌, is_some}
use Rattle.draughts_board.specs.declared.pieces.Value.{Value}
use Rattle.proof_numbers.specs.Facts.{known}
use Rattle.journal_lessons.proofs.RootLemmas.{covers_from, root_there}
use Rattle.journal_lessons.proofs.lessons.covers.Goals as goal

pub facts-facts-requires : goal.facts-facts-requires
facts-facts-requires c = root_there c.args.tree.now.forest c.settled-value.ensures.valid.sound c.args.root c.root_node.result c.requires.first c.requires.there c.root_node.ensures

pub returns-in-Some-clause-covers : goal.returns-in-Some-clause-covers
returns-in-Some-clause-covers c =
    covers_from c.args.tree.now.forest c.settled-value.ensures.valid.sound c.args.root c.root_node.result c.requires.first c.requires.there c.root_node.ensures
    c.args.claim c.settled-value.result (known c.facts-facts.result) (known c.told.result) (is_some c.settled-value.result) c.includes-is_told.result true
    c.settled-value.ensures.value c.facts-facts.ensures refl c.told.ensures c.includes-is_told.ensures
    (sym (ap (λ (o : Option Value). is_some o || c.includes-is_told.result) c.in-Some.is))

pub returns-in-None-clause-covers : goal.returns-in-None-clause-covers
returns-in-None-clause-covers c =
    covers_from c.args.tree.now.forest c.settled-value.ensures.valid.sound c.args.root c.root_node.result c.requires.first c.requires.there c.root_node.ensures
    c.args.claim c.settled-value.result (known c.facts-facts.result) (known c.told.result) (is_some c.settled-value.result) c.includes-is_told.result c.includes-is_told.result
    c.settled-value.ensures.value c.facts-facts.ensures refl c.told.ensures c.includes-is_told.ensures
    (sym (ap (λ (o : Option Value). is_some o || c.includes-is_told.result) c.in-None.is))
