use Rattle.std.proofs.Common.{◌≡◌, ◌-◌, [], arith}
use Rattle.std.specs.Prelude.{Contains, Some, slice_get, true}
use Rattle.draughts_board.specs.declared.pieces.Side.{Side}
use Rattle.draughts_board.specs.declared.pieces.Side.TheVariants.{Black, White}
use Rattle.draughts_board.specs.declared.pieces.Value.{Value}
use Rattle.draughts_board.specs.declared.pieces.Value.TheVariants.{BlackWins, WhiteWins, Draw}
use Rattle.proof_tree.specs.Forest.{nodes, value_of}
use Rattle.certificate_joiner.specs.declared.steps.Aim.{Aim}
use Rattle.certificate_joiner.specs.declared.steps.Aim.TheVariants.{Win, Hold}
use Rattle.certificate_joiner.specs.Strategy.{IsDueNode, IsNamed, is_due, named}
use Rattle.certificate_joiner.proofs.Joined.{Says, value_says}
use Rattle.certificate_joiner.proofs.Named.{root_is}
use Rattle.certificate_joiner.proofs.Rooted.{value_at, is_settled, joined_root, due_root}
use Rattle.certificate_joiner.proofs.certificates.join.Goals as goal
use Rattle.certificate_joiner.proofs.certificates.join.Goals.{After-settled}

-- the root's node, and what its value says of it
module _ (c : After-settled) where
  is_root : IsNamed c.args.tree.now.forest c.root_node-n.result
      × ((slice_get (nodes c.args.tree.now.forest) (c.args.root - 1) ≡ Some (named c.args.tree.now.forest c.root_node-n.result))
      × Contains (nodes c.args.tree.now.forest) (named c.args.tree.now.forest c.root_node-n.result))
  is_root =
      let first = c.requires.first in
      let there = c.requires.there in
      root_is c.args.tree.now.forest c.settled.ensures.valid.sound (c.args.root - 1) c.root_node-n.result (omega (arith, first, there)) c.root_node-n.ensures

  value_is : (v : Value) → c.settled.result ≡ Some v → value_of (named c.args.tree.now.forest c.root_node-n.result) ≡ Some v
  value_is v is = value_at c.args.tree.now.forest (c.args.root - 1) (named c.args.tree.now.forest c.root_node-n.result) is_root.1.0 c.settled.result v c.settled.ensures.value is

  says : (v : Value) → c.settled.result ≡ Some v → Says (named c.args.tree.now.forest c.root_node-n.result) v
  says v is = value_says (named c.args.tree.now.forest c.root_node-n.result) v (value_is v is)

  due : (aim : Aim) (s : Side) → is_due aim s (named c.args.tree.now.forest c.root_node-n.result) ≡ true
      → IsDueNode c.args.pieces c.args.shelf.now.puts aim s [] (named c.args.tree.now.forest c.root_node-n.result)
  due aim s is =
      due_root c.args.pieces c.args.shelf.now.puts c.args.tree.now.forest c.settled.ensures.valid.sound.each c.requires.certified
      (named c.args.tree.now.forest c.root_node-n.result) is_root.1.1 aim s is

pub win_certificate-requires-clause-there : goal.win_certificate-requires-clause-there
win_certificate-requires-clause-there c = (is_root (goal.at.win_certificate-requires-clause-there c).After-settled).0

pub win_certificate-requires-clause-due : goal.win_certificate-requires-clause-due
win_certificate-requires-clause-due c =
    let root = (goal.at.win_certificate-requires-clause-due c).After-settled in
    due root Win Black (says root BlackWins (let a = c.in-Some-BlackWins.is in let b = c.in-Some-BlackWins.field-0-is in cc))

pub win_certificate-requires-in-Some-WhiteWins-clause-there :
    goal.win_certificate-requires-in-Some-WhiteWins-clause-there
win_certificate-requires-in-Some-WhiteWins-clause-there c =
    (is_root (goal.at.win_certificate-requires-in-Some-WhiteWins-clause-there c).After-settled).0

pub win_certificate-requires-in-Some-WhiteWins-clause-due :
    goal.win_certificate-requires-in-Some-WhiteWins-clause-due
win_certificate-requires-in-Some-WhiteWins-clause-due c =
    let root = (goal.at.win_certificate-requires-in-Some-WhiteWins-clause-due c).After-settled in
    due root Win White (says root WhiteWins (let a = c.in-Some-WhiteWins.is in let b = c.in-Some-WhiteWins.field-0-is in cc))

pub draw_certificate-requires-clause-there : goal.draw_certificate-requires-clause-there
draw_certificate-requires-clause-there c = (is_root (goal.at.draw_certificate-requires-clause-there c).After-settled).0

pub draw_certificate-requires-clause-black : goal.draw_certificate-requires-clause-black
draw_certificate-requires-clause-black c =
    let root = (goal.at.draw_certificate-requires-clause-black c).After-settled in
    due root Hold Black (says root Draw (let a = c.in-Some-Draw.is in let b = c.in-Some-Draw.field-0-is in cc)).1

pub draw_certificate-requires-clause-white : goal.draw_certificate-requires-clause-white
draw_certificate-requires-clause-white c =
    let root = (goal.at.draw_certificate-requires-clause-white c).After-settled in
    due root Hold White (says root Draw (let a = c.in-Some-Draw.is in let b = c.in-Some-Draw.field-0-is in cc)).0

pub unreachable-requires : goal.unreachable-requires
unreachable-requires c =
    is_settled c.args.tree.now.forest (c.args.root - 1) (named c.args.tree.now.forest c.root_node-n.result) (is_root (goal.at.unreachable-requires c).After-settled).1.0
    c.settled.result c.settled.ensures.value c.requires.settled c.in-None.is

pub returns-in-Some-BlackWins : goal.returns-in-Some-BlackWins
returns-in-Some-BlackWins c =
    let root = (goal.at.returns-in-Some-BlackWins c).After-settled in
    joined_root c.args.tree.now.forest (c.args.root - 1) (named c.args.tree.now.forest c.root_node-n.result) (is_root root).1.0 c.win_certificate.result c.args.pieces BlackWins
    (value_is root BlackWins (let a = c.in-Some-BlackWins.is in let b = c.in-Some-BlackWins.field-0-is in cc)) c.win_certificate.ensures

pub returns-in-Some-WhiteWins : goal.returns-in-Some-WhiteWins
returns-in-Some-WhiteWins c =
    let root = (goal.at.returns-in-Some-WhiteWins c).After-settled in
    joined_root c.args.tree.now.forest (c.args.root - 1) (named c.args.tree.now.forest c.root_node-n.result) (is_root root).1.0 c.win_certificate-in-Some-WhiteWins.result c.args.pieces WhiteWins
    (value_is root WhiteWins (let a = c.in-Some-WhiteWins.is in let b = c.in-Some-WhiteWins.field-0-is in cc)) c.win_certificate-in-Some-WhiteWins.ensures

pub returns-in-Some-Draw : goal.returns-in-Some-Draw
returns-in-Some-Draw c =
    let root = (goal.at.returns-in-Some-Draw c).After-settled in
    joined_root c.args.tree.now.forest (c.args.root - 1) (named c.args.tree.now.forest c.root_node-n.result) (is_root root).1.0 c.draw_certificate.result c.args.pieces Draw
    (value_is root Draw (let a = c.in-Some-Draw.is in let b = c.in-Some-Draw.field-0-is in cc)) c.draw_certificate.ensures
