use Rattle.std.proofs.Common.{◌≤◌, List, [], length, take}
use Rattle.pdn_text.specs.declared.game.Tag.{Tag}
use Rattle.strict_games.specs.Pages.{PageSays}
use Rattle.strict_games.proofs.printing.Page.push_moves.Given as goal

abbrev pub invariant-loop-ply : goal.invariant-loop-ply
invariant-loop-ply l = record {
  says : (tags : List Tag) → PageSays l.initial.self tags [] → PageSays l.self tags (take l.ply l.moves);
  inside : l.self.line ≤ length l.self.text.items;
}
