use Rattle.std.proofs.Common.{◌≤◌, ◌++◌, List, [], length, take}
use Rattle.pdn_text.specs.declared.game.Tag.{Tag}
use Rattle.strict_games.specs.Pages.{PageSays}
use Rattle.strict_games.proofs.printing.Page.push_tags.Given as goal

abbrev pub invariant-loop-tag : goal.invariant-loop-tag
invariant-loop-tag l = record {
  says : (before : List Tag) → PageSays l.initial.self before [] → PageSays l.self (before ++ take l.tag-index l.tags) [];
  inside : l.self.line ≤ length l.self.text.items;
}
