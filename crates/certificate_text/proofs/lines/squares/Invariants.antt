use Rattle.std.proofs.Common.{◌≡◌, ◌≤◌, ◌++◌, take, length, ℕ, List}
use Rattle.std.specs.Prelude.{All}
use Rattle.draughts_board.specs.Geometry.{IsSquare}
use Rattle.strategy_certificate.specs.Parts.{IsPath}
use Rattle.certificate_text.specs.Lines.{squares_text}
use Rattle.certificate_text.proofs.Squares.{ended, Left}
use Rattle.certificate_text.proofs.lines.squares.Given as goal

abbrev pub invariant-loop-word : goal.invariant-loop-word
invariant-loop-word l = record {
  full : length l.path ≡ 13;
  few : l.count ≤ 12;
  spelled : l.text ≡ ended l.separator (take l.count l.path) ++ l.rest;
  each : All IsSquare (take l.count l.path);
  only : (full : List ℕ) → IsPath full → l.text ≡ squares_text l.separator full → Left l.separator full (take l.count l.path) l.rest;
}

abbrev pub decreases-loop-word : goal.decreases-loop-word
decreases-loop-word l = length l.rest
