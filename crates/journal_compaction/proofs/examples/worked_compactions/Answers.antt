use Rattle.std.proofs.Common.{refl, inl, inr, [], ◌∷◌}
use Rattle.draughts_board.specs.Geometry.{squares}
use Rattle.draughts_board.specs.Play.{grown, captures, steps, legal_paths, successors_of}
use Rattle.journal_compaction.specs.Examples.{win_shown}
use Rattle.journal_compaction.proofs.ExampleLemmas.{copied_by, left_out_by, same_number_by}
use Rattle.journal_compaction.proofs.examples.worked_compactions.Goals as goal

pub returns : goal.returns
unfolding squares grown captures steps legal_paths successors_of
returns c = record {
  old_place = refl;
  new_place = refl;
  first = refl;
  second = refl;
  dropped = inl (0, (refl, (record { down = 1 ∷ []; is = refl }, refl)));
  renumbered = inr (1, (3, (refl, (record { down = 1 ∷ []; in_old = refl; in_new = refl }, refl))));
  copied = copied_by refl refl;
  left_out = left_out_by refl refl;
  same_number = same_number_by refl refl;
  solved = (win_shown ∷ [], (refl, refl));
  unsolved = λ h. cc h.1.1;
}
