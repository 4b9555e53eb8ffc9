-- A disk that is only looked at is left as it was at every moment, and one that is asked for nothing; so is either journal by words
-- that ask for nothing.
use Rattle.std.proofs.Common.{List, ℕ, refl}
use Rattle.std.specs.Prelude.{Err}
use Rattle.bench_disk.specs.declared.disk.Disk.{Ghosts}
use Rattle.bench_disk.specs.Disk.{IsHonest}
use Rattle.bench_edges.specs.declared.words.WordsRefusal.{WordsRefusal}
use Rattle.disk_journal.specs.Reads.{OnlyLooksAt}
use Rattle.journal_shortening.proofs.OutcomeLemmas.{NowCounts, OnlyNow, no_call}
use Rattle.journal_shorten.specs.Runs.{DoesTask, StaysThroughout}
use Rattle.journal_shorten.specs.Words.{IsRefusedAt}
use Rattle.journal_shorten.specs.declared.refusals.ShortenRefusal.TheVariants.{Words}
use Rattle.journal_shorten.specs.declared.words.Task.TheVariants.{Shorten, Which}

module _ {D : Type 0} (g : Ghosts D) (honest : IsHonest g.TELLS) where
  pub stays_looked : NowCounts g → (old new : D) → OnlyLooksAt g old new → StaysThroughout g old new
  stays_looked now_counts old new looks = record {
    stays = record {
      same = looks.same;
      none_added = λ image now. looks.run.each image (now_counts new (g.moment old) image honest looks.run.later now);
      none_lost = looks.stays;
    };
    looks = looks;
  }

  pub stays_unasked : OnlyNow g → (disk : D) → StaysThroughout g disk disk
  stays_unasked only_now disk = record {
    stays = record { same = refl; none_added = λ image was. was; none_lost = λ image was. was };
    looks = no_call g honest only_now disk;
  }

pub does_nothing : {A B : Type 0} (a : Ghosts A) (b : Ghosts B) → OnlyNow a → (words : List (List ℕ)) (old : A) (new : B) (refusal : WordsRefusal) → IsRefusedAt words refusal.at
    → DoesTask a b words old old new new (Err (Words refusal))
does_nothing a b only_now words old new refusal refused = record {
  comes = record { refused_at = refused; old_unasked = refl; new_unasked = refl };
  keeps = λ honest. stays_unasked a honest only_now old;
  looks = λ says. absurd (refused.no_request Which says);
  leaves = λ says. absurd (refused.no_request Shorten says);
  unwritten = λ says. absurd (refused.no_request Shorten says);
  refuses = λ task says. absurd (refused.no_request task says);
}
