-- What a run does by its words, why it is refused, and what it leaves of two journals.
use Rattle.std.specs.Prelude.{◌≡◌, ◌↔◌, ◌⊎◌, ℕ, ◌<◌, List, length, Bool, true, false, Option, Result, Ok, Err}
use Rattle.std.specs.Bool.{OnFalse}
use Rattle.shared_words.specs.Answers.{Unless}
use Rattle.shared_words.specs.Counts.{Rose}
use Rattle.bench_disk.specs.declared.disk.Disk.{Ghosts}
use Rattle.bench_disk.specs.Disk.{IsHonest, NothingPending, Stays}
use Rattle.bench_edges.specs.declared.sink.Sink.{Ghosts as SinkGhosts}
use Rattle.bench_edges.specs.declared.status.Status.{Status}
use Rattle.bench_edges.specs.declared.status.Status.TheVariants as status
use Rattle.disk_journal.specs.Format.{IsFresh}
use Rattle.disk_journal.specs.Reads.{OnlyLooksAt}
use Rattle.journal_shortening.specs.Choices.{IsChosenBy}
use Rattle.journal_shortening.specs.Outcomes.{IsShorter, LeavesNoneOrShorter}
use Rattle.journal_shortening.specs.Refusals.{HasNoChoice, IsCause, says_nothing}
use Rattle.journal_shortening.specs.declared.choosing.Chosen.{Chosen as Choice}
use Rattle.journal_shortening.specs.declared.refusals.CompactRefusal.{CompactRefusal}
use Rattle.journal_shortening.specs.declared.refusals.CompactRefusal.TheVariants.{FromDisk, IntoDisk}
use Rattle.journal_shortening.specs.declared.sizes.Sizes.{Sizes}
use Rattle.program_edges.specs.Answers.{TakesLine, TakesOutput}
use Rattle.journal_shorten.specs.Refusals.{journal_text, shorten_status, shorten_text}
use Rattle.journal_shorten.specs.Texts.{answer_line}
use Rattle.journal_shorten.specs.Words.{IsRefusedAt, Says}
use Rattle.journal_shorten.specs.declared.ended.Answer.{Answer}
use Rattle.journal_shorten.specs.declared.ended.Answer.TheVariants.{Shorter, Chosen}
use Rattle.journal_shorten.specs.declared.refusals.ShortenRefusal.{ShortenRefusal}
use Rattle.journal_shorten.specs.declared.refusals.ShortenRefusal.TheVariants.{Words, Journal}
use Rattle.journal_shorten.specs.declared.words.Task.{Task}
use Rattle.journal_shorten.specs.declared.words.Task.TheVariants.{Shorten, Which}

-- What a run comes to: an answer, or why it is refused.
abbrev pub Outcome : Type 0
Outcome = Result Answer ShortenRefusal

-- What two files have against the task: why no shorter journal is written, or none is chosen.
abbrev pub IsFault : Task → List ℕ → List ℕ → CompactRefusal → Type 0
IsFault Shorten old new cause = IsCause old new cause
IsFault Which old new cause = HasNoChoice new cause

-- the refusal says nothing of the words or the files: a disk failed, or memory ran out
abbrev pub blames_nobody : ShortenRefusal → Bool
blames_nobody (Words words) = false
blames_nobody (Journal cause) = says_nothing cause

-- a status for which no cause in the words or the files has to stand
abbrev pub is_excused : Status → Bool
is_excused status.Disk = true
is_excused status.Memory = true
is_excused other = false

-- ---- of the disks at entry, and of those that are handed back

-- The disk is left as it was, at every moment of the run: it reads as before, a crash may leave of it what it might have left before,
-- and a crash since the run began might have left nothing else.
pub record StaysThroughout {D : Type 0} (g : Ghosts D) (old new : D) : Type 0 where
  pub stays : Stays g.reads g.images old new
  pub looks : OnlyLooksAt g old new

module _ {A B : Type 0} (a : Ghosts A) (b : Ghosts B) where
  -- The second journal stands for the first, whole and with nothing pending, and these are their numbers.
  pub record HasShortened (words : List (List ℕ)) (old : A) (written : B) (sizes : Sizes) : Type 0 where
    pub says : Says words Shorten
    pub shorter : IsHonest a.TELLS → IsHonest b.TELLS → IsShorter (a.reads old) (b.reads written) sizes
    pub durable : IsHonest b.TELLS → NothingPending (b.reads written) (b.images written)

  -- this journal counts
  pub record HasChosen (words : List (List ℕ)) (new : B) (choice : Choice) : Type 0 where
    pub says : Says words Which
    pub counts : IsHonest b.TELLS → IsChosenBy (b.reads new) choice

  -- The words ask for nothing, and no disk is asked for anything.
  pub record HasRefusedWords (words : List (List ℕ)) (old kept : A) (new written : B) (at : ℕ) : Type 0 where
    pub refused_at : IsRefusedAt words at
    pub old_unasked : kept ≡ old
    pub new_unasked : written ≡ new

  -- A disk failed whose faults rose, memory ran out, or a file is to blame.
  pub record HasRefusedJournal (words : List (List ℕ)) (old kept : A) (new written : B) (cause : CompactRefusal) : Type 0 where
    pub task : Task
    pub says : Says words task
    pub from_disk : cause ≡ FromDisk → Rose (a.faults old) (a.faults kept)
    pub into_disk : cause ≡ IntoDisk → Rose (b.faults new) (b.faults written)
    pub explained : IsHonest a.TELLS → IsHonest b.TELLS → OnFalse (says_nothing cause) (IsFault task (a.reads old) (b.reads new) cause)

  abbrev pub ComesTo : List (List ℕ) → A → A → B → B → Outcome → Type 0
  ComesTo words old kept new written (Ok (Shorter sizes)) = HasShortened words old written sizes
  ComesTo words old kept new written (Ok (Chosen choice)) = HasChosen words new choice
  ComesTo words old kept new written (Err (Words refusal)) = HasRefusedWords words old kept new written refusal.at
  ComesTo words old kept new written (Err (Journal cause)) = HasRefusedJournal words old kept new written cause

  -- What a run by the words comes to, and what it leaves: `old` and `new` are the disks of both journals at its entry, `kept` and
  -- `written` those behind it.
  pub record DoesTask (words : List (List ℕ)) (old kept : A) (new written : B) (outcome : Outcome) : Type 0 where
    pub comes : ComesTo words old kept new written outcome
    -- the first journal is left as it was at every moment, and the second one by `which`
    pub keeps : IsHonest a.TELLS → StaysThroughout a old kept
    pub looks : Says words Which → IsHonest b.TELLS → StaysThroughout b new written
    -- A crash since the run began leaves of a fresh disk no record, or one list, the same in each image, which stands for the
    -- first journal.
    pub leaves : Says words Shorten → IsHonest a.TELLS → IsHonest b.TELLS → NothingPending (b.reads new) (b.images new)
        → IsFresh (b.reads new) → LeavesNoneOrShorter (a.reads old) (b.images_since written (b.moment new))
    -- a disk with more bytes than a fresh one is left as it was at every moment
    pub unwritten : Says words Shorten → IsHonest b.TELLS → 9 < length (b.reads new) → StaysThroughout b new written
    -- What a file has against the task is the refusal, unless a disk failed or memory ran out.
    pub refuses : (task : Task) → Says words task → IsHonest a.TELLS → IsHonest b.TELLS → (cause : CompactRefusal)
        → IsFault task (a.reads old) (b.reads new) cause → Unless blames_nobody outcome (outcome ≡ Err (Journal cause))

-- ---- a run

-- What the sink takes of it: the line of the answer, whole with status 0 and a front of it with status 8; or the line of the refusal,
-- whose status the run has.
abbrev pub Takes : Outcome → Status → Option (List ℕ) → Option (List ℕ) → ℕ → ℕ → Type 0
Takes (Ok answer) ended before after faults_before faults_after = TakesOutput ended (answer_line answer) true before after
Takes (Err refusal) ended before after faults_before faults_after =
    (ended ≡ shorten_status refusal) × TakesLine (shorten_text refusal) before after faults_before faults_after

module _ {A B K : Type 0} (a : Ghosts A) (b : Ghosts B) (k : SinkGhosts K) where
  -- The run is refused for this, unless its status is excused: with status 5, and the sink took the line.
  abbrev pub IsRefusedFor : CompactRefusal → K → K → Status → Type 0
  IsRefusedFor cause before after ended =
      OnFalse (is_excused ended) ((ended ≡ status.Journal)
      × TakesLine (journal_text cause) (k.taken before) (k.taken after) (k.faults before) (k.faults after))

  -- some task is said, and a file has something against it
  pub record HasFault (words : List (List ℕ)) (old : A) (new : B) : Type 0 where
    pub task : Task
    pub says : Says words task
    pub cause : CompactRefusal
    pub fault : IsFault task (a.reads old) (b.reads new) cause

  -- A run by the words that comes to this, with this status. `before` and `after` are its sink before and behind it, the others its
  -- disks.
  pub record Runs (words : List (List ℕ)) (old kept : A) (new written : B) (before after : K) (ended : Status) (outcome : Outcome) : Type 0 where
    pub does : DoesTask a b words old kept new written outcome
    pub takes : Takes outcome ended (k.taken before) (k.taken after) (k.faults before) (k.faults after)
    -- with status 2 exactly where the words ask for nothing
    pub asked : (ended ≡ status.Words) ↔ ((task : Task) → ¬ Says words task)
    -- 4 only where a disk failed
    pub disk : ended ≡ status.Disk → Rose (a.faults old) (a.faults kept) ⊎ Rose (b.faults new) (b.faults written)
    -- 5 exactly where a file has something against the task, unless a disk failed or memory ran out
    pub journal : IsHonest a.TELLS → IsHonest b.TELLS → ended ≡ status.Journal → HasFault words old new
    pub refused : IsHonest a.TELLS → IsHonest b.TELLS → (task : Task) → Says words task → (cause : CompactRefusal)
        → IsFault task (a.reads old) (b.reads new) cause → IsRefusedFor cause before after ended
    -- 8 only where the sink failed
    pub write : ended ≡ status.Write → Rose (k.faults before) (k.faults after)

  -- A run by the words, with this status.
  abbrev pub RunsShorten : List (List ℕ) → A → A → B → B → K → K → Status → Type 0
  RunsShorten words old kept new written before after ended =
      (outcome : Outcome) × Runs words old kept new written before after ended outcome
