-- A run by what it comes to, and what its status says.
use Rattle.std.proofs.Common.{◌≡◌, ◌≢◌, inl, inr, ◌⊎◌, ℕ, Bool, true, false, List, Option, refl, sym, ◌∙◌, ap, subst}
use Rattle.std.specs.Prelude.{Ok, Err}
use Rattle.std.specs.Bool.{OnFalse}
use Rattle.shared_words.specs.Counts.{Rose}
use Rattle.bench_disk.specs.declared.disk.Disk.{Ghosts}
use Rattle.bench_edges.specs.declared.sink.Sink.{Ghosts as SinkGhosts}
use Rattle.bench_edges.specs.declared.status.Status.{Status}
use Rattle.bench_edges.specs.declared.status.Status.TheVariants as status
use Rattle.journal_shortening.specs.Refusals.{says_nothing}
use Rattle.journal_shortening.specs.declared.refusals.CompactRefusal.{CompactRefusal}
use Rattle.journal_shortening.specs.declared.refusals.CompactRefusal.TheVariants.{FromDisk, NotAJournal, Damaged, IntoDisk, NotFresh, Memory}
use Rattle.program_edges.specs.Answers.{TakesLine, TakesOutput}
use Rattle.journal_shorten.specs.Refusals.{journal_status, journal_text, shorten_status, shorten_text}
use Rattle.journal_shorten.specs.Runs.{DoesTask, IsFault, IsRefusedFor, Outcome, Runs, Takes, is_excused}
use Rattle.journal_shorten.specs.Texts.{answer_line}
use Rattle.journal_shorten.specs.Words.{IsRefusedAt, Says}
use Rattle.journal_shorten.specs.declared.ended.Answer.{Answer}
use Rattle.journal_shorten.specs.declared.ended.Answer.TheVariants.{Shorter, Chosen}
use Rattle.journal_shorten.specs.declared.refusals.ShortenRefusal.{ShortenRefusal}
use Rattle.journal_shorten.specs.declared.refusals.ShortenRefusal.TheVariants.{Words, Journal}
use Rattle.journal_shorten.specs.declared.words.Task.{Task}
use Rattle.journal_shorten.specs.declared.words.Task.TheVariants.{Shorten, Which}

-- ---- statuses

-- an output that leaves nothing unsettled ends with status 0 or 8
record EndsOutput (ended : Status) : Type 0 where
  words : ended ≢ status.Words
  disk : ended ≢ status.Disk
  journal : ended ≢ status.Journal
  excused : is_excused ended ≡ false

output_ends : (ended : Status) (text : List ℕ) (before after : Option (List ℕ)) → TakesOutput ended text true before after → EndsOutput ended
output_ends status.Done text before after is = record { words = λ e. cc; disk = λ e. cc; journal = λ e. cc; excused = refl }
output_ends status.Write text before after is = record { words = λ e. cc; disk = λ e. cc; journal = λ e. cc; excused = refl }
output_ends status.Unsolved text before after is = (let e = is.0 in cc)
output_ends ended text before after is = absurd is

-- a refusal of a journal
record EndsJournal (cause : CompactRefusal) : Type 0 where
  words : journal_status cause ≢ status.Words
  write : journal_status cause ≢ status.Write
  disk : journal_status cause ≡ status.Disk → (cause ≡ FromDisk) ⊎ (cause ≡ IntoDisk)
  silent : says_nothing cause ≡ is_excused (journal_status cause)
  loud : says_nothing cause ≡ false → journal_status cause ≡ status.Journal

journal_ends : (cause : CompactRefusal) → EndsJournal cause
journal_ends FromDisk = record { words = λ e. cc; write = λ e. cc; disk = λ e. inl refl; silent = refl; loud = λ e. cc }
journal_ends NotAJournal = record { words = λ e. cc; write = λ e. cc; disk = λ e. cc; silent = refl; loud = λ e. refl }
journal_ends (Damaged at) = record { words = λ e. cc; write = λ e. cc; disk = λ e. cc; silent = refl; loud = λ e. refl }
journal_ends IntoDisk = record { words = λ e. cc; write = λ e. cc; disk = λ e. inr refl; silent = refl; loud = λ e. cc }
journal_ends (NotFresh n) = record { words = λ e. cc; write = λ e. cc; disk = λ e. cc; silent = refl; loud = λ e. refl }
journal_ends (Memory error) = record { words = λ e. cc; write = λ e. cc; disk = λ e. cc; silent = refl; loud = λ e. cc }

-- of a status of that kind a cause stands
stands : (cause : CompactRefusal) (P : Type 0) → journal_status cause ≡ status.Journal → OnFalse (says_nothing cause) P → P
stands FromDisk P is on = (let e : status.Disk ≡ status.Journal = is in cc)
stands NotAJournal P is on = on
stands (Damaged at) P is on = on
stands IntoDisk P is on = (let e : status.Disk ≡ status.Journal = is in cc)
stands (NotFresh n) P is on = on
stands (Memory error) P is on = (let e : status.Memory ≡ status.Journal = is in cc)

excuse : (b : Bool) (P : Type 0) → b ≡ true → OnFalse b P
excuse true P is = tt
excuse false P is = cc

-- ---- a run

module _ {A B K : Type 0} (a : Ghosts A) (b : Ghosts B) (k : SinkGhosts K) (words : List (List ℕ)) where
  -- by an answer
  answered : (old kept : A) (new written : B) (before after : K) (ended : Status) (answer : Answer) (task : Task) → Says words task
      → DoesTask a b words old kept new written (Ok answer) → TakesOutput ended (answer_line answer) true (k.taken before) (k.taken after)
      → (ended ≡ status.Write → Rose (k.faults before) (k.faults after)) → Runs a b k words old kept new written before after ended (Ok answer)
  answered old kept new written before after ended answer task says does takes write =
      let ends = output_ends ended (answer_line answer) (k.taken before) (k.taken after) takes in
      record {
        does = does;
        takes = takes;
        asked = (λ is. absurd (ends.words is), λ none. absurd (none task says));
        disk = λ is. absurd (ends.disk is);
        journal = λ honest_old honest_new is. absurd (ends.journal is);
        refused = λ honest_old honest_new other said cause fault. absurd (no_refusal (does.refuses other said honest_old honest_new cause fault));
        write = write;
      }
    where
      no_refusal : {cause : CompactRefusal} → ◌≡◌ {A = Outcome} (Ok answer) (Err (Journal cause)) → ⊥
      no_refusal same = cc

  -- by words that ask for nothing
  unasked : (old kept : A) (new written : B) (before after : K) (ended : Status) (words_refusal : ShortenRefusal) (at : ℕ) → IsRefusedAt words at → shorten_status words_refusal ≡ status.Words
      → DoesTask a b words old kept new written (Err words_refusal) → (ended ≡ shorten_status words_refusal)
      → TakesLine (shorten_text words_refusal) (k.taken before) (k.taken after) (k.faults before) (k.faults after)
      → Runs a b k words old kept new written before after ended (Err words_refusal)
  unasked old kept new written before after ended refusal at refused is does ends line =
      let here : ended ≡ status.Words = ends ∙ is in
      record {
        does = does;
        takes = (ends, line);
        asked = (λ _. refused.no_request, λ _. here);
        disk = λ other. (let e = sym here ∙ other in cc);
        journal = λ honest_old honest_new other. (let e = sym here ∙ other in cc);
        refused = λ honest_old honest_new task said. absurd (refused.no_request task said);
        write = λ other. (let e = sym here ∙ other in cc);
      }

  -- by the refusal of a journal
  refused_by : (old kept : A) (new written : B) (before after : K) (ended : Status) (cause : CompactRefusal)
      → DoesTask a b words old kept new written (Err (Journal cause)) → (ended ≡ journal_status cause)
      → TakesLine (journal_text cause) (k.taken before) (k.taken after) (k.faults before) (k.faults after)
      → Runs a b k words old kept new written before after ended (Err (Journal cause))
  refused_by old kept new written before after ended cause does ends line =
      let why = does.comes in
      let of = journal_ends cause in
      record {
        does = does;
        takes = (ends, line);
        asked = (λ is. absurd (of.words (sym ends ∙ is)), λ none. absurd (none why.task why.says));
        disk = λ is. failed (of.disk (sym ends ∙ is)) why.from_disk why.into_disk;
        journal = λ honest_old honest_new is. record {
          task = why.task;
          says = why.says;
          cause = cause;
          fault = stands cause (IsFault why.task (a.reads old) (b.reads new) cause) (sym ends ∙ is) (why.explained honest_old honest_new);
        };
        refused = λ honest_old honest_new task said other fault. named cause other ends line (does.refuses task said honest_old honest_new other fault);
        write = λ is. absurd (of.write (sym ends ∙ is));
      }
    where
      failed : (cause ≡ FromDisk) ⊎ (cause ≡ IntoDisk) → (cause ≡ FromDisk → Rose (a.faults old) (a.faults kept)) → (cause ≡ IntoDisk → Rose (b.faults new) (b.faults written))
          → Rose (a.faults old) (a.faults kept) ⊎ Rose (b.faults new) (b.faults written)
      failed (inl is) from_disk into_disk = inl (from_disk is)
      failed (inr is) from_disk into_disk = inr (into_disk is)

      exactly : (is other : CompactRefusal) → ended ≡ journal_status is
          → TakesLine (journal_text is) (k.taken before) (k.taken after) (k.faults before) (k.faults after) → is_excused ended ≡ false → journal_status is ≡ status.Journal
          → ◌≡◌ {A = Outcome} (Err (Journal is)) (Err (Journal other)) → IsRefusedFor a b k other before after ended
      exactly is other at said loud five same =
          let e : is ≡ other = cc in
          subst (λ (x : Bool). OnFalse x ((ended ≡ status.Journal) × TakesLine (journal_text other) (k.taken before) (k.taken after) (k.faults before) (k.faults after))) (sym loud)
          (at ∙ five, subst (λ (x : CompactRefusal). TakesLine (journal_text x) (k.taken before) (k.taken after) (k.faults before) (k.faults after)) e said)

      -- the cause that stands is the refusal, or the status is excused
      named : (is other : CompactRefusal) → ended ≡ journal_status is
          → TakesLine (journal_text is) (k.taken before) (k.taken after) (k.faults before) (k.faults after)
          → OnFalse (says_nothing is) (◌≡◌ {A = Outcome} (Err (Journal is)) (Err (Journal other))) → IsRefusedFor a b k other before after ended
      named FromDisk other at said same = excuse (is_excused ended) _ (ap is_excused at)
      named IntoDisk other at said same = excuse (is_excused ended) _ (ap is_excused at)
      named (Memory error) other at said same = excuse (is_excused ended) _ (ap is_excused at)
      named NotAJournal other at said same = exactly NotAJournal other at said (ap is_excused at) refl same
      named (Damaged place) other at said same = exactly (Damaged place) other at said (ap is_excused at) refl same
      named (NotFresh n) other at said same = exactly (NotFresh n) other at said (ap is_excused at) refl same

  -- whatever it comes to
  pub runs : (old kept : A) (new written : B) (before after : K) (ended : Status) (outcome : Outcome) → DoesTask a b words old kept new written outcome
      → Takes outcome ended (k.taken before) (k.taken after) (k.faults before) (k.faults after) → (ended ≡ status.Write → Rose (k.faults before) (k.faults after))
      → Runs a b k words old kept new written before after ended outcome
  runs old kept new written before after ended (Ok (Shorter sizes)) does takes write =
      answered old kept new written before after ended (Shorter sizes) Shorten does.comes.says does takes write
  runs old kept new written before after ended (Ok (Chosen choice)) does takes write =
      answered old kept new written before after ended (Chosen choice) Which does.comes.says does takes write
  runs old kept new written before after ended (Err (Words refusal)) does takes write =
      unasked old kept new written before after ended (Words refusal) refusal.at does.comes.refused_at refl does takes.0 takes.1
  runs old kept new written before after ended (Err (Journal cause)) does takes write =
      refused_by old kept new written before after ended cause does takes.0 takes.1
