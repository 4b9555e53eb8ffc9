-- What is left of a disk whose journal learns a certificate.
use Rattle.std.proofs.Common.{◌≡◌, ◌≤◌, ◌<◌, ◌⊎◌, ℕ, zero, suc, List, [], ◌∷◌, ◌++◌, inl, inr, refl, sym, subst, ⊎_elim, map, length, arith}
use Rattle.std.specs.Prelude.{All, Bool, true, Result, Ok, Err, IfOk, IfErr, OnOk}
use Rattle.std.specs.Bool.{OnFalse}
use Rattle.std.specs.List.{AllByRecursion as Each}
use Rattle.std.proofs.lemmas.List.Elements.{All-from_recursion}
use Rattle.shared_words.proofs.Exactness.{on_false}
use Rattle.bench_disk.specs.declared.disk.Disk.{Ghosts}
use Rattle.bench_disk.specs.Disk.{NothingPending}
use Rattle.bench_disk.specs.Runs.{Leaves, leaves_none, leaves_then, leaves_weaker}
use Rattle.shared_words.specs.Counts.{Rose}
use Rattle.disk_journal.specs.Format.{HasPayloads, HasPlaces, IsFresh, StandsForEither}
use Rattle.disk_journal.specs.Refusals.{Explains, says_nothing_of_file}
use Rattle.disk_journal.specs.declared.refusal.JournalRefusal.{JournalRefusal}
use Rattle.disk_journal.specs.Log.{Log, StaysOrFresh}
use Rattle.disk_journal.specs.declared.payload.Payload.{Payload}
use Rattle.disk_journal.proofs.AttachLemmas.{left_has}
use Rattle.strategy_certificate.specs.declared.certificates.Certificate.{Certificate}
use Rattle.proof_tree.specs.Forest.{no_node}
use Rattle.bench_records.specs.declared.records.BenchRecord.{BenchRecord}
use Rattle.bench_core.specs.Growing.{IsForestOf}
use Rattle.tree_manager.specs.Receipts.{ReadsRecords, SpellsRecords}
use Rattle.tree_manager.specs.Replaying.{payload_texts}
use Rattle.tree_manager.proofs.CallLemmas.{text_some}
use Rattle.tree_manager.proofs.CoreLemmas.{grows_append}
use Rattle.tree_manager.proofs.ExactLemmas.{files_read_as_one_list}
use Rattle.tree_manager.proofs.ReceiptLemmas.{spell_append}
use Rattle.tree_manager.proofs.ReplayLemmas.{replay_explained}
use Rattle.journal_lessons.specs.declared.refusals.LearnRefusal.{LearnRefusal}
use Rattle.journal_lessons.specs.declared.refusals.LearnRefusal.TheVariants as refusal
use Rattle.journal_lessons.specs.Learnt.{ExplainsNoLesson, HasNoLesson, IsLearnt, KeepsWhole, MayBeLeft, ReadsWhole, says_nothing}
use Rattle.journal_lessons.specs.Teaching.{IsTaught, IsTaughtBehind, RefusesBehind, SpellsForest}

fresh_or_long : (n k : ℕ) → (n ≤ k) ⊎ (k < n)
fresh_or_long zero k = inl (omega arith)
fresh_or_long (suc n) zero = inr (omega arith)
fresh_or_long (suc n) (suc k) = ⊎_elim (λ le. inl (omega (arith, le))) (λ lt. inr (omega (arith, lt))) (fresh_or_long n k)

rose_from : (f a n : ℕ) → f ≤ a → Rose a n → Rose f n
rose_from f a n le rose = omega (arith, le, rose)

-- ---- what the payloads say

-- of a file with the payloads that spell a forest, and with these and those that are taught
module _ (c : Certificate) (payloads : List Payload) (spells : SpellsForest c.pieces payloads) where
  abbrev pub texts_before : List (List ℕ)
  texts_before = payload_texts payloads

  pub reads_before : (file : List ℕ) → HasPayloads c.pieces file texts_before → ReadsRecords c.pieces file spells.before
  reads_before file has = record { payloads = texts_before; stands = has; spelled = spells.spelled; lawful = (spells.roots, spells.forest) }

  module _ (root : ℕ) (texts : List (List ℕ)) (taught : IsTaught c spells.before spells.roots root texts) where
    grown : IsForestOf c.pieces (spells.before ++ taught.added) taught.now
    grown = grows_append c.pieces no_node spells.roots taught.now spells.before taught.added spells.forest taught.grown

    pub reads_behind : (file : List ℕ) → HasPayloads c.pieces file (texts_before ++ texts) → ReadsRecords c.pieces file (spells.before ++ taught.added)
    reads_behind file has = record {
      payloads = texts_before ++ texts;
      stands = has;
      spelled = spell_append c.pieces [] spells.before taught.added texts_before texts spells.spelled taught.spelled;
      lawful = (taught.now, grown);
    }

    pub learnt_from : (file file' : List ℕ) → HasPayloads c.pieces file texts_before → HasPayloads c.pieces file' (texts_before ++ texts) → IsLearnt file file' c root
    learnt_from file file' had has = record {
      before = spells.before;
      added = taught.added;
      read_then = reads_before file had;
      then = spells.roots;
      forest = spells.forest;
      lesson = taught.lesson;
      reads_now = reads_behind file' has;
      now = taught.now;
      grown = grown;
      covered = taught.covered;
    }

    whole_from : (image : List ℕ) → StandsForEither c.pieces texts_before (texts_before ++ texts) image → ReadsWhole c spells.before image
    whole_from image (inl had) = record { roots = spells.roots; forest = spells.forest; reads = inl (reads_before image had) }
    whole_from image (inr has) = record { roots = spells.roots; forest = spells.forest; reads = inr (taught.added, (taught.lesson, reads_behind image has)) }

-- ---- what is left of the disk

module _ {D : Type 0} (g : Ghosts D) where
  -- images of now are images since every moment up to now, and images since a moment since each earlier one
  abbrev pub NowCounts : Type 0
  NowCounts = (disk : D) (t : ℕ) (image : List ℕ) → t ≤ g.moment disk → g.images disk image → g.images_since disk t image

  abbrev pub EarlierCounts : Type 0
  EarlierCounts = (disk : D) (s t : ℕ) (image : List ℕ) → s ≤ t → g.images_since disk t image → g.images_since disk s image

  -- all that may be left is an image since the entry
  left_since : (old new : D) (P : List ℕ → Type 0) → NowCounts → Leaves g.moment g.images_since old new P → (image : List ℕ) → MayBeLeft g old new image → P image
  left_since old new P now leaves image = ⊎_elim (λ later. leaves.each image later) (λ here. leaves.each image (now new (g.moment old) image leaves.later here))

  -- the disk has its payloads still
  pub keeps_still : (c : Certificate) (old new : D) → NowCounts → g.images new (g.reads new)
      → NothingPending (g.reads old) (g.images old) → Leaves g.moment g.images_since old new (StaysOrFresh (g.images old) (g.reads old))
      → (9 < length (g.reads old) → g.reads new ≡ g.reads old)
      → NothingPending (g.reads new) (g.images new) ⊎ (IsFresh (g.reads old) × Rose (g.faults old) (g.faults new))
      → KeepsWhole g c old new
  keeps_still c old new now here none_pending leaves unwritten settled =
      let left : (image : List ℕ) → MayBeLeft g old new image → StaysOrFresh (g.images old) (g.reads old) image = left_since old new (StaysOrFresh (g.images old) (g.reads old)) now leaves in
      let no_forest : IsForestOf c.pieces [] no_node = refl in
      record {
        recovers = λ before read image may. record {
          roots = read.lawful.0;
          forest = read.lawful.1;
          reads = inl (record {
            payloads = read.payloads;
            stands = left_has c.pieces (g.images old) (g.reads old) image read.payloads none_pending read.stands (left image may);
            spelled = read.spelled;
            lawful = read.lawful;
          });
        };
        unread = λ none.
            let long : 9 < length (g.reads old) =
            ⊎_elim (λ fresh. absurd (none [] (record { payloads = []; stands = inl (fresh, refl); spelled = tt; lawful = (no_node, no_forest) }))) (λ more. more) (fresh_or_long (length (g.reads old)) 9) in
            let same = unwritten long in
            record {
              same = same;
              none_added = λ image may. ⊎_elim (λ was. was) (λ fresh. absurd (omega (arith, fresh.0, long))) (left image (inr may));
              none_lost = λ image was. subst (g.images new) (subst (λ (f : List ℕ). g.reads new ≡ f) (sym (none_pending image was)) same) here;
            };
        settled = ⊎_elim (λ none. inl none) (λ rose. inr rose.1) settled;
      }

  -- what is taught was recorded, or it was not
  pub keeps_recorded : (c : Certificate) (payloads : List Payload) (spells : SpellsForest c.pieces payloads) (root : ℕ) (texts : List (List ℕ)) (taught : IsTaught c spells.before spells.roots root texts)
      → (old mid new : D) → NowCounts → EarlierCounts → NothingPending (g.reads old) (g.images old)
      → Leaves g.moment g.images_since old mid (StaysOrFresh (g.images old) (g.reads old))
      → HasPayloads c.pieces (g.reads old) (payload_texts payloads)
      → Leaves g.moment g.images_since mid new (StandsForEither c.pieces (payload_texts payloads) (payload_texts payloads ++ texts))
      → g.faults old ≤ g.faults mid → NothingPending (g.reads new) (g.images new) ⊎ Rose (g.faults mid) (g.faults new)
      → KeepsWhole g c old new
  keeps_recorded c payloads spells root texts taught old mid new now earlier none_pending first had second no_fewer settled =
      let either : List ℕ → Type 0 = StandsForEither c.pieces (payload_texts payloads) (payload_texts payloads ++ texts) in
      let all : Leaves g.moment g.images_since old new either =
      leaves_then g.moment g.images_since earlier old mid new either
      (leaves_weaker g.moment g.images_since old mid (StaysOrFresh (g.images old) (g.reads old)) either
      (λ image left. inl (left_has c.pieces (g.images old) (g.reads old) image (payload_texts payloads) none_pending had left)) first) second in
      let read = reads_before c payloads spells (g.reads old) had in
      record {
        recovers = λ before read' image may.
            subst (λ (rs : List BenchRecord). ReadsWhole c rs image) (files_read_as_one_list c.pieces (g.reads old) spells.before before read read')
            (whole_from c payloads spells root texts taught image (left_since old new either now all image may));
        unread = λ none. absurd (none spells.before read);
        settled = ⊎_elim (λ none. inl none) (λ rose. inr (rose_from (g.faults old) (g.faults mid) (g.faults new) no_fewer rose)) settled;
      }

  -- nothing was written
  pub leaves_as_is : (k : ℕ) (disk : D) (payloads more : List (List ℕ)) → ((image : List ℕ) → g.images_since disk (g.moment disk) image → g.images disk image)
      → NothingPending (g.reads disk) (g.images disk) → HasPayloads k (g.reads disk) payloads → Leaves g.moment g.images_since disk disk (StandsForEither k payloads more)
  leaves_as_is k disk payloads more only_now none_pending has =
      leaves_none g.moment g.images_since disk (StandsForEither k payloads more)
      (λ image since. inl (subst (λ (f : List ℕ). HasPayloads k f payloads) (sym (none_pending image (only_now image since))) has))

-- ---- what the commit of the staged texts says of the disk that is handed back

module _ {D : Type 0} (g : Ghosts D) (start staged : Log D) (texts : List (List ℕ)) (is : staged ≡ record start { staged = texts }) (new back : D) (same : back ≡ new) where
  pub commit_leaves : ((payloads : List (List ℕ)) → HasPayloads staged.pieces (g.reads staged.disk) payloads → Leaves g.moment g.images_since staged.disk new (StandsForEither staged.pieces payloads (payloads ++ staged.staged)))
      → (payloads : List (List ℕ)) → HasPayloads start.pieces (g.reads start.disk) payloads → Leaves g.moment g.images_since start.disk back (StandsForEither start.pieces payloads (payloads ++ texts))
  commit_leaves h =
      subst (λ (d : D). (payloads : List (List ℕ)) → HasPayloads start.pieces (g.reads start.disk) payloads → Leaves g.moment g.images_since start.disk d (StandsForEither start.pieces payloads (payloads ++ texts))) (sym same)
      (subst (λ (x : Log D). (payloads : List (List ℕ)) → HasPayloads x.pieces (g.reads x.disk) payloads → Leaves g.moment g.images_since x.disk new (StandsForEither x.pieces payloads (payloads ++ x.staged))) is h)

-- ---- what was taught, of the answer

spelled_some : (k : ℕ) (before rs : List BenchRecord) (texts : List (List ℕ)) → SpellsRecords k before rs texts → Each (λ t. 0 < length t) texts
spelled_some k before [] [] h = tt
spelled_some k before [] (t ∷ texts) h = absurd h
spelled_some k before (r ∷ rs) [] h = absurd h
spelled_some k before (r ∷ rs) (t ∷ texts) h = (text_some k before r t h.0, spelled_some k (before ++ r ∷ []) rs texts h.1)

each_of : {X : Type 0} (f : X → List ℕ) (xs : List X) → Each (λ t. 0 < length t) (map f xs) → Each (λ x. 0 < length (f x)) xs
each_of f [] h = tt
each_of f (x ∷ xs) h = (h.0, each_of f xs h.1)

-- no text is empty
pub taught_some : {X : Type 0} (f : X → List ℕ) (c : Certificate) (payloads : List Payload) (root : ℕ) (xs : List X) → IsTaughtBehind c payloads root (map f xs) → All (λ x. 0 < length (f x)) xs
taught_some f c payloads root xs (spells, taught) = All-from_recursion (λ x. 0 < length (f x)) xs (each_of f xs (spelled_some c.pieces spells.before taught.added (map f xs) taught.spelled))

-- it was learnt, where it was recorded
pub does_from : (c : Certificate) (payloads : List Payload) (file file' : List ℕ) (root : ℕ) (texts : List (List ℕ)) → IsTaughtBehind c payloads root texts → HasPayloads c.pieces file (payload_texts payloads)
    → (answer : Result ℕ LearnRefusal) → IfOk answer (λ n. n ≡ root) → OnOk answer (HasPayloads c.pieces file' (payload_texts payloads ++ texts)) → IfOk answer (IsLearnt file file' c)
does_from c payloads file file' root texts (spells, taught) had (Ok n) number has = subst (IsLearnt file file' c) (sym number) (learnt_from c payloads spells root texts taught file file' had has)
does_from c payloads file file' root texts taught had (Err r) number has = tt

-- ---- why it is not

pub journal_refused : (k : ℕ) (file : List ℕ) (c : Certificate) (fault : JournalRefusal) → k ≡ c.pieces → OnFalse (says_nothing_of_file fault) (Explains file k fault) → ExplainsNoLesson file c (refusal.Journal fault)
journal_refused k file c fault pieces h =
    on_false (says_nothing_of_file fault) (Explains file c.pieces fault) (HasNoLesson file c (refusal.Journal fault)) (λ e. inl e)
    (subst (λ (n : ℕ). OnFalse (says_nothing_of_file fault) (Explains file n fault)) pieces h)

pub teach_refused : (file : List ℕ) (c : Certificate) (payloads : List Payload) (r : LearnRefusal) → HasPayloads c.pieces file (payload_texts payloads) → HasPlaces c.pieces file (map (λ p. p.at) payloads)
    → RefusesBehind c payloads r → ExplainsNoLesson file c r
teach_refused file c payloads (refusal.Journal cause) has places h = replay_explained c.pieces file payloads cause has places h
teach_refused file c payloads (refusal.RootExpanded n) has places (spells, h) =
    record { before = spells.before; read = reads_before c payloads spells file has; roots = spells.roots; forest = spells.forest; refused = h }
teach_refused file c payloads refusal.TooManyRoots has places (spells, h) =
    record { before = spells.before; read = reads_before c payloads spells file has; roots = spells.roots; forest = spells.forest; refused = h }

pub silent_refused : (file : List ℕ) (c : Certificate) (answer : Result ℕ LearnRefusal) → IfErr answer (λ r. says_nothing r ≡ true) → IfErr answer (ExplainsNoLesson file c)
silent_refused file c (Ok n) h = tt
silent_refused file c (Err r) h = subst (λ (b : Bool). OnFalse b (HasNoLesson file c r)) (sym h) tt
