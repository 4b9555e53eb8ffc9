-- What a crash leaves of a shorter journal, and what it reads as.
use Rattle.std.proofs.Common.{◌≡◌, ◌≤◌, ◌<◌, ◌⊎◌, ⊎_elim, inl, inr, ℕ, zero, suc, List, [], ◌∷◌, map, length, refl, sym, ap, ◌∙◌, subst, arith}
use Rattle.std.proofs.lemmas.List.{length-map}
use Rattle.bench_disk.specs.declared.disk.Disk.{Ghosts}
use Rattle.bench_disk.specs.Disk.{IsHonest, NothingPending}
use Rattle.bench_disk.specs.Runs.{Leaves, leaves_none, leaves_then, leaves_weaker}
use Rattle.disk_journal.specs.Format.{HasPayloads, IsFresh, StandsForEither}
use Rattle.disk_journal.specs.Log.{StaysOrFresh}
use Rattle.disk_journal.specs.Reads.{OnlyLooksAt}
use Rattle.proof_tree.specs.Forest.{Forest, Node, no_node, nodes, value_of}
use Rattle.bench_records.specs.declared.records.BenchRecord.{BenchRecord}
use Rattle.bench_core.specs.Growing.{IsForestOf}
use Rattle.tree_manager.specs.Receipts.{ReadsRecords, SpellsRecords}
use Rattle.journal_compaction.specs.Compactions.{IsCompaction}
use Rattle.journal_compaction.proofs.Compacted.{compactions_are_lawful, compactions_keep_numbers}
use Rattle.compaction_staging.specs.Progress.{IsCompactStaged}
use Rattle.record_reading.proofs.Readings.{as_many}
use Rattle.journal_shortening.specs.Outcomes.{IsShorter, LeavesNoneOrShorter, StandsForFile}
use Rattle.journal_shortening.specs.Written.{IsWritten, ReadsNoneOr, WritesNoneOrOne}
use Rattle.journal_shortening.specs.declared.sizes.Sizes.{Sizes}

-- ---- what a file reads as

pub reads_none : (k : ℕ) (file : List ℕ) → HasPayloads k file [] → ReadsRecords k file []
reads_none k file has = record { payloads = []; stands = has; spelled = tt; lawful = (no_node, refl) }

pub fresh_reads_none : (k : ℕ) (file : List ℕ) → IsFresh file → ReadsRecords k file []
fresh_reads_none k file fresh = reads_none k file (inl (fresh, refl))

pub reads_made : (k : ℕ) (old : List BenchRecord) (staged : List (List ℕ)) (s : IsCompactStaged k old staged) (file : List ℕ) → HasPayloads k file staged → ReadsRecords k file s.made
reads_made k old staged s file has = record { payloads = staged; stands = has; spelled = s.spelled; lawful = compactions_are_lawful k old s.made s.stands }

reads_either : (k : ℕ) (old : List BenchRecord) (staged : List (List ℕ)) (s : IsCompactStaged k old staged) (file : List ℕ) → StandsForEither k [] staged file
    → ReadsRecords k file [] ⊎ (ReadsRecords k file s.made × IsCompaction k old s.made)
reads_either k old staged s file (inl none) = inl (reads_none k file none)
reads_either k old staged s file (inr all) = inr (reads_made k old staged s file all, s.stands)

-- ---- the numbers of roots and of records

pub is_written : (k : ℕ) (old : List BenchRecord) (roots : Forest) (staged : List (List ℕ)) (s : IsCompactStaged k old staged) (file : List ℕ) (sizes : Sizes) → HasPayloads k file staged
    → sizes.roots ≡ length (nodes roots) → sizes.before ≡ length old → sizes.after ≡ length staged → IsWritten k old roots file sizes
is_written k old roots staged s file sizes has count before after = record {
  new = s.made;
  stands = s.stands;
  reads = reads_made k old staged s file has;
  roots_are = count;
  before = before;
  after = after ∙ sym (as_many k [] s.made staged s.spelled);
}

values_length : (xs ys : List Node) → map value_of ys ≡ map value_of xs → length ys ≡ length xs
values_length xs ys e =
    let a = length-map xs value_of in let b = length-map ys value_of in let c = ap length e in omega (arith, a, b, c)

-- ---- of the file that was read

stands_for : (k : ℕ) (old new : List BenchRecord) (old_file new_file : List ℕ) → ReadsRecords k old_file old → ReadsRecords k new_file new → IsCompaction k old new → StandsForFile old_file new_file new
stands_for k old new old_file new_file read reads stands = record {
  pieces = k;
  old = old;
  old_reads = read;
  new_reads = reads;
  stands = stands;
  roots = compactions_keep_numbers k old new read.lawful.0 reads.lawful.0 stands read.lawful.1 reads.lawful.1;
}

pub is_shorter : (k : ℕ) (old : List BenchRecord) (roots : Forest) (old_file new_file : List ℕ) (sizes : Sizes) → IsForestOf k old roots → ReadsRecords k old_file old → IsWritten k old roots new_file sizes
    → IsShorter old_file new_file sizes
unfolding stands_for
is_shorter k old roots old_file new_file sizes grown read w =
    let same = compactions_keep_numbers k old w.new roots w.reads.lawful.0 w.stands grown w.reads.lawful.1 in
    record {
      new = w.new;
      is = stands_for k old w.new old_file new_file read w.reads w.stands;
      roots = w.roots_are ∙ sym (values_length (nodes roots) (nodes w.reads.lawful.0) same.values);
      before = w.before;
      after = w.after;
    }

pub leaves_fresh : (old_file : List ℕ) (images : List ℕ → Type 0) → ((image : List ℕ) → images image → IsFresh image) → LeavesNoneOrShorter old_file images
leaves_fresh old_file images fresh = record { new = []; each = λ image now. inl (2, fresh_reads_none 2 image (fresh image now)) }

-- ---- crashes

module _ {D : Type 0} (g : Ghosts D) where
  abbrev pub NowCounts : Type 0
  NowCounts = (disk : D) (t : ℕ) (image : List ℕ) → IsHonest g.TELLS → t ≤ g.moment disk → g.images disk image → g.images_since disk t image

  abbrev pub EarlierCounts : Type 0
  EarlierCounts = (disk : D) (s t : ℕ) (image : List ℕ) → IsHonest g.TELLS → s ≤ t → g.images_since disk t image → g.images_since disk s image

  abbrev pub OnlyNow : Type 0
  OnlyNow = (disk : D) (image : List ℕ) → IsHonest g.TELLS → g.images_since disk (g.moment disk) image → g.images disk image

  -- what attaching leaves of a fresh disk is fresh
  pub begun_fresh : (into mid : D) → NothingPending (g.reads into) (g.images into) → IsFresh (g.reads into) → Leaves g.moment g.images_since into mid (StaysOrFresh (g.images into) (g.reads into))
      → Leaves g.moment g.images_since into mid IsFresh
  begun_fresh into mid none fresh run =
      leaves_weaker g.moment g.images_since into mid (StaysOrFresh (g.images into) (g.reads into)) IsFresh (λ image. by image) run
    where
      by : (image : List ℕ) → StaysOrFresh (g.images into) (g.reads into) image → IsFresh image
      by image (inl was) = subst IsFresh (sym (none image was)) fresh
      by image (inr both) = both.1

  -- a disk that is only looked at
  pub looks_fresh : (into mid : D) → NothingPending (g.reads into) (g.images into) → IsFresh (g.reads into) → OnlyLooksAt g into mid
      → Leaves g.moment g.images_since into mid IsFresh
  looks_fresh into mid none fresh looks =
      leaves_weaker g.moment g.images_since into mid (g.images into) IsFresh (λ image was. subst IsFresh (sym (none image was)) fresh) looks.run

  -- no record
  pub writes_none : (k : ℕ) (old : List BenchRecord) (into done : D) → Leaves g.moment g.images_since into done IsFresh → WritesNoneOrOne g k old into done
  writes_none k old into done run =
      record { new = []; run = leaves_weaker g.moment g.images_since into done IsFresh (ReadsNoneOr k old []) (λ image fresh. inl (fresh_reads_none k image fresh)) run }

  pub looked_at : (old_file : List ℕ) (into mid : D) → Leaves g.moment g.images_since into mid IsFresh → LeavesNoneOrShorter old_file (g.images_since mid (g.moment into))
  looked_at old_file into mid run = leaves_fresh old_file (g.images_since mid (g.moment into)) run.each

module _ {D : Type 0} (g : Ghosts D) (honest : IsHonest g.TELLS) (earlier_counts : EarlierCounts g) where
  then_one : (k : ℕ) (old new : List BenchRecord) (into mid done : D) → Leaves g.moment g.images_since into mid IsFresh → Leaves g.moment g.images_since mid done (ReadsNoneOr k old new)
      → Leaves g.moment g.images_since into done (ReadsNoneOr k old new)
  then_one k old new into mid done first second =
      leaves_then g.moment g.images_since (λ disk a b image le since. earlier_counts disk a b image honest le since) into mid done (ReadsNoneOr k old new)
      (leaves_weaker g.moment g.images_since into mid IsFresh (ReadsNoneOr k old new) (λ image fresh. inl (fresh_reads_none k image fresh)) first) second

  -- all records or none
  pub writes_one : (k : ℕ) (old : List BenchRecord) (staged : List (List ℕ)) (s : IsCompactStaged k old staged) (into mid done : D) → Leaves g.moment g.images_since into mid IsFresh
      → Leaves g.moment g.images_since mid done (StandsForEither k [] staged) → WritesNoneOrOne g k old into done
  writes_one k old staged s into mid done first second = record {
    new = s.made;
    run = then_one k old s.made into mid done first
        (leaves_weaker g.moment g.images_since mid done (StandsForEither k [] staged) (ReadsNoneOr k old s.made) (reads_either k old staged s) second);
  }

  pub shorter_behind : (k : ℕ) (old : List BenchRecord) (old_file : List ℕ) (into mid done : D) → ReadsRecords k old_file old → Leaves g.moment g.images_since into mid IsFresh
      → WritesNoneOrOne g k old mid done → LeavesNoneOrShorter old_file (g.images_since done (g.moment into))
  shorter_behind k old old_file into mid done read first w =
      let all = then_one k old w.new into mid done first w.run in
      record {
        new = w.new;
        each = λ image since. ⊎_elim (λ none. inl (k, none)) (λ one. inr (stands_for k old w.new old_file image read one.0 one.1)) (all.each image since);
      }

module _ {D : Type 0} (g : Ghosts D) (honest : IsHonest g.TELLS) where
  -- nothing was pending before looks, nor is behind them
  pub looks_settled : NowCounts g → (into mid : D) → NothingPending (g.reads into) (g.images into) → OnlyLooksAt g into mid → NothingPending (g.reads mid) (g.images mid)
  looks_settled now_counts into mid none looks image now =
      let run = looks.run in
      none image (run.each image (now_counts mid (g.moment into) image honest run.later now)) ∙ sym looks.same

  -- by no call
  pub no_call : OnlyNow g → (into : D) → OnlyLooksAt g into into
  no_call only_now into = record {
    same = refl;
    run = leaves_none g.moment g.images_since into (g.images into) (λ image since. only_now into image honest since);
    stays = λ image was. was;
  }
