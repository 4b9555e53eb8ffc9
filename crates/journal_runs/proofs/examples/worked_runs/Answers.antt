use Rattle.std.specs.Prelude.{◌≡◌, refl, ◌≤◌, ◌⊎◌, ℕ, suc, Bool, true, false, IsTrue, List, [], ◌∷◌, Some, map}
use Rattle.std.proofs.Common.{sym, ◌∙◌, ap, subst, inl, inr, arith, lit<, lit≤}
use Rattle.std.proofs.lemmas.Bool.{false≢true}
use Rattle.bench_disk.specs.Disk.{IsTorn, NothingPending}
use Rattle.bench_disk.specs.Torn.{written_is_torn}
use Rattle.disk_journal.specs.Format.{IsPrefixOf}
use Rattle.shared_words.specs.Counts.{Rose}
use Rattle.draughts_board.specs.Examples.{man_blocked, man_to_block}
use Rattle.draughts_board.specs.Board.{Board}
use Rattle.draughts_board.specs.Geometry.{squares}
use Rattle.draughts_board.specs.declared.pieces.Side.TheVariants.{Black, White}
use Rattle.draughts_board.specs.declared.pieces.Value.TheVariants.{WhiteWins}
use Rattle.draughts_board.specs.Play.{captures, grown, legal_paths, steps, successors_of}
use Rattle.opening_report.specs.Report.{forest_roots, report_of}
use Rattle.proof_tree.specs.Changes.{with_root}
use Rattle.proof_tree.specs.Forest.{Forest, no_node}
use Rattle.proof_numbers.specs.Facts.{known}
use Rattle.proof_numbers.specs.Known.{Known, nothing_known}
use Rattle.proof_numbers.specs.Sight.{AreFactsAtSight}
use Rattle.proof_numbers.specs.declared.facts.Facts.{Facts}
use Rattle.proof_numbers.specs.declared.leaves.Child.{Child}
use Rattle.bench_core.specs.Growing.{IsForestOf}
use Rattle.bench_records.specs.declared.records.BenchRecord.{BenchRecord}
use Rattle.bench_records.specs.declared.records.BenchRecord.TheVariants.{Begin}
use Rattle.tree_manager.specs.Receipts.{ReadsBetween, ReadsRecords}
use Rattle.journal_runs.specs.Ample.{IsAmple, unsettled_roots}
use Rattle.journal_runs.specs.Journals.{KeepsJournal, MayLeave, Recovers, Resumes}
use Rattle.journal_runs.specs.Examples.{Stop, entry, opened, head_written, head_synced, frame_written, frame_synced, gate_written, finished, blocked_root, left_at, left_since, file_at, faults_at, root_frame, stopping, with_gate}
use Rattle.journal_runs.proofs.ExampleLemmas.{blocked_grown, each_between, no_hold_unseen, no_win_unseen, none_read, reads_closed, reads_empty, reads_row, shown, to_block_grown}
use Rattle.journal_runs.proofs.examples.worked_runs.Goals as goal

recovered : (stop : Stop) → Recovers stopping 2 [] (Begin man_blocked ∷ []) entry stop
recovered stop image (inl since) = each_between since.0 image since.1.1.1
recovered stop image (inr now) = each_between stop image now

at_rest : (stop : Stop) → NothingPending (file_at stop) (left_at stop) ⊎ Rose 0 (faults_at stop)
at_rest entry = inl (λ image is. is)
at_rest opened = inr (lit≤ tt)
at_rest head_written = inr (lit≤ tt)
at_rest head_synced = inr (lit≤ tt)
at_rest frame_written = inr (lit≤ tt)
at_rest frame_synced = inr (lit≤ tt)
at_rest gate_written = inr (lit≤ tt)
at_rest finished = inl (λ image is. is)

keeps : (stop : Stop) → KeepsJournal stopping 2 entry stop
keeps stop = record {
  recovers = λ before reads. (Begin man_blocked ∷ [], subst (λ (b : List BenchRecord). Recovers stopping 2 b (Begin man_blocked ∷ []) entry stop) (sym (none_read before reads)) (recovered stop));
  unread = λ none. absurd (none [] reads_empty);
  settled = at_rest stop;
}

torn_frame : IsTorn 9 35 (with_gate 0 []) (with_gate 0 (7 ∷ 7 ∷ []))
torn_frame =
    let two : IsTorn 9 2 (with_gate 0 []) (with_gate 0 (7 ∷ 7 ∷ [])) = written_is_torn (with_gate 0 []) 9 (7 ∷ 7 ∷ []) in
    record { no_shorter = two.no_shorter; no_longer = lit≤ tt; outside = λ k l out. two.outside k l (side k out) } where
      side : (k : ℕ) → ◌⊎◌ (suc k ≤ 9) (44 ≤ k) → ◌⊎◌ (suc k ≤ 9) (11 ≤ k)
      side k (inl before) = inl before
      side k (inr behind) = inr (omega (arith, behind))

not_kept : ¬ KeepsJournal stopping 2 finished entry
not_kept kept =
    let left = (kept.recovers (Begin man_blocked ∷ []) reads_row).1 [] (inr refl) in
    no_prefix left.records (none_read left.records left.reads) left.above where
      no_prefix : (records : List BenchRecord) → records ≡ [] → ¬ IsPrefixOf (Begin man_blocked ∷ []) records
      no_prefix records none longer = (let e = sym none ∙ longer.1 in cc)

resumes : Resumes stopping (λ roots. report_of (forest_roots roots)) 2 4 1000 1000000 (man_blocked ∷ []) entry finished (report_of (record { position = man_blocked; value = Some WhiteWins } ∷ [])) true
resumes = record {
  before = [];
  added = Begin man_blocked ∷ [];
  read_then = reads_empty;
  reads_now = reads_row;
  roots = blocked_root;
  grown = blocked_grown;
  text_is = refl;
  roots_are = refl;
  crash = recovered finished;
  ends = refl;
  ample = λ enough. refl;
  reached = λ room. ((λ seen. refl), tt);
}

-- the root of which nothing is known has no value yet
one_open : unsettled_roots (with_root man_to_block nothing_known no_node) ≡ 1
unfolding squares grown captures steps legal_paths successors_of
one_open = refl

by_a_ply : IsAmple 2 1 1 (man_to_block ∷ []) []
by_a_ply = record {
  added = man_to_block ∷ [];
  all = refl;
  roots = with_root man_to_block nothing_known no_node;
  begins = to_block_grown;
  within = (inr (refl, inr (inl shown)), tt);
  enough = omega (arith, one_open);
}

not_true : (b : Bool) → ¬ IsTrue b → b ≡ false
not_true true h = absurd (h refl)
not_true false h = refl

same_known : (facts : Facts) → facts.black_wins ≡ false → facts.white_wins ≡ false → facts.black_holds ≡ false → facts.white_holds ≡ false → known facts ≡ nothing_known
same_known facts bw ww bh wh =
    ap (λ b. let made : Known = record { black_wins = b; white_wins = facts.white_wins; black_holds = facts.black_holds; white_holds = facts.white_holds } in made) bw
    ∙ ap (λ b. let made : Known = record { black_wins = false; white_wins = b; black_holds = facts.black_holds; white_holds = facts.white_holds } in made) ww
    ∙ ap (λ b. let made : Known = record { black_wins = false; white_wins = false; black_holds = b; white_holds = facts.white_holds } in made) bh
    ∙ ap (λ b. let made : Known = record { black_wins = false; white_wins = false; black_holds = false; white_holds = b } in made) wh

-- at a position that is not decided at sight nothing is known
nothing_seen : (root : Child) → root.position ≡ man_to_block → AreFactsAtSight 2 root.position (known root.facts) → known root.facts ≡ nothing_known
nothing_seen root at sight =
    let there : AreFactsAtSight 2 man_to_block (known root.facts) = subst (λ (q : Board). AreFactsAtSight 2 q (known root.facts)) at sight in
    same_known root.facts (not_true root.facts.black_wins (λ h. no_win_unseen Black (there.black_wins.0 h))) (not_true root.facts.white_wins (λ h. no_win_unseen White (there.white_wins.0 h)))
    (not_true root.facts.black_holds (λ h. no_hold_unseen Black (there.black_holds.0 h))) (not_true root.facts.white_holds (λ h. no_hold_unseen White (there.white_holds.0 h)))

grown_so : (roots : Forest) → IsForestOf 2 (Begin man_to_block ∷ []) roots → roots ≡ with_root man_to_block nothing_known no_node
grown_so roots grows =
    let applied = grows.1.0.applied in
    let root : Child = applied.0 in
    grows.1.1 ∙ applied.1.1.1 ∙ ap (λ (q : Board). with_root q (known root.facts) no_node) applied.1.0 ∙ ap (λ (f : Known). with_root man_to_block f no_node) (nothing_seen root applied.1.0 applied.1.1.0)

too_few : ¬ IsAmple 2 1 0 (man_to_block ∷ []) []
too_few a =
    let added : a.added ≡ man_to_block ∷ [] = a.all in
    let roots : a.roots ≡ with_root man_to_block nothing_known no_node = grown_so a.roots (subst (λ (ps : List Board). IsForestOf 2 (map Begin ps) a.roots) added a.begins) in
    let one : unsettled_roots a.roots ≡ 1 = ap unsettled_roots roots ∙ one_open in
    let none : unsettled_roots a.roots ≤ 0 = a.enough in
    omega (arith, one, none)

pub returns : goal.returns
returns c = record {
  empty = reads_empty;
  closed = λ rest. reads_closed 0 rest (λ e. omega (arith, e));
  read = reads_row;
  grown = blocked_grown;
  kept = keeps;
  torn = inr torn_frame;
  lost = not_kept;
  resumed = resumes;
  ample = record {
    added = man_blocked ∷ [];
    all = refl;
    roots = blocked_root;
    begins = blocked_grown;
    within = (inl refl, tt);
    enough = lit≤ tt;
  };
  ample_by_a_ply = by_a_ply;
  short_of_one = too_few;
}
