-- What each call of the journal keeps of a line's receipts.
use Rattle.std.proofs.Common.{◌≡◌, ◌≤◌, ℕ, suc, List, [], ◌∷◌, ◌++◌, map, length, take, drop, refl, ap, sym, ◌∙◌, subst, ⊎_elim, arith, append_assoc, length-append}
use Rattle.std.specs.Prelude.{Bool, true, false, cond}
use Rattle.std.specs.List.{list_any, AllByRecursion as Each}
use Rattle.std.proofs.lemmas.List.{append-nil, take-append-drop, take_at, take-append-le, length-take}
use Rattle.std.proofs.lemmas.Bool.{cases_Bool, true≢false}
use Rattle.bench_disk.specs.declared.disk.Disk.{Ghosts}
use Rattle.bench_disk.specs.Disk.{NothingPending}
use Rattle.bench_disk.specs.Runs.{Leaves}
use Rattle.disk_journal.specs.Format.{HasPayloads, IsPrefixOf, StandsBetween}
use Rattle.disk_journal.specs.Log.{Log, StandsSince}
use Rattle.proof_tree.specs.Forest.{Forest, no_node}
use Rattle.bench_records.specs.declared.records.BenchRecord.{BenchRecord}
use Rattle.bench_records.specs.Texts.{IsText, named_in}
use Rattle.bench_records.proofs.Texts.{text_is_spelled}
use Rattle.bench_records.proofs.Exact.{spelled_once}
use Rattle.bench_core.specs.Growing.{GrowsWithAll}
use Rattle.tree_manager.specs.declared.entries.Attachment.{Attachment}
use Rattle.tree_manager.specs.declared.entries.Entry.{Entry}
use Rattle.tree_manager.specs.declared.entries.Entry.TheVariants.{Put, Attached, Leased, Released, Acked, Broken}
use Rattle.tree_manager.specs.Entries.{record_put, moment_acknowledged, acknowledges, breaks, faults_told}
use Rattle.tree_manager.specs.Lines.{recorded, applied_in, unapplied_in, is_failed}
use Rattle.tree_manager.specs.Receipts.{SpellsRecords, AreLawfulInTurn, ReadsBetween, Acknowledgement, acknowledged_by, acknowledgements, most_left, KeepsReceipts}
use Rattle.tree_manager.specs.Synced.{LeavesPayloads, IsSynced}
use Rattle.tree_manager.proofs.LineLemmas.{applied_more, applied_all, staged_more, staged_none, recorded_split, any_push_not, any_push_yes}
use Rattle.bench_core.proofs.Lists.{Each-append, Each-weaker, Each-both}

-- ---- prefixes

prefix_of_longer : {A : Type 0} (xs ys zs us vs : List A) → zs ≡ xs ++ us → zs ≡ ys ++ vs → length xs ≤ length ys → IsPrefixOf xs ys
prefix_of_longer [] ys zs us vs p q le = (ys, refl)
prefix_of_longer (x ∷ xs) [] zs us vs p q le = absurd (omega arith)
prefix_of_longer (x ∷ xs) (y ∷ ys) [] us vs p q le = absurd (cc p)
prefix_of_longer (x ∷ xs) (y ∷ ys) (z ∷ zs) us vs p q le =
    let heads : x ≡ y = cc (p, q) in
    let p' : zs ≡ xs ++ us = cc p in
    let q' : zs ≡ ys ++ vs = cc q in
    let rest = prefix_of_longer xs ys zs us vs p' q' (omega (arith, le)) in
    (rest.0, ap (λ h. h ∷ ys) (sym heads) ∙ ap (λ l. x ∷ l) rest.1)

prefix_then : {A : Type 0} (xs ys more : List A) → IsPrefixOf xs ys → IsPrefixOf xs (ys ++ more)
prefix_then xs ys more p = (p.0 ++ more, ap (λ l. l ++ more) p.1 ∙ append_assoc xs p.0 more)

prefix_length : {A : Type 0} (xs ys : List A) → IsPrefixOf xs ys → length xs ≤ length ys
prefix_length xs ys p = omega (arith, ap length p.1 ∙ length-append xs p.0)

-- ---- texts of records

-- a text has one record
pub text_once : (k : ℕ) (before : List BenchRecord) (r s : BenchRecord) (text : List ℕ) → IsText k before r text → IsText k before s text → r ≡ s
text_once k before r s text one two =
    let named = named_in [] before in
    (spelled_once named k r s text text [] (text_is_spelled named k r text one) (text_is_spelled named k s text two) (sym (append-nil text))).0

module _ (k : ℕ) where
  pub spell_length : (before rs : List BenchRecord) (ps : List (List ℕ)) → SpellsRecords k before rs ps → length rs ≡ length ps
  spell_length before [] [] h = refl
  spell_length before [] (p ∷ ps) h = absurd h
  spell_length before (r ∷ rs) [] h = absurd h
  spell_length before (r ∷ rs) (p ∷ ps) h = ap suc (spell_length (before ++ r ∷ []) rs ps h.1)

  pub spell_append : (before rs qs : List BenchRecord) (ps us : List (List ℕ)) → SpellsRecords k before rs ps → SpellsRecords k (before ++ rs) qs us → SpellsRecords k before (rs ++ qs) (ps ++ us)
  spell_append before [] qs [] us h more = subst (λ b. SpellsRecords k b qs us) (append-nil before) more
  spell_append before [] qs (p ∷ ps) us h more = absurd h
  spell_append before (r ∷ rs) qs [] us h more = absurd h
  spell_append before (r ∷ rs) qs (p ∷ ps) us h more =
      (h.0, spell_append (before ++ r ∷ []) rs qs ps us h.1 (subst (λ b. SpellsRecords k b qs us) (sym (append_assoc before (r ∷ []) rs)) more))

  pub spell_front : (before rs : List BenchRecord) (ps us : List (List ℕ)) → SpellsRecords k before rs (ps ++ us) → SpellsRecords k before (take (length ps) rs) ps
  spell_front before rs [] us h = tt
  spell_front before [] (p ∷ ps) us h = absurd h
  spell_front before (r ∷ rs) (p ∷ ps) us h = (h.0, spell_front (before ++ r ∷ []) rs ps us h.1)

-- ---- acknowledgements

abbrev at_moment : List BenchRecord → ℕ → Acknowledgement
at_moment before m = record { moment = m; records = before }

acks_push : (before : List BenchRecord) (line : List Entry) (e : Entry) → acknowledged_by before (line ++ e ∷ []) ≡ acknowledged_by before line ++ map (at_moment (before ++ recorded line)) (moment_acknowledged e)
acks_push before [] e = append-nil (map (at_moment before) (moment_acknowledged e)) ∙ ap (λ b. map (at_moment b) (moment_acknowledged e)) (sym (append-nil before))
acks_push before (x ∷ line) e =
    ap (λ l. map (at_moment before) (moment_acknowledged x) ++ l)
    (acks_push (before ++ record_put x) line e ∙ ap (λ b. acknowledged_by (before ++ record_put x) line ++ map (at_moment b) (moment_acknowledged e)) (append_assoc before (record_put x) (recorded line)))
    ∙ sym (append_assoc (map (at_moment before) (moment_acknowledged x)) (acknowledged_by (before ++ record_put x) line) (map (at_moment (before ++ (record_put x ++ recorded line))) (moment_acknowledged e)))

acks_quiet : (line : List Entry) (e : Entry) → moment_acknowledged e ≡ [] → acknowledged_by [] (line ++ e ∷ []) ≡ acknowledgements line
acks_quiet line e none = acks_push [] line e ∙ (ap (λ ms. acknowledgements line ++ map (at_moment (recorded line)) ms) none ∙ append-nil (acknowledgements line))

acks_none : (before : List BenchRecord) (line : List Entry) → list_any acknowledges line ≡ false → acknowledged_by before line ≡ []
acks_none before [] h = refl
acks_none before (Put r ∷ line) h = acks_none (before ++ r ∷ []) line h
acks_none before (Attached a ∷ line) h = absurd (true≢false h)
acks_none before (Leased l ∷ line) h = acks_none (before ++ []) line h
acks_none before (Released id ∷ line) h = acks_none (before ++ []) line h
acks_none before (Acked m ∷ line) h = absurd (true≢false h)
acks_none before (Broken f ∷ line) h = acks_none (before ++ []) line h

each_none : {X : Type 0} (P : X → Type 0) (xs : List X) → xs ≡ [] → Each P xs
each_none P [] none = tt
each_none P (x ∷ xs) none = absurd (cc none)

each_moment : (P : Acknowledgement → Type 0) (b : List BenchRecord) → ((m : ℕ) → P (at_moment b m)) → (ms : List ℕ) → Each P (map (at_moment b) ms)
each_moment P b f [] = tt
each_moment P b f (m ∷ ms) = (f m, each_moment P b f ms)

-- what stands before an acknowledgement is applied_in
pub acks_applied : (before : List BenchRecord) (line : List Entry) → Each (λ (ack : Acknowledgement). IsPrefixOf ack.records (before ++ applied_in line)) (acknowledged_by before line)
acks_applied before [] = tt
acks_applied before (x ∷ line) =
    Each-append (λ (ack : Acknowledgement). IsPrefixOf ack.records (before ++ applied_in (x ∷ line))) (map (at_moment before) (moment_acknowledged x)) (acknowledged_by (before ++ record_put x) line)
    (each_moment (λ (ack : Acknowledgement). IsPrefixOf ack.records (before ++ applied_in (x ∷ line))) before (λ m. (applied_in (x ∷ line), refl)) (moment_acknowledged x))
    (⊎_elim
    (λ acked. subst (λ rs. Each (λ (ack : Acknowledgement). IsPrefixOf ack.records rs) (acknowledged_by (before ++ record_put x) line)) (append_assoc before (record_put x) (applied_in line) ∙ ap (λ b. before ++ cond b (record_put x ++ applied_in line) []) (sym acked)) (acks_applied (before ++ record_put x) line))
    (λ none. each_none (λ (ack : Acknowledgement). IsPrefixOf ack.records (before ++ applied_in (x ∷ line))) (acknowledged_by (before ++ record_put x) line) (acks_none (before ++ record_put x) line none))
    (cases_Bool (list_any acknowledges line)))

take_whole : {A : Type 0} (xs : List A) (n : ℕ) → n ≡ length xs → take n xs ≡ xs
take_whole xs n is = ap (λ m. take m xs) is ∙ ap (take (length xs)) (sym (append-nil xs)) ∙ take_at xs [] (length xs) refl

length_take_of : {A : Type 0} (n : ℕ) (xs : List A) → n ≤ length xs → length (take n xs) ≡ n
length_take_of n xs le = length-take n xs ∙ omega (arith, le)

no_broken : (rs : List BenchRecord) → is_failed (map Put rs) ≡ false
no_broken [] = refl
no_broken (r ∷ rs) = no_broken rs

recorded_puts : (rs : List BenchRecord) → recorded (map Put rs) ≡ rs
recorded_puts [] = refl
recorded_puts (r ∷ rs) = ap (λ (l : List BenchRecord). r ∷ l) (recorded_puts rs)

acks_of_puts : (before rs : List BenchRecord) → acknowledged_by before (map Put rs) ≡ []
acks_of_puts before [] = refl
acks_of_puts before (r ∷ rs) = acks_of_puts (before ++ r ∷ []) rs

-- ---- one entry more

-- an entry that is no matter to the journal: a lease or a release
pub record IsQuiet (e : Entry) : Type 0 where
  pub no_moment : moment_acknowledged e ≡ []
  pub no_put : record_put e ≡ []
  pub unacknowledged : acknowledges e ≡ false
  pub whole : breaks e ≡ false
  pub no_faults : faults_told e ≡ 0

-- what a commit of the journal leaves of the disk, whatever it answers
pub record HasCommitted {D : Type 0} (g : Ghosts D) (old new : Log D) : Type 0 where
  pub crash : (payloads : List (List ℕ)) → HasPayloads old.pieces (g.reads old.disk) payloads
      → Leaves g.moment g.images_since old.disk new.disk (StandsBetween old.pieces payloads (payloads ++ old.staged))
  pub stays : (t : ℕ) (low payloads : List (List ℕ)) → t ≤ g.moment old.disk → HasPayloads old.pieces (g.reads old.disk) payloads
      → StandsSince g.images_since old.disk t old.pieces low payloads → StandsSince g.images_since new.disk t old.pieces low (payloads ++ old.staged)

-- .. and where it answers that all is durable at this moment
pub record IsDurable {D : Type 0} (g : Ghosts D) (old new : Log D) (moment : ℕ) : Type 0 where
  pub has : (payloads : List (List ℕ)) → HasPayloads old.pieces (g.reads old.disk) payloads → HasPayloads old.pieces (g.reads new.disk) (payloads ++ old.staged)
  pub settled : NothingPending (g.reads new.disk) (g.images new.disk)
  pub acknowledged : (payloads : List (List ℕ)) → HasPayloads old.pieces (g.reads new.disk) payloads → StandsSince g.images_since new.disk moment old.pieces payloads payloads

module _ {D : Type 0} (g : Ghosts D) where
  abbrev Synced : List Entry → Log D → Type 0
  Synced line log = IsSynced g line log

  abbrev HasAcks : ℕ → D → List (List ℕ) → List (List ℕ) → List Acknowledgement → Type 0
  HasAcks pieces disk payloads high = Each (λ (ack : Acknowledgement). LeavesPayloads g pieces disk (take (length ack.records) payloads) high ack.moment)

  pub synced_quiet : (line : List Entry) (e : Entry) (log : Log D) → IsQuiet e → Synced line log → Synced (line ++ e ∷ []) log
  synced_quiet line e log quiet s =
      let same : is_failed (line ++ e ∷ []) ≡ is_failed line = any_push_not breaks line e quiet.whole in
      record {
        payloads = s.payloads;
        more = s.more;
        spelled = rw (applied_more line e quiet.unacknowledged) s.spelled;
        staged = rw (applied_more line e quiet.unacknowledged, staged_more line e quiet.unacknowledged, quiet.no_put, append-nil (unapplied_in line)) s.staged;
        since = rw (acks_quiet line e quiet.no_moment, same) s.since;
        at_rest = λ h. s.at_rest (sym same ∙ h);
      }

  -- a record is staged
  pub synced_put : (line : List Entry) (r : BenchRecord) (text : List ℕ) (log : Log D) → is_failed line ≡ false → IsText log.pieces (recorded line) r text → Synced line log
      → Synced (line ++ Put r ∷ []) (record log { staged = log.staged ++ text ∷ [] })
  synced_put line r text log unfailed is_text s =
      let same : is_failed (line ++ Put r ∷ []) ≡ is_failed line = any_push_not breaks line (Put r) refl in
      let rest = s.at_rest unfailed in
      record {
        payloads = s.payloads;
        more = s.more ++ text ∷ [];
        spelled = rw (applied_more line (Put r) refl) s.spelled;
        staged = rw (applied_more line (Put r) refl, staged_more line (Put r) refl) (spell_append log.pieces (applied_in line) (unapplied_in line) (r ∷ []) s.more (text ∷ []) s.staged (subst (λ rs. IsText log.pieces rs r text) (recorded_split line) is_text, tt));
        since = rw (acks_quiet line (Put r) refl, same, unfailed) (subst (λ b. HasAcks log.pieces log.disk s.payloads (cond b (s.payloads ++ s.more) s.payloads) (acknowledgements line)) unfailed s.since);
        at_rest = λ h. (rest.0, (rest.1.0, ap (λ l. l ++ text ∷ []) rest.1.1));
      }

  -- what `kept` of `commit` says of the acknowledgements so far
  acks_kept : (pieces : ℕ) (old new : D) (payloads more : List (List ℕ)) (list : List Acknowledgement) → g.moment old ≤ g.moment new
      → ((t : ℕ) (low : List (List ℕ)) → t ≤ g.moment old → StandsSince g.images_since old t pieces low payloads → StandsSince g.images_since new t pieces low (payloads ++ more))
      → HasAcks pieces old payloads payloads list → HasAcks pieces new payloads (payloads ++ more) list
  acks_kept pieces old new payloads more list later kept since =
      Each-weaker (λ (ack : Acknowledgement). LeavesPayloads g pieces old (take (length ack.records) payloads) payloads ack.moment) (λ (ack : Acknowledgement). LeavesPayloads g pieces new (take (length ack.records) payloads) (payloads ++ more) ack.moment)
      (λ ack h. record { not_later = omega (arith, later, h.not_later); stands = kept ack.moment (take (length ack.records) payloads) h.not_later h.stands }) list since

  since_when_whole : (line : List Entry) (log : Log D) (s : Synced line log) → is_failed line ≡ false → HasAcks log.pieces log.disk s.payloads s.payloads (acknowledgements line)
  since_when_whole line log s unfailed = subst (λ b. HasAcks log.pieces log.disk s.payloads (cond b (s.payloads ++ s.more) s.payloads) (acknowledgements line)) unfailed s.since

  -- a commit that is Ok
  pub synced_acked : (line : List Entry) (old new : Log D) → is_failed line ≡ false → new.pieces ≡ old.pieces → new.staged ≡ [] → new.failed ≡ false
      → HasCommitted g old new → IsDurable g old new (g.moment new.disk) → Synced line old → Synced (line ++ Acked (g.moment new.disk) ∷ []) new
  synced_acked line old new unfailed pieces none whole committed durable s =
      let e = Acked (g.moment new.disk) in
      let rest = s.at_rest unfailed in
      let same : is_failed (line ++ e ∷ []) ≡ false = any_push_not breaks line e refl ∙ unfailed in
      let all : List (List ℕ) = s.payloads ++ s.more in
      let has_all : HasPayloads old.pieces (g.reads new.disk) all = subst (λ m. HasPayloads old.pieces (g.reads new.disk) (s.payloads ++ m)) rest.1.1 (durable.has s.payloads rest.0) in
      let spelled : SpellsRecords old.pieces [] (recorded line) all = rw (recorded_split line) (spell_append old.pieces [] (applied_in line) (unapplied_in line) s.payloads s.more s.spelled s.staged) in
      let earlier : HasAcks old.pieces new.disk s.payloads all (acknowledgements line) =
      acks_kept old.pieces old.disk new.disk s.payloads s.more (acknowledgements line) (committed.crash s.payloads rest.0).later
      (λ t low le h. subst (λ m. StandsSince g.images_since new.disk t old.pieces low (s.payloads ++ m)) rest.1.1 (committed.stays t low s.payloads le rest.0 h)) (since_when_whole line old s unfailed) in
      record {
        payloads = all;
        more = [];
        spelled = rw (applied_all line e refl, pieces) spelled;
        staged = rw (staged_none line e refl) tt;
        since =
            rw (same, acks_push [] line e, pieces)
            (Each-append (λ (ack : Acknowledgement). LeavesPayloads g old.pieces new.disk (take (length ack.records) all) all ack.moment) (acknowledgements line) (at_moment (recorded line) (g.moment new.disk) ∷ [])
            (Each-weaker (λ (ack : Acknowledgement). LeavesPayloads g old.pieces new.disk (take (length ack.records) s.payloads) all ack.moment × IsPrefixOf ack.records (applied_in line)) (λ (ack : Acknowledgement). LeavesPayloads g old.pieces new.disk (take (length ack.records) all) all ack.moment)
            (λ ack h.
            let short : length ack.records ≤ length s.payloads = omega (arith, prefix_length ack.records (applied_in line) h.1, spell_length old.pieces [] (applied_in line) s.payloads s.spelled) in
            record { not_later = h.0.not_later; stands = rw (take-append-le (length ack.records) s.payloads s.more short) h.0.stands })
            (acknowledgements line) (Each-both (λ (ack : Acknowledgement). LeavesPayloads g old.pieces new.disk (take (length ack.records) s.payloads) all ack.moment) (λ (ack : Acknowledgement). IsPrefixOf ack.records (applied_in line)) (acknowledgements line) earlier (acks_applied [] line)))
            (record { not_later = omega arith; stands = rw (take_whole all (length (recorded line)) (spell_length old.pieces [] (recorded line) all spelled)) (durable.acknowledged all has_all) }, tt));
        at_rest = λ h. (rw pieces has_all, (durable.settled, none));
      }

  -- a commit that met a fault
  pub synced_broken : (line : List Entry) (old new : Log D) (faults : ℕ) → is_failed line ≡ false → new.pieces ≡ old.pieces → new.failed ≡ true
      → HasCommitted g old new → Synced line old → Synced (line ++ Broken faults ∷ []) new
  synced_broken line old new faults unfailed pieces failed committed s =
      let e = Broken faults in
      let rest = s.at_rest unfailed in
      let broken : is_failed (line ++ e ∷ []) ≡ true = any_push_yes breaks line e refl in
      record {
        payloads = s.payloads;
        more = s.more;
        spelled = rw (applied_more line e refl, pieces) s.spelled;
        staged = rw (applied_more line e refl, staged_more line e refl, append-nil (unapplied_in line), pieces) s.staged;
        since =
            rw (broken, acks_quiet line e refl, pieces)
            (acks_kept old.pieces old.disk new.disk s.payloads s.more (acknowledgements line) (committed.crash s.payloads rest.0).later
            (λ t low le h. subst (λ m. StandsSince g.images_since new.disk t old.pieces low (s.payloads ++ m)) rest.1.1 (committed.stays t low s.payloads le rest.0 h)) (since_when_whole line old s unfailed));
        at_rest = λ h. absurd (true≢false (sym broken ∙ h));
      }

  -- the beginning: what `attach` says, and that the journal was opened no later than now
  pub synced_begun : (rs : List BenchRecord) (payloads : List (List ℕ)) (a : Attachment) (log : Log D) → SpellsRecords log.pieces [] rs payloads → log.staged ≡ [] → log.failed ≡ false
      → a.opened ≤ g.moment log.disk → HasPayloads log.pieces (g.reads log.disk) payloads → NothingPending (g.reads log.disk) (g.images log.disk) → StandsSince g.images_since log.disk a.opened log.pieces payloads payloads
      → Synced (map Put rs ++ Attached a ∷ []) log
  synced_begun rs payloads a log spelled none whole later has settled stands =
      let e = Attached a in
      let same : is_failed (map Put rs ++ e ∷ []) ≡ false = any_push_not breaks (map Put rs) e refl ∙ no_broken rs in
      record {
        payloads = payloads;
        more = [];
        spelled = rw (applied_all (map Put rs) e refl, recorded_puts rs) spelled;
        staged = rw (staged_none (map Put rs) e refl) tt;
        since =
            rw (same, acks_push [] (map Put rs) e, recorded_puts rs, acks_of_puts [] rs)
            (record { not_later = later; stands = rw (take_whole payloads (length rs) (spell_length log.pieces [] rs payloads spelled)) stands }, tt);
        at_rest = λ h. (has, (settled, none));
      }

-- ---- what it says of records

lawful_front : (k : ℕ) (old new : Forest) (rs qs : List BenchRecord) → GrowsWithAll k old (rs ++ qs) new → (mid : Forest) × GrowsWithAll k old rs mid
lawful_front k old new [] qs h = (old, refl)
lawful_front k old new (r ∷ rs) qs h =
    let rest = lawful_front k h.0 new rs qs h.1.1 in
    (rest.0, (h.0, (h.1.0, rest.1)))

pub lawful_first : (k : ℕ) (rs qs : List BenchRecord) → AreLawfulInTurn k (rs ++ qs) → AreLawfulInTurn k rs
lawful_first k rs qs h = lawful_front k no_node h.0 rs qs h.1

-- a file between payloads reads between their records
stands_reads : (k : ℕ) (low high : List BenchRecord) (ps : List (List ℕ)) (file : List ℕ) → SpellsRecords k [] high ps → IsPrefixOf low high → AreLawfulInTurn k high
    → StandsBetween k (take (length low) ps) ps file → ReadsBetween k low high file
stands_reads k low high ps file spelled front lawful stands =
    let payloads : List (List ℕ) = stands.0 in
    let n : ℕ = length payloads in
    let rs : List BenchRecord = take n high in
    let split : high ≡ rs ++ drop n high = sym (take-append-drop n high) in
    let same : length high ≡ length ps = spell_length k [] high ps spelled in
    let long : length (take (length low) ps) ≤ n = prefix_length (take (length low) ps) payloads stands.2 in
    let within : n ≤ length ps = prefix_length payloads ps stands.3 in
    let low_within : length low ≤ length high = prefix_length low high front in
    record {
      records = rs;
      reads = record {
        payloads = payloads;
        stands = stands.1;
        spelled = spell_front k [] high payloads stands.3.0 (subst (SpellsRecords k [] high) stands.3.1 spelled);
        lawful = lawful_first k rs (drop n high) (subst (AreLawfulInTurn k) split lawful);
      };
      above = prefix_of_longer low rs high front.0 (drop n high) front.1 split
          (omega (arith, length_take_of (length low) ps (omega (arith, low_within, same)), length_take_of n high (omega (arith, within, same)), long));
      below = (drop n high, split);
    }

module _ {D : Type 0} (g : Ghosts D) where
  reads_at : (line : List Entry) (log : Log D) → AreLawfulInTurn log.pieces (recorded line) → (s : IsSynced g line log)
      → (failed : Bool) (low : List BenchRecord) (image : List ℕ) → IsPrefixOf low (applied_in line)
      → StandsBetween log.pieces (take (length low) s.payloads) (cond failed (s.payloads ++ s.more) s.payloads) image
      → ReadsBetween log.pieces low (cond failed (recorded line) (applied_in line)) image
  reads_at line log lawful s true low image front stands =
      let short : length low ≤ length s.payloads = omega (arith, prefix_length low (applied_in line) front, spell_length log.pieces [] (applied_in line) s.payloads s.spelled) in
      stands_reads log.pieces low (recorded line) (s.payloads ++ s.more) image
      (rw (recorded_split line) (spell_append log.pieces [] (applied_in line) (unapplied_in line) s.payloads s.more s.spelled s.staged))
      (rw (recorded_split line) (prefix_then low (applied_in line) (unapplied_in line) front)) lawful
      (rw (take-append-le (length low) s.payloads s.more short) stands)
  reads_at line log lawful s false low image front stands =
      stands_reads log.pieces low (applied_in line) s.payloads image s.spelled front
      (lawful_first log.pieces (applied_in line) (unapplied_in line) (subst (AreLawfulInTurn log.pieces) (recorded_split line) lawful)) stands

  -- the session's receipts
  pub receipts_kept : (line : List Entry) (log : Log D) → AreLawfulInTurn log.pieces (recorded line) → IsSynced g line log
      → KeepsReceipts log.pieces g line log.disk
  receipts_kept line log lawful s = record {
    moments = Each-weaker (λ (ack : Acknowledgement). LeavesPayloads g log.pieces log.disk (take (length ack.records) s.payloads) (cond (is_failed line) (s.payloads ++ s.more) s.payloads) ack.moment)
        (λ (ack : Acknowledgement). ack.moment ≤ g.moment log.disk) (λ ack h. h.not_later) (acknowledgements line) s.since;
    since =
        Each-weaker (λ (ack : Acknowledgement). LeavesPayloads g log.pieces log.disk (take (length ack.records) s.payloads) (cond (is_failed line) (s.payloads ++ s.more) s.payloads) ack.moment × IsPrefixOf ack.records (applied_in line))
        (λ (ack : Acknowledgement). (image : List ℕ) → g.images_since log.disk ack.moment image → ReadsBetween log.pieces ack.records (most_left line) image)
        (λ ack h image there. reads_at line log lawful s (is_failed line) ack.records image h.1 (h.0.stands image there))
        (acknowledgements line)
        (Each-both (λ (ack : Acknowledgement). LeavesPayloads g log.pieces log.disk (take (length ack.records) s.payloads) (cond (is_failed line) (s.payloads ++ s.more) s.payloads) ack.moment)
        (λ (ack : Acknowledgement). IsPrefixOf ack.records (applied_in line)) (acknowledgements line) s.since (acks_applied [] line));
    settled = λ h. (s.at_rest h).1.0;
  }
