-- Roots that are staged, and taken back.
use Rattle.std.proofs.Common.{◌≡◌, ◌≤◌, ◌<◌, ◌+◌, ◌-◌, ℕ, zero, suc, List, [], ◌∷◌, ◌++◌, map, take, drop, length, refl, ap, sym, ◌∙◌, subst, arith, ⊎_elim, append_assoc, append-nil, length-append, get_or}
use Rattle.std.specs.Prelude.{Bool, true, false, cond, ◌||◌, ◌↔◌, filter, Contains}
use Rattle.std.specs.List.{list_any, AllByRecursion as Each}
use Rattle.std.proofs.lemmas.List.{same_from_push, map-append, length-take, take_at}
use Rattle.std.proofs.Math.Seq.{split_at}
use Rattle.proof_tree.specs.Sound.{root_positions}
use Rattle.std.proofs.lemmas.Bool.{true≢false, cases_Bool, or_left, or_cases, false_from_ne_true}
use Rattle.std.proofs.lemmas.List.Folds.{list_any-append}
use Rattle.std.proofs.lemmas.List.Elements.{Contains-append_right}
use Rattle.draughts_board.specs.Same.{same_board-Decides}
use Rattle.draughts_board.specs.Board.{Board, same_board}
use Rattle.lease_table.specs.declared.leases.Row.{Row}
use Rattle.lease_table.specs.Rows.{is_live_row}
use Rattle.bench_records.specs.declared.records.BenchRecord.{BenchRecord}
use Rattle.bench_records.specs.declared.records.BenchRecord.TheVariants.{Begin, Solve, Expand}
use Rattle.bench_records.specs.Texts.{IsText}
use Rattle.bench_core.specs.Records.{begun, is_work}
use Rattle.bench_core.specs.States.{with_lease_rows}
use Rattle.bench_core.specs.Cores.{CanApplyAll, Core, MayStage, with_staged, keep_for, IsForgotten}
use Rattle.disk_journal.specs.Log.{Log}
use Rattle.tree_manager.specs.Receipts.{SpellsRecords}
use Rattle.tree_manager.specs.Sessions.{with_roots, with_roots_staged, AreNewRoots, MayStageRoots}
use Rattle.tree_manager.proofs.ReceiptLemmas.{spell_append, spell_length}
use Rattle.tree_manager.proofs.CoreLemmas.{any_contains}

keep_none_row : (kept : Bool) (r : BenchRecord) (row : Row) → is_work r ≡ false → keep_for kept r row ≡ row
keep_none_row kept (Begin p) row h = refl
keep_none_row kept (Solve n p shown) row h = absurd (true≢false h)
keep_none_row kept (Expand n) row h = absurd (true≢false h)

-- a root keeps no lease
pub keep_none : (kept : Bool) (r : BenchRecord) (rows : List Row) → is_work r ≡ false → map (keep_for kept r) rows ≡ rows
keep_none kept r [] h = refl
keep_none kept r (row ∷ rows) h = rw (keep_none_row kept r row h, keep_none kept r rows h) refl

pub root_staged : (core : Core) (p : Board) → with_staged core (Begin p) ≡ with_roots_staged core (p ∷ [])
root_staged core p = ap (λ rows. record core { state = with_lease_rows core.state rows; staged = core.staged ++ Begin p ∷ [] }) (keep_none true (Begin p) core.state.leases.rows refl)

-- a root that is staged last is taken back
pub root_forgotten : (old new : Core) (front : List BenchRecord) (r : BenchRecord) → IsForgotten old new → old.staged ≡ front ++ r ∷ [] → is_work r ≡ false
    → filter (is_live_row old.state.leases.limit old.state.given) old.state.leases.rows ≡ old.state.leases.rows → new ≡ record old { staged = front }
root_forgotten old new front r back is begins live =
    let same = same_from_push front new.staged r back.last (sym is ∙ back.staged) in
    let limit = old.state.leases.limit in
    let now = old.state.given in
    let rows : filter (is_live_row limit now) (map (keep_for false back.last) old.state.leases.rows) ≡ old.state.leases.rows =
    ap (filter (is_live_row limit now)) (keep_none false back.last old.state.leases.rows (subst (λ (x : BenchRecord). is_work x ≡ false) same.1 begins)) ∙ live in
    back.rest ∙ (ap (λ rs. record old { state = with_lease_rows old.state rs; staged = new.staged }) rows ∙ ap (λ rs. record old { staged = rs }) (sym same.0))

-- ---- the roots with more

pub with_roots_push : (roots ps : List Board) (p : Board) → with_roots roots (ps ++ p ∷ []) ≡ cond (list_any (same_board p) (with_roots roots ps)) (with_roots roots ps) (with_roots roots ps ++ p ∷ [])
with_roots_push roots [] p = refl
with_roots_push roots (q ∷ ps) p = with_roots_push (cond (list_any (same_board q) roots) roots (roots ++ q ∷ [])) ps p

is_same : (p : Board) → same_board p p ≡ true
is_same p = (same_board-Decides p p).1 refl

any_there : (p : Board) (roots : List Board) → list_any (same_board p) roots ≡ true → Contains roots p
any_there p [] h = absurd (true≢false (sym h))
any_there p (q ∷ roots) h = ⊎_elim
    (λ here. subst (λ (x : Board). Contains (x ∷ roots) p) ((same_board-Decides p q).0 here) (0, omega arith, refl))
    (λ there. Contains-append_right (q ∷ []) roots p (any_there p roots there))
    (or_cases (same_board p q) (list_any (same_board p) roots) h)

-- what a look-up among the roots says
pub root_found : (p : Board) (roots : List Board) (None : Type 0) → None ↔ (Contains roots p → ⊥) → (None → list_any (same_board p) roots ≡ false) × ((None → ⊥) → list_any (same_board p) roots ≡ true)
root_found p roots None says = (
  (λ none. false_from_ne_true (list_any (same_board p) roots) (λ some. says.0 none (any_there p roots some))),
  (λ found. ⊎_elim (λ some. some)
      (λ none. absurd (found (says.1 (λ there. true≢false (sym (any_contains (same_board p) roots p there (is_same p)) ∙ none)))))
      (cases_Bool (list_any (same_board p) roots))),
)

-- one position more, which is a root
pub roots_same : (roots keys ps qs : List Board) (p : Board) → roots ++ keys ≡ with_roots roots ps → list_any (same_board p) roots ≡ true → qs ≡ ps ++ p ∷ [] → roots ++ keys ≡ with_roots roots qs
roots_same roots keys ps qs p h known is =
    let all : list_any (same_board p) (with_roots roots ps) ≡ true =
    ap (list_any (same_board p)) (sym h) ∙ (list_any-append (same_board p) roots keys ∙ or_left (list_any (same_board p) roots) (list_any (same_board p) keys) known) in
    h ∙ sym (ap (with_roots roots) is ∙ (with_roots_push roots ps p ∙ ap (λ b. cond b (with_roots roots ps) (with_roots roots ps ++ p ∷ [])) all))

added_by : (b : Bool) (roots keys : List Board) (p : Board) → roots ++ cond b keys (keys ++ p ∷ []) ≡ cond b (roots ++ keys) ((roots ++ keys) ++ p ∷ [])
added_by true roots keys p = refl
added_by false roots keys p = sym (append_assoc roots keys (p ∷ []))

-- .. which is none
pub roots_more : (roots keys keys' ps qs : List Board) (p : Board) → roots ++ keys ≡ with_roots roots ps → list_any (same_board p) roots ≡ false → qs ≡ ps ++ p ∷ []
    → keys' ≡ cond (list_any (same_board p) keys) keys (keys ++ p ∷ []) → roots ++ keys' ≡ with_roots roots qs
roots_more roots keys keys' ps qs p h absent is added =
    let test : list_any (same_board p) keys ≡ list_any (same_board p) (with_roots roots ps) =
    sym (ap (list_any (same_board p)) (sym h) ∙ (list_any-append (same_board p) roots keys ∙ ap (λ b. b || list_any (same_board p) keys) absent)) in
    ap (λ ks. roots ++ ks) added
    ∙ (added_by (list_any (same_board p) keys) roots keys p
    ∙ (ap (λ b. cond b (roots ++ keys) ((roots ++ keys) ++ p ∷ [])) test
    ∙ (ap (λ w. cond (list_any (same_board p) (with_roots roots ps)) w (w ++ p ∷ [])) h ∙ sym (ap (with_roots roots) is ∙ with_roots_push roots ps p))))

-- ---- positions that are no roots

new_push : (roots keys : List Board) (p : Board) → AreNewRoots roots keys → (Contains (roots ++ keys) p → ⊥) → AreNewRoots roots (keys ++ p ∷ [])
new_push roots [] p h absent = ((λ there. absent (subst (λ l. Contains l p) (sym (append-nil roots)) there)), tt)
new_push roots (q ∷ keys) p h absent = (h.0, new_push (roots ++ q ∷ []) keys p h.1 (λ there. absent (subst (λ l. Contains l p) (append_assoc roots (q ∷ []) keys) there)))

new_by : (b : Bool) (roots keys : List Board) (p : Board) → list_any (same_board p) keys ≡ b → AreNewRoots roots keys → list_any (same_board p) roots ≡ false → AreNewRoots roots (cond b keys (keys ++ p ∷ []))
new_by true roots keys p is h absent = h
new_by false roots keys p is h absent =
    new_push roots keys p h (λ there. true≢false (sym (any_contains (same_board p) (roots ++ keys) p there (is_same p)) ∙ (list_any-append (same_board p) roots keys ∙ (ap (λ b. b || list_any (same_board p) keys) absent ∙ is))))

pub new_more : (roots keys keys' : List Board) (p : Board) → AreNewRoots roots keys → list_any (same_board p) roots ≡ false → keys' ≡ cond (list_any (same_board p) keys) keys (keys ++ p ∷ []) → AreNewRoots roots keys'
new_more roots keys keys' p h absent added = subst (AreNewRoots roots) (sym added) (new_by (list_any (same_board p) keys) roots keys p refl h absent)

-- ---- staging in turn

pub begun_more : (rs : List BenchRecord) (ps : List Board) → begun (rs ++ map Begin ps) ≡ begun rs ++ ps
begun_more [] [] = refl
begun_more [] (p ∷ ps) = ap (λ l. p ∷ l) (begun_more [] ps)
begun_more (Begin q ∷ rs) ps = ap (λ l. q ∷ l) (begun_more rs ps)
begun_more (Solve n q shown ∷ rs) ps = begun_more rs ps
begun_more (Expand n ∷ rs) ps = begun_more rs ps

roots_then : (core : Core) (ps : List Board) (p : Board) → with_roots_staged (with_roots_staged core ps) (p ∷ []) ≡ with_roots_staged core (ps ++ p ∷ [])
roots_then core ps p = ap (λ rs. record core { staged = rs }) (append_assoc core.staged (map Begin ps) (Begin p ∷ []) ∙ ap (λ rs. core.staged ++ rs) (sym (map-append Begin ps (p ∷ []))))

may_push : (core : Core) (ps : List Board) (p : Board) → MayStageRoots core ps → MayStage (with_roots_staged core ps) (Begin p) → MayStageRoots core (ps ++ p ∷ [])
may_push core [] p h may = (subst (λ rs. MayStage (record core { staged = rs }) (Begin p)) (append-nil core.staged) may, tt)
may_push core (q ∷ ps) p h may =
    (h.0, may_push (with_roots_staged core (q ∷ [])) ps p h.1 (subst (λ rs. MayStage (record core { staged = rs }) (Begin p)) (sym (append_assoc core.staged (Begin q ∷ []) (map Begin ps))) may))

new_front : (roots ps : List Board) (p : Board) (more : List Board) → AreNewRoots roots (ps ++ p ∷ more) → Contains (roots ++ ps) p → ⊥
new_front roots [] p more h there = h.0 (subst (λ l. Contains l p) (append-nil roots) there)
new_front roots (q ∷ ps) p more h there = new_front (roots ++ q ∷ []) ps p more h.1 (subst (λ l. Contains l p) (sym (append_assoc roots (q ∷ []) ps)) there)

-- a number of the roots is staged
pub record AreRootsStaged {D : Type 0} (base core : Core) (log new : Log D) (ps : List Board) : Type 0 where
  pub core_is : core ≡ with_roots_staged base ps
  pub may : MayStageRoots base ps
  pub grows : CanApplyAll core
  pub texts : List (List ℕ)
  pub spelled : SpellsRecords base.state.settings.pieces (base.records ++ base.staged) (map Begin ps) texts
  pub log_is : new ≡ record log { staged = log.staged ++ texts }

pub none_yet : {D : Type 0} (base : Core) (log : Log D) → CanApplyAll base → AreRootsStaged base base log log []
none_yet base log grows = record {
  core_is = ap (λ rs. record base { staged = rs }) (sym (append-nil base.staged));
  may = tt;
  grows = grows;
  texts = [];
  spelled = tt;
  log_is = ap (λ ts. record log { staged = ts }) (sym (append-nil log.staged));
}

-- one more
pub one_staged : {D : Type 0} (base old new : Core) (log log' log'' : Log D) (ps qs : List Board) (p : Board) → AreRootsStaged base old log log' ps → qs ≡ ps ++ p ∷ [] → new ≡ with_roots_staged old (p ∷ []) → MayStage old (Begin p) → CanApplyAll new
    → (text : List ℕ) × IsText old.state.settings.pieces (old.records ++ old.staged) (Begin p) text × (log'' ≡ record log' { staged = log'.staged ++ text ∷ [] }) → AreRootsStaged base new log log'' qs
one_staged base old new log log' log'' ps qs p h is same may grows journal = subst (AreRootsStaged base new log log'') (sym is) (record {
  core_is = same ∙ (ap (λ c. with_roots_staged c (p ∷ [])) h.core_is ∙ roots_then base ps p);
  may = may_push base ps p h.may (subst (λ c. MayStage c (Begin p)) h.core_is may);
  grows = grows;
  texts = h.texts ++ journal.0 ∷ [];
  spelled = subst (λ rs. SpellsRecords base.state.settings.pieces (base.records ++ base.staged) rs (h.texts ++ journal.0 ∷ [])) (sym (map-append Begin ps (p ∷ [])))
      (spell_append base.state.settings.pieces (base.records ++ base.staged) (map Begin ps) (Begin p ∷ []) h.texts (journal.0 ∷ []) h.spelled (
        subst (λ rs. IsText base.state.settings.pieces rs (Begin p) journal.0) (sym (append_assoc base.records base.staged (map Begin ps)))
            (subst (λ (c : Core). IsText c.state.settings.pieces (c.records ++ c.staged) (Begin p) journal.0) h.core_is journal.1),
        tt,
      ));
  log_is = journal.2 ∙ (ap (λ (l : Log _). record l { staged = l.staged ++ journal.0 ∷ [] }) h.log_is ∙ ap (λ ts. record log { staged = ts }) (append_assoc log.staged h.texts (journal.0 ∷ [])));
})

-- ---- taking back from the end

-- the last of a front, where those behind a place have a property
pub last_of : {X : Type 0} (P : X → Type 0) (xs : List X) (k n : ℕ) → Each P (drop k xs) → k ≤ n → n < length xs → (x : X) × P x × (take (suc n) xs ≡ take n xs ++ x ∷ [])
last_of P [] k n each le within = absurd (omega (arith, within))
last_of P (x ∷ xs) zero zero each le within = (x, each.0, refl)
last_of P (x ∷ xs) (suc k) zero each le within = absurd (omega (arith, le))
last_of P (x ∷ xs) zero (suc n) each le within =
    let rest = last_of P xs 0 n each.1 (omega arith) (omega (arith, within)) in (rest.0, rest.1, ap (λ l. x ∷ l) rest.2)
last_of P (x ∷ xs) (suc k) (suc n) each le within =
    let rest = last_of P xs k n each (omega (arith, le)) (omega (arith, within)) in (rest.0, rest.1, ap (λ l. x ∷ l) rest.2)

each_unit : {X : Type 0} (xs : List X) → Each (λ (x : X). Unit {0}) xs
each_unit [] = tt
each_unit (x ∷ xs) = (tt, each_unit xs)

next_less : (l j : ℕ) → j < l → l - j ≡ suc (l - (j + 1))
next_less l j lt = omega (arith, lt)

-- one root fewer in the bench
pub bench_fewer : (base old new : Core) (count j : ℕ) → old ≡ record base { staged = take (length base.staged - j) base.staged } → j < count → count ≤ length base.staged
    → Each (λ r. is_work r ≡ false) (drop (length base.staged - count) base.staged) → filter (is_live_row base.state.leases.limit base.state.given) base.state.leases.rows ≡ base.state.leases.rows
    → IsForgotten old new → new ≡ record base { staged = take (length base.staged - (j + 1)) base.staged }
bench_fewer base old new count j is lt le roots live back =
    let l : ℕ = length base.staged in
    let n : ℕ = l - (j + 1) in
    let last = last_of (λ r. is_work r ≡ false) base.staged (l - count) n roots (omega (arith, lt, le)) (omega (arith, lt, le)) in
    root_forgotten (record base { staged = take (l - j) base.staged }) new (take n base.staged) last.0 (subst (λ x. IsForgotten x new) is back)
    (ap (λ m. take m base.staged) (next_less l j (omega (arith, lt, le))) ∙ last.2) last.1 live

-- one text fewer in the journal
pub journal_fewer : {D : Type 0} (base old new : Log D) (count j : ℕ) → old ≡ record base { staged = take (length base.staged - j) base.staged } → j < count → count ≤ length base.staged
    → (text : List ℕ) × (old.staged ≡ new.staged ++ text ∷ []) → new ≡ record old { staged = new.staged } → new ≡ record base { staged = take (length base.staged - (j + 1)) base.staged }
journal_fewer base old new count j is lt le shorter rest =
    let l : ℕ = length base.staged in
    let n : ℕ = l - (j + 1) in
    let last = last_of (λ x. Unit {0}) base.staged 0 n (each_unit base.staged) (omega arith) (omega (arith, lt, le)) in
    let all : old.staged ≡ take n base.staged ++ last.0 ∷ [] = ap (λ (x : Log _). x.staged) is ∙ (ap (λ m. take m base.staged) (next_less l j (omega (arith, lt, le))) ∙ last.2) in
    let same = same_from_push (take n base.staged) new.staged last.0 shorter.0 (sym all ∙ shorter.1) in
    rest ∙ (ap (λ (x : Log _). record x { staged = new.staged }) is ∙ ap (λ ts. record base { staged = ts }) (sym same.0))

-- ---- what staging and taking back ask for

known_positions : (base core : Core) (ps : List Board) → core ≡ with_roots_staged base ps → root_positions core.state.forest ++ begun core.staged ≡ (root_positions base.state.forest ++ begun base.staged) ++ ps
known_positions base core ps is =
    ap (λ (c : Core). root_positions c.state.forest ++ begun c.staged) is
    ∙ (ap (λ l. root_positions base.state.forest ++ l) (begun_more base.staged ps) ∙ sym (append_assoc (root_positions base.state.forest) (begun base.staged) ps))

pub next_is_new : (base core : Core) (added : List Board) (i : ℕ) (p : Board) → core ≡ with_roots_staged base (take i added) → AreNewRoots (root_positions base.state.forest ++ begun base.staged) added → i < length added → p ≡ get_or added i p
    → Contains (root_positions core.state.forest ++ begun core.staged) p → ⊥
next_is_new base core added i p is new within at there =
    let known : List Board = root_positions base.state.forest ++ begun base.staged in
    let split : added ≡ take i added ++ p ∷ drop (suc i) added = split_at added i p within ∙ ap (λ (x : Board). take i added ++ x ∷ drop (suc i) added) (sym at) in
    new_front known (take i added) p (drop (suc i) added) (subst (AreNewRoots known) split new) (subst (λ l. Contains l p) (known_positions base core (take i added) is) there)

pub next_has_room : (base core : Core) (added : List Board) (i : ℕ) → core ≡ with_roots_staged base (take i added) → length (root_positions base.state.forest ++ begun base.staged) + length added ≤ 65536 → i < length added
    → length (root_positions core.state.forest ++ begun core.staged) < 65536
next_has_room base core added i is room within =
    let known : List Board = root_positions base.state.forest ++ begun base.staged in
    omega (arith, ap length (known_positions base core (take i added) is), length-append known (take i added), length-take i added, room, within)

pub length_begins : (ps : List Board) → length (map Begin ps) ≡ length ps
length_begins [] = refl
length_begins (p ∷ ps) = ap suc (length_begins ps)

each_begins : (ps : List Board) → Each (λ r. is_work r ≡ false) (map Begin ps)
each_begins [] = tt
each_begins (p ∷ ps) = (refl, each_begins ps)

drop_front : {X : Type 0} (xs ys : List X) → drop (length xs) (xs ++ ys) ≡ ys
drop_front [] ys = refl
drop_front (x ∷ xs) ys = drop_front xs ys

back_to : (l n m : ℕ) → m ≡ n → (l + m) - n ≡ l
back_to l n m same = omega (arith, same)

-- a number of texts is staged
pub texts_staged : {D : Type 0} (base core : Core) (log new : Log D) (added : List Board) (i : ℕ) → AreRootsStaged base core log new (take i added) → i < length added → (length new.staged ≡ length log.staged + i) × (take (length new.staged - i) new.staged ≡ log.staged)
texts_staged base core log new added i h within =
    let many : length h.texts ≡ i =
    sym (spell_length base.state.settings.pieces (base.records ++ base.staged) (map Begin (take i added)) h.texts h.spelled) ∙ (length_begins (take i added) ∙ (length-take i added ∙ omega (arith, within))) in
    let all : new.staged ≡ log.staged ++ h.texts = ap (λ (l : Log _). l.staged) h.log_is in
    let count : length new.staged ≡ length log.staged + i = ap length all ∙ (length-append log.staged h.texts ∙ omega (arith, many)) in
    (count, ap (λ n. take n new.staged) (ap (λ n. n - i) count ∙ back_to (length log.staged) i i refl) ∙ (ap (take (length log.staged)) all ∙ take_at log.staged h.texts (length log.staged) refl))

pub begins_last : {D : Type 0} (base core : Core) (log new : Log D) (added : List Board) (i : ℕ) → AreRootsStaged base core log new (take i added) → i < length added → Each (λ r. is_work r ≡ false) (drop (length core.staged - i) core.staged)
begins_last base core log new added i h within =
    let ps : List Board = take i added in
    let all : core.staged ≡ base.staged ++ map Begin ps = ap (λ (c : Core). c.staged) h.core_is in
    let many : length (map Begin ps) ≡ i = length_begins ps ∙ (length-take i added ∙ omega (arith, within)) in
    let place : length core.staged - i ≡ length base.staged = ap (λ rs. length rs - i) all ∙ (ap (λ n. n - i) (length-append base.staged (map Begin ps)) ∙ back_to (length base.staged) i (length (map Begin ps)) many) in
    subst (Each (λ r. is_work r ≡ false)) (sym (ap (λ n. drop n core.staged) place ∙ (ap (drop (length base.staged)) all ∙ drop_front base.staged (map Begin ps)))) (each_begins ps)

-- the journal is as it was
pub journal_back : {D : Type 0} (base core : Core) (log new old : Log D) (added : List Board) (i : ℕ) → AreRootsStaged base core log new (take i added) → i < length added → old ≡ record new { staged = take (length new.staged - i) new.staged } → old ≡ log
journal_back base core log new old added i h within is =
    is ∙ (ap (λ ts. record new { staged = ts }) (texts_staged base core log new added i h within).1 ∙ ap (λ (l : Log _). record l { staged = log.staged }) h.log_is)
