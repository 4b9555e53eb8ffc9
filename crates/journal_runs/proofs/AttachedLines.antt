-- A line that begins with records replayed and an Attached.
use Rattle.std.proofs.Common.{◌≡◌, ℕ, List, [], ◌∷◌, ◌++◌, refl, ap, sym, ◌∙◌, subst, append_assoc, map}
use Rattle.std.proofs.lemmas.List.{append-nil}
use Rattle.std.proofs.lemmas.Bool.{true≢false}
use Rattle.std.specs.Prelude.{Bool, true, false, Some}
use Rattle.std.specs.List.{list_any, AllByRecursion as Each}
use Rattle.draughts_board.specs.Board.{Board}
use Rattle.bench_records.specs.declared.records.BenchRecord.{BenchRecord}
use Rattle.bench_records.specs.declared.records.BenchRecord.TheVariants.{Begin, Solve, Expand}
use Rattle.bench_core.specs.Records.{begun}
use Rattle.tree_manager.specs.declared.entries.Attachment.{Attachment}
use Rattle.tree_manager.specs.declared.entries.Entry.{Entry}
use Rattle.tree_manager.specs.declared.entries.Entry.TheVariants.{Put, Attached, Leased, Released, Acked, Broken}
use Rattle.tree_manager.specs.Entries.{record_put, acknowledges}
use Rattle.tree_manager.specs.Lines.{recorded, applied_in, unapplied_in, attachment_of, behind_attached}
use Rattle.tree_manager.specs.Receipts.{Acknowledgement, acknowledged_by}
use Rattle.tree_manager.proofs.LineLemmas.{recorded_split}

-- the line of a session that was attached behind these records, and went on
abbrev pub line_from : List BenchRecord → Attachment → List Entry → List Entry
line_from before a rest = map Put before ++ Attached a ∷ rest

pub attached_from : (before : List BenchRecord) (a : Attachment) (rest : List Entry) → attachment_of (line_from before a rest) ≡ Some a
attached_from [] a rest = refl
attached_from (r ∷ before) a rest = attached_from before a rest

pub behind_from : (before : List BenchRecord) (a : Attachment) (rest : List Entry) → behind_attached (line_from before a rest) ≡ rest
behind_from [] a rest = refl
behind_from (r ∷ before) a rest = behind_from before a rest

pub recorded_from : (before : List BenchRecord) (a : Attachment) (rest : List Entry) → recorded (line_from before a rest) ≡ before ++ recorded rest
recorded_from [] a rest = refl
recorded_from (r ∷ before) a rest = ap (λ (rs : List BenchRecord). r ∷ rs) (recorded_from before a rest)

pub any_from : (before : List BenchRecord) (a : Attachment) (rest : List Entry) → list_any acknowledges (line_from before a rest) ≡ true
any_from [] a rest = refl
any_from (r ∷ before) a rest = any_from before a rest

pub unapplied_from : (before : List BenchRecord) (a : Attachment) (rest : List Entry) → unapplied_in (line_from before a rest) ≡ unapplied_in rest
unapplied_from [] a rest = refl
unapplied_from (r ∷ before) a rest = rw (any_from before a rest) (unapplied_from before a rest)

-- where nothing is staged, all is applied
pub all_applied : (line : List Entry) → unapplied_in line ≡ [] → recorded line ≡ applied_in line
all_applied line none = recorded_split line ∙ (ap (λ (rs : List BenchRecord). applied_in line ++ rs) none ∙ append-nil (applied_in line))

-- ---- acknowledgements

abbrev acked : ℕ → List BenchRecord → Acknowledgement
acked m rs = record { moment = m; records = rs }

-- what holds of each holds of the Attached
pub at_attached : (P : Acknowledgement → Type 0) (done before : List BenchRecord) (a : Attachment) (rest : List Entry) → Each P (acknowledged_by done (line_from before a rest)) → P (record { moment = a.opened; records = done ++ before })
at_attached P done [] a rest each = subst (λ (rs : List BenchRecord). P (acked a.opened rs)) (sym (append-nil done)) each.0
at_attached P done (r ∷ before) a rest each =
    subst (λ (rs : List BenchRecord). P (acked a.opened rs)) (append_assoc done (r ∷ []) before) (at_attached P (done ++ r ∷ []) before a rest each)

module _ (P : Acknowledgement → Type 0) where
  abbrev Found : List BenchRecord → List Entry → Type 0
  Found done line = (m : ℕ) × P (acked m (done ++ applied_in line))

  abbrev Finds : List Entry → Type 0
  Finds line = (done : List BenchRecord) → list_any acknowledges line ≡ true → Each P (acknowledged_by done line) → Found done line

  found_behind : (done rs : List BenchRecord) (line : List Entry) → Found (done ++ rs) line → (m : ℕ) × P (acked m (done ++ (rs ++ applied_in line)))
  found_behind done rs line found = (found.0, subst (λ (qs : List BenchRecord). P (acked found.0 qs)) (append_assoc done rs (applied_in line)) found.1)

  found_later : (done : List BenchRecord) (e : Entry) (line : List Entry) → list_any acknowledges line ≡ true → Found (done ++ record_put e) line → Found done (e ∷ line)
  found_later done e line h found = rw h (found_behind done (record_put e) line found)

  found_here : (done : List BenchRecord) (e : Entry) (line : List Entry) (m : ℕ) → list_any acknowledges line ≡ false → P (acked m done) → Found done (e ∷ line)
  found_here done e line m h p = (m, rw h (subst (λ (qs : List BenchRecord). P (acked m qs)) (sym (append-nil done)) p))

  -- .. and of the last, which has all that is applied
  found_at_last : (done : List BenchRecord) (e : Entry) (line : List Entry) (b : Bool) → list_any acknowledges line ≡ b → Finds line → list_any acknowledges (e ∷ line) ≡ true → Each P (acknowledged_by done (e ∷ line)) → Found done (e ∷ line)
  found_at_last done (Put r) line true h ih any each = found_later done (Put r) line h (ih (done ++ r ∷ []) h each)
  found_at_last done (Put r) line false h ih any each = absurd (true≢false (sym any ∙ h))
  found_at_last done (Attached a) line true h ih any each = found_later done (Attached a) line h (ih (done ++ []) h each.1)
  found_at_last done (Attached a) line false h ih any each = found_here done (Attached a) line a.opened h each.0
  found_at_last done (Leased l) line true h ih any each = found_later done (Leased l) line h (ih (done ++ []) h each)
  found_at_last done (Leased l) line false h ih any each = absurd (true≢false (sym any ∙ h))
  found_at_last done (Released id) line true h ih any each = found_later done (Released id) line h (ih (done ++ []) h each)
  found_at_last done (Released id) line false h ih any each = absurd (true≢false (sym any ∙ h))
  found_at_last done (Acked m) line true h ih any each = found_later done (Acked m) line h (ih (done ++ []) h each.1)
  found_at_last done (Acked m) line false h ih any each = found_here done (Acked m) line m h each.0
  found_at_last done (Broken f) line true h ih any each = found_later done (Broken f) line h (ih (done ++ []) h each)
  found_at_last done (Broken f) line false h ih any each = absurd (true≢false (sym any ∙ h))

  pub at_last : (line : List Entry) → Finds line
  at_last [] done any each = absurd (true≢false (sym any))
  at_last (e ∷ line) done any each = found_at_last done e line (list_any acknowledges line) refl (at_last line) any each

-- ---- the roots of a list of records

begun_cons : (r : BenchRecord) (rest : List BenchRecord) → begun (r ∷ rest) ≡ begun (r ∷ []) ++ begun rest
begun_cons (Begin p) rest = refl
begun_cons (Solve n p shown) rest = refl
begun_cons (Expand n) rest = refl

pub begun_append : (rs qs : List BenchRecord) → begun (rs ++ qs) ≡ begun rs ++ begun qs
begun_append [] qs = refl
begun_append (r ∷ rs) qs =
    begun_cons r (rs ++ qs)
    ∙ (ap (λ (ps : List Board). begun (r ∷ []) ++ ps) (begun_append rs qs)
    ∙ (sym (append_assoc (begun (r ∷ [])) (begun rs) (begun qs)) ∙ ap (λ (ps : List Board). ps ++ begun qs) (sym (begun_cons r rs))))
