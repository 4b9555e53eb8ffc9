-- Each line of a printed certificate leads on, from the first to the last.
use Rattle.std.proofs.Common.{◌≡◌, ℕ, zero, suc, ◌+◌, ◌-◌, ◌<◌, ◌^◌, List, [], false, ◌∷◌, ◌++◌, length, map, refl, sym, ◌∙◌, ap, subst, arith, append_assoc, append-nil, Option, inl, inr}
use Rattle.std.specs.Prelude.{All}
use Rattle.std.specs.List.{flat_map, IsDistinct, AllByRecursion}
use Rattle.std.proofs.Math.Seq.{take-append_seam}
use Rattle.std.proofs.lemmas.Bool.{false≢true}
use Rattle.std.proofs.lemmas.List.Elements.{All-take, All-head, All-tail, All-contains, Contains-append_right}
use Rattle.std.proofs.lemmas.Map.Keys.{IsDistinct-head, IsDistinct-tail}
use Rattle.draughts_board.specs.Board.{Board, same_board}
use Rattle.draughts_board.specs.Same.{same_board-Decides}
use Rattle.draughts_board.specs.declared.pieces.Side.{Side}
use Rattle.draughts_board.proofs.Members.{Contains-nil, Contains-cons_cases, Contains-head}
use Rattle.strategy_certificate.specs.declared.entries.WinEntry.{WinEntry}
use Rattle.strategy_certificate.specs.declared.certificates.Part.{Part}
use Rattle.strategy_certificate.specs.declared.certificates.Part.TheVariants.{Win, Hold}
use Rattle.strategy_certificate.specs.declared.certificates.Certificate.{Certificate}
use Rattle.strategy_certificate.specs.Parts.{IsWinRow, IsHoldRow, HasDistinctPositions, HasEntry, positions_of}
use Rattle.certificate_text.specs.Lines.{Line, end}
use Rattle.certificate_text.specs.Text.{part_length, win_line, hold_line, part_line, entry_lines, part_lines, head_lines, open_lines, IsPart, IsPrinted, IsPrintedPart, before, IsSoundPlace}
use Rattle.certificate_text.specs.Steps.{AddsLine, Leads, settled}
use Rattle.certificate_text.specs.Places.{Place, at_title, at_table, at_position, at_claim, at_part, at_entry, at_end}

-- by these lines, one behind the other, what is due goes from the first to the last
abbrev pub Runs : Place → List Line → Place → Type 0
Runs d [] last = d ≡ last
Runs d (line ∷ lines) last = (next : Place) × (Leads d line next × Runs next lines last)

pub runs_append : (d : Place) (lines more : List Line) (middle last : Place) → Runs d lines middle → Runs middle more last → Runs d (lines ++ more) last
runs_append d [] more middle last e runs = subst (λ m. Runs m more last) (sym e) runs
runs_append d (line ∷ lines) more middle last (next, (leads, runs)) others = (next, (leads, runs_append next lines more middle last runs others))

-- ---- the first entries of a part

module _ {E : Type 0} where
  front_differs : (p : Board) (done more : List (Board × E)) → AllByRecursion (λ q. same_board p q ≡ false) (positions_of (done ++ more)) → AllByRecursion (λ q. same_board p q ≡ false) (positions_of done)
  front_differs p [] more h = tt
  front_differs p (row ∷ done) more h = (h.0, front_differs p done more h.1)

  middle_differs : (p : Board) (done : List (Board × E)) (row : Board × E) (more : List (Board × E)) → AllByRecursion (λ q. same_board p q ≡ false) (positions_of (done ++ row ∷ more)) → same_board p row.0 ≡ false
  middle_differs p [] row more h = h.0
  middle_differs p (other ∷ done) row more h = middle_differs p done row more h.1

  front_distinct : (done more : List (Board × E)) → HasDistinctPositions (done ++ more) → HasDistinctPositions done
  unfolding IsDistinct
  front_distinct [] more h = tt
  front_distinct (row ∷ done) more h = (front_differs row.0 done more h.0, front_distinct done more h.1)

  -- a row's position has no entry before it
  absent : (done : List (Board × E)) (row : Board × E) (more : List (Board × E)) → HasDistinctPositions (done ++ row ∷ more) → ¬ HasEntry done row.0
  absent [] row more h (e, there) = Contains-nil (row.0, e) there
  absent (other ∷ done) row more h (e, there) =
      elim (Contains-cons_cases other done (row.0, e) there) [ inl same ↦ absurd (false≢true (sym (middle_differs other.0 done row more (IsDistinct-head same_board other.0 (positions_of (done ++ row ∷ more)) h)) ∙ (same_board-Decides other.0 row.0).1 (ap (λ r. r.0) same))) | inr k ↦ absent done row more (IsDistinct-tail same_board other.0 (positions_of (done ++ row ∷ more)) h) (e, k) ]

  front_all : (P : Board × E → Type 0) (done more : List (Board × E)) → All P (done ++ more) → All P done
  front_all P done more all = subst (All P) (take-append_seam done more) (All-take P (length done) (done ++ more) all)

  here_all : (P : Board × E → Type 0) (done : List (Board × E)) (row : Board × E) (more : List (Board × E)) → All P (done ++ row ∷ more) → P row
  here_all P done row more all = All-contains P (done ++ row ∷ more) row all (Contains-append_right done (row ∷ more) row (Contains-head row more))

-- ---- a part

abbrev win_part : Side → List (Board × WinEntry) → Part
win_part side rows = Win (record { side = side; entries = rows })

abbrev hold_part : Side → List (Board × Option (List ℕ)) → Part
hold_part side rows = Hold (record { side = side; entries = rows })

-- what is due goes from the first entries to all, where n entries are left behind the first, and `left` behind all
rows_run : {E : Type 0} (part_of : List (Board × E) → Part) (line_of : Board × E → Line) (c : Certificate)
    → ((done : List (Board × E)) (row : Board × E) (more : List (Board × E)) → IsPart (part_of (done ++ row ∷ more)) → AddsLine (part_of done) (line_of row) (part_of (done ++ row ∷ [])))
    → (done more : List (Board × E)) (n left : ℕ) → n ≡ length more + left → IsPart (part_of (done ++ more))
    → Runs (settled c (part_of done) n) (map line_of more) (settled c (part_of (done ++ more)) left)
rows_run part_of line_of c adds done [] n left e valid =
    let same : n ≡ left = omega (arith, e) in
    λ i. settled c (part_of (sym (append-nil done) i)) (same i)
rows_run part_of line_of c adds done (row ∷ more) zero left e valid = absurd (omega (arith, e))
rows_run part_of line_of c adds done (row ∷ more) (suc n) left e valid =
    let longer = part_of (done ++ row ∷ []) in
    let rows : (done ++ row ∷ []) ++ more ≡ done ++ row ∷ more = append_assoc done (row ∷ []) more in
    let back : n ≡ suc n - 1 = omega arith in
    let part_valid : IsPart (part_of ((done ++ row ∷ []) ++ more)) = subst (λ all. IsPart (part_of all)) (sym rows) valid in (
      settled c longer n,
      (
        (longer, (adds done row more valid, ap (settled c longer) back)),
        subst (λ all. Runs (settled c longer n) (map line_of more) (settled c (part_of all) left)) rows
            (rows_run part_of line_of c adds (done ++ row ∷ []) more n left (omega (arith, e)) part_valid),
      ),
    )

adds_win : (side : Side) (done : List (Board × WinEntry)) (row : Board × WinEntry) (more : List (Board × WinEntry)) → IsPart (win_part side (done ++ row ∷ more))
    → AddsLine (win_part side done) (win_line row) (win_part side (done ++ row ∷ []))
adds_win side done row more valid =
    let keeps = here_all IsWinRow done row more valid.rows in
    let split = sym (append_assoc done (row ∷ []) more) in
    record {
      p = row.0;
      lawful = keeps.0;
      fen = refl;
      absent = absent done row more valid.distinct;
      range = keeps.1;
      behind = refl;
      valid = record {
        distinct = front_distinct (done ++ row ∷ []) more (subst HasDistinctPositions split valid.distinct);
        rows = front_all IsWinRow (done ++ row ∷ []) more (subst (All IsWinRow) split valid.rows);
      };
    }

adds_hold : (side : Side) (done : List (Board × Option (List ℕ))) (row : Board × Option (List ℕ)) (more : List (Board × Option (List ℕ))) → IsPart (hold_part side (done ++ row ∷ more))
    → AddsLine (hold_part side done) (hold_line row) (hold_part side (done ++ row ∷ []))
adds_hold side done row more valid =
    let keeps = here_all IsHoldRow done row more valid.rows in
    let split = sym (append_assoc done (row ∷ []) more) in
    record {
      p = row.0;
      lawful = keeps.0;
      fen = refl;
      absent = absent done row more valid.distinct;
      path = keeps.1;
      behind = refl;
      valid = record {
        distinct = front_distinct (done ++ row ∷ []) more (subst HasDistinctPositions split valid.distinct);
        rows = front_all IsHoldRow (done ++ row ∷ []) more (subst (All IsHoldRow) split valid.rows);
      };
    }

-- what is due goes from the first line of a part to its last entry, where `left` more are announced
part_runs : (c : Certificate) (part : Part) (left : ℕ) → IsPart part → part_length part + left < 2 ^ 32 → Runs (at_part c) (part_line part (part_length part + left) ∷ entry_lines part) (settled c part left)
part_runs c (Win part) left valid small =
    let n = length part.entries + left in
    (settled c (win_part part.side []) n, ((small, refl), rows_run (win_part part.side) win_line c (adds_win part.side) [] part.entries n left refl valid))
part_runs c (Hold part) left valid small =
    let n = length part.entries + left in
    (settled c (hold_part part.side []) n, ((small, refl), rows_run (hold_part part.side) hold_line c (adds_hold part.side) [] part.entries n left refl valid))

-- ---- a certificate

abbrev of_parts : Certificate → List Part → Certificate
of_parts c parts = record c { parts = parts }

parts_run : (c : Certificate) (done more : List Part) → All IsPrintedPart more → Runs (at_part (of_parts c done)) (flat_map part_lines more) (at_part (of_parts c (done ++ more)))
parts_run c done [] all = ap (λ parts. at_part (of_parts c parts)) (sym (append-nil done))
parts_run c done (part ∷ more) all =
    let printed = All-head IsPrintedPart part more all in
    let none : part_length part + 0 ≡ part_length part = omega arith in
    let first = subst (λ n. Runs (at_part (of_parts c done)) (part_line part n ∷ entry_lines part) (at_part (of_parts c (done ++ part ∷ [])))) none
    (part_runs (of_parts c done) part 0 printed.0 (omega (arith, printed.1))) in
    runs_append (at_part (of_parts c done)) (part_lines part) (flat_map part_lines more) (at_part (of_parts c (done ++ part ∷ []))) (at_part (of_parts c (done ++ part ∷ more))) first
    (subst (λ parts. Runs (at_part (of_parts c (done ++ part ∷ []))) (flat_map part_lines more) (at_part (of_parts c parts))) (append_assoc done (part ∷ []) more)
    (parts_run c (done ++ part ∷ []) more (All-tail IsPrintedPart part more all)))

open_reached : (c : Certificate) → IsPrinted c → Runs at_title (open_lines c) (at_part c)
open_reached c printed =
    runs_append at_title (head_lines c) (flat_map part_lines c.parts) (at_part (of_parts c [])) (at_part c) (
      at_table,
      (
        refl,
        (
          at_position c.pieces,
          ((printed.pieces, refl), (at_claim c.pieces c.position, (record { p = c.position; lawful = printed.lawful; fen = refl; leads = refl }, (at_part (of_parts c []), (refl, refl))))),
        ),
      ),
    )
    (parts_run c [] c.parts printed.parts)

-- by the lines that stand before it, each due is reached from the first line on
pub reached : (d : Place) → IsSoundPlace d → Runs at_title (before d) d
reached at_title sound = refl
reached at_table sound = (at_table, (refl, refl))
reached (at_position pieces) sound = (at_table, (refl, (at_position pieces, ((sound, refl), refl))))
reached (at_claim pieces p) sound =
    (at_table, (refl, (at_position pieces, ((sound.0, refl), (at_claim pieces p, (record { p = p; lawful = sound.1; fen = refl; leads = refl }, refl))))))
reached (at_part c) sound = open_reached c sound
reached (at_entry c part zero) (printed, (valid, (some, small))) = absurd (let h : 0 < 0 = some in omega arith)
reached (at_entry c part (suc left)) (printed, (valid, (some, small))) =
    runs_append at_title (open_lines c) (part_line part (part_length part + suc left) ∷ entry_lines part) (at_part c) (at_entry c part (suc left)) (open_reached c printed) (part_runs c part (suc left) valid small)
reached (at_end c) sound =
    runs_append at_title (open_lines c) (end ∷ []) (at_part c) (at_end c) (open_reached c sound) (at_end c, (refl, refl))
