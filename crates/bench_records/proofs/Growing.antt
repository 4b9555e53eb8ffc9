-- How a list of names grows along a sheet.
use Rattle.std.proofs.Common.{◌≡◌, ℕ, suc, ◌+◌, ◌<◌, List, [], ◌∷◌, ◌++◌, length, get_or, drop, refl, sym, ◌∙◌, ap, arith, drop-cons, Some}
use Rattle.std.specs.Prelude.{slice_get, unwrap_or, Option}
use Rattle.std.specs.List.{flat_map}
use Rattle.std.proofs.lemmas.Option.{unwrap_or-slice_get, slice_get_within}
use Rattle.draughts_board.specs.Board.{Board}
use Rattle.strategy_certificate.specs.declared.entries.WinEntry.{WinEntry}
use Rattle.bench_records.specs.Positions.{long_text}
use Rattle.bench_records.specs.Names.{Sheet, mark, name, marks, named_by, with_name}
use Rattle.bench_records.specs.Texts.{choice_bytes, win_sheet, hold_sheet}
use Rattle.bench_records.proofs.Sheets.{named_marks}

pub only_marks : (named : List Board) (bytes : List ℕ) → named_by named (marks bytes) ≡ named
only_marks named [] = refl
only_marks named (n ∷ bytes) = only_marks named bytes

-- along two sheets, one behind the other
pub named_then : (named : List Board) (one two : Sheet) → named_by named (one ++ two) ≡ named_by (named_by named one) two
named_then named [] two = refl
named_then named (mark n ∷ one) two = named_then named one two
named_then named (name p ∷ one) two = named_then (with_name named p) one two

pub win_named : (named : List Board) (row : Board × WinEntry) → named_by named (win_sheet row) ≡ with_name named row.0
win_named named row =
    named_marks (with_name named row.0) (long_text row.1.rank) (marks (choice_bytes row.1.chosen)) ∙ only_marks (with_name named row.0) (choice_bytes row.1.chosen)

pub hold_named : (named : List Board) (row : Board × Option (List ℕ)) → named_by named (hold_sheet row) ≡ with_name named row.0
hold_named named row = only_marks (with_name named row.0) (choice_bytes row.1)

module _ {X : Type 0} (sheet : X → Sheet) (xs : List X) (i : ℕ) (x : X) where
  -- behind the row at i stand those behind it
  pub noted_next : (named middle whole : List Board) → i < length xs → x ≡ get_or xs i x → middle ≡ named_by named (sheet x) → named_by named (flat_map sheet (drop i xs)) ≡ whole
      → named_by middle (flat_map sheet (drop (i + 1) xs)) ≡ whole
  noted_next named middle whole lt h is e =
      let next : suc i ≡ i + 1 = omega arith in
      let cut : drop i xs ≡ x ∷ drop (i + 1) xs = drop-cons xs i x lt ∙ (λ j. sym h j ∷ drop (next j) xs) in
      ap (λ l. named_by l (flat_map sheet (drop (i + 1) xs))) is ∙ sym (named_then named (sheet x) (flat_map sheet (drop (i + 1) xs))) ∙ ap (λ rows. named_by named (flat_map sheet rows)) (sym cut) ∙ e

  pub noted_row : (named middle whole : List Board) → slice_get xs i ≡ Some x → middle ≡ named_by named (sheet x) → named_by named (flat_map sheet (drop i xs)) ≡ whole
      → named_by middle (flat_map sheet (drop (i + 1) xs)) ≡ whole
  noted_row named middle whole h is e =
      let here : get_or xs i x ≡ x = sym (unwrap_or-slice_get xs i x) ∙ ap (λ o. unwrap_or o x) h in
      noted_next named middle whole (slice_get_within xs i x h) (sym here) is e
