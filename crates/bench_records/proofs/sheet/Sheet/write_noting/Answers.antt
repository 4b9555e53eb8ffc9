use Rattle.std.proofs.Common.{◌≡◌, ◌≤◌, ◌<◌, ◌∙◌, ◌+◌, ◌-◌, ◌++◌, ◌∷◌, ap, sym, subst, length, take, drop, List, ℕ, arith}
use Rattle.std.proofs.lemmas.List.{take_all, length-drop}
use Rattle.draughts_board.specs.Board.{Board}
use Rattle.bench_records.specs.Names.{short_sheet, named_by, name_text}
use Rattle.bench_records.proofs.Weaving.{Fills, fills_next, fills_end}
use Rattle.bench_records.proofs.Numbering.{goes_on_then}
use Rattle.bench_records.proofs.sheet.Sheet.write_noting.Goals as goal

pub slice_bounds-extend_from_slice-end : goal.slice_bounds-extend_from_slice-end
slice_bounds-extend_from_slice-end c =
    let bytes : List ℕ = c.self.inside.bytes.items in
    let names : List (Board × ℕ) = c.self.inside.names.items in
    let i = c.loop-i.i in
    let lt : i < length names = let t = c.loop-i-test.true in let e = c.len-i-end.ensures in omega (arith, t, e, c.self.inside.names.ok.0) in
    let next = fills_next (c.args.kind ∷ short_sheet c.args.named.now c.args.self.now) (named_by c.args.named.now c.args.self.now) bytes c.loop-i.text.items c.loop-i.named c.loop-i.from i names c.index.result.now lt c.index.ensures c.loop-i.invariant.fills in
    subst (λ (t : List ℕ). c.index.result.now.1 ≤ length t) (sym c.deref.ensures.value) next.0

pub loop-i-preserved : goal.loop-i-preserved
loop-i-preserved c =
    let bytes : List ℕ = c.self.inside.bytes.items in
    let names : List (Board × ℕ) = c.self.inside.names.items in
    let i = c.loop-i.i in
    let from = c.loop-i.from in
    let row : Board × ℕ = c.index.result.now in
    let whole : List ℕ = c.args.kind ∷ short_sheet c.args.named.now c.args.self.now in
    let after : List Board = named_by c.args.named.now c.args.self.now in
    let lt : i < length names = let t = c.loop-i-test.true in let e = c.len-i-end.ensures in omega (arith, t, e, c.self.inside.names.ok.0) in
    let next = fills_next whole after bytes c.loop-i.text.items c.loop-i.named from i names row lt c.index.ensures c.loop-i.invariant.fills in
    let text : c.note_name.new.text.items ≡ (c.loop-i.text.items ++ take (row.1 - from) (drop from bytes)) ++ name_text c.loop-i.named row.0 =
    c.in_ok-note_name.ensures.text
    ∙ ap (λ (t : List ℕ). t ++ name_text c.loop-i.named row.0) (c.in_ok-extend_from_slice.ensures.items ∙ ap (λ (t : List ℕ). c.loop-i.text.items ++ take (row.1 - from) (drop from t)) c.deref.ensures.value) in
    record {
      fills = subst (λ (t : List ℕ). Fills whole after bytes t c.note_name.new.named row.1 (drop (i + 1) names)) (sym text)
          (subst (λ (l : List Board). Fills whole after bytes ((c.loop-i.text.items ++ take (row.1 - from) (drop from bytes)) ++ name_text c.loop-i.named row.0) l row.1 (drop (i + 1) names)) (sym c.in_ok-note_name.ensures.names) next.1);
      named = c.note_name.ensures.named;
      front = goes_on_then c.args.named.now c.loop-i.named c.note_name.new.named c.loop-i.invariant.front c.in_ok-note_name.ensures.front;
    }

pub returns-clause-text : goal.returns-clause-text
returns-clause-text c =
    let bytes : List ℕ = c.self.inside.bytes.items in
    let names : List (Board × ℕ) = c.self.inside.names.items in
    let past : length names ≤ c.loop-i.i = let t = c.loop-i-test.false in let e = c.len-i-end.ensures in omega (arith, t, e, c.self.inside.names.ok.0) in
    let end = fills_end (c.args.kind ∷ short_sheet c.args.named.now c.args.self.now) (named_by c.args.named.now c.args.self.now) bytes c.loop-i.text.items c.loop-i.named c.loop-i.from c.loop-i.i names past c.loop-i.invariant.fills in
    let all : List ℕ = c.deref-2.result.now in
    let tail : take (length all - c.loop-i.from) (drop c.loop-i.from all) ≡ drop c.loop-i.from all = take_all (length all - c.loop-i.from) (drop c.loop-i.from all) (omega (arith, length-drop c.loop-i.from all)) in
    c.in_ok-extend_from_slice-2.ensures.items ∙ ap (λ (t : List ℕ). c.loop-i.text.items ++ t) tail ∙ ap (λ (t : List ℕ). c.loop-i.text.items ++ drop c.loop-i.from t) c.deref-2.ensures.value ∙ end.0

pub returns-clause-names : goal.returns-clause-names
returns-clause-names c =
    let bytes : List ℕ = c.self.inside.bytes.items in
    let names : List (Board × ℕ) = c.self.inside.names.items in
    let past : length names ≤ c.loop-i.i = let t = c.loop-i-test.false in let e = c.len-i-end.ensures in omega (arith, t, e, c.self.inside.names.ok.0) in
    (fills_end (c.args.kind ∷ short_sheet c.args.named.now c.args.self.now) (named_by c.args.named.now c.args.self.now) bytes c.loop-i.text.items c.loop-i.named c.loop-i.from c.loop-i.i names past c.loop-i.invariant.fills).1
