use Rattle.std.proofs.Common.{◌≡◌, ◌≤◌, ◌∷◌, drop, length, sym, subst, ◌∙◌, ap, arith, ◌+◌, refl, List}
use Rattle.std.proofs.lemmas.List.{drop_all}
use Rattle.draughts_board.specs.Board.{Board}
use Rattle.strategy_certificate.specs.declared.entries.WinEntry.{WinEntry}
use Rattle.strategy_certificate.specs.Parts.{HasDistinctPositions, merged_wins}
use Rattle.strategy_certificate.proofs.MergeLemmas.{drop_item, first_none, distinct_tail, merged_wins-step, merged_wins-nil}
use Rattle.strategy_certificate.proofs.merging.improve_all.Goals as goal

pub loop-p-init : goal.loop-p-init
loop-p-init c =
    let value = c.as_slice-p-items.ensures.value in
    record {
      merged = refl;
      distinct = c.requires.distinct;
      rest = subst HasDistinctPositions (sym value) c.as_slice-p-items.ensures.apart;
      room = subst (λ (rows : List (Board × WinEntry)). length rows ≤ c.args.into.now.spare) (sym value) c.requires.room;
    }

pub improve-requires-clause-room : goal.improve-requires-clause-room
improve-requires-clause-room c =
    let items = c.as_slice-p-items.result.now in
    let row : Board × WinEntry = c.loop-p-item.result in
    let long : length (drop c.loop-p.p-index items) ≡ length (row ∷ drop (c.loop-p.p-index + 1) items) =
    ap length (drop_item items c.loop-p.p-index row c.loop-p-test.true c.loop-p-item.is) in
    let room : length (drop c.loop-p.p-index items) ≤ c.loop-p.into.spare = c.loop-p.invariant.room in
    omega arith

pub loop-p-preserved : goal.loop-p-preserved
loop-p-preserved c =
    let items = c.as_slice-p-items.result.now in
    let rest = drop (c.loop-p.p-index + 1) items in
    let row : Board × WinEntry = c.loop-p-item.result in
    let first : drop c.loop-p.p-index items ≡ row ∷ rest = drop_item items c.loop-p.p-index row c.loop-p-test.true c.loop-p-item.is in
    let distinct : HasDistinctPositions (row ∷ rest) = subst HasDistinctPositions first c.loop-p.invariant.rest in
    let long : length (drop c.loop-p.p-index items) ≡ length (row ∷ rest) = ap length first in
    let room : length (drop c.loop-p.p-index items) ≤ c.loop-p.into.spare = c.loop-p.invariant.room in
    let kept : c.loop-p.into.spare ≤ c.improve.new.into.spare + 1 = c.improve.ensures.room in
    record {
      merged = ap (λ es. merged_wins es rest) c.improve.ensures.entries
          ∙ (merged_wins-step c.loop-p.into.entries row rest (first_none row rest distinct) ∙ (ap (merged_wins c.loop-p.into.entries) (sym first) ∙ c.loop-p.invariant.merged));
      distinct = c.improve.ensures.distinct;
      rest = distinct_tail row rest distinct;
      room = omega arith;
    }

pub returns-clause-entries : goal.returns-clause-entries
returns-clause-entries c =
    let items = c.as_slice-p-items.result.now in
    sym (merged_wins-nil c.loop-p.into.entries)
    ∙ (ap (merged_wins c.loop-p.into.entries) (sym (drop_all c.loop-p.p-index items c.loop-p-test.false))
    ∙ (c.loop-p.invariant.merged ∙ ap (merged_wins c.args.into.now.entries) c.as_slice-p-items.ensures.value))
