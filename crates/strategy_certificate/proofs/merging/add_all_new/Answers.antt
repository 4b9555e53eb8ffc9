use Rattle.std.proofs.Common.{◌≡◌, ◌≤◌, ◌∷◌, ◌++◌, [], ℕ, List, Option, Bool, true, false, cond, refl, drop, length, sym, subst, ◌∙◌, ap, arith, ◌+◌}
use Rattle.std.specs.Prelude.{is_none}
use Rattle.std.proofs.lemmas.Bool.{false≢true}
use Rattle.std.proofs.lemmas.List.{append-nil, drop_all}
use Rattle.draughts_board.specs.Board.{Board}
use Rattle.strategy_certificate.specs.Parts.{HasDistinctPositions, entry_of, merged_holds}
use Rattle.strategy_certificate.proofs.MergeLemmas.{drop_item, first_none, distinct_tail, merged_holds-step}
use Rattle.strategy_certificate.proofs.merging.add_all_new.Goals as goal

-- adding a row where it is new merges it
added_or_not : (into : List (Board × Option (List ℕ))) (row : Board × Option (List ℕ)) (b : Bool)
    → cond b (into ++ row ∷ []) into ≡ into ++ cond b (row ∷ []) []
added_or_not into row true = refl
added_or_not into row false = sym (append-nil into)

pub loop-p-init : goal.loop-p-init
loop-p-init c =
    let value = c.as_slice-p-items.ensures.value in
    record {
      merged = refl;
      distinct = c.requires.distinct;
      rest = subst HasDistinctPositions (sym value) c.as_slice-p-items.ensures.apart;
      room = subst (λ (rows : List (Board × Option (List ℕ))). length rows ≤ c.args.into.now.spare) (sym value) c.requires.room;
    }

pub loop-p-preserved : goal.loop-p-preserved
loop-p-preserved c =
    let items = c.as_slice-p-items.result.now in
    let before = c.loop-p.into.entries in
    let rest = drop (c.loop-p.p-index + 1) items in
    let row : Board × Option (List ℕ) = c.loop-p-item.result in
    let first : drop c.loop-p.p-index items ≡ row ∷ rest = drop_item items c.loop-p.p-index row c.loop-p-test.true c.loop-p-item.is in
    let distinct : HasDistinctPositions (row ∷ rest) = subst HasDistinctPositions first c.loop-p.invariant.rest in
    let long : length (drop c.loop-p.p-index items) ≡ length (row ∷ rest) = ap length first in
    let room : length (drop c.loop-p.p-index items) ≤ c.loop-p.into.spare = c.loop-p.invariant.room in
    let kept : c.loop-p.into.spare ≤ c.add_new_row.new.rows.spare + 1 = c.add_new_row.ensures.room in
    let merged : c.add_new_row.new.rows.entries ≡ merged_holds before (row ∷ []) =
    c.in-Ok.ensures.rows ∙ (ap (λ b. cond b (before ++ row ∷ []) before) c.in-Ok.ensures.added ∙ added_or_not before row (is_none (entry_of before row.0))) in
    record {
      merged = ap (λ es. merged_holds es rest) merged
          ∙ (merged_holds-step before row rest (first_none row rest distinct) ∙ (ap (merged_holds before) (sym first) ∙ c.loop-p.invariant.merged));
      distinct = c.add_new_row.ensures.distinct;
      rest = distinct_tail row rest distinct;
      room = omega arith;
    }

pub unreachable-requires : goal.unreachable-requires
unreachable-requires c =
    let items = c.as_slice-p-items.result.now in
    let row : Board × Option (List ℕ) = c.loop-p-item.result in
    let long : length (drop c.loop-p.p-index items) ≡ length (row ∷ drop (c.loop-p.p-index + 1) items) =
    ap length (drop_item items c.loop-p.p-index row c.loop-p-test.true c.loop-p-item.is) in
    let room : length (drop c.loop-p.p-index items) ≤ c.loop-p.into.spare = c.loop-p.invariant.room in
    false≢true (c.in_default.ensures.succeeds (omega arith))

pub returns-clause-entries : goal.returns-clause-entries
returns-clause-entries c =
    let items = c.as_slice-p-items.result.now in
    sym (append-nil c.loop-p.into.entries)
    ∙ (ap (merged_holds c.loop-p.into.entries) (sym (drop_all c.loop-p.p-index items c.loop-p-test.false))
    ∙ (c.loop-p.invariant.merged ∙ ap (merged_holds c.args.into.now.entries) c.as_slice-p-items.ensures.value))
