use Rattle.std.proofs.Common.{◌≡◌, ◌+◌, ◌∷◌, ◌++◌, [], List, drop, map, sym, subst, ◌∙◌, ap}
use Rattle.std.proofs.lemmas.List.{append_assoc, append-nil, drop_all}
use Rattle.draughts_board.specs.Board.{Board}
use Rattle.strategy_certificate.specs.declared.entries.WinEntry.{WinEntry}
use Rattle.strategy_certificate.specs.Parts.{HasDistinctPositions, without_rank}
use Rattle.strategy_certificate.proofs.MergeLemmas.{drop_item, none_before, noted_last, distinct-without_rank}
use Rattle.strategy_certificate.proofs.merging.without_ranks.Goals as goal

pub loop-p-init : goal.loop-p-init
loop-p-init c =
    let items = c.as_slice-p-items.result.now in
    let same : c.in_ok-rows.rows.entries ++ map without_rank items ≡ map without_rank items = ap (λ rows. rows ++ map without_rank items) c.in_ok-rows.ensures.empty in
    let distinct : HasDistinctPositions items = subst HasDistinctPositions (sym c.as_slice-p-items.ensures.value) c.as_slice-p-items.ensures.apart in
    record { all = same; distinct = subst HasDistinctPositions (sym same) (distinct-without_rank items distinct) }

pub loop-p-preserved : goal.loop-p-preserved
loop-p-preserved c =
    let items = c.as_slice-p-items.result.now in
    let before = c.loop-p.rows.entries in
    let row : Board × WinEntry = c.loop-p-item.result in
    let rest = map without_rank (drop (c.loop-p.p-index + 1) items) in
    let first : before ++ map without_rank (drop c.loop-p.p-index items) ≡ before ++ without_rank row ∷ rest =
    ap (λ (rows : List (Board × WinEntry)). before ++ map without_rank rows) (drop_item items c.loop-p.p-index row c.loop-p-test.true c.loop-p-item.is) in
    let distinct = subst HasDistinctPositions first c.loop-p.invariant.distinct in
    let none = none_before before (without_rank row) rest distinct in
    let added : c.note.new.self.entries ++ rest ≡ before ++ map without_rank (drop c.loop-p.p-index items) =
    ap (λ rows. rows ++ rest) (c.in_ok-note.ensures.rows ∙ noted_last before row.0 row.1.chosen c.in_ok-note.field-0.1 c.in_ok-note.ensures.new none)
    ∙ (append_assoc before (without_rank row ∷ []) rest ∙ sym first) in
    record { all = added ∙ c.loop-p.invariant.all; distinct = subst HasDistinctPositions (sym added) c.loop-p.invariant.distinct }

pub returns-clause-entries : goal.returns-clause-entries
returns-clause-entries c =
    let items = c.as_slice-p-items.result.now in
    let rows = c.loop-p.rows.entries in
    sym (append-nil rows)
    ∙ (ap (λ (left : List (Board × WinEntry)). rows ++ map without_rank left) (sym (drop_all c.loop-p.p-index items c.loop-p-test.false))
    ∙ (c.loop-p.invariant.all ∙ ap (map without_rank) c.as_slice-p-items.ensures.value))

pub returns-clause-distinct : goal.returns-clause-distinct
returns-clause-distinct c =
    let items = c.as_slice-p-items.result.now in
    let rows = c.loop-p.rows.entries in
    let end : rows ++ map without_rank (drop c.loop-p.p-index items) ≡ rows =
    ap (λ (left : List (Board × WinEntry)). rows ++ map without_rank left) (drop_all c.loop-p.p-index items c.loop-p-test.false) ∙ append-nil rows in
    subst HasDistinctPositions end c.loop-p.invariant.distinct
