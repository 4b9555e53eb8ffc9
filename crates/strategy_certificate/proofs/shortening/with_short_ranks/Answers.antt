use Rattle.std.proofs.Common.{◌≡◌, ◌+◌, ◌∷◌, ◌++◌, [], ℕ, List, drop, map, sym, subst, ◌∙◌, ap, append_assoc, append-nil}
use Rattle.std.specs.Prelude.{All, Contains, MatchResult}
use Rattle.std.proofs.lemmas.List.{drop_all}
use Rattle.std.proofs.lemmas.List.Elements.{All-head, All-tail}
use Rattle.draughts_board.specs.Board.{Board}
use Rattle.strategy_certificate.specs.declared.entries.WinEntry.{WinEntry}
use Rattle.strategy_certificate.specs.Parts.{HasDistinctPositions}
use Rattle.strategy_certificate.specs.ShortRanks.{short_row}
use Rattle.strategy_certificate.proofs.MergeLemmas.{drop_item, none_before, noted_last}
use Rattle.strategy_certificate.proofs.RankLemmas.{place, searched_place, ranks_there, distinct-short}
use Rattle.strategy_certificate.proofs.shortening.with_short_ranks.Goals as goal

abbrev IsThere : List ℕ → Board × WinEntry → Type 0
IsThere ranks row = Contains ranks row.1.rank

pub loop-p-init : goal.loop-p-init
loop-p-init c =
    let ranks = c.args.ranks.now in
    let items = c.as_slice-p-items.result.now in
    let value : items ≡ c.args.rows.now.entries = c.as_slice-p-items.ensures.value in
    let same : c.in_ok-short.short.entries ++ map (short_row ranks) items ≡ map (short_row ranks) items = ap (λ (rows : List (Board × WinEntry)). rows ++ map (short_row ranks) items) c.in_ok-short.ensures.empty in
    let distinct : HasDistinctPositions items = subst HasDistinctPositions (sym value) c.as_slice-p-items.ensures.apart in
    record {
      all = same;
      distinct = subst HasDistinctPositions (sym same) (distinct-short ranks items distinct);
      there = subst (All (IsThere ranks)) (sym value) (ranks_there ranks c.args.rows.now.entries c.requires.are);
    }

pub unreachable-requires : goal.unreachable-requires
unreachable-requires c =
    let ranks = c.args.ranks.now in
    let items = c.as_slice-p-items.result.now in
    let row : Board × WinEntry = c.loop-p-item.result in
    let rest = drop (c.loop-p.p-index + 1) items in
    let there : Contains ranks row.1.rank =
    All-head (IsThere ranks) row rest (subst (All (IsThere ranks)) (drop_item items c.loop-p.p-index row c.loop-p-test.true c.loop-p-item.is) c.loop-p.invariant.there) in
    subst (λ r. MatchResult r (λ (i : ℕ). place ranks row.1.rank ≡ i) (λ (i : ℕ). ⊥)) c.in_default.is
    (searched_place ranks c.requires.are.rising row.1.rank there c.binary_search.result c.binary_search.ensures.position)

pub loop-p-preserved : goal.loop-p-preserved
loop-p-preserved c =
    let ranks = c.args.ranks.now in
    let items = c.as_slice-p-items.result.now in
    let before = c.loop-p.short.entries in
    let row : Board × WinEntry = c.loop-p-item.result in
    let left = drop (c.loop-p.p-index + 1) items in
    let rest = map (short_row ranks) left in
    let step : drop c.loop-p.p-index items ≡ row ∷ left = drop_item items c.loop-p.p-index row c.loop-p-test.true c.loop-p-item.is in
    let all : All (IsThere ranks) (row ∷ left) = subst (All (IsThere ranks)) step c.loop-p.invariant.there in
    let there : Contains ranks row.1.rank = All-head (IsThere ranks) row left all in
    let at : place ranks row.1.rank ≡ c.in-Ok.place =
    subst (λ r. MatchResult r (λ (i : ℕ). place ranks row.1.rank ≡ i) (λ (i : ℕ). ⊥)) c.in-Ok.is
    (searched_place ranks c.requires.are.rising row.1.rank there c.binary_search.result c.binary_search.ensures.position) in
    let first : before ++ map (short_row ranks) (drop c.loop-p.p-index items) ≡ before ++ short_row ranks row ∷ rest = ap (λ (rows : List (Board × WinEntry)). before ++ map (short_row ranks) rows) step in
    let distinct = subst HasDistinctPositions first c.loop-p.invariant.distinct in
    let none = none_before before (short_row ranks row) rest distinct in
    let made : Board × WinEntry = (row.0, record { rank = 4294967296 + c.in-Ok.place; chosen = row.1.chosen }) in
    let short : made ≡ short_row ranks row = λ i. (row.0, record { rank = 4294967296 + sym at i; chosen = row.1.chosen }) in
    let added : c.note.new.self.entries ++ rest ≡ before ++ map (short_row ranks) (drop c.loop-p.p-index items) =
    ap (λ (rows : List (Board × WinEntry)). rows ++ rest)
    (c.in_ok-note.ensures.rows ∙ (noted_last before row.0 made.1 c.in_ok-note.field-0.1 c.in_ok-note.ensures.new none ∙ ap (λ (x : Board × WinEntry). before ++ x ∷ []) short))
    ∙ (append_assoc before (short_row ranks row ∷ []) rest ∙ sym first) in
    record {
      all = added ∙ c.loop-p.invariant.all;
      distinct = subst HasDistinctPositions (sym added) c.loop-p.invariant.distinct;
      there = All-tail (IsThere ranks) row left all;
    }

pub returns-clause-entries : goal.returns-clause-entries
returns-clause-entries c =
    let ranks = c.args.ranks.now in
    let items = c.as_slice-p-items.result.now in
    let entries = c.loop-p.short.entries in
    sym (append-nil entries)
    ∙ (ap (λ (rows : List (Board × WinEntry)). entries ++ map (short_row ranks) rows) (sym (drop_all c.loop-p.p-index items c.loop-p-test.false))
    ∙ (c.loop-p.invariant.all ∙ ap (map (short_row ranks)) c.as_slice-p-items.ensures.value))

pub returns-clause-distinct : goal.returns-clause-distinct
returns-clause-distinct c =
    let ranks = c.args.ranks.now in
    let items = c.as_slice-p-items.result.now in
    let entries = c.loop-p.short.entries in
    let end : entries ++ map (short_row ranks) (drop c.loop-p.p-index items) ≡ entries =
    ap (λ (rows : List (Board × WinEntry)). entries ++ map (short_row ranks) rows) (drop_all c.loop-p.p-index items c.loop-p-test.false) ∙ append-nil entries in
    subst HasDistinctPositions end c.loop-p.invariant.distinct
