use Rattle.std.proofs.Common.{◌≡◌, ◌+◌, ◌∷◌, ◌++◌, [], ℕ, List, drop, sym, ◌∙◌, ap, append_assoc, append-nil, eqb}
use Rattle.std.proofs.lemmas.List.{drop_all}
use Rattle.std.proofs.lemmas.List.Filters.{dedup_is}
use Rattle.draughts_board.specs.Board.{Board}
use Rattle.strategy_certificate.specs.declared.entries.WinEntry.{WinEntry}
use Rattle.strategy_certificate.specs.ShortRanks.{ranks_of}
use Rattle.strategy_certificate.proofs.MergeLemmas.{drop_item}
use Rattle.strategy_certificate.proofs.RankLemmas.{are_ranks}
use Rattle.strategy_certificate.proofs.shortening.ranks_of.Goals as goal

pub loop-p-init : goal.loop-p-init
loop-p-init c = ap (λ (ranks : List ℕ). ranks ++ ranks_of c.as_slice-p-items.result.now) c.in_ok-ranks.ensures.items

pub loop-p-preserved : goal.loop-p-preserved
loop-p-preserved c =
    let items = c.as_slice-p-items.result.now in
    let before = c.loop-p.ranks.items in
    let row : Board × WinEntry = c.loop-p-item.result in
    let rest = ranks_of (drop (c.loop-p._p-index + 1) items) in
    let first : before ++ ranks_of (drop c.loop-p._p-index items) ≡ before ++ row.1.rank ∷ rest =
    ap (λ (rows : List (Board × WinEntry)). before ++ ranks_of rows) (drop_item items c.loop-p._p-index row c.loop-p-test.true c.loop-p-item.is) in
    let added : c.push.new.self.items ++ rest ≡ before ++ ranks_of (drop c.loop-p._p-index items) =
    ap (λ (ranks : List ℕ). ranks ++ rest) c.in_ok-push.ensures.items ∙ (append_assoc before (row.1.rank ∷ []) rest ∙ sym first) in
    added ∙ c.loop-p.invariant

pub returns : goal.returns
returns c =
    let items = c.loop-p.ranks.items in
    let end : items ≡ ranks_of c.args.rows.now.entries =
    sym (append-nil items)
    ∙ (ap (λ (rows : List (Board × WinEntry)). items ++ ranks_of rows) (sym (drop_all c.loop-p._p-index c.as_slice-p-items.result.now c.loop-p-test.false))
    ∙ (c.loop-p.invariant ∙ ap ranks_of c.as_slice-p-items.ensures.value)) in
    are_ranks c.args.rows.now.entries items c.sort_unstable.new.self.items c.dedup.new.self.items end
    c.sort_unstable.ensures.permutation c.sort_unstable.ensures.sorted (dedup_is eqb c.sort_unstable.new.self.items c.dedup.new.self.items c.dedup.ensures.filtered)
