use Rattle.std.proofs.Common.{◌<◌, length, sym, subst, arith}
use Rattle.std.specs.Prelude.{◌^◌, ◌≤◌, All}
use Rattle.draughts_board.specs.Board.{Board}
use Rattle.strategy_certificate.specs.declared.entries.WinEntry.{WinEntry}
use Rattle.strategy_certificate.specs.declared.entries.TheConstants.{MOST_FOUND_RANK}
use Rattle.strategy_certificate.proofs.RankLemmas.{all_short, short_list}
use Rattle.strategy_certificate.proofs.win_parts.short_ranks.Goals as goal

pub invariant_of-result : goal.invariant_of-result
invariant_of-result c =
    let ranks = c.deref.result.now in
    let few : length ranks < 2 ^ 32 = (let less = c.if-len.false in let long = c.len.ensures in let same = c.deref.ensures.len in omega arith) in
    short_list ranks (record { side = c.part.inside.side; entries = c.part.inside.entries.entries }) few c.part.invariant c.in_ok-entries.entries.entries c.in_ok-entries.ensures.entries c.in_ok-entries.ensures.distinct

pub returns-clause-short : goal.returns-clause-short
returns-clause-short c =
    let ranks = c.deref.result.now in
    let few : length ranks < 2 ^ 32 = (let less = c.if-len.false in let long = c.len.ensures in let same = c.deref.ensures.len in omega arith) in
    subst (All (λ (row : Board × WinEntry). row.1.rank ≤ MOST_FOUND_RANK)) (sym c.in_ok-entries.ensures.entries) (all_short ranks c.part.inside.entries.entries few)
