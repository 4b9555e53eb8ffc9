use Rattle.std.proofs.Common.{subst}
use Rattle.proved_book.specs.Books.{Strategies, Knows}
use Rattle.proved_book.proofs.BookLemmas.{facts_exact, facts_true, facts_consistent}
use Rattle.proved_book.proofs.book.Book.facts.Goals as goal

pub invariant_of-result : goal.invariant_of-result
invariant_of-result c =
    let consistent = facts_consistent _ c.args.p.now c.has_win-black_wins.result c.has_win-white_wins.result c.has_either-black_holds.result c.has_either-white_holds.result
    c.has_win-black_wins.ensures c.has_win-white_wins.ensures c.has_either-black_holds.ensures c.has_either-white_holds.ensures c.self.invariant in
    record { black = consistent.black; white = consistent.white }

pub returns-clause-exact : goal.returns-clause-exact
returns-clause-exact c =
    subst (λ (b : Strategies). Knows b c.args.p.now (record { black_wins = c.has_win-black_wins.result; white_wins = c.has_win-white_wins.result; black_holds = c.has_either-black_holds.result; white_holds = c.has_either-white_holds.result })) c.self.view_is
    (facts_exact _ c.args.p.now c.has_win-black_wins.result c.has_win-white_wins.result c.has_either-black_holds.result c.has_either-white_holds.result
    c.has_win-black_wins.ensures c.has_win-white_wins.ensures c.has_either-black_holds.ensures c.has_either-white_holds.ensures)

pub returns-clause-truth : goal.returns-clause-truth
returns-clause-truth c =
    facts_true _ c.args.p.now c.has_win-black_wins.result c.has_win-white_wins.result c.has_either-black_holds.result c.has_either-white_holds.result
    c.has_win-black_wins.ensures c.has_win-white_wins.ensures c.has_either-black_holds.ensures c.has_either-white_holds.ensures c.self.invariant
