use Rattle.std.proofs.Common.{◌≡◌, ◌∙◌, inr, sym, subst}
use Rattle.std.proofs.lemmas.Bool.{false≢true}
use Rattle.strategy_certificate.specs.Claims.{HasShortRanks}
use Rattle.strategy_certificate.specs.Tables.{IsTableSize}
use Rattle.proved_book.specs.Books.{Strategies, IsGoodByEach}
use Rattle.proved_book.proofs.Adding.{map_ok, short_by_each, takes_win}
use Rattle.proved_book.proofs.book.Book.take.Goals as goal

pub add_win-requires-in-Win-clause-good : goal.add_win-requires-in-Win-clause-good
add_win-requires-in-Win-clause-good c =
    let b : Strategies = record { pieces = c.self.inside.pieces; black_wins = c.self.inside.black_wins; white_wins = c.self.inside.white_wins; black_holds = c.self.inside.black_holds; white_holds = c.self.inside.white_holds } in
    let same : b ≡ c.args.self.now = c.self.view_is in
    let size : IsTableSize c.args.self.now.pieces = subst (λ (x : Strategies). IsTableSize x.pieces) same c.self.invariant.size in
    short_by_each c.args.self.now.pieces size c.in-Win.wins c.in_ok-kept-in-Win.kept c.in_ok-kept-in-Win.ensures.shortened
    (subst (IsGoodByEach c.args.self.now.pieces) c.in-Win.is c.requires.good)

pub returns-in_ok-kept-in-Win-clause-added : goal.returns-in_ok-kept-in-Win-clause-added
returns-in_ok-kept-in-Win-clause-added c =
    map_ok c.add_win-in-Win.result
    (takes_win c.args.self.now c.add_win-in-Win.new.self c.args.part.now c.in-Win.wins c.in_ok-kept-in-Win.kept c.in-Win.is
    (inr ((λ short. false≢true (sym c.if-has_short_ranks.false ∙ c.has_short_ranks.ensures.1 (subst HasShortRanks (sym c.in-Win.is) short))), c.in_ok-kept-in-Win.ensures.shortened)))
    c.add_win-in-Win.ensures.added
