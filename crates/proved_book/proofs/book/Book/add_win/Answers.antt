use Rattle.std.proofs.Common.{◌≡◌, ◌∙◌, ap, sym, subst, ℕ}
use Rattle.draughts_board.specs.declared.pieces.Side.TheVariants.{Black, White}
use Rattle.strategy_certificate.specs.Parts.{WinList}
use Rattle.strategy_certificate.specs.Laws.{merged_win_list}
use Rattle.proved_book.specs.Books.{Strategies, IsBook, HasTable, IsGoodWinByEach}
use Rattle.proved_book.proofs.Adding.{book_with_win, either_way}
use Rattle.proved_book.proofs.book.Book.add_win.Goals as goal

pub merge_wins-requires : goal.merge_wins-requires
merge_wins-requires c = c.self.invariant.win_sides Black ∙ c.in-Black.ensures.value

pub invariant_of-self : goal.invariant_of-self
invariant_of-self c =
    let b : Strategies = record { pieces = c.self.inside.pieces; black_wins = c.self.inside.black_wins; white_wins = c.self.inside.white_wins; black_holds = c.self.inside.black_holds; white_holds = c.self.inside.white_holds } in
    let same : b ≡ c.args.self.now = c.self.view_is in
    let pieces : c.args.self.now.pieces ≡ b.pieces = ap (λ (x : Strategies). x.pieces) (sym same) in
    let good : IsGoodWinByEach b.pieces c.args.part.now = subst (λ (k : ℕ). IsGoodWinByEach k c.args.part.now) pieces c.requires.good in
    let table : HasTable b.pieces = subst HasTable pieces c.requires.table in
    either_way (λ (w : WinList). IsBook (record b { black_wins = w })) c.merge_wins.result c.merge_wins.new.into (merged_win_list b.black_wins c.args.part.now) b.black_wins c.merge_wins.ensures.ok c.merge_wins.ensures.err
    (book_with_win b c.self.invariant table c.args.part.now c.in-Black.ensures.valid.distinct good c.requires.short Black (sym c.in-Black.ensures.value))
    c.self.invariant

pub merge_wins-requires-in-White : goal.merge_wins-requires-in-White
merge_wins-requires-in-White c = c.self.invariant.win_sides White ∙ c.in-White.ensures.value

pub invariant_of-self-in-White : goal.invariant_of-self-in-White
invariant_of-self-in-White c =
    let b : Strategies = record { pieces = c.self.inside.pieces; black_wins = c.self.inside.black_wins; white_wins = c.self.inside.white_wins; black_holds = c.self.inside.black_holds; white_holds = c.self.inside.white_holds } in
    let same : b ≡ c.args.self.now = c.self.view_is in
    let pieces : c.args.self.now.pieces ≡ b.pieces = ap (λ (x : Strategies). x.pieces) (sym same) in
    let good : IsGoodWinByEach b.pieces c.args.part.now = subst (λ (k : ℕ). IsGoodWinByEach k c.args.part.now) pieces c.requires.good in
    let table : HasTable b.pieces = subst HasTable pieces c.requires.table in
    either_way (λ (w : WinList). IsBook (record b { white_wins = w })) c.merge_wins-in-White.result c.merge_wins-in-White.new.into (merged_win_list b.white_wins c.args.part.now) b.white_wins c.merge_wins-in-White.ensures.ok c.merge_wins-in-White.ensures.err
    (book_with_win b c.self.invariant table c.args.part.now c.in-White.ensures.valid.distinct good c.requires.short White (sym c.in-White.ensures.value))
    c.self.invariant
