use Rattle.std.proofs.Common.{◌≡◌, ◌∙◌, ap, sym, subst, ℕ}
use Rattle.draughts_board.specs.declared.pieces.Side.TheVariants.{Black, White}
use Rattle.strategy_certificate.specs.Parts.{HoldList}
use Rattle.strategy_certificate.specs.Laws.{merged_hold_list}
use Rattle.proved_book.specs.Books.{Strategies, IsBook, HasTable, IsGoodHoldByEach}
use Rattle.proved_book.proofs.Adding.{book_with_hold, either_way}
use Rattle.proved_book.proofs.book.Book.add_hold.Goals as goal

pub merge_holds-requires : goal.merge_holds-requires
merge_holds-requires c = c.self.invariant.hold_sides Black ∙ c.in-Black.ensures.value

pub invariant_of-self : goal.invariant_of-self
invariant_of-self c =
    let b : Strategies = record { pieces = c.self.inside.pieces; black_wins = c.self.inside.black_wins; white_wins = c.self.inside.white_wins; black_holds = c.self.inside.black_holds; white_holds = c.self.inside.white_holds } in
    let same : b ≡ c.args.self.now = c.self.view_is in
    let pieces : c.args.self.now.pieces ≡ b.pieces = ap (λ (x : Strategies). x.pieces) (sym same) in
    let good : IsGoodHoldByEach b.pieces c.args.part.now = subst (λ (k : ℕ). IsGoodHoldByEach k c.args.part.now) pieces c.requires.good in
    let table : HasTable b.pieces = subst HasTable pieces c.requires.table in
    either_way (λ (w : HoldList). IsBook (record b { black_holds = w })) c.merge_holds.result c.merge_holds.new.into (merged_hold_list b.black_holds c.args.part.now) b.black_holds c.merge_holds.ensures.ok c.merge_holds.ensures.err
    (book_with_hold b c.self.invariant table c.args.part.now good Black (sym c.in-Black.ensures.value))
    c.self.invariant

pub merge_holds-requires-in-White : goal.merge_holds-requires-in-White
merge_holds-requires-in-White c = c.self.invariant.hold_sides White ∙ c.in-White.ensures.value

pub invariant_of-self-in-White : goal.invariant_of-self-in-White
invariant_of-self-in-White c =
    let b : Strategies = record { pieces = c.self.inside.pieces; black_wins = c.self.inside.black_wins; white_wins = c.self.inside.white_wins; black_holds = c.self.inside.black_holds; white_holds = c.self.inside.white_holds } in
    let same : b ≡ c.args.self.now = c.self.view_is in
    let pieces : c.args.self.now.pieces ≡ b.pieces = ap (λ (x : Strategies). x.pieces) (sym same) in
    let good : IsGoodHoldByEach b.pieces c.args.part.now = subst (λ (k : ℕ). IsGoodHoldByEach k c.args.part.now) pieces c.requires.good in
    let table : HasTable b.pieces = subst HasTable pieces c.requires.table in
    either_way (λ (w : HoldList). IsBook (record b { white_holds = w })) c.merge_holds-in-White.result c.merge_holds-in-White.new.into (merged_hold_list b.white_holds c.args.part.now) b.white_holds c.merge_holds-in-White.ensures.ok c.merge_holds-in-White.ensures.err
    (book_with_hold b c.self.invariant table c.args.part.now good White (sym c.in-White.ensures.value))
    c.self.invariant
