use Rattle.std.proofs.Common.{◌≡◌, ◌∙◌, ap, sym, subst, take, ℕ}
use Rattle.draughts_board.specs.declared.pieces.Side.TheVariants.{Black, White}
use Rattle.strategy_certificate.specs.Laws.{merged_hold_list}
use Rattle.proved_book.specs.Books.{Strategies, IsBook, HasTable, IsGoodHoldByEach, with_hold}
use Rattle.proved_book.proofs.Adding.{book_with_hold, cut_back}
use Rattle.proved_book.proofs.book.Book.add_holds.Goals as goal

pub merge_holds-requires : goal.merge_holds-requires
merge_holds-requires c = c.self.invariant.hold_sides Black ∙ sym c.requires.black

pub merge_holds-requires-2 : goal.merge_holds-requires-2
merge_holds-requires-2 c = c.self.invariant.hold_sides White ∙ sym c.requires.white

pub invariant_of-self-in-Ok : goal.invariant_of-self-in-Ok
invariant_of-self-in-Ok c =
    let b : Strategies = record { pieces = c.self.inside.pieces; black_wins = c.self.inside.black_wins; white_wins = c.self.inside.white_wins; black_holds = c.self.inside.black_holds; white_holds = c.self.inside.white_holds } in
    let same : b ≡ c.args.self.now = c.self.view_is in
    let pieces : c.args.self.now.pieces ≡ b.pieces = ap (λ (x : Strategies). x.pieces) (sym same) in
    let black : IsGoodHoldByEach b.pieces c.args.black.now = subst (λ (k : ℕ). IsGoodHoldByEach k c.args.black.now) pieces c.requires.good in
    let white : IsGoodHoldByEach b.pieces c.args.white.now = subst (λ (k : ℕ). IsGoodHoldByEach k c.args.white.now) pieces c.requires.good_too in
    let table : HasTable b.pieces = subst HasTable pieces c.requires.table in
    let next : Strategies = with_hold Black c.args.black.now b in
    let one : IsBook next = book_with_hold b c.self.invariant table c.args.black.now black Black c.requires.black in
    let both : IsBook (with_hold White c.args.white.now next) = book_with_hold next one table c.args.white.now white White c.requires.white in
    let merged : c.merge_holds.new.into ≡ merged_hold_list b.black_holds c.args.black.now = c.in_ok-merge_holds.ensures.ok in
    let merged_too : c.merge_holds-2.new.into ≡ merged_hold_list b.white_holds c.args.white.now = c.in-Ok.ensures.ok in
    subst IsBook (λ i. record b { black_holds = sym merged i; white_holds = sym merged_too i }) both

pub invariant_of-self-in-Err : goal.invariant_of-self-in-Err
invariant_of-self-in-Err c =
    let b : Strategies = record { pieces = c.self.inside.pieces; black_wins = c.self.inside.black_wins; white_wins = c.self.inside.white_wins; black_holds = c.self.inside.black_holds; white_holds = c.self.inside.white_holds } in
    let now = c.merge_holds.new.into in
    let cut : c.truncate.new.self ≡ b.black_holds =
    cut_back b.black_holds c.args.black.now now c.truncate.new.self c.in_ok-merge_holds.ensures.ok
    (c.truncate.ensures ∙ ap (λ (n : ℕ). record now { entries = take n now.entries }) c.len-count.ensures.value) in
    subst IsBook (λ i. record b { black_holds = sym cut i; white_holds = sym c.in-Err.ensures.err i }) c.self.invariant
