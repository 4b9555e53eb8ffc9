use Rattle.std.proofs.Common.{ℕ, ◌≡◌, ◌∙◌, ◌∷◌, ◌++◌, [], List, ap, sym, subst, Some}
use Rattle.draughts_board.specs.declared.pieces.Side.TheVariants.{Black, White}
use Rattle.strategy_certificate.specs.declared.certificates.Certificate.{Certificate}
use Rattle.draughts_board.specs.Draughts.{draughts}
use Rattle.strategy_certificate.specs.Tables.{IsSoundTable}
use Rattle.proved_book.specs.Books.{Strategies, IsAnsweredBy}
use Rattle.proved_book.proofs.AnswerLemmas.{answered_by_win, answered_by_holds, told_no}
use Rattle.proved_book.proofs.book.Book.answer.Goals as goal

pub win_of-requires-clause-good : goal.win_of-requires-clause-good
win_of-requires-clause-good g c =
    let b : Strategies = record { pieces = c.self.inside.pieces; black_wins = c.self.inside.black_wins; white_wins = c.self.inside.white_wins; black_holds = c.self.inside.black_holds; white_holds = c.self.inside.white_holds } in
    let pieces : g.O.Oracle.piece_limit c.args.oracle.now ≡ b.pieces = c.requires ∙ ap (λ (x : Strategies). x.pieces) (sym c.self.view_is) in
    c.self.invariant.good_wins Black (g.O.Oracle.answer_at c.args.oracle.now) (subst (λ (k : ℕ). IsSoundTable draughts k (g.O.Oracle.answer_at c.args.oracle.now)) pieces c.pieces-pieces.ensures.sound)

pub win_of-requires-then-has_win-2-clause-good : goal.win_of-requires-then-has_win-2-clause-good
win_of-requires-then-has_win-2-clause-good g c =
    let b : Strategies = record { pieces = c.self.inside.pieces; black_wins = c.self.inside.black_wins; white_wins = c.self.inside.white_wins; black_holds = c.self.inside.black_holds; white_holds = c.self.inside.white_holds } in
    let pieces : g.O.Oracle.piece_limit c.args.oracle.now ≡ b.pieces = c.requires ∙ ap (λ (x : Strategies). x.pieces) (sym c.self.view_is) in
    c.self.invariant.good_wins White (g.O.Oracle.answer_at c.args.oracle.now) (subst (λ (k : ℕ). IsSoundTable draughts k (g.O.Oracle.answer_at c.args.oracle.now)) pieces c.pieces-pieces.ensures.sound)

pub hold_of-requires-clause-good : goal.hold_of-requires-clause-good
hold_of-requires-clause-good g c =
    let b : Strategies = record { pieces = c.self.inside.pieces; black_wins = c.self.inside.black_wins; white_wins = c.self.inside.white_wins; black_holds = c.self.inside.black_holds; white_holds = c.self.inside.white_holds } in
    let pieces : g.O.Oracle.piece_limit c.args.oracle.now ≡ b.pieces = c.requires ∙ ap (λ (x : Strategies). x.pieces) (sym c.self.view_is) in
    c.self.invariant.good_holds Black (g.O.Oracle.answer_at c.args.oracle.now) (subst (λ (k : ℕ). IsSoundTable draughts k (g.O.Oracle.answer_at c.args.oracle.now)) pieces c.pieces-pieces.ensures.sound)

pub hold_of-requires-2-clause-good : goal.hold_of-requires-2-clause-good
hold_of-requires-2-clause-good g c =
    let b : Strategies = record { pieces = c.self.inside.pieces; black_wins = c.self.inside.black_wins; white_wins = c.self.inside.white_wins; black_holds = c.self.inside.black_holds; white_holds = c.self.inside.white_holds } in
    let pieces : g.O.Oracle.piece_limit c.args.oracle.now ≡ b.pieces = c.requires ∙ ap (λ (x : Strategies). x.pieces) (sym c.self.view_is) in
    c.self.invariant.good_holds White (g.O.Oracle.answer_at c.args.oracle.now) (subst (λ (k : ℕ). IsSoundTable draughts k (g.O.Oracle.answer_at c.args.oracle.now)) pieces c.pieces-pieces.ensures.sound)

pub returns-then-has_win-clause-exact : goal.returns-then-has_win-clause-exact
returns-then-has_win-clause-exact g c =
    let b : Strategies = record { pieces = c.self.inside.pieces; black_wins = c.self.inside.black_wins; white_wins = c.self.inside.white_wins; black_holds = c.self.inside.black_holds; white_holds = c.self.inside.white_holds } in
    let same : b ≡ c.args.self.now = c.self.view_is in
    let pieces : g.O.Oracle.piece_limit c.args.oracle.now ≡ b.pieces = c.requires ∙ ap (λ (x : Strategies). x.pieces) (sym same) in
    let items = c.from_vec.ensures ∙ (c.in_ok-push.ensures.items ∙ ap (λ (cs : List Certificate). cs ++ c.in_ok-won.won ∷ []) c.new-proofs.ensures.items) in
    subst (λ (x : Strategies). IsAnsweredBy x c.args.p.now (Some c.from_vec.result)) same
    (answered_by_win b c.self.invariant (g.O.Oracle.piece_limit c.args.oracle.now) pieces c.args.p.now c.from_vec.result Black (c.has_win.ensures.0 c.if-has_win.true) c.in_ok-won.won c.in_ok-won.ensures items)

pub returns-then-has_win-2-clause-exact : goal.returns-then-has_win-2-clause-exact
returns-then-has_win-2-clause-exact g c =
    let b : Strategies = record { pieces = c.self.inside.pieces; black_wins = c.self.inside.black_wins; white_wins = c.self.inside.white_wins; black_holds = c.self.inside.black_holds; white_holds = c.self.inside.white_holds } in
    let same : b ≡ c.args.self.now = c.self.view_is in
    let pieces : g.O.Oracle.piece_limit c.args.oracle.now ≡ b.pieces = c.requires ∙ ap (λ (x : Strategies). x.pieces) (sym same) in
    let items = c.from_vec-then-has_win-2.ensures ∙ (c.in_ok-push-2.ensures.items ∙ ap (λ (cs : List Certificate). cs ++ c.in_ok-won-2.won ∷ []) c.new-proofs-then-has_win-2.ensures.items) in
    subst (λ (x : Strategies). IsAnsweredBy x c.args.p.now (Some c.from_vec-then-has_win-2.result)) same
    (answered_by_win b c.self.invariant (g.O.Oracle.piece_limit c.args.oracle.now) pieces c.args.p.now c.from_vec-then-has_win-2.result White (c.has_win-2.ensures.0 c.if-has_win-2.true) c.in_ok-won-2.won c.in_ok-won-2.ensures items)

pub returns-clause-exact : goal.returns-clause-exact
returns-clause-exact g c =
    let b : Strategies = record { pieces = c.self.inside.pieces; black_wins = c.self.inside.black_wins; white_wins = c.self.inside.white_wins; black_holds = c.self.inside.black_holds; white_holds = c.self.inside.white_holds } in
    let same : b ≡ c.args.self.now = c.self.view_is in
    let pieces : g.O.Oracle.piece_limit c.args.oracle.now ≡ b.pieces = c.requires ∙ ap (λ (x : Strategies). x.pieces) (sym same) in
    let items = c.from_vec-2.ensures ∙ (c.in_ok-push-4.ensures.items ∙ (ap (λ (cs : List Certificate). cs ++ c.in_ok-white.white ∷ []) c.in_ok-push-3.ensures.items ∙ ap (λ (cs : List Certificate). (cs ++ c.in_ok-black.black ∷ []) ++ c.in_ok-white.white ∷ []) c.new-proofs-2.ensures.items)) in
    subst (λ (x : Strategies). IsAnsweredBy x c.args.p.now (Some c.from_vec-2.result)) same
    (answered_by_holds b c.self.invariant (g.O.Oracle.piece_limit c.args.oracle.now) pieces c.args.p.now c.from_vec-2.result
    (told_no c.has_win.result c.has_win.ensures c.if-has_win.false) (told_no c.has_win-2.result c.has_win-2.ensures c.if-has_win-2.false)
    (c.has_hold.ensures.0 c.if-not-has_hold.false) (c.has_hold-2.ensures.0 c.if-not-has_hold-2.false)
    c.in_ok-black.black c.in_ok-white.white c.in_ok-black.ensures c.in_ok-white.ensures items)
