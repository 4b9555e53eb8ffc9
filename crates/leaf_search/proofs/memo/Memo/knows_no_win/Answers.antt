use Rattle.std.proofs.Common.{ℕ, sym, subst, ap, ◌∙◌}
use Rattle.std.specs.Prelude.{All}
use Rattle.lru.specs.LruCache.{LruCache}
use Rattle.leaf_search.specs.Wins.{WinFails, IsWithoutWin}
use Rattle.leaf_search.proofs.MemoLemmas.{Key, known_fails, All-promoted}
use Rattle.leaf_search.proofs.memo.Memo.knows_no_win.Goals as goal

pub invariant_of-self : goal.invariant_of-self
invariant_of-self c =
    let same = ap (λ (l : LruCache Key ℕ). l.entries) c.promote.ensures.entries in
    subst (All (IsWithoutWin c.self.inside.pieces)) (sym same)
    (All-promoted c.self.inside.pieces (c.args.side, c.args.p.now) c.self.inside.without_win.entries c.self.invariant)

pub returns-clause-known : goal.returns-clause-known
returns-clause-known c =
    subst (λ k. WinFails k c.args.side c.args.depth c.args.p.now) c.self.view_is
    (known_fails c.self.inside.pieces (c.args.side, c.args.p.now) c.self.inside.without_win.entries c.self.invariant c.in-Some.deepest
    (sym c.peek.ensures ∙ sym c.copied.ensures ∙ c.in-Some.is) c.args.depth c.if-deepest-depth.false)
