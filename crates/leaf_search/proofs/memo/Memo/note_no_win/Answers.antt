use Rattle.std.proofs.Common.{◌≡◌, ℕ, sym, subst, Result, Ok, Err}
use Rattle.std.specs.Prelude.{All, OnOk, OnErr}
use Rattle.lru.specs.LruCache.{LruCache, put_entries, lru_cache}
use Rattle.leaf_search.specs.Wins.{WinFails, IsWithoutWin}
use Rattle.leaf_search.proofs.MemoLemmas.{Key, same_key, All-put}
use Rattle.leaf_search.proofs.memo.Memo.note_no_win.Goals as goal

after_put : {V E : Type 0} (P : LruCache Key ℕ → Type 0) (result : Result V E) (old new put : LruCache Key ℕ) → OnOk result (new ≡ put) → OnErr result (new ≡ old) → P old → P put → P new
after_put P (Ok v) old new put ok err was is = subst P (sym ok) is
after_put P (Err e) old new put ok err was is = subst P (sym err) was

pub invariant_of-self : goal.invariant_of-self
invariant_of-self c =
    let k = c.self.inside.pieces in
    let cache = c.self.inside.without_win in
    let fails = subst (λ k. WinFails k c.args.side c.args.depth c.args.p.now) (sym c.self.view_is) c.requires in
    after_put (λ cache. All (IsWithoutWin k) cache.entries) c.put.result cache c.put.new.self (lru_cache (put_entries same_key cache (c.args.side, c.args.p.now) c.args.depth) cache.cap)
    c.put.ensures.entries c.put.ensures.err c.self.invariant
    (All-put k cache (c.args.side, c.args.p.now) c.args.depth c.self.invariant fails)
