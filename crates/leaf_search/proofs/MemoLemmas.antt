-- What a memory of failures keeps.
use Rattle.std.proofs.Common.{◌≡◌, ℕ, zero, suc, ◌≤◌, ◌⊎◌, inl, inr, Bool, true, ◌&&◌, List, Some, refl, sym, subst, arith}
use Rattle.std.specs.Prelude.{All, Contains}
use Rattle.std.specs.Cmp.{first_so, second_so}
use Rattle.std.specs.Map.{lookup}
use Rattle.std.proofs.lemmas.Bool.{cases_lt, false≢true}
use Rattle.std.proofs.lemmas.List.Elements.{All-weaker, All-contains, All-contains_itself}
use Rattle.lru.specs.LruCache.{LruCache, promoted, put_entries}
use Rattle.lru.proofs.CallerLemmas.{Contains-lookup, Contains-promoted, Contains-put_entries}
use Rattle.draughts_board.specs.declared.pieces.Side.{Side}
use Rattle.draughts_board.specs.declared.pieces.Side.TheVariants.{Black, White}
use Rattle.draughts_board.specs.contracts.pieces.SidePartialEq.TheImpl as side
use Rattle.draughts_board.specs.Board.{Board, same_board}
use Rattle.draughts_board.specs.Same.{same_board-Decides}
use Rattle.draughts_board.specs.Game.{Game, ShowsWin}
use Rattle.draughts_board.specs.Draughts.{draughts}
use Rattle.draughts_board.proofs.Truth.{CanForce-weaker}
use Rattle.leaf_search.specs.Wins.{WinFails, IsWithoutWin}

module _ {P : Type 0} (game : Game P) (k : ℕ) (s : Side) where
  -- what shows, shows looking further ahead too
  pub ShowsWin-more : (d : ℕ) (p : P) → ShowsWin game k s d p → ShowsWin game k s (suc d) p
  ShowsWin-more zero p shows = inl shows
  ShowsWin-more (suc d) p (inl shows) = inl shows
  ShowsWin-more (suc d) p (inr shows) = inr (shows.0, CanForce-weaker game s (ShowsWin game k s d) (ShowsWin game k s (suc d)) p (ShowsWin-more d) shows.1)

  pub ShowsWin-up : (d e : ℕ) (p : P) → d ≤ e → ShowsWin game k s d p → ShowsWin game k s e p
  ShowsWin-up d zero p le shows = let same : d ≡ 0 = omega arith in subst (λ n. ShowsWin game k s n p) same shows
  ShowsWin-up d (suc e) p le shows = elim (cases_lt d (suc e)) [
    | inl lt ↦ ShowsWin-more e p (ShowsWin-up d e p (omega arith) shows)
    | inr past ↦ (let same : d ≡ suc e = omega arith in subst (λ n. ShowsWin game k s n p) same shows)
  ]

abbrev pub Key : Type 0
Key = Side × Board

abbrev pub same_key : Key → Key → Bool
same_key x y = (side.ghosts).eq x.0 y.0 && same_board x.1 y.1

side_equal : (s t : Side) → (side.ghosts).eq s t ≡ true → s ≡ t
side_equal Black Black e = refl
side_equal White White e = refl
side_equal Black White e = absurd (false≢true e)
side_equal White Black e = absurd (false≢true e)

equal_keys : (x y : Key) → same_key x y ≡ true → x ≡ y
equal_keys x y e =
    let s = side_equal x.0 y.0 (first_so _ _ e) in
    let p = (same_board-Decides x.1 y.1).0 (second_so _ _ e) in
    λ i. (s i, p i)

All-members : {X : Type 0} (P : X → Type 0) (xs ys : List X) → All P xs → ((x : X) → Contains ys x → Contains xs x ⊎ P x) → All P ys
All-members P xs ys all from =
    All-weaker (Contains ys) P (λ x there. elim (from x there) [ inl old ↦ All-contains P xs x all old | inr new ↦ new ]) ys (All-contains_itself ys)

module _ (k : ℕ) where
  pub known_fails : (key : Key) (rows : List (Key × ℕ)) → All (IsWithoutWin k) rows → (deepest : ℕ) → lookup (same_key key) rows ≡ Some deepest
      → (d : ℕ) → d ≤ deepest → WinFails k key.0 d key.1
  known_fails key rows all deepest found d le shows =
      let there = Contains-lookup (same_key key) rows deepest found in
      let same = sym (equal_keys key there.0 there.2) in
      let fails = subst (λ (x : Key). WinFails k x.0 deepest x.1) same (All-contains (IsWithoutWin k) rows (there.0, deepest) all there.1) in
      fails (ShowsWin-up draughts k key.0 d deepest key.1 le shows)

  pub All-promoted : (key : Key) (rows : List (Key × ℕ)) → All (IsWithoutWin k) rows → All (IsWithoutWin k) (promoted (same_key key) rows)
  All-promoted key rows all =
      All-members (IsWithoutWin k) rows (promoted (same_key key) rows) all (λ x there. inl (Contains-promoted (same_key key) rows x there))

  put_from : (c : LruCache Key ℕ) (key : Key) (d : ℕ) → WinFails k key.0 d key.1 → (x : Key × ℕ)
      → Contains (put_entries same_key c key d) x → Contains c.entries x ⊎ IsWithoutWin k x
  put_from c key d fails x there = elim (Contains-put_entries same_key c key d x there) [
    | inl old ↦ inl old
    | inr new ↦ inr (let value = new.0 in elim new.1 [
      | inl same ↦ subst (λ (y : Key × ℕ). WinFails k y.0.0 y.1 y.0.1) (λ i. (sym same i, sym value i)) fails
      | inr old ↦ subst (λ (y : Key × ℕ). WinFails k y.0.0 y.1 y.0.1) (λ i. (equal_keys key x.0 old.2 i, sym value i)) fails
    ])
  ]

  pub All-put : (c : LruCache Key ℕ) (key : Key) (d : ℕ) → All (IsWithoutWin k) c.entries → WinFails k key.0 d key.1 → All (IsWithoutWin k) (put_entries same_key c key d)
  All-put c key d all fails = All-members (IsWithoutWin k) c.entries (put_entries same_key c key d) all (put_from c key d fails)
