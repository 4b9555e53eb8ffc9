-- What looking up a position in a part tells.
use Rattle.std.proofs.Common.{◌≡◌, ◌<◌, ◌≤◌, ◌⊎◌, ◌∷◌, inl, inr, ℕ, zero, suc, List, [], Option, Some, None, refl, sym, ◌∙◌, ap, subst, arith, length, slice_get}
use Rattle.std.specs.Prelude.{Contains, ◌↔◌, IfNone, IfSome, IsNone, false, nat_lt, true}
use Rattle.std.proofs.lemmas.Bool.{false≢true}
use Rattle.std.proofs.lemmas.Bool.Decides.{nat_tests}
use Rattle.draughts_board.specs.Board.{Board}
use Rattle.strategy_certificate.specs.declared.entries.WinEntry.{WinEntry}
use Rattle.draughts_board.specs.Draughts.{draughts}
use Rattle.strategy_certificate.specs.declared.certificates.Part.{Part}
use Rattle.strategy_certificate.specs.declared.certificates.Part.TheVariants.{Win, Hold}
use Rattle.strategy_certificate.specs.declared.oracle.Answer.{Answer}
use Rattle.strategy_certificate.specs.Certificates.{HasRank, HasRoot}
use Rattle.strategy_certificate.specs.Tables.{TableWins}
use Rattle.strategy_certificate.specs.Parts.{HasEntry, HoldList, WinList}
use Rattle.certificate_player.specs.Choices.{HasRankBelow, IsEntryMove, IsFirstRank, IsShown}
use Rattle.certificate_player.specs.Plays.{last_of}

-- where a play stands is the last of its later positions, if there is one
pub last_read : (p : Board) (later : List Board) (k : ℕ) (x : Board) → suc k ≡ length later → slice_get later k ≡ Some x → last_of p later ≡ x
last_read p [] k x long at = absurd (omega (arith, long))
last_read p (q ∷ []) zero x long at = cc
last_read p (q ∷ []) (suc k) x long at = absurd (omega (arith, long))
last_read p (q ∷ r ∷ later) zero x long at = absurd (omega (arith, long))
last_read p (q ∷ r ∷ later) (suc k) x long at = last_read q (r ∷ later) k x (omega (arith, long)) at

-- an entry that is found is the one
pub one_found : {E : Type 0} (rows : List (Board × E)) (q : Board) (found : Option E) → ((e : E) → (found ≡ Some e) ↔ Contains rows (q, e)) → (e f : E) → found ≡ Some e → Contains rows (q, f) → f ≡ e
one_found rows q found is e f here there = (let other = (is f).1 there in cc)

module _ (list : WinList) (q : Board) (found : Option WinEntry) (is : (e : WinEntry) → (found ≡ Some e) ↔ Contains list.entries (q, e)) where
  -- its rank is the position's
  pub has_rank : (e : WinEntry) → found ≡ Some e → HasRank list e.rank q
  has_rank e here = (e, ((is e).0 here, refl))

  pub rank_once : (e : WinEntry) (m : ℕ) → found ≡ Some e → HasRank list m q → e.rank ≡ m
  rank_once e m here (f, (there, rank)) = (let same = one_found list.entries q found is e f here there in ap (λ (x : WinEntry). x.rank) (sym same) ∙ rank)

  -- the entry's rank is the answer, where it is below the bound
  pub rank_of_entry : (bound : ℕ) (T : ℕ → Type 0) (e : WinEntry) → found ≡ Some e → e.rank < bound → (m : ℕ)
      → (Some e.rank ≡ Some m) ↔ (HasRankBelow list bound q m ⊎ (((n : ℕ) → HasRankBelow list bound q n → ⊥) × T m))
  rank_of_entry bound T e here lt m = (
    λ same. inl (let rank : e.rank ≡ m = cc in (subst (λ n. HasRank list n q) rank (has_rank e here), subst (λ n. n < bound) rank lt)),
    λ either. elim either [
      | inl has ↦ ap (λ (n : ℕ). Some n) (rank_once e m here has.0)
      | inr none ↦ absurd (none.0 e.rank (has_rank e here, lt))
    ],
  )

  -- no entry is below the bound
  pub none_below : (bound : ℕ) (e : WinEntry) → found ≡ Some e → bound ≤ e.rank → (n : ℕ) → HasRankBelow list bound q n → ⊥
  none_below bound e here high n (has, lt) = (let same = rank_once e n here has in omega (arith, same, lt, high))

  pub none_at_all : found ≡ None → (n : ℕ) → HasRank list n q → ⊥
  none_at_all none n (f, (there, rank)) = (let other = (is f).1 there in cc)

-- and so the table's rank is the answer
pub rank_of_table : (list : WinList) (q : Board) (bound : ℕ) (T : ℕ → Type 0) (shown : Option ℕ) → ((m : ℕ) → (shown ≡ Some m) ↔ T m) → ((n : ℕ) → HasRankBelow list bound q n → ⊥)
    → (m : ℕ) → (shown ≡ Some m) ↔ (HasRankBelow list bound q m ⊎ (((n : ℕ) → HasRankBelow list bound q n → ⊥) × T m))
rank_of_table list q bound T shown is none m = (
  λ same. inr (none, (is m).0 same),
  λ either. elim either [ inl has ↦ absurd (none m has) | inr by ↦ (is m).1 by.1 ],
)

-- ---- the move of an entry

module _ (list : WinList) (p : Board) (found : Option WinEntry) (is : (e : WinEntry) → (found ≡ Some e) ↔ Contains list.entries (p, e)) (e : WinEntry) (here : found ≡ Some e) (r : ℕ) where
  pub win_some : e.rank ≤ r → (o : Option (List ℕ)) → e.chosen ≡ o → IfSome o (IsEntryMove p (Some r) (Win list))
  win_some le (Some path) chosen = (e, ((is e).0 here, (le, chosen)))
  win_some le None chosen = tt

  pub win_none : (o : Option (List ℕ)) → e.chosen ≡ o → IfNone o ((path : List ℕ) → IsEntryMove p (Some r) (Win list) path → ⊥)
  win_none (Some path) chosen = tt
  win_none None chosen = λ path move. (let same = one_found list.entries p found is e move.0 here move.1.0 in let other = ap (λ (x : WinEntry). x.chosen) same in let by = move.1.1.1 in cc)

  pub win_high : r < e.rank → (path : List ℕ) → IsEntryMove p (Some r) (Win list) path → ⊥
  win_high high path move = (let same = ap (λ (x : WinEntry). x.rank) (one_found list.entries p found is e move.0 here move.1.0) in let low = move.1.1.0 in omega (arith, same, low, high))

pub win_without : (list : WinList) (p : Board) (r : ℕ) → ¬ HasEntry list.entries p → (path : List ℕ) → IsEntryMove p (Some r) (Win list) path → ⊥
win_without list p r none path move = none (move.0, move.1.0)

module _ (list : HoldList) (p : Board) (o : Option (List ℕ)) (is : (chosen : Option (List ℕ)) → (Some o ≡ Some chosen) ↔ Contains list.entries (p, chosen)) where
  pub hold_some : IfSome o (IsEntryMove p None (Hold list))
  hold_some = by o refl
    where
      by : (q : Option (List ℕ)) → o ≡ q → IfSome q (IsEntryMove p None (Hold list))
      by (Some path) same = (is (Some path)).0 (ap (λ (q : Option (List ℕ)). Some q) same)
      by None same = tt

  pub hold_none : IfNone o ((path : List ℕ) → IsEntryMove p None (Hold list) path → ⊥)
  hold_none = by o refl
    where
      by : (q : Option (List ℕ)) → o ≡ q → IfNone q ((path : List ℕ) → IsEntryMove p None (Hold list) path → ⊥)
      by (Some path) same = tt
      by None same = λ path there. (let e = (is (Some path)).1 there in cc)

-- ---- what the table shows

lt_true : (a b : ℕ) → a < b → nat_lt a b ≡ true
lt_true a b h = grind (arith, nat_tests)

true_lt : (a b : ℕ) → nat_lt a b ≡ true → a < b
true_lt a b h = grind (arith, nat_tests)

pub shown_some : (answer : Board → Option Answer) (list : WinList) (q : Board) (r shown : ℕ) → ((m : ℕ) → (Some shown ≡ Some m) ↔ TableWins draughts answer list.side m q)
    → (nat_lt shown r ≡ true) ↔ IsShown answer q (Some r) (Win list)
shown_some answer list q r shown is = (
  λ t. (shown, (true_lt shown r t, (is shown).0 refl)),
  λ by. (let same = (is by.0).1 by.1.1 in let e : shown ≡ by.0 = cc in lt_true shown r (subst (λ m. m < r) (sym e) by.1.0)),
)

pub shown_none : (answer : Board → Option Answer) (list : WinList) (q : Board) (r : ℕ) → ((m : ℕ) → (◌≡◌ {A = Option ℕ} None (Some m)) ↔ TableWins draughts answer list.side m q)
    → (false ≡ true) ↔ IsShown answer q (Some r) (Win list)
shown_none answer list q r is = (λ t. absurd (false≢true t), λ by. (let same = (is by.0).1 by.1.1 in cc))

-- ---- first ranks

pub first_by_entry : (answer : Board → Option Answer) (list : WinList) (p : Board) (e : WinEntry) → Contains list.entries (p, e) → IsFirstRank answer p (Win list) (Some e.rank)
first_by_entry answer list p e there = inl (e, (there, refl))

pub first_by_table : (answer : Board → Option Answer) (list : WinList) (p : Board) (shown : Option ℕ) → ¬ HasEntry list.entries p
    → ((m : ℕ) → (shown ≡ Some m) ↔ TableWins draughts answer list.side m p) → HasRoot (Win list) answer p → IsFirstRank answer p (Win list) shown
first_by_table answer list p (Some m) none is root = inr (none, (is m).0 refl)
first_by_table answer list p None none is (r, inl has) = absurd (none (has.0, has.1.0))
first_by_table answer list p None none is (r, inr shows) = (let e = (is r).1 shows in cc)

-- ---- along what a match tells

pub at_part : {X : Type 0} (F : Part → Option ℕ → X → Type 0) (part other : Part) (rank same : Option ℕ) (x : X) → part ≡ other → rank ≡ same → F other same x → F part rank x
at_part F part other rank same x is alike h = subst (λ a. F a rank x) (sym is) (subst (λ b. F other b x) (sym alike) h)
