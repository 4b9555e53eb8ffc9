-- Which move a player makes, and which rank it keeps. `answer` is the table's.
use Rattle.std.specs.Prelude.{◌≡◌, ◌<◌, ◌≤◌, ◌⊎◌, ◌++◌, ◌∷◌, [], ℕ, List, Contains, Option, Some, None, IfSome}
use Rattle.draughts_board.specs.declared.pieces.Side.{Side}
use Rattle.draughts_board.specs.Board.{Board}
use Rattle.draughts_board.specs.Rules.{IsLegal, after}
use Rattle.draughts_board.specs.Draughts.{draughts}
use Rattle.strategy_certificate.specs.declared.certificates.Certificate.{Certificate}
use Rattle.strategy_certificate.specs.declared.certificates.Part.{Part}
use Rattle.strategy_certificate.specs.declared.certificates.Part.TheVariants.{Win, Hold}
use Rattle.strategy_certificate.specs.declared.entries.WinEntry.{WinEntry}
use Rattle.strategy_certificate.specs.declared.oracle.Answer.{Answer}
use Rattle.strategy_certificate.specs.Certificates.{HasRank, IsHeld, IsReachedBelow}
use Rattle.strategy_certificate.specs.Parts.{WinList, HasEntry}
use Rattle.strategy_certificate.specs.Tables.{TableHolds, TableWins}
use Rattle.certificate_player.specs.Plays.{Play, here, own_part}

-- ---- the move

-- It is the move of the position's entry, whose rank is not above the kept one, if one is kept.
abbrev pub IsEntryMove : Board → Option ℕ → Part → List ℕ → Type 0
IsEntryMove p (Some r) (Win list) path =
    (e : WinEntry) × (Contains list.entries (p, e) × ((e.rank ≤ r) × (e.chosen ≡ Some path)))
IsEntryMove p None (Hold list) path = Contains list.entries (p, Some path)
IsEntryMove p rank other path = ⊥

-- the table shows that the part's side wins here with a smaller rank, or holds if no rank is kept
abbrev pub IsShown : (Board → Option Answer) → Board → Option ℕ → Part → Type 0
IsShown answer q (Some r) (Win list) =
    (m : ℕ) × ((m < r) × TableWins draughts answer list.side m q)
IsShown answer q None (Hold list) = TableHolds draughts answer list.side q
IsShown answer q rank other = ⊥

-- it is legal, and the table shows so much of what stands behind it
abbrev pub IsTableMove : (Board → Option Answer) → Board → Option ℕ → Part → List ℕ → Type 0
IsTableMove answer p rank part path = IsLegal p path × IsShown answer (after p path) rank part

-- It is the entry's move, or a move by the table where there is no such entry.
abbrev pub IsChosen : (Board → Option Answer) → Board → Option ℕ → Part → List ℕ → Type 0
IsChosen answer p rank part path =
    IsEntryMove p rank part path
    ⊎ (((other : List ℕ) → ¬ IsEntryMove p rank part other) × IsTableMove answer p rank part path)

-- ---- the rank

-- At first it is that of the position's entry, or the table's where the position has none. No rank
-- is kept by a hold part.
abbrev pub IsFirstRank : (Board → Option Answer) → Board → Part → Option ℕ → Type 0
IsFirstRank answer p (Win list) (Some m) =
    HasRank list m p
    ⊎ ((HasEntry list.entries p → ⊥) × TableWins draughts answer list.side m p)
IsFirstRank answer p (Hold list) None = Unit {0}
IsFirstRank answer p part rank = ⊥

-- the position has an entry of rank m, which is below r
abbrev pub HasRankBelow : WinList → ℕ → Board → ℕ → Type 0
HasRankBelow list r q m = HasRank list m q × (m < r)

-- Behind a move it is that of the position's entry, where that is below the one before, and else the
-- table's.
abbrev pub IsNextRank : (Board → Option Answer) → Board → Option ℕ → Part → Option ℕ → Type 0
IsNextRank answer q (Some r) (Win list) (Some m) =
    HasRankBelow list r q m
    ⊎ (((n : ℕ) → ¬ HasRankBelow list r q n) × TableWins draughts answer list.side m q)
IsNextRank answer q None (Hold list) None = Unit {0}
IsNextRank answer q before part now = ⊥

-- ---- how a play begins, and how it goes on

-- The play of the side begins at the certificate's position.
pub record Begins (answer : Board → Option Answer) (c : Certificate) (side : Side)
    (v : Play) : Type 0 where
  pub certificate : v.certificate ≡ c
  pub side_is : v.side ≡ side
  pub first : v.later ≡ []
  pub rank : IfSome (own_part c side) (λ part. IsFirstRank answer c.position part v.rank)

-- By this path the play goes on to one position more.
pub record GoesOn (answer : Board → Option Answer) (old new : Play) (path : List ℕ) : Type 0 where
  pub certificate : new.certificate ≡ old.certificate
  pub side : new.side ≡ old.side
  pub later : new.later ≡ old.later ++ after (here old) path ∷ []
  pub rank : IfSome (own_part old.certificate old.side) (λ part.
      IsNextRank answer (after (here old) path) old.rank part new.rank)

-- The side makes this move, and the play goes on by it.
pub record Makes (answer : Board → Option Answer) (old new : Play) (path : List ℕ) : Type 0 where
  pub chosen : IfSome (own_part old.certificate old.side) (λ part.
      IsChosen answer (here old) old.rank part path)
  pub legal : IsLegal (here old) path
  pub goes_on : GoesOn answer old new path

-- ---- why there is a move, and a rank

-- a win part reaches the position with a smaller rank, a hold part holds it
abbrev pub GoesOnAt : (Board → Option Answer) → Board → Option ℕ → Part → Type 0
GoesOnAt answer q (Some r) (Win list) = IsReachedBelow list answer r q
GoesOnAt answer q None (Hold list) = IsHeld list answer q
GoesOnAt answer q rank other = ⊥
