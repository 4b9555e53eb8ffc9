-- What every book keeps, and what its entries tell.
use Rattle.std.proofs.Common.{◌≡◌, ◌≤◌, ℕ, inl, inr, List, Option, Some, None, Bool, true, false, refl, sym, ◌∙◌, subst, map}
use Rattle.std.specs.Prelude.{Contains, IfSome, IsTrue, ◌↔◌, is_some}
use Rattle.std.proofs.lemmas.Bool.{false≢true}
use Rattle.std.proofs.lemmas.Option.{none-some}
use Rattle.proof_numbers.specs.Known.{Known, knows_win, knows_hold, IsConsistent}
use Rattle.std.proofs.lemmas.List.Elements.{All-weaker, All-map, All-contains, All-contains_itself}
use Rattle.draughts_board.specs.Board.{Board, other}
use Rattle.draughts_board.specs.Game.{Wins, Holds}
use Rattle.draughts_board.specs.Draughts.{draughts}
use Rattle.draughts_board.specs.Rules.{IsLegal}
use Rattle.draughts_board.specs.declared.pieces.Side.{Side}
use Rattle.draughts_board.specs.declared.pieces.Side.TheVariants.{Black, White}
use Rattle.draughts_board.proofs.Truth.{Wins-holds, other-other}
use Rattle.strategy_certificate.specs.declared.oracle.Answer.{Answer}
use Rattle.strategy_certificate.specs.declared.entries.WinEntry.{WinEntry}
use Rattle.strategy_certificate.specs.declared.entries.TheConstants.{MOST_FOUND_RANK}
use Rattle.strategy_certificate.specs.declared.certificates.Part.TheVariants as part
use Rattle.strategy_certificate.specs.Parts.{WinList, HoldList, HasEntry, without_rank}
use Rattle.strategy_certificate.specs.Certificates.{HasDueMove, IsGoodWinEntry, IsGoodWinPart, IsGoodHoldEntry, IsGoodHoldPart}
use Rattle.strategy_certificate.specs.Claims.{HasShortRanks}
use Rattle.strategy_certificate.proofs.PartLemmas.{good_win_parts_win, good_hold_parts_hold}
use Rattle.proved_book.specs.Trimming.{Leads, IsTrimmedWin}
use Rattle.proved_book.specs.Walking.{AreLegalChoices}
use Rattle.proved_book.specs.Books.{Strategies, wins_of, holds_of, KnowsWin, KnowsHold, Knows, AreTrueFacts, IsBook}
use Rattle.proved_book.proofs.Those.{those_meet}

-- ---- moves

due_legal : (s : Side) (p : Board) (chosen : Option (List ℕ)) → HasDueMove s p chosen → IfSome chosen (IsLegal p)
due_legal s p (Some path) due = due.1
due_legal s p None due = tt

pub legal_wins : (answer : Board → Option Answer) (w : WinList) → IsGoodWinPart w answer → AreLegalChoices (map without_rank w.entries)
legal_wins answer w good =
    All-map (λ (row : Board × Option (List ℕ)). IfSome row.1 (IsLegal row.0)) without_rank w.entries
    (All-weaker (λ (row : Board × WinEntry). IsGoodWinEntry w answer row.0 row.1) (λ (row : Board × WinEntry). IfSome row.1.chosen (IsLegal row.0))
    (λ row h. due_legal w.side row.0 row.1.chosen h.move) w.entries good)

pub legal_holds : (answer : Board → Option Answer) (h : HoldList) → IsGoodHoldPart h answer → AreLegalChoices h.entries
legal_holds answer h good =
    All-weaker (λ (row : Board × Option (List ℕ)). IsGoodHoldEntry h answer row.0 row.1) (λ (row : Board × Option (List ℕ)). IfSome row.1 (IsLegal row.0))
    (λ row g. due_legal h.side row.0 row.1 g.move) h.entries good

-- ---- truth

module _ (b : Strategies) (book : IsBook b) where
  pub win_true : (s : Side) (p : Board) → KnowsWin b s p → Wins draughts s p
  win_true s p (e, there) =
      let table = book.table s p (inl (e, there)) in
      subst (λ (t : Side). Wins draughts t p) (book.win_sides s)
      (e.rank, good_win_parts_win b.pieces table.0 table.1 (wins_of s b) (book.good_wins s table.0 table.1) e.rank p (inl (e, (there, refl))))

  pub hold_true : (s : Side) (p : Board) → KnowsHold b s p → Holds draughts s p
  hold_true s p (inl win) = Wins-holds draughts s p (win_true s p win)
  hold_true s p (inr (chosen, there)) =
      let table = book.table s p (inr (chosen, there)) in
      subst (λ (t : Side). Holds draughts t p) (book.hold_sides s)
      (good_hold_parts_hold b.pieces table.0 table.1 (holds_of s b) (book.good_holds s table.0 table.1) p (inl (chosen, there)))

-- ---- ranks

pub trimmed_short : (w kept : WinList) (p : Board) → IsTrimmedWin w p kept → HasShortRanks (part.Win w) → HasShortRanks (part.Win kept)
trimmed_short w kept p trimmed short =
    All-weaker (Contains kept.entries) (λ (row : Board × WinEntry). row.1.rank ≤ MOST_FOUND_RANK)
    (λ row there. All-contains (λ (x : Board × WinEntry). x.1.rank ≤ MOST_FOUND_RANK) w.entries row short
    (those_meet (λ (x : Board × WinEntry). Leads (map without_rank w.entries) p x.0) w.entries kept.entries trimmed.entries row there).0)
    kept.entries (All-contains_itself kept.entries)

-- ---- look-ups

-- what is found tells whether there is an entry
pub found_tells : {E : Type 0} (rows : List (Board × E)) (p : Board) (o : Option E) → ((e : E) → (o ≡ Some e) ↔ Contains rows (p, e)) → (b : Bool) → b ≡ is_some o → IsTrue b ↔ HasEntry rows p
found_tells {E} rows p None found b is = (
  (λ yes. absurd (false≢true (sym is ∙ yes))),
  (λ there. let none : None ≡ Some there.0 = (found there.0).1 there.1 in absurd (none-some there.0 none)),
)
found_tells {E} rows p (Some e) found b is = ((λ yes. (e, (found e).0 refl)), (λ there. is))

-- ---- facts

module _ (b : Strategies) (p : Board) (bw ww bh wh : Bool) (black_wins : IsTrue bw ↔ KnowsWin b Black p) (white_wins : IsTrue ww ↔ KnowsWin b White p)
    (black_holds : IsTrue bh ↔ KnowsHold b Black p) (white_holds : IsTrue wh ↔ KnowsHold b White p) where
  abbrev told : Known
  told = record { black_wins = bw; white_wins = ww; black_holds = bh; white_holds = wh }

  told_wins : (s : Side) → IsTrue (knows_win s told) ↔ KnowsWin b s p
  told_wins Black = black_wins
  told_wins White = white_wins

  told_holds : (s : Side) → IsTrue (knows_hold s told) ↔ KnowsHold b s p
  told_holds Black = black_holds
  told_holds White = white_holds

  pub facts_exact : Knows b p told
  facts_exact = record { wins = told_wins; holds = told_holds }

  pub facts_true : IsBook b → AreTrueFacts p told
  facts_true book = record {
    wins = λ s is. win_true b book s p ((told_wins s).0 is);
    holds = λ s is. hold_true b book s p ((told_holds s).0 is);
  }

  not_held : IsBook b → (s : Side) (h : Bool) → IsTrue h ↔ KnowsHold b (other s) p → KnowsWin b s p → h ≡ false
  not_held book s false held win = refl
  not_held book s true held win =
      absurd (hold_true b book (other s) p (held.0 refl) (subst (λ (t : Side). Wins draughts t p) (sym (other-other s)) (win_true b book s p win)))

  pub facts_consistent : IsBook b → IsConsistent told
  facts_consistent book = record {
    black = λ is. (black_holds.1 (inl (black_wins.0 is)), not_held book Black wh white_holds (black_wins.0 is));
    white = λ is. (white_holds.1 (inl (white_wins.0 is)), not_held book White bh black_holds (white_wins.0 is));
  }
