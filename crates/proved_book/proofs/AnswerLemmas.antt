-- What a book answers serves wherever the position is searched.
use Rattle.std.proofs.Common.{◌≡◌, ℕ, inl, inr, List, [], ◌∷◌, Some, Bool, false, refl, sym, ◌∙◌, ap, subst, arith}
use Rattle.std.specs.Prelude.{All, Any, ◌↔◌, IsTrue, None}
use Rattle.std.proofs.lemmas.Bool.{false≢true}
use Rattle.std.proofs.lemmas.List.Elements.{All-nil, All-cons}
use Rattle.draughts_board.specs.declared.pieces.Side.{Side}
use Rattle.draughts_board.specs.declared.pieces.Side.TheVariants.{Black, White}
use Rattle.draughts_board.specs.Board.{Board, other}
use Rattle.draughts_board.specs.Game.{Wins, Holds}
use Rattle.draughts_board.specs.Draughts.{draughts}
use Rattle.draughts_board.proofs.Truth.{one_side, other-other, Wins-holds, ShowsWin-wins, ShowsHold-holds}
use Rattle.strategy_certificate.specs.declared.claims.Claim.{Claim}
use Rattle.strategy_certificate.specs.declared.claims.Claim.TheVariants.{Win, Hold}
use Rattle.strategy_certificate.specs.declared.certificates.Part.{Part}
use Rattle.strategy_certificate.specs.declared.certificates.Part.TheVariants as part
use Rattle.strategy_certificate.specs.declared.certificates.Certificate.{Certificate}
use Rattle.strategy_certificate.specs.Claims.{TellsWin, TellsHold, IsOfOnePart, Settles, HasShortRanks}
use Rattle.certificate_checker.specs.Answers.{IsFinding, IsAnswer}
use Rattle.strategy_certificate.specs.Parts.{WinList, HoldList, HasEntry}
use Rattle.strategy_certificate.specs.Certificates.{IsTrueOf}
use Rattle.proved_book.specs.Trimming.{IsTrimmedWin, IsTrimmedHold}
use Rattle.certificate_checker.specs.OneParts.{with_part}
use Rattle.proved_book.specs.Books.{Strategies, wins_of, holds_of, KnowsWin, KnowsHold, IsWinOf, IsHoldOf, IsAnsweredBy, IsBook}
use Rattle.proved_book.specs.Laws.{AnswersServe, AnswersAreTrue, OneAnswer}
use Rattle.proved_book.proofs.TrimLaws.{one_trimmed_win, one_trimmed_hold}
use Rattle.proved_book.proofs.BookLemmas.{win_true, hold_true, trimmed_short}

first : {P : Certificate → Type 0} (c : Certificate) (cs : List Certificate) → P c → Any P (c ∷ cs)
first c cs here = (0, c, omega arith, refl, here)

second : {P : Certificate → Type 0} (c d : Certificate) (cs : List Certificate) → P d → Any P (c ∷ d ∷ cs)
second c d cs here = (1, d, omega arith, refl, here)

-- the certificate of one part about the position
abbrev about : ℕ → Board → Claim → Part → Certificate
about k p claim one = record { position = p; claim = claim; pieces = k; parts = one ∷ [] }

finding : (k : ℕ) (p : Board) (claim : Claim) (one : Part) → IsOfOnePart claim → HasShortRanks one → IsFinding k p (about k p claim one)
finding k p claim one alone short = record {
  position = refl;
  pieces = refl;
  claim = alone;
  short = All-cons HasShortRanks one [] short (All-nil HasShortRanks);
}

module _ (k : ℕ) (p : Board) (goal : Side) (depth : ℕ) where
  -- a win answers alone, whatever the goal
  won : (s : Side) → Wins draughts s p → (one : Part) → HasShortRanks one → IsAnswer k goal depth p (about k p (Win s) one ∷ [])
  won s wins one short = record {
    some = omega arith;
    few = omega arith;
    each = All-cons (IsFinding k p) c [] (finding k p (Win s) one tt short) (All-nil (IsFinding k p));
    settles = first {P = λ x. Settles goal x.claim} c [] settles;
    wins = λ t shows. first {P = λ x. TellsWin t x.claim} c [] (winner t (ShowsWin-wins draughts k t depth p shows));
    holds = λ t shows. first {P = λ x. TellsHold t x.claim} c [] (holder t (ShowsHold-holds draughts k t depth p shows));
  }
    where
      c : Certificate
      c = about k p (Win s) one

      settles : Settles goal (Win s)
      settles = elim (one_side goal s) [ inl same ↦ inl (ap Win same) | inr against ↦ inr (inl (ap Win against)) ]

      winner : (t : Side) → Wins draughts t p → s ≡ t
      winner t too = elim (one_side s t) [
        | inl same ↦ sym same
        | inr against ↦ absurd (Wins-holds draughts s p wins (subst (λ u. Wins draughts u p) against too))
      ]

      holder : (t : Side) → Holds draughts t p → s ≡ t
      holder t holds = elim (one_side s t) [
        | inl same ↦ sym same
        | inr against ↦ absurd (holds (subst (λ u. Wins draughts u p) (sym (other-other s) ∙ ap other (sym against)) wins))
      ]

  -- both holds answer, whatever the goal
  drawn : Holds draughts Black p → Holds draughts White p → (one two : Part) → HasShortRanks one → HasShortRanks two
      → IsAnswer k goal depth p (about k p (Hold Black) one ∷ about k p (Hold White) two ∷ [])
  drawn black white one two short also = record {
    some = omega arith;
    few = omega arith;
    each = All-cons (IsFinding k p) c (d ∷ []) (finding k p (Hold Black) one tt short) (All-cons (IsFinding k p) d [] (finding k p (Hold White) two tt also) (All-nil (IsFinding k p)));
    settles = settles goal;
    wins = λ t shows. absurd (no_win t (ShowsWin-wins draughts k t depth p shows));
    holds = λ t shows. held t;
  }
    where
      c : Certificate
      c = about k p (Hold Black) one

      d : Certificate
      d = about k p (Hold White) two

      settles : (g : Side) → Any (λ x. Settles g x.claim) (c ∷ d ∷ [])
      settles Black = second {P = λ x. Settles Black x.claim} c d [] (inr (inr refl))
      settles White = first {P = λ x. Settles White x.claim} c (d ∷ []) (inr (inr refl))

      no_win : (t : Side) → Wins draughts t p → ⊥
      no_win Black wins = white wins
      no_win White wins = black wins

      held : (t : Side) → Any (λ x. TellsHold t x.claim) (c ∷ d ∷ [])
      held Black = first {P = λ x. TellsHold Black x.claim} c (d ∷ []) refl
      held White = second {P = λ x. TellsHold White x.claim} c d [] refl

pub answers_serve : AnswersServe
answers_serve b p found book (inl by) goal depth =
    let s = by.side in
    let kept = by.is_won.0 in
    subst (IsAnswer b.pieces goal depth p) (sym (by.all ∙ ap (λ (c : Certificate). c ∷ []) by.is_won.1.1))
    (won b.pieces p goal depth s (win_true b book s p by.known) (part.Win kept) (trimmed_short (wins_of s b) kept p by.is_won.1.0 (book.short s)))
answers_serve b p found book (inr by) goal depth =
    subst (IsAnswer b.pieces goal depth p) (sym (by.all ∙ (λ i. by.is_black.1.1 i ∷ by.is_white.1.1 i ∷ [])))
    (drawn b.pieces p goal depth (hold_true b book Black p (by.known Black)) (hold_true b book White p (by.known White)) (part.Hold by.is_black.0) (part.Hold by.is_white.0) tt tt)

true_win : (b : Strategies) (p : Board) → IsBook b → (s : Side) (c : Certificate) → KnowsWin b s p → IsWinOf b s p c → IsTrueOf c.claim p
true_win b p book s c known (kept, (trimmed, is)) = subst (λ (x : Certificate). IsTrueOf x.claim p) (sym is) (win_true b book s p known)

true_hold : (b : Strategies) (p : Board) → IsBook b → (s : Side) (c : Certificate) → KnowsHold b s p → IsHoldOf b s p c → IsTrueOf c.claim p
true_hold b p book s c known (kept, (trimmed, is)) = subst (λ (x : Certificate). IsTrueOf x.claim p) (sym is) (hold_true b book s p known)

abbrev IsTrueHere : Board → Certificate → Type 0
IsTrueHere p c = IsTrueOf c.claim p

pub answers_are_true : AnswersAreTrue
answers_are_true b p found book (inl by) =
    subst (All (IsTrueHere p)) (sym by.all) (All-cons (IsTrueHere p) by.won [] (true_win b p book by.side by.won by.known by.is_won) (All-nil (IsTrueHere p)))
answers_are_true b p found book (inr by) =
    subst (All (IsTrueHere p)) (sym by.all)
    (All-cons (IsTrueHere p) by.black (by.white ∷ []) (true_hold b p book Black by.black (by.known Black) by.is_black)
    (All-cons (IsTrueHere p) by.white [] (true_hold b p book White by.white (by.known White) by.is_white) (All-nil (IsTrueHere p))))

-- ---- there is one answer

one_side_wins : (b : Strategies) (p : Board) → IsBook b → (s t : Side) → KnowsWin b s p → KnowsWin b t p → s ≡ t
one_side_wins b p book s t one another = elim (one_side s t) [
  | inl same ↦ sym same
  | inr against ↦ absurd (Wins-holds draughts s p (win_true b book s p one) (subst (λ u. Wins draughts u p) against (win_true b book t p another)))
]

one_win : (b : Strategies) (p : Board) (s t : Side) (c d : Certificate) → s ≡ t → IsWinOf b s p c → IsWinOf b t p d → c ≡ d
one_win b p s t c d same (kept, (trimmed, is)) (also, (trimmed_too, is_too)) =
    let moved : IsTrimmedWin (wins_of t b) p kept = subst (λ (u : Side). IsTrimmedWin (wins_of u b) p kept) same trimmed in
    let part_same : kept ≡ also = one_trimmed_win (wins_of t b) kept also p moved trimmed_too in
    is ∙ ((λ i. about b.pieces p (Win (same i)) (part.Win (part_same i))) ∙ sym is_too)

one_hold : (b : Strategies) (p : Board) (s : Side) (c d : Certificate) → IsHoldOf b s p c → IsHoldOf b s p d → c ≡ d
one_hold b p s c d (kept, (trimmed, is)) (also, (trimmed_too, is_too)) =
    let part_same : kept ≡ also = one_trimmed_hold (holds_of s b) kept also p trimmed trimmed_too in
    is ∙ (ap (λ (x : HoldList). about b.pieces p (Hold s) (part.Hold x)) part_same ∙ sym is_too)

pub one_answer : OneAnswer
one_answer b p None None book one another = refl
one_answer b p None (Some found) book one (inl by) = absurd (one.0 by.side by.known)
one_answer b p None (Some found) book one (inr by) = absurd (one.1 (by.known Black) (by.known White))
one_answer b p (Some found) None book (inl by) another = absurd (another.0 by.side by.known)
one_answer b p (Some found) None book (inr by) another = absurd (another.1 (by.known Black) (by.known White))
one_answer b p (Some found) (Some other_found) book (inl by) (inl also) =
    let same = one_win b p by.side also.side by.won also.won (one_side_wins b p book by.side also.side by.known also.known) by.is_won also.is_won in
    ap Some (by.all ∙ (ap (λ (c : Certificate). c ∷ []) same ∙ sym also.all))
one_answer b p (Some found) (Some other_found) book (inl by) (inr also) = absurd (also.no_win by.side by.known)
one_answer b p (Some found) (Some other_found) book (inr by) (inl also) = absurd (by.no_win also.side also.known)
one_answer b p (Some found) (Some other_found) book (inr by) (inr also) =
    let black = one_hold b p Black by.black also.black by.is_black also.is_black in
    let white = one_hold b p White by.white also.white by.is_white also.is_white in
    ap Some (by.all ∙ ((λ i. black i ∷ white i ∷ []) ∙ sym also.all))

-- ---- how a book answers

module _ (b : Strategies) (book : IsBook b) (k : ℕ) (pieces : k ≡ b.pieces) (p : Board) (found : List Certificate) where
  win_is : (s : Side) (c : Certificate) → ((kept : WinList) × (IsTrimmedWin (wins_of s b) p kept × (c ≡ with_part k p (part.Win kept)))) → IsWinOf b s p c
  win_is s c (kept, (trimmed, is)) =
      let side : kept.side ≡ s = trimmed.side ∙ book.win_sides s in
      (kept, (trimmed, is ∙ (λ i. about (pieces i) p (Win (side i)) (part.Win kept))))

  hold_is : (s : Side) (c : Certificate) → ((kept : HoldList) × (IsTrimmedHold (holds_of s b) p kept × (c ≡ with_part k p (part.Hold kept)))) → IsHoldOf b s p c
  hold_is s c (kept, (trimmed, is)) =
      let side : kept.side ≡ s = trimmed.side ∙ book.hold_sides s in
      (kept, (trimmed, is ∙ (λ i. about (pieces i) p (Hold (side i)) (part.Hold kept))))

  pub answered_by_win : (s : Side) → KnowsWin b s p → (c : Certificate)
      → ((kept : WinList) × (IsTrimmedWin (wins_of s b) p kept × (c ≡ with_part k p (part.Win kept)))) → found ≡ c ∷ []
      → IsAnsweredBy b p (Some found)
  answered_by_win s known c is all = inl (record { side = s; known = known; won = c; is_won = win_is s c is; all = all })

  pub answered_by_holds : (KnowsWin b Black p → ⊥) → (KnowsWin b White p → ⊥) → HasEntry b.black_holds.entries p → HasEntry b.white_holds.entries p → (c d : Certificate)
      → ((kept : HoldList) × (IsTrimmedHold b.black_holds p kept × (c ≡ with_part k p (part.Hold kept))))
      → ((kept : HoldList) × (IsTrimmedHold b.white_holds p kept × (d ≡ with_part k p (part.Hold kept))))
      → found ≡ c ∷ d ∷ [] → IsAnsweredBy b p (Some found)
  answered_by_holds no_black no_white black white c d one two all =
      inr (record { no_win = no_win; known = known; black = c; is_black = hold_is Black c one; white = d; is_white = hold_is White d two; all = all })
    where
      no_win : (s : Side) → KnowsWin b s p → ⊥
      no_win Black = no_black
      no_win White = no_white

      known : (s : Side) → KnowsHold b s p
      known Black = inr black
      known White = inr white

-- nothing is answered
module _ (b : Strategies) (p : Board) (no_black : KnowsWin b Black p → ⊥) (no_white : KnowsWin b White p → ⊥) where
  no_win_known : (s : Side) → KnowsWin b s p → ⊥
  no_win_known Black = no_black
  no_win_known White = no_white

  pub not_black : (HasEntry b.black_holds.entries p → ⊥) → IsAnsweredBy b p None
  not_black not_held = (no_win_known, λ black white. elim black [ inl win ↦ no_black win | inr hold ↦ not_held hold ])

  pub not_white : (HasEntry b.white_holds.entries p → ⊥) → IsAnsweredBy b p None
  not_white not_held = (no_win_known, λ black white. elim white [ inl win ↦ no_white win | inr hold ↦ not_held hold ])

pub told_no : {X : Type 0} (b : Bool) → IsTrue b ↔ X → b ≡ false → X → ⊥
told_no b tells is x = false≢true (sym is ∙ tells.1 x)
