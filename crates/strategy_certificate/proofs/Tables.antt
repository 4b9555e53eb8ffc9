-- What a sound table answers is true, and there is one.
use Rattle.std.proofs.Common.{◌≡◌, ℕ, zero, suc, ◌≤◌, ◌<◌, ◌⊎◌, inl, inr, refl, sym, ◌∙◌, ap, subst, arith, Option, Some, None}
use Rattle.std.specs.Prelude.{Contains, IsSome}
use Rattle.draughts_board.specs.declared.pieces.Side.{Side}
use Rattle.draughts_board.specs.Board.{other}
use Rattle.draughts_board.specs.Game.{Game, TakesTurns, CanForce, by_move, by_every_reply, WinsIn, Holds}
use Rattle.draughts_board.proofs.Truth.{other-other, one_side, ranked_wins, closed_holds, Wins-holds}
use Rattle.strategy_certificate.specs.declared.oracle.Answer.{Answer}
use Rattle.strategy_certificate.specs.declared.oracle.Answer.TheVariants.{Win, Loss, Draw}
use Rattle.strategy_certificate.specs.Tables.{IsRight, IsSoundTable, TableWins, TableHolds}

module _ {P : Type 0} (game : Game P) (turns : TakesTurns game) (k : ℕ) (answer : P → Option Answer) (sound : IsSoundTable game k answer) where
  next-other : (s : Side) (p q : P) → Contains (game.next p) q → game.mover p ≡ s → game.mover q ≡ other s
  next-other s p q next mine = turns.alternates p q next ∙ ap other mine

  next-mine : (s : Side) (p q : P) → Contains (game.next p) q → game.mover p ≡ other s → game.mover q ≡ s
  next-mine s p q next theirs = turns.alternates p q next ∙ (ap other theirs ∙ other-other s)

  TableWins-ranked : (s : Side) (r : ℕ) (p : P) → TableWins game answer s r p
      → CanForce game s (λ q. (m : ℕ) × ((m < r) × (TableWins game answer s m q ⊎ WinsIn game s m q))) p
  TableWins-ranked s r p (inl won) =
      let right = sound.right p (Win r) won.1 in
      let found = right.1.1.0 in
      by_move found.0 won.0 found.1.0 (right.0, (omega arith, inl (inr (next-other s p found.0 found.1.0 won.0, found.1.1))))
  TableWins-ranked s r p (inr lost) =
      by_every_reply lost.0 (λ q next.
      let all = (sound.right p (Loss r) lost.1).0 q next in
      (all.0, (all.1.1, inl (inl (next-mine s p q next lost.0, all.1.0)))))

  pub TableWins-wins : (s : Side) (r : ℕ) (p : P) → TableWins game answer s r p → WinsIn game s r p
  TableWins-wins s r p h = ranked_wins game s (TableWins game answer s) (TableWins-ranked s) r p h

  answered-next : (p q : P) (a : Answer) → answer p ≡ Some a → Contains (game.next p) q → IsSome (answer q)
  answered-next p q a is next =
      let covered = (sound.answered p).0 (subst IsSome (sym is) refl) in
      let fall = turns.pieces_fall p q covered.0 next in
      (sound.answered q).1 (turns.stays_position p q covered.0 next, omega arith)

  Draw-next : (s : Side) (p q : P) → answer p ≡ Some Draw → game.mover q ≡ s → Contains (game.next p) q
      → (o : Option Answer) → answer q ≡ o → IsSome o → (answer q ≡ Some Draw) ⊎ Holds game s q
  Draw-next s p q drawn mine next None is some = cc
  Draw-next s p q drawn mine next (Some (Win m)) is some = inr (Wins-holds game s q (m, TableWins-wins s m q (inl (mine, is))))
  Draw-next s p q drawn mine next (Some (Loss m)) is some = absurd ((sound.right p Draw drawn).1 q next m is)
  Draw-next s p q drawn mine next (Some Draw) is some = inl is

  Draw-closed : (s : Side) (p : P) → answer p ≡ Some Draw → CanForce game s (λ q. (answer q ≡ Some Draw) ⊎ Holds game s q) p
  Draw-closed s p drawn =
      let found = (sound.right p Draw drawn).0 in
      elim (one_side s (game.mover p)) [
        | inl mine ↦ by_move found.0 mine found.1.0 (inl found.1.1)
        | inr theirs ↦ by_every_reply theirs (λ q next.
            Draw-next s p q drawn (next-mine s p q next theirs) next (answer q) refl (answered-next p q Draw drawn next))
      ]

  pub Draw-holds : (s : Side) (p : P) → answer p ≡ Some Draw → Holds game s p
  Draw-holds s p drawn = closed_holds game s (λ q. answer q ≡ Some Draw) (Draw-closed s) p drawn

  pub TableHolds-holds : (s : Side) (p : P) → TableHolds game answer s p → Holds game s p
  TableHolds-holds s p (inl won) = Wins-holds game s p (won.0, TableWins-wins s won.0 p won.1)
  TableHolds-holds s p (inr drawn) = Draw-holds s p drawn

-- two sound tables for the same number of pieces
module _ {P : Type 0} (game : Game P) (k : ℕ) where
  -- an answer of the one is some answer of the other
  both_answer : (a b : P → Option Answer) → IsSoundTable game k a → IsSoundTable game k b → (p : P) → IsSome (a p) → IsSome (b p)
  both_answer a b sa sb p h = (sb.answered p).1 ((sa.answered p).0 h)

  -- the ranks below n are the same
  record AgreeBelow (a b : P → Option Answer) (n : ℕ) : Type 0 where
    win : (p : P) (r : ℕ) → r < n → a p ≡ Some (Win r) → b p ≡ Some (Win r)
    loss : (p : P) (r : ℕ) → r < n → a p ≡ Some (Loss r) → b p ≡ Some (Loss r)

  module _ (a b : P → Option Answer) (sa : IsSoundTable game k a) (sb : IsSoundTable game k b) (n : ℕ) (ab : AgreeBelow a b n) (ba : AgreeBelow b a n) where
    win_more : (p : P) (r : ℕ) → r < suc n → a p ≡ Some (Win r) → (o : Option Answer) → b p ≡ o → IsSome o → b p ≡ Some (Win r)
    win_more p r lt is None is' some = cc
    win_more p r lt is (Some Draw) is' some =
        let right = sa.right p (Win r) is in
        let q = right.1.1.0 in
        absurd ((sb.right p Draw is').1 q.0 q.1.0 right.0 (ab.loss q.0 right.0 (omega arith) q.1.1))
    win_more p r lt is (Some (Loss m)) is' some =
        let right = sa.right p (Win r) is in
        let q = right.1.1.0 in
        let lost = ab.loss q.0 right.0 (omega arith) q.1.1 in
        let won = (sb.right p (Loss m) is').0 q.0 q.1.0 in
        let e = won.1.0 in
        cc
    win_more p r lt is (Some (Win m)) is' some =
        let right = sa.right p (Win r) is in
        let q = right.1.1.0 in
        let lost = ab.loss q.0 right.0 (omega arith) q.1.1 in
        let right' = sb.right p (Win m) is' in
        let q' = right'.1.1.0 in
        let le : right'.0 ≤ right.0 = right'.1.1.1 q.0 q.1.0 right.0 lost in
        let lost' = ba.loss q'.0 right'.0 (omega arith) q'.1.1 in
        let ge : right.0 ≤ right'.0 = right.1.1.1 q'.0 q'.1.0 right'.0 lost' in
        let e : m ≡ r = omega arith in
        is' ∙ ap (λ (m : ℕ). Some (Win m)) e

    same_rank : (p : P) (m r : ℕ) → b p ≡ Some (Win m) → b p ≡ Some (Win r) → m ≡ r
    same_rank p m r is is' = cc

    rank_at_most : (p : P) (r m : ℕ) → r < suc n → IsRight game a p (Loss r) → IsRight game b p (Loss m) → r ≤ m
    rank_at_most p r m lt right right' =
        elim right.1 [
          | inl none ↦ omega arith
          | inr q ↦
              let won = right'.0 q.0 q.1.0 in
              let e = same_rank q.0 won.0 q.1.1.0 won.1.0 (ab.win q.0 q.1.1.0 (omega arith) q.1.1.1.0) in
              omega arith
        ]

    rank_at_least : (p : P) (r m : ℕ) → r < suc n → IsRight game a p (Loss r) → IsRight game b p (Loss m) → m ≤ r
    rank_at_least p r m lt right right' =
        elim right'.1 [
          | inl none ↦ omega arith
          | inr q ↦
              let won = right.0 q.0 q.1.0 in
              let e = same_rank q.0 q.1.1.0 won.0 q.1.1.1.0 (ab.win q.0 won.0 (omega arith) won.1.0) in
              omega arith
        ]

    loss_more : (p : P) (r : ℕ) → r < suc n → a p ≡ Some (Loss r) → (o : Option Answer) → b p ≡ o → IsSome o → b p ≡ Some (Loss r)
    loss_more p r lt is None is' some = cc
    loss_more p r lt is (Some Draw) is' some =
        let q = (sb.right p Draw is').0 in
        let won = (sa.right p (Loss r) is).0 q.0 q.1.0 in
        let won' = ab.win q.0 won.0 (omega arith) won.1.0 in
        let drawn = q.1.1 in
        cc
    loss_more p r lt is (Some (Win m)) is' some =
        let right' = sb.right p (Win m) is' in
        let q = right'.1.1.0 in
        let won = (sa.right p (Loss r) is).0 q.0 q.1.0 in
        let won' = ab.win q.0 won.0 (omega arith) won.1.0 in
        let lost = q.1.1 in
        cc
    loss_more p r lt is (Some (Loss m)) is' some =
        let right = sa.right p (Loss r) is in
        let right' = sb.right p (Loss m) is' in
        let e : m ≡ r = omega (arith, rank_at_most p r m lt right right', rank_at_least p r m lt right right') in
        is' ∙ ap (λ (m : ℕ). Some (Loss m)) e

  more : (a b : P → Option Answer) → IsSoundTable game k a → IsSoundTable game k b → (n : ℕ) → AgreeBelow a b n → AgreeBelow b a n → AgreeBelow a b (suc n)
  more a b sa sb n ab ba = record {
    win = λ p r lt is. win_more a b sa sb n ab ba p r lt is (b p) refl (both_answer a b sa sb p (subst IsSome (sym is) refl));
    loss = λ p r lt is. loss_more a b sa sb n ab ba p r lt is (b p) refl (both_answer a b sa sb p (subst IsSome (sym is) refl));
  }

  agree_below : (a b : P → Option Answer) → IsSoundTable game k a → IsSoundTable game k b → (n : ℕ) → AgreeBelow a b n × AgreeBelow b a n
  agree_below a b sa sb zero = (record { win = λ p r lt is. absurd (omega arith); loss = λ p r lt is. absurd (omega arith) }, record { win = λ p r lt is. absurd (omega arith); loss = λ p r lt is. absurd (omega arith) })
  agree_below a b sa sb (suc n) =
      let agree = agree_below a b sa sb n in
      let one = more a b sa sb n agree.0 agree.1 in
      let two = more b a sb sa n agree.1 agree.0 in
      (one, two)

  same_at : (a b : P → Option Answer) → IsSoundTable game k a → IsSoundTable game k b → (p : P) (x y : Option Answer) → a p ≡ x → b p ≡ y → a p ≡ b p
  same_at a b sa sb p None None is is' = cc
  same_at a b sa sb p None (Some y) is is' = let h : IsSome (a p) = both_answer b a sb sa p (subst IsSome (sym is') refl) in cc
  same_at a b sa sb p (Some x) None is is' = let h : IsSome (b p) = both_answer a b sa sb p (subst IsSome (sym is) refl) in cc
  same_at a b sa sb p (Some (Win r)) (Some y) is is' = is ∙ sym ((agree_below a b sa sb (suc r)).0.win p r (omega arith) is)
  same_at a b sa sb p (Some (Loss r)) (Some y) is is' = is ∙ sym ((agree_below a b sa sb (suc r)).0.loss p r (omega arith) is)
  same_at a b sa sb p (Some Draw) (Some (Win r)) is is' = (agree_below a b sa sb (suc r)).1.win p r (omega arith) is' ∙ sym is'
  same_at a b sa sb p (Some Draw) (Some (Loss r)) is is' = (agree_below a b sa sb (suc r)).1.loss p r (omega arith) is' ∙ sym is'
  same_at a b sa sb p (Some Draw) (Some Draw) is is' = cc

  -- there is at most one sound table
  pub sound_tables_agree : (a b : P → Option Answer) → IsSoundTable game k a → IsSoundTable game k b → (p : P) → a p ≡ b p
  sound_tables_agree a b sa sb p = same_at a b sa sb p (a p) (b p) refl refl
