-- The laws of who wins, over any game.
use Rattle.std.proofs.Common.{◌≡◌, ℕ, zero, suc, ◌+◌, ◌≤◌, ◌<◌, ◌⊎◌, inl, inr, List, [], ◌∷◌, refl, ◌∙◌, subst, arith, true}
use Rattle.std.specs.Prelude.{Contains}
use Rattle.std.proofs.lemmas.Bool.{cases_lt}
use Rattle.draughts_board.specs.declared.pieces.Side.{Side}
use Rattle.draughts_board.specs.declared.pieces.Side.TheVariants.{Black, White}
use Rattle.draughts_board.specs.declared.pieces.Value.{Value}
use Rattle.draughts_board.specs.declared.pieces.Value.TheVariants.{BlackWins, WhiteWins, Draw}
use Rattle.draughts_board.specs.Board.{other}
use Rattle.draughts_board.specs.Game.{Game, CanForce, by_move, by_every_reply, WinsIn, Wins, Holds, HasValue, ShowsWin, ShowsHold}
use Rattle.draughts_board.specs.Laws.{LawsOfWinning}
use Rattle.draughts_board.proofs.Members.{Contains-nil, Contains-head, Contains-tail, Contains-cons_cases}

pub other-other : (s : Side) → other (other s) ≡ s
other-other Black = refl
other-other White = refl

pub not_both_sides : (s x : Side) → x ≡ s → x ≡ other s → ⊥
not_both_sides Black x e f = cc
not_both_sides White x e f = cc

pub one_side : (s x : Side) → (x ≡ s) ⊎ (x ≡ other s)
one_side Black Black = inl refl
one_side Black White = inr refl
one_side White Black = inr refl
one_side White White = inl refl

pub empty_from_none : {P : Type 0} (xs : List P) → ((q : P) → Contains xs q → ⊥) → xs ≡ []
empty_from_none [] none = refl
empty_from_none (x ∷ xs) none = absurd (none x (0, omega arith, refl))

module _ {P : Type 0} (game : Game P) where
  pub CanForce-weaker : (s : Side) (F G : P → Type 0) (p : P) → ((q : P) → F q → G q) → CanForce game s F p → CanForce game s G p
  CanForce-weaker s F G p weaker (by_move q mine next here) = by_move q mine next (weaker q here)
  CanForce-weaker s F G p weaker (by_every_reply theirs all) = by_every_reply theirs (λ q next. weaker q (all q next))

  -- where one side can force F and the other G, some position next meets both
  pub CanForce-meet : (s : Side) (F G : P → Type 0) (p : P) → CanForce game s F p → CanForce game (other s) G p → (q : P) × (F q × G q)
  CanForce-meet s F G p (by_move q mine next here) (by_move r theirs _ _) = absurd (not_both_sides s (game.mover p) mine theirs)
  CanForce-meet s F G p (by_move q mine next here) (by_every_reply _ all) = (q, (here, all q next))
  CanForce-meet s F G p (by_every_reply _ all) (by_move q theirs next here) = (q, (all q next, here))
  CanForce-meet s F G p (by_every_reply theirs _) (by_every_reply mine _) = absurd (not_both_sides s (game.mover p) (mine ∙ other-other s) theirs)

  pub WinsIn-more : (s : Side) (n m : ℕ) (p : P) → m ≤ n → WinsIn game s m p → WinsIn game s n p
  WinsIn-more s zero m p le w = let e : m ≡ 0 = omega arith in subst (λ k. WinsIn game s k p) e w
  WinsIn-more s (suc n) m p le w =
      elim (cases_lt n m) [ inl lt ↦ (let e : m ≡ suc n = omega arith in subst (λ k. WinsIn game s k p) e w) | inr ge ↦ inl (WinsIn-more s n m p ge w) ]

  -- a win in fewer than n plies
  abbrev pub WinsBelow : Side → ℕ → P → Type 0
  WinsBelow s n p = (m : ℕ) × ((m < n) × WinsIn game s m p)

  -- a win in at most n plies is one step to a win in fewer
  pub WinsIn-step : (s : Side) (n : ℕ) (p : P) → WinsIn game s n p → CanForce game s (WinsBelow s n) p
  WinsIn-step s zero p w = by_every_reply w.0 (λ q next. absurd (Contains-nil q (subst (λ xs. Contains xs q) w.1 next)))
  WinsIn-step s (suc n) p (inl w) = CanForce-weaker s (WinsBelow s n) (WinsBelow s (suc n)) p (λ q h. (h.0, (omega arith, h.1.1))) (WinsIn-step s n p w)
  WinsIn-step s (suc n) p (inr f) = CanForce-weaker s (WinsIn game s n) (WinsBelow s (suc n)) p (λ q h. (n, (omega arith, h))) f

  pub WinsIn-from_step : (s : Side) (n : ℕ) (p : P) → CanForce game s (WinsBelow s n) p → WinsIn game s n p
  WinsIn-from_step s zero p (by_move q mine next here) = absurd (omega arith)
  WinsIn-from_step s zero p (by_every_reply theirs all) = (theirs, empty_from_none (game.next p) (λ q next. let h = all q next in omega arith))
  WinsIn-from_step s (suc n) p f = inr (CanForce-weaker s (WinsBelow s (suc n)) (WinsIn game s n) p (λ q h. WinsIn-more s n h.0 q (omega arith) h.1.1) f)

  -- what can be forced again and again, or else leads to a hold, is held
  module _ (s : Side) (H : P → Type 0) (closed : (p : P) → H p → CanForce game s (λ q. H q ⊎ Holds game s q) p) where
    held_below : (k n : ℕ) (p : P) → n < k → H p → WinsIn game (other s) n p → ⊥
    held_below zero n p lt h w = omega arith
    held_below (suc k) n p lt h w =
        let met = CanForce-meet s (λ q. H q ⊎ Holds game s q) (WinsBelow (other s) n) p (closed p h) (WinsIn-step (other s) n p w) in
        let below : met.1.1.0 < k = omega arith in
        elim met.1.0 [ inl again ↦ held_below k met.1.1.0 met.0 below again met.1.1.1.1 | inr holds ↦ holds (met.1.1.0, met.1.1.1.1) ]

    pub closed_holds : (p : P) → H p → Holds game s p
    closed_holds p h w = held_below (suc w.0) w.0 p (omega arith) h w.1

  -- a position with a rank from which lower ranks, or wins as near, can be forced is won within its rank
  module _ (s : Side) (R : ℕ → P → Type 0) (ranked : (r : ℕ) (p : P) → R r p → CanForce game s (λ q. (m : ℕ) × ((m < r) × (R m q ⊎ WinsIn game s m q))) p) where
    won_below : (k r : ℕ) (p : P) → r < k → R r p → WinsIn game s r p
    won_below zero r p lt h = absurd (omega arith)
    won_below (suc k) r p lt h =
        WinsIn-from_step s r p
        (CanForce-weaker s (λ q. (m : ℕ) × ((m < r) × (R m q ⊎ WinsIn game s m q))) (WinsBelow s r) p
        (λ q h. (h.0, (h.1.0, elim h.1.1 [ inl again ↦ won_below k h.0 q (omega arith) again | inr won ↦ won ])))
        (ranked r p h))

    pub ranked_wins : (r : ℕ) (p : P) → R r p → WinsIn game s r p
    ranked_wins r p h = won_below (suc r) r p (omega arith) h

  -- not both sides win
  pub Wins-holds : (s : Side) (p : P) → Wins game s p → Holds game s p
  Wins-holds s =
      closed_holds s (Wins game s)
      (λ p w. CanForce-weaker s (WinsBelow s w.0) (λ q. Wins game s q ⊎ Holds game s q) p (λ q h. inl (h.0, h.1.1)) (WinsIn-step s w.0 p w.1))

  -- the list has one bound for all
  Wins-all : (s : Side) (xs : List P) → ((q : P) → Contains xs q → Wins game s q) → (n : ℕ) × ((q : P) → Contains xs q → WinsIn game s n q)
  Wins-all s [] all = (0, λ q h. absurd (Contains-nil q h))
  Wins-all s (x ∷ xs) all =
      let here : Wins game s x = all x (Contains-head x xs) in
      let rest : (n : ℕ) × ((q : P) → Contains xs q → WinsIn game s n q) = Wins-all s xs (λ q h. all q (Contains-tail x q xs h)) in (
        here.0 + rest.0,
        λ q h. elim (Contains-cons_cases x xs q h) [
          | inl e ↦ subst (WinsIn game s (here.0 + rest.0)) e (WinsIn-more s (here.0 + rest.0) here.0 x (omega arith) here.1)
          | inr h ↦ WinsIn-more s (here.0 + rest.0) rest.0 q (omega arith) (rest.1 q h)
        ],
      )

  pub Wins-from_step : (s : Side) (p : P) → CanForce game s (Wins game s) p → Wins game s p
  Wins-from_step s p (by_move q mine next won) = (suc won.0, inr (by_move q mine next won.1))
  Wins-from_step s p (by_every_reply theirs all) =
      let bound = Wins-all s (game.next p) all in
      (suc bound.0, inr (by_every_reply theirs bound.1))

  pub ShowsWin-wins : (k : ℕ) (s : Side) (d : ℕ) (p : P) → ShowsWin game k s d p → Wins game s p
  ShowsWin-wins k s zero p h = h.1
  ShowsWin-wins k s (suc d) p (inl h) = h.1
  ShowsWin-wins k s (suc d) p (inr h) = Wins-from_step s p (CanForce-weaker s (ShowsWin game k s d) (Wins game s) p (ShowsWin-wins k s d) h.1)

  -- a line on which each position can force what is shown with it and those before it on the path
  abbrev Line : ℕ → Side → List P → Type 0
  Line k s [] = Unit {0}
  Line k s (p ∷ path) = ((d : ℕ) × CanForce game s (ShowsHold game k s d (p ∷ path)) p) × Line k s path

  -- a position that heads some line
  abbrev Heads : ℕ → Side → P → Type 0
  Heads k s p = (path : List P) × Line k s (p ∷ path)

  Line-heads : (k : ℕ) (s : Side) (path : List P) (q : P) → Line k s path → Contains path q → Heads k s q
  Line-heads k s [] q line h = absurd (Contains-nil q h)
  Line-heads k s (p ∷ path) q line h = elim (Contains-cons_cases p path q h) [ inl e ↦ subst (Heads k s) e (path, line) | inr h ↦ Line-heads k s path q line.1 h ]

  heads_or_holds : (k : ℕ) (s : Side) (d : ℕ) (path : List P) → Line k s path → (q : P) → ShowsHold game k s d path q → Heads k s q ⊎ Holds game s q
  heads_or_holds k s zero path line q (inl on) = inl (Line-heads k s path q line on)
  heads_or_holds k s zero path line q (inr h) = inr h.1
  heads_or_holds k s (suc d) path line q (inl (inl on)) = inl (Line-heads k s path q line on)
  heads_or_holds k s (suc d) path line q (inl (inr h)) = inr h.1
  heads_or_holds k s (suc d) path line q (inr h) = inl (path, ((d, h.1), line))

  Heads-closed : (k : ℕ) (s : Side) (p : P) → Heads k s p → CanForce game s (λ q. Heads k s q ⊎ Holds game s q) p
  Heads-closed k s p h =
      CanForce-weaker s (ShowsHold game k s h.1.0.0 (p ∷ h.0)) (λ q. Heads k s q ⊎ Holds game s q) p
      (heads_or_holds k s h.1.0.0 (p ∷ h.0) h.1) h.1.0.1

  pub ShowsHold-holds : (k : ℕ) (s : Side) (d : ℕ) (p : P) → ShowsHold game k s d [] p → Holds game s p
  ShowsHold-holds k s d p h =
      elim (heads_or_holds k s d [] tt p h) [ inl heads ↦ closed_holds s (Heads k s) (Heads-closed k s) p heads | inr holds ↦ holds ]

  -- two different values never both hold
  pub values_agree : (p : P) (v w : Value) → HasValue game p v → HasValue game p w → v ≡ w
  values_agree p BlackWins BlackWins h g = refl
  values_agree p BlackWins WhiteWins h g = absurd (Wins-holds Black p h g)
  values_agree p BlackWins Draw h g = absurd (g.1 h)
  values_agree p WhiteWins BlackWins h g = absurd (Wins-holds Black p g h)
  values_agree p WhiteWins WhiteWins h g = refl
  values_agree p WhiteWins Draw h g = absurd (g.0 h)
  values_agree p Draw BlackWins h g = absurd (h.1 g)
  values_agree p Draw WhiteWins h g = absurd (h.0 g)
  values_agree p Draw Draw h g = refl

  -- that a position has no value cannot be
  pub some_value : (p : P) → (((v : Value) → HasValue game p v → ⊥) → ⊥)
  some_value p none = none Draw (none WhiteWins, none BlackWins)

  -- all the laws at once
  pub laws_of_winning : LawsOfWinning game
  laws_of_winning = record {
    winner_holds = Wins-holds;
    one_value = λ p. record { at_most_one = values_agree p; draw_elsewhere = λ b w. (w, b); not_none = some_value p };
    more_plies = λ s n p w. WinsIn-more s (n + 1) n p (omega arith) w;
    forced_wins = Wins-from_step;
    ranked_positions = λ s has_rank ranked r p h.
        ranked_wins s (λ m q. has_rank m q ≡ true)
        (λ m q g. CanForce-weaker s (λ t. (k : ℕ) × ((k < m) × (has_rank k t ≡ true))) (λ t. (k : ℕ) × ((k < m) × ((has_rank k t ≡ true) ⊎ WinsIn game s k t))) q (λ t k. (k.0, (k.1.0, inl k.1.1))) (ranked m q g))
        r p h;
    fortress = λ s is_inside closed. closed_holds s (λ q. is_inside q ≡ true) closed;
    shown_wins = ShowsWin-wins;
    shown_holds = ShowsHold-holds;
  }
