-- When a number is 0.
use Rattle.std.proofs.Common.{◌≡◌, ℕ, zero, suc, ◌+◌, ◌<◌, ◌⊎◌, inl, inr, refl, sym, subst, Bool, true, false, cond, eqb, map, arith}
use Rattle.std.specs.Prelude.{min}
use Rattle.std.proofs.lemmas.Bool.{false≢true, eqb-true}
use Rattle.std.proofs.lemmas.Bool.Decides.{nat_tests}
use Rattle.draughts_board.specs.Board.{other, same_side}
use Rattle.draughts_board.specs.declared.pieces.Side.{Side}
use Rattle.draughts_board.specs.declared.pieces.Side.TheVariants.{Black, White}
use Rattle.proof_numbers.specs.declared.numbers.Number.{Number}
use Rattle.proof_numbers.specs.declared.numbers.Number.TheVariants.{Finite, Infinite}
use Rattle.proof_numbers.specs.declared.numbers.Numbers.{Numbers}
use Rattle.proof_numbers.specs.Known.{knows_win, knows_hold}
use Rattle.proof_numbers.specs.Numbers.{least, total, least_of, total_of, is_zero, proved, refuted, counted_moves}
use Rattle.proof_tree.specs.declared.rows.Mark.{Mark}
use Rattle.proof_tree.specs.declared.rows.Mark.TheVariants.{Unexpanded, Expanded, Repeats}
use Rattle.proof_tree.specs.Forest.{Own, Forest, numbers, folded, numbers_by_mark}
use Rattle.certificate_joiner.proofs.Nodes.{is_proved, is_disproved}

zero_is : (n : ℕ) → is_zero (Finite n) ≡ true → n ≡ 0
zero_is n t = eqb-true n 0 t

is_zero-from : (n : ℕ) → n ≡ 0 → is_zero (Finite n) ≡ true
is_zero-from n e = subst (λ m. is_zero (Finite m) ≡ true) (sym e) refl

pub least_zero : (a b : Number) → is_zero (least a b) ≡ true → (is_zero a ≡ true) ⊎ (is_zero b ≡ true)
least_zero Infinite b t = inr t
least_zero (Finite m) Infinite t = inl t
least_zero (Finite zero) (Finite n) t = inl refl
least_zero (Finite (suc m)) (Finite zero) t = inr refl
least_zero (Finite (suc m)) (Finite (suc n)) t = absurd (let e = zero_is (min (suc m) (suc n)) t in omega arith)

pub total_zero : (a b : Number) → is_zero (total a b) ≡ true → (is_zero a ≡ true) × (is_zero b ≡ true)
total_zero Infinite b t = absurd (false≢true t)
total_zero (Finite m) Infinite t = absurd (false≢true t)
total_zero (Finite m) (Finite n) t =
    let e = zero_is (m + n) t in (is_zero-from m (omega arith), is_zero-from n (omega arith))

-- a position counts a move at least
positive : (n : ℕ) → 0 < counted_moves n
positive n = by (eqb n 0) refl
  where
    by : (b : Bool) → eqb n 0 ≡ b → 0 < cond b 1 (min n 64)
    by true e = let r : 0 < 1 = omega arith in r
    by false e = let more : 0 < n = grind (arith, nat_tests, e) in let r : 0 < min n 64 = omega arith in r

no_zero : (n : ℕ) → is_zero (Finite (counted_moves n)) ≡ true → ⊥
no_zero n t = let e = zero_is (counted_moves n) t in let p = positive n in omega arith

-- ---- of the children

-- the least of the proof numbers is 0, and so on
abbrev pub some_proved : Side → Forest → Bool
some_proved goal xs = is_zero (least_of (map (λ n. n.proof) (numbers goal xs)))

abbrev pub all_proved : Side → Forest → Bool
all_proved goal xs = is_zero (total_of (map (λ n. n.proof) (numbers goal xs)))

abbrev pub some_disproved : Side → Forest → Bool
some_disproved goal xs = is_zero (least_of (map (λ n. n.disproof) (numbers goal xs)))

abbrev pub all_disproved : Side → Forest → Bool
all_disproved goal xs = is_zero (total_of (map (λ n. n.disproof) (numbers goal xs)))

-- ---- of a node

mine-from : (s t : Side) → same_side s t ≡ true → t ≡ s
mine-from Black Black t = refl
mine-from White White t = refl
mine-from Black White t = absurd (false≢true t)
mine-from White Black t = absurd (false≢true t)

theirs-from : (s t : Side) → same_side s t ≡ false → t ≡ other s
theirs-from Black White t = refl
theirs-from White Black t = refl
theirs-from Black Black t = absurd (false≢true (sym t))
theirs-from White White t = absurd (false≢true (sym t))

-- why the proof number is 0
abbrev pub ProvedBy : Side → Own → Forest → Type 0
ProvedBy s own xs =
    (knows_win s own.facts ≡ true)
    ⊎ ((own.mark ≡ Expanded)
    × (((own.position.to_move ≡ s) × (some_proved s xs ≡ true)) ⊎ ((own.position.to_move ≡ other s) × (all_proved s xs ≡ true))))

-- why the disproof number is 0
abbrev pub DisprovedBy : Side → Own → Forest → Type 0
DisprovedBy s own xs =
    (knows_hold (other s) own.facts ≡ true)
    ⊎ ((own.mark ≡ Repeats)
    ⊎ ((own.mark ≡ Expanded)
    × (((own.position.to_move ≡ s) × (all_disproved s xs ≡ true)) ⊎ ((own.position.to_move ≡ other s) × (some_disproved s xs ≡ true)))))

module _ (s : Side) (own : Own) (xs : Forest) where
  abbrev Both : Numbers → Type 0
  Both ns = (is_zero ns.proof ≡ true → ProvedBy s own xs) × (is_zero ns.disproof ≡ true → DisprovedBy s own xs)

  fold_by : (b : Bool) → same_side s own.position.to_move ≡ b → own.mark ≡ Expanded → Both (folded b (numbers s xs))
  fold_by true is e =
      let mine = mine-from s own.position.to_move is in (λ t. inr (e, inl (mine, t)), λ t. inr (inr (e, inl (mine, t))))
  fold_by false is e =
      let theirs = theirs-from s own.position.to_move is in (λ t. inr (e, inr (theirs, t)), λ t. inr (inr (e, inr (theirs, t))))

  unknown_by : (b : Bool) (n : ℕ)
      → Both (cond b (record { proof = Finite 1; disproof = Finite (counted_moves n) }) (record { proof = Finite (counted_moves n); disproof = Finite 1 }))
  unknown_by true n = (λ t. absurd (false≢true t), λ t. absurd (no_zero n t))
  unknown_by false n = (λ t. absurd (no_zero n t), λ t. absurd (false≢true t))

  mark_by : (mark : Mark) → own.mark ≡ mark → Both (numbers_by_mark s mark own.position (numbers s xs))
  mark_by Unexpanded e = unknown_by (same_side s own.position.to_move) _
  mark_by Expanded e = fold_by (same_side s own.position.to_move) refl e
  mark_by Repeats e = (λ t. absurd (false≢true t), λ t. inr (inl e))

  win_by : (w h : Bool) → knows_win s own.facts ≡ w → knows_hold (other s) own.facts ≡ h
      → Both (cond w proved (cond h refuted (numbers_by_mark s own.mark own.position (numbers s xs))))
  win_by true h is _ = (λ t. inl is, λ t. absurd (false≢true t))
  win_by false true _ is = (λ t. absurd (false≢true t), λ t. inl is)
  win_by false false _ _ = mark_by own.mark refl

  pub proved_by : is_proved s (record { own = own; children = xs }) ≡ true → ProvedBy s own xs
  proved_by t = (win_by (knows_win s own.facts) (knows_hold (other s) own.facts) refl refl).0 t

  pub disproved_by : is_disproved s (record { own = own; children = xs }) ≡ true → DisprovedBy s own xs
  disproved_by t = (win_by (knows_win s own.facts) (knows_hold (other s) own.facts) refl refl).1 t
