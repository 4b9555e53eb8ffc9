-- Those of the items of a list that meet a claim.
use Rattle.std.proofs.Common.{◌≡◌, inl, inr, List, [], ◌∷◌, ◌++◌, refl, sym, ◌∙◌, ap, subst}
use Rattle.std.specs.Prelude.{Contains}
use Rattle.draughts_board.proofs.Members.{Contains-nil, Contains-cons_cases, Contains-head, Contains-tail}
use Rattle.proved_book.specs.Trimming.{AreThose}

module _ {A : Type 0} (P : A → Type 0) where
  -- each of them is an item that meets it
  pub those_meet : (xs kept : List A) → AreThose P xs kept → (x : A) → Contains kept x → Contains xs x × P x
  those_meet [] kept those x there = absurd (Contains-nil x (subst (λ ys. Contains ys x) those there))
  those_meet (y ∷ xs) kept (inl (meets, (rest, (is, those)))) x there =
      elim (Contains-cons_cases y rest x (subst (λ ys. Contains ys x) is there)) [
        | inl e ↦ (subst (Contains (y ∷ xs)) e (Contains-head y xs), subst P e meets)
        | inr k ↦ (let more = those_meet xs rest those x k in (Contains-tail y x xs more.0, more.1))
      ]
  those_meet (y ∷ xs) kept (inr (fails, those)) x there =
      let more = those_meet xs kept those x there in (Contains-tail y x xs more.0, more.1)

  -- each item that meets it is one of them
  pub those_all : (xs kept : List A) → AreThose P xs kept → (x : A) → Contains xs x → P x → Contains kept x
  those_all [] kept those x there meets = absurd (Contains-nil x there)
  those_all (y ∷ xs) kept (inl (meets_y, (rest, (is, those)))) x there meets =
      subst (λ ys. Contains ys x) (sym is)
      (elim (Contains-cons_cases y xs x there) [
        | inl e ↦ subst (Contains (y ∷ rest)) e (Contains-head y rest)
        | inr k ↦ Contains-tail y x rest (those_all xs rest those x k meets)
      ])
  those_all (y ∷ xs) kept (inr (fails, those)) x there meets =
      elim (Contains-cons_cases y xs x there) [
        | inl e ↦ absurd (fails (subst P (sym e) meets))
        | inr k ↦ those_all xs kept those x k meets
      ]

  -- there is one such list
  pub those_once : (xs a b : List A) → AreThose P xs a → AreThose P xs b → a ≡ b
  those_once [] a b one another = one ∙ sym another
  those_once (x ∷ xs) a b (inl (meets, (rest, (is, those)))) (inl (also, (other, (as_well, these)))) =
      is ∙ (ap (λ ys. x ∷ ys) (those_once xs rest other those these) ∙ sym as_well)
  those_once (x ∷ xs) a b (inl (meets, more)) (inr (fails, these)) = absurd (fails meets)
  those_once (x ∷ xs) a b (inr (fails, those)) (inl (meets, more)) = absurd (fails meets)
  those_once (x ∷ xs) a b (inr (fails, those)) (inr (also, these)) = those_once xs a b those these

  -- one item more, which meets it or does not
  pub those_keep : (xs kept : List A) (x : A) → AreThose P xs kept → P x → AreThose P (xs ++ x ∷ []) (kept ++ x ∷ [])
  those_keep [] kept x those meets = inl (meets, ([], (ap (λ ys. ys ++ x ∷ []) those, refl)))
  those_keep (y ∷ xs) kept x (inl (meets_y, (rest, (is, those)))) meets =
      inl (meets_y, (rest ++ x ∷ [], (ap (λ ys. ys ++ x ∷ []) is, those_keep xs rest x those meets)))
  those_keep (y ∷ xs) kept x (inr (fails, those)) meets = inr (fails, those_keep xs kept x those meets)

  pub those_skip : (xs kept : List A) (x : A) → AreThose P xs kept → (P x → ⊥) → AreThose P (xs ++ x ∷ []) kept
  those_skip [] kept x those fails = inr (fails, those)
  those_skip (y ∷ xs) kept x (inl (meets_y, (rest, (is, those)))) fails =
      inl (meets_y, (rest, (is, those_skip xs rest x those fails)))
  those_skip (y ∷ xs) kept x (inr (fails_y, those)) fails = inr (fails_y, those_skip xs kept x those fails)
