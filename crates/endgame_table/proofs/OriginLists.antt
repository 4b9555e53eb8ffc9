-- Lists that run through links: their first step, and one link more.
use Rattle.std.proofs.Common.{◌≡◌, ◌≢◌, ℕ, zero, suc, ◌-◌, ◌<◌, ◌≤◌, cond, eqb, List, [], ◌∷◌, ◌++◌, length, refl, sym, ◌∙◌, ap, subst, inl, inr, arith}
use Rattle.std.proofs.lemmas.Bool.{cases_Bool, eqb-false, eq-eqb, ne_eqb, cases_lt}
use Rattle.std.proofs.lemmas.List.{get_or_append_left, get_or_at, get_or_past, length-append}
use Rattle.endgame_table.specs.declared.origins.Link.{Link}
use Rattle.endgame_table.specs.Origins.{no_link, link_at, origins_within, origins_from, AreLinks}

module _ (links : List Link) (are : AreLinks links) where
  next-less : (place : ℕ) → place ≢ 0 → (link_at links place).next < place
  next-less place some = let less = are (place - 1) in omega arith

  -- a fuel of at least the place is enough
  enough : (f g place : ℕ) → place ≤ f → place ≤ g → origins_within f links place ≡ origins_within g links place
  unfolding origins_within
  enough zero zero place a b = refl
  enough zero (suc g) place a b =
      let e : place ≡ 0 = omega arith in
      sym (ap (λ b. cond b [] ((link_at links place).origin ∷ origins_within g links (link_at links place).next)) (eq-eqb place 0 e))
  enough (suc f) zero place a b =
      let e : place ≡ 0 = omega arith in
      ap (λ b. cond b [] ((link_at links place).origin ∷ origins_within f links (link_at links place).next)) (eq-eqb place 0 e)
  enough (suc f) (suc g) place a b = elim (cases_Bool (eqb place 0)) [
    | inl e ↦ ap (λ b. cond b [] ((link_at links place).origin ∷ origins_within f links (link_at links place).next)) e ∙ sym (ap (λ b. cond b [] ((link_at links place).origin ∷ origins_within g links (link_at links place).next)) e)
    | inr e ↦ (let less = next-less place (eqb-false place 0 e) in
        ap (λ b. cond b [] ((link_at links place).origin ∷ origins_within f links (link_at links place).next)) e
        ∙ ap (λ l. (link_at links place).origin ∷ l) (enough f g (link_at links place).next (omega arith) (omega arith))
        ∙ sym (ap (λ b. cond b [] ((link_at links place).origin ∷ origins_within g links (link_at links place).next)) e))
  ]

  -- the first origin, and those behind it
  pub origins-step : (place : ℕ) → place ≢ 0 → origins_from links place ≡ (link_at links place).origin ∷ origins_from links (link_at links place).next
  unfolding origins_within
  origins-step place some =
      let less = next-less place some in
      let size : place ≡ suc (place - 1) = omega arith in
      ap (λ n. origins_within n links place) size
      ∙ ap (λ b. cond b [] ((link_at links place).origin ∷ origins_within (place - 1) links (link_at links place).next)) (ne_eqb place 0 some)
      ∙ ap (λ l. (link_at links place).origin ∷ l) (enough (place - 1) (link_at links place).next (link_at links place).next (omega arith) (omega arith))

pub origins-end : (links : List Link) → origins_from links 0 ≡ []
unfolding origins_within
origins-end links = refl

-- ---- one link more

module _ (links : List Link) (link : Link) where
  same_link : (place : ℕ) → place ≢ 0 → place ≤ length links → link_at (links ++ link ∷ []) place ≡ link_at links place
  same_link place some within = get_or_append_left links (link ∷ []) no_link (place - 1) (omega arith)

  within-more : (are : AreLinks links) (n place : ℕ) → place ≤ length links → origins_within n (links ++ link ∷ []) place ≡ origins_within n links place
  unfolding origins_within
  within-more are zero place within = refl
  within-more are (suc n) place within = elim (cases_Bool (eqb place 0)) [
    | inl e ↦ ap (λ b. cond b [] ((link_at (links ++ link ∷ []) place).origin ∷ origins_within n (links ++ link ∷ []) (link_at (links ++ link ∷ []) place).next)) e
        ∙ sym (ap (λ b. cond b [] ((link_at links place).origin ∷ origins_within n links (link_at links place).next)) e)
    | inr e ↦ (let some : place ≢ 0 = eqb-false place 0 e in
        let same = same_link place some within in
        let less = next-less links are place some in
        (λ i. cond (eqb place 0) [] ((same i).origin ∷ origins_within n (links ++ link ∷ []) (same i).next))
        ∙ ap (λ l. cond (eqb place 0) [] ((link_at links place).origin ∷ l)) (within-more are n (link_at links place).next (omega arith)))
  ]

  -- the lists that were there stay
  pub origins-more : (are : AreLinks links) (place : ℕ) → place ≤ length links → origins_from (links ++ link ∷ []) place ≡ origins_from links place
  origins-more are place within = within-more are place place within

  pub are_links-more : AreLinks links → link.next ≤ length links → AreLinks (links ++ link ∷ [])
  are_links-more are within k = elim (cases_lt k (length links)) [
    | inl less ↦ subst (λ (l : Link). l.next ≤ k) (sym (get_or_append_left links (link ∷ []) no_link k less)) (are k)
    | inr more ↦ elim (cases_lt (length links) k) [
      | inl past ↦ (let size = length-append links (link ∷ []) in
          subst (λ (l : Link). l.next ≤ k) (sym (get_or_past (links ++ link ∷ []) k no_link (omega arith))) (omega arith))
      | inr at ↦ (let e : length links ≡ k = omega arith in
          subst (λ (l : Link). l.next ≤ k) (sym (get_or_at links link [] no_link k e)) (omega arith))
    ]
  ]

  -- and the new one begins a list
  pub origins-new : (are : AreLinks links) → link.next ≤ length links → origins_from (links ++ link ∷ []) (suc (length links)) ≡ link.origin ∷ origins_from links link.next
  origins-new are within =
      let here : link_at (links ++ link ∷ []) (suc (length links)) ≡ link = (let e : length links ≡ suc (length links) - 1 = omega arith in get_or_at links link [] no_link (suc (length links) - 1) e) in
      origins-step (links ++ link ∷ []) (are_links-more are within) (suc (length links)) (omega arith)
      ∙ (λ i. (here i).origin ∷ origins_from (links ++ link ∷ []) (here i).next)
      ∙ ap (λ l. link.origin ∷ l) (origins-more are link.next within)
