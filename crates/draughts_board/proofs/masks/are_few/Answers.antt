use Rattle.std.proofs.Common.{◌≡◌, ℕ, ◌<◌, ◌≤◌, ◌&&◌, nat_le, sym, ◌∙◌, ap, subst, arith, inl, inr}
use Rattle.std.proofs.lemmas.Bool.{le-leb, leb-true, cases_Bool}
use Rattle.draughts_board.specs.declared.pieces.Side.TheVariants.{Black}
use Rattle.draughts_board.specs.Masks.{board_in}
use Rattle.draughts_board.specs.MasksBack.{length-cells_in}
use Rattle.draughts_board.proofs.FourMasks.{apart_masks-AreMasksOf}
use Rattle.draughts_board.proofs.CountMasks.{count-black, count-white}
use Rattle.draughts_board.proofs.masks.are_few.Goals as goal

few_so : (a b x y : ℕ) → a ≡ x → b ≡ y → a ≤ 12 → nat_le b 12 ≡ (nat_le x 12 && nat_le y 12)
few_so a b x y ea eb few = ap (λ k. nat_le k 12) eb ∙ ap (λ t. t && nat_le y 12) (sym (le-leb x 12 (subst (λ k. k ≤ 12) ea few)))

many_so : (a x y : ℕ) → a ≡ x → 12 < a → nat_le a 12 ≡ (nat_le x 12 && nat_le y 12)
many_so a x y ea many = elim (cases_Bool (nat_le a 12)) [
  | inl t ↦ (let few : a ≤ 12 = leb-true a 12 t in absurd (omega arith))
  | inr f ↦ f ∙ ap (λ t. t && nat_le y 12) (sym f ∙ ap (λ k. nat_le k 12) ea)
]

pub returns-then-count_in-le12 : goal.returns-then-count_in-le12
returns-then-count_in-le12 c =
    let masks = c.args.masks.now in
    let held = apart_masks-AreMasksOf masks Black c.told-masks c.requires in
    few_so _ _ _ _
    (c.count_in.ensures.value ∙ count-black (board_in masks Black) masks (length-cells_in masks) held)
    (c.count_in-then-count_in-le12.ensures.value ∙ count-white (board_in masks Black) masks (length-cells_in masks) held)
    c.if-count_in-le12.true

pub returns-else-count_in-le12 : goal.returns-else-count_in-le12
returns-else-count_in-le12 c =
    let masks = c.args.masks.now in
    let held = apart_masks-AreMasksOf masks Black c.told-masks c.requires in
    many_so _ _ _ (c.count_in.ensures.value ∙ count-black (board_in masks Black) masks (length-cells_in masks) held) c.if-count_in-le12.false
