-- Pushing the rows of new nodes, one child after the other.
use Rattle.std.proofs.Common.{◌≡◌, ℕ, suc, ◌+◌, ◌<◌, ◌≤◌, List, [], ◌∷◌, ◌++◌, length, take, get_or, Some, refl, sym, ap, ◌∙◌, arith, append_assoc, append-nil, length-append, take_at}
use Rattle.std.proofs.lemmas.List.{take_more, take_all, length-take-le}
use Rattle.draughts_board.specs.Board.{Board}
use Rattle.proof_numbers.specs.declared.leaves.Child.{Child}
use Rattle.proof_tree.specs.declared.rows.NodeRow.{NodeRow}
use Rattle.proof_tree.specs.Rows.{path, new_row, new_rows}

pub length-new_rows : (above : List Board) (parent next : ℕ) (children : List Child) → length (new_rows above parent next children) ≡ length children
length-new_rows above parent next [] = refl
length-new_rows above parent next (c ∷ children) = ap suc (length-new_rows above parent (suc next) children)

new_rows-push : (above : List Board) (parent next : ℕ) (children : List Child) (child : Child)
    → new_rows above parent next (children ++ child ∷ []) ≡ new_rows above parent next children ++ new_row above parent (next + length children) child ∷ []
new_rows-push above parent next [] child = ap (λ (n : ℕ). new_row above parent n child ∷ []) (let z : next ≡ next + 0 = omega arith in z)
new_rows-push above parent next (c ∷ children) child =
    ap (λ (rs : List NodeRow). new_row above parent next c ∷ rs)
    (new_rows-push above parent (suc next) children child
    ∙ ap (λ (n : ℕ). new_rows above parent (suc next) children ++ new_row above parent n child ∷ [])
    (let z : suc next + length children ≡ next + suc (length children) = omega arith in z))

pub record IsPushing (old : List NodeRow) (parent : ℕ) (children : List Child) (room : ℕ) (now : List NodeRow) (i space : ℕ) : Type 0 where
  pub is : now ≡ old ++ new_rows (path old (Some parent)) parent (length old) (take i children)
  pub enough : room ≤ space

module _ (old : List NodeRow) (parent : ℕ) (children : List Child) (room : ℕ) where
  above : List Board
  above = path old (Some parent)

  pub push-start : IsPushing old parent children room old 0 room
  push-start = record { is = sym (append-nil old); enough = omega arith }

  module _ (items : List NodeRow) (i space : ℕ) (so : IsPushing old parent children room items i space) where
    -- the first rows are the old ones
    pub push-front : take (length old) items ≡ old
    push-front = ap (take (length old)) so.is ∙ take_at old (new_rows (path old (Some parent)) parent (length old) (take i children)) (length old) refl

    pub push-length : i ≤ length children → length items ≡ length old + i
    push-length l =
        ap length so.is
        ∙ length-append old (new_rows (path old (Some parent)) parent (length old) (take i children))
        ∙ ap (λ (n : ℕ). length old + n) (length-new_rows (path old (Some parent)) parent (length old) (take i children) ∙ length-take-le i children l)

    pub push-step : i < length children → (child : Child) → child ≡ get_or children i child → (row : NodeRow)
        → row ≡ new_row (path old (Some parent)) parent (length items) child → (items' : List NodeRow) → items' ≡ items ++ row ∷ [] → (space' : ℕ) → space ≤ space'
        → IsPushing old parent children room items' (i + 1) space'
    push-step l child at row is items' pushed space' more =
        let front = new_rows (path old (Some parent)) parent (length old) (take i children) in
        let place : length items ≡ length old + length (take i children) =
        push-length (omega arith) ∙ ap (λ (n : ℕ). length old + n) (sym (length-take-le i children (omega arith))) in
        let rows : new_rows (path old (Some parent)) parent (length old) (take (i + 1) children) ≡ front ++ row ∷ [] =
        ap (new_rows (path old (Some parent)) parent (length old))
        (take_more children i child l ∙ ap (λ (c : Child). take i children ++ c ∷ []) (sym at))
        ∙ new_rows-push (path old (Some parent)) parent (length old) (take i children) child
        ∙ ap (λ (r : NodeRow). front ++ r ∷ []) (ap (λ (n : ℕ). new_row (path old (Some parent)) parent n child) (sym place) ∙ sym is) in
        record {
          is =
              pushed
              ∙ ap (λ (xs : List NodeRow). xs ++ row ∷ []) so.is
              ∙ append_assoc old front (row ∷ [])
              ∙ ap (λ (xs : List NodeRow). old ++ xs) (sym rows);
          enough = let r = so.enough in omega (arith, r);
        }

    pub push-end : length children ≤ i → items ≡ old ++ new_rows (path old (Some parent)) parent (length old) children
    push-end h = so.is ∙ ap (λ (cs : List Child). old ++ new_rows (path old (Some parent)) parent (length old) cs) (take_all i children h)
