-- How many nodes there are: each row is one node of the forest.
use Rattle.std.proofs.Common.{◌≡◌, ◌≢◌, ℕ, zero, suc, ◌+◌, ◌-◌, ◌<◌, ◌≤◌, ◌^◌, Bool, true, cond, eqb, leb, List, [], ◌∷◌, map, length, take, drop, Option, Some, None, refl, sym, ap, ◌∙◌, arith, ◌⊎◌, inl, inr, ⊎_elim, drop-cons}
use Rattle.std.proofs.lemmas.Bool.Decides.{nat_tests}
use Rattle.proof_tree.specs.declared.rows.NodeRow.{NodeRow}
use Rattle.proof_tree.specs.Forest.{Node, forest, size}
use Rattle.proof_tree.specs.Rows.{row_at, blank_node, node_in, nodes_from, forest_of, if_root, roots_from, AreLinked, AreSmall}
use Rattle.proof_tree.proofs.Meaning.{IsMeaning, IsMeaning-nodes}

-- f d + .. + f (d + c - 1)
between : (ℕ → ℕ) → ℕ → ℕ → ℕ
between f d zero = 0
between f d (suc c) = f d + between f (suc d) c

between-add : (f g h : ℕ → ℕ) (d c : ℕ) → ((k : ℕ) → d ≤ k → k < d + c → f k + g k ≡ h k) → between f d c + between g d c ≡ between h d c
unfolding between
between-add f g h d zero e = omega arith
between-add f g h d (suc c) e =
    let rest = between-add f g h (suc d) c (λ k l m. e k (omega arith) (omega arith)) in
    let head = e d (omega arith) (omega arith) in
    omega (arith, rest, head)

between-same : (f g : ℕ → ℕ) (d c : ℕ) → ((k : ℕ) → d ≤ k → k < d + c → f k ≡ g k) → between f d c ≡ between g d c
unfolding between
between-same f g d zero e = refl
between-same f g d (suc c) e =
    let rest = between-same f g (suc d) c (λ k l m. e k (omega arith) (omega arith)) in
    let head = e d (omega arith) (omega arith) in
    omega (arith, rest, head)

between-none : (f : ℕ → ℕ) (d c : ℕ) → ((k : ℕ) → d ≤ k → k < d + c → f k ≡ 0) → between f d c ≡ 0
unfolding between
between-none f d zero e = refl
between-none f d (suc c) e =
    let rest = between-none f (suc d) c (λ k l m. e k (omega arith) (omega arith)) in
    let head = e d (omega arith) (omega arith) in
    omega (arith, rest, head)

between-split : (f : ℕ → ℕ) (d a b : ℕ) → between f d (a + b) ≡ between f d a + between f (d + a) b
unfolding between
between-split f d zero b =
    let e : 0 + b ≡ b = omega arith in
    let z : d + 0 ≡ d = omega arith in
    ap (between f d) e ∙ ap (λ (n : ℕ). between f n b) (sym z) ∙ (let r : between f (d + 0) b ≡ 0 + between f (d + 0) b = omega arith in r)
between-split f d (suc a) b =
    let e : suc a + b ≡ suc (a + b) = omega arith in
    let z : suc d + a ≡ d + suc a = omega arith in
    let rest = between-split f (suc d) a b in
    let moved : between f (suc d + a) b ≡ between f (d + suc a) b = ap (λ (n : ℕ). between f n b) z in
    ap (between f d) e ∙ (let r : f d + between f (suc d) (a + b) ≡ (f d + between f (suc d) a) + between f (d + suc a) b = omega (arith, rest, moved) in r)

weight : Node → ℕ
weight x = 1 + size x.children

size-slice : (xs : List Node) (d c : ℕ) → d + c ≤ length xs → size (forest (take c (drop d xs))) ≡ between (λ k. weight (node_in xs k)) d c
unfolding between weight
size-slice xs d zero h = refl
size-slice xs d (suc c) h =
    let l : d < length xs = omega arith in
    let rest = size-slice xs (suc d) c (omega arith) in
    ap (λ (ys : List Node). size (forest (take (suc c) ys))) (drop-cons xs d blank_node l)
    ∙ (let r : 1 + size (node_in xs d).children + size (forest (take c (drop (suc d) xs))) ≡ (1 + size (node_in xs d).children) + between (λ k. 1 + size (node_in xs k).children) (suc d) c = omega (arith, rest) in r)

-- of the rows from j on, those whose parent stands before j
top_weight : ℕ → Option ℕ → ℕ → ℕ
top_weight j None s = s
top_weight j (Some p) s = cond (leb j p) 0 s

child_weight : ℕ → Option ℕ → ℕ → ℕ
child_weight j None s = 0
child_weight j (Some p) s = cond (eqb p j) s 0

weights : (j : ℕ) (at : Option ℕ) (s : ℕ) → top_weight j at s + child_weight j at s ≡ top_weight (suc j) at s
unfolding top_weight child_weight
weights j None s = omega arith
weights j (Some p) s = grind (arith, nat_tests)

child_is : (j : ℕ) (at : Option ℕ) (s : ℕ) → at ≡ Some j → child_weight j at s ≡ s
unfolding child_weight
child_is j None s e = absurd cc
child_is j (Some p) s e = let same : p ≡ j = cc in grind (arith, nat_tests, same)

child_not : (j : ℕ) (at : Option ℕ) (s : ℕ) → (at ≡ Some j → ⊥) → child_weight j at s ≡ 0
unfolding child_weight
child_not j None s h = refl
child_not j (Some p) s h = let other : p ≢ j = λ e. h (ap Some e) in grind (arith, nat_tests, other)

top_is : (j : ℕ) (at : Option ℕ) (s : ℕ) → ((p : ℕ) → at ≡ Some p → p < j) → top_weight j at s ≡ s
unfolding top_weight
top_is j None s h = refl
top_is j (Some p) s h = let below : p < j = h p refl in grind (arith, nat_tests, below)

module _ (rows : List NodeRow) (links : AreLinked rows) (xs : List Node) (fit : IsMeaning rows xs) where
  w : ℕ → ℕ
  w k = weight (node_in xs k)

  top : ℕ → ℕ → ℕ
  top j k = top_weight j (row_at rows k).parent (w k)

  child : ℕ → ℕ → ℕ
  child j k = child_weight j (row_at rows k).parent (w k)

  w-is : (j : ℕ) → j < length rows → w j ≡ 1 + between w (row_at rows j).first (row_at rows j).count
  unfolding w weight
  w-is j l =
      let row = row_at rows j in
      let s = size-slice xs row.first row.count (let h = links.within j l in omega (arith, h, fit.as_long)) in
      ap (λ (x : Node). 1 + size x.children) (fit.at j l) ∙ ap (λ (n : ℕ). 1 + n) s

  -- the children of row j among the rows behind it
  children-sum : (j c : ℕ) → j < length rows → suc j + c ≡ length rows → between (child j) (suc j) c ≡ between w (row_at rows j).first (row_at rows j).count
  unfolding child
  children-sum j c l e =
      let row = row_at rows j in
      let behind = links.behind j l in
      let within = links.within j l in
      let a : ℕ = row.first - suc j in
      let b : ℕ = c - (a + row.count) in
      let all : c ≡ a + (row.count + b) = omega (arith, behind, within) in
      let start : suc j + a ≡ row.first = omega (arith, behind) in
      let apart : (k : ℕ) → suc j ≤ k → k < length rows → (k < row.first) ⊎ (row.first + row.count ≤ k) → child j k ≡ 0 =
      λ k from l' out.
      child_not j (row_at rows k).parent (w k)
      (λ p.
      let h = links.children k j l' p in
      ⊎_elim (λ o. omega (arith, h.1, o)) (λ o. omega (arith, h.2, o)) out) in
      let before : between (child j) (suc j) a ≡ 0 = between-none (child j) (suc j) a (λ k from to. apart k from (omega (arith, within)) (inl (omega (arith, behind)))) in
      let behind_all : between (child j) (row.first + row.count) b ≡ 0 =
      between-none (child j) (row.first + row.count) b (λ k from to. apart k (omega (arith, behind)) (omega (arith, within, all, start)) (inr (omega arith))) in
      let mine : between (child j) row.first row.count ≡ between w row.first row.count =
      between-same (child j) w row.first row.count
      (λ k from to.
      let i : ℕ = k - row.first in
      let back : row.first + i ≡ k = omega arith in
      child_is j (row_at rows k).parent (w k)
      (ap (λ (n : ℕ). (row_at rows n).parent) (sym back) ∙ links.parents j i l (omega arith))) in
      let s1 = between-split (child j) (suc j) a (row.count + b) in
      let s2 = between-split (child j) row.first row.count b in
      let s3 : between (child j) (suc j + a) (row.count + b) ≡ between (child j) row.first (row.count + b) = ap (λ (n : ℕ). between (child j) n (row.count + b)) start in
      ap (between (child j) (suc j)) all ∙ (let r : between (child j) (suc j) (a + (row.count + b)) ≡ between w row.first row.count = omega (arith, s1, s2, s3, before, behind_all, mine) in r)

  tops : (c j : ℕ) → j + c ≡ length rows → between (top j) j c ≡ c
  unfolding between top child
  tops zero j e = refl
  tops (suc c) j e =
      let l : j < length rows = omega arith in
      let here : top j j ≡ w j = top_is j (row_at rows j).parent (w j) (λ p h. (links.children j p l h).0) in
      let both : between (top j) (suc j) c + between (child j) (suc j) c ≡ between (top (suc j)) (suc j) c =
      between-add (top j) (child j) (top (suc j)) (suc j) c (λ k from to. weights j (row_at rows k).parent (w k)) in
      let rest = tops c (suc j) (omega arith) in
      let mine = children-sum j c l (omega arith) in
      let own = w-is j l in
      let r : top j j + between (top j) (suc j) c ≡ suc c = omega (arith, here, both, rest, mine, own) in r

  w-most : (k : ℕ) → k < length rows → w k ≤ length rows
  unfolding between top
  w-most k l =
      let c : ℕ = length rows - suc k in
      let all = tops (suc c) k (omega arith) in
      let here : top k k ≡ w k = top_is k (row_at rows k).parent (w k) (λ p h. (links.children k p l h).0) in
      omega (arith, all, here)

  root_step : (j : ℕ) (at : Option ℕ) (more : List ℕ) (t : ℕ) → size (forest (map (node_in xs) more)) ≡ t
      → size (forest (map (node_in xs) (if_root at j more))) ≡ top_weight 0 at (w j) + t
  unfolding w weight top_weight
  root_step j None more t e = omega (arith, e)
  root_step j (Some p) more t e =
      let test : leb 0 p ≡ true = grind (arith, nat_tests) in
      let none : cond (leb 0 p) 0 (1 + size (node_in xs j).children) ≡ 0 = ap (λ (b : Bool). cond b 0 (1 + size (node_in xs j).children)) test in
      omega (arith, e, none)

  root_sum : (j : ℕ) (suffix : List NodeRow) → ((i : ℕ) → i < length suffix → row_at suffix i ≡ row_at rows (j + i))
      → size (forest (map (node_in xs) (roots_from j suffix))) ≡ between (top 0) j (length suffix)
  unfolding between top w weight top_weight
  root_sum j [] same = refl
  root_sum j (row ∷ suffix) same =
      let here : row ≡ row_at rows j = same 0 (omega arith) ∙ ap (row_at rows) (let z : j + 0 ≡ j = omega arith in z) in
      let rest = root_sum (suc j) suffix (λ i l. same (suc i) (omega arith) ∙ ap (row_at rows) (let z : j + suc i ≡ suc j + i = omega arith in z)) in
      root_step j row.parent (roots_from (suc j) suffix) (between (top 0) (suc j) (length suffix)) rest
      ∙ ap (λ (r : NodeRow). top_weight 0 r.parent (w j) + between (top 0) (suc j) (length suffix)) here

-- the size of a forest is the number of its rows
pub size-forest : (rows : List NodeRow) → AreLinked rows → size (forest_of rows (roots_from 0 rows)) ≡ length rows
size-forest rows links =
    let fit = IsMeaning-nodes rows links in
    root_sum rows links (nodes_from 0 rows) fit 0 rows (λ i l. ap (row_at rows) (let z : i ≡ 0 + i = omega arith in z))
    ∙ tops rows links (nodes_from 0 rows) fit (length rows) 0 (omega arith)

pub AreSmall-linked : (rows : List NodeRow) → AreLinked rows → length rows < 2 ^ 26 → AreSmall rows
unfolding w weight
AreSmall-linked rows links few k l =
    let m = w-most rows links (nodes_from 0 rows) (IsMeaning-nodes rows links) k l in omega (arith, m)
