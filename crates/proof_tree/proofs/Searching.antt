-- The walk with its ways back, over the rows: what it still finds, and how much work is left.
use Rattle.std.proofs.Common.{◌≡◌, ◌≢◌, ℕ, zero, suc, ◌+◌, ◌<◌, ◌≤◌, Bool, true, false, cond, ltb, List, length, take, drop, Option, Some, None, refl, sym, ap, ◌∙◌, subst, arith, ◌⊎◌, inl, inr, ⊎_elim, drop-cons}
use Rattle.std.proofs.lemmas.Bool.{false≢true, cases_eq}
use Rattle.std.proofs.lemmas.Bool.Decides.{nat_tests}
use Rattle.draughts_board.specs.Board.{same_side}
use Rattle.draughts_board.specs.declared.pieces.Side.{Side}
use Rattle.proof_numbers.specs.declared.numbers.Number.{Number}
use Rattle.proof_numbers.specs.declared.numbers.Number.TheVariants.{Finite, Infinite}
use Rattle.proof_numbers.specs.declared.numbers.Numbers.{Numbers}
use Rattle.proof_numbers.specs.Numbers.{is_resolved}
use Rattle.proof_tree.specs.declared.rows.NodeRow.{NodeRow}
use Rattle.proof_tree.specs.declared.rows.Mark.{Mark}
use Rattle.proof_tree.specs.declared.rows.Mark.TheVariants.{Unexpanded, Expanded, Repeats}
use Rattle.proof_tree.specs.Forest.{Own, Node, forest, node_numbers, or_else}
use Rattle.proof_tree.specs.Picking.{Way, is_below, better, left_to_show, leaf_of, way_of, open_by, leaf_at, best_way, leaf_below}
use Rattle.proof_tree.specs.Rows.{row_at, blank_node, node_in, kept_numbers, AreLinked, FitsRow}
use Rattle.proof_tree.specs.Walking.{is_before, key, comes, is_behind, is_candidate, IsFirst}
use Rattle.proof_tree.proofs.Walks.{best_in, moves_in, leaf_in, masked_in, rest_in}
use Rattle.proof_tree.proofs.Meaning.{node_of, IsMeaning}
use Rattle.proof_tree.proofs.KeptNumbers.{kept-is}
use Rattle.proof_tree.proofs.Order.{before_trans}

-- ---- the best of a range of ways

in-none : (f : ℕ → Option Way) (d c : ℕ) → ((k : ℕ) → d ≤ k → k < d + c → f k ≡ None) → best_in f d c ≡ None
in-none f d zero h = refl
in-none f d (suc c) h =
    ap (λ (o : Option Way). better o (best_in f (suc d) c)) (h d (omega arith) (omega arith))
    ∙ in-none f (suc d) c (λ k l m. h k (omega arith) (omega arith))

in-same : (f g : ℕ → Option Way) (d c : ℕ) → ((k : ℕ) → d ≤ k → k < d + c → f k ≡ g k) → best_in f d c ≡ best_in g d c
in-same f g d zero h = refl
in-same f g d (suc c) h =
    λ i. better (h d (omega arith) (omega arith) i) (in-same f g (suc d) c (λ k l m. h k (omega arith) (omega arith)) i)

-- the best stands somewhere
pub record StandsIn (f : ℕ → Option Way) (d c : ℕ) (v : Way) : Type 0 where
  pub place : ℕ
  pub from : d ≤ place
  pub to : place < d + c
  pub there : f place ≡ Some v

wider : (f : ℕ → Option Way) (d c : ℕ) (v : Way) → StandsIn f (suc d) c v → StandsIn f d (suc c) v
wider f d c v s = record { place = s.place; from = let h = s.from in omega arith; to = let h = s.to in omega arith; there = s.there }

head_in : (f : ℕ → Option Way) (d c : ℕ) (v : Way) → f d ≡ Some v → StandsIn f d (suc c) v
head_in f d c v e = record { place = d; from = omega arith; to = omega arith; there = e }

one_of : (a b : Option Way) (v : Way) → better a b ≡ Some v → (a ≡ Some v) ⊎ (b ≡ Some v)
one_of None b v e = inr e
one_of (Some a) None v e = inl e
one_of (Some a) (Some b) v e = chosen (is_below b.left a.left) e where
  chosen : (t : Bool) → cond t (Some b) (Some a) ≡ Some v → (Some a ≡ Some v) ⊎ (Some b ≡ Some v)
  chosen true e = inr e
  chosen false e = inl e

in-from : (f : ℕ → Option Way) (d c : ℕ) (v : Way) → best_in f d c ≡ Some v → StandsIn f d c v
in-from f d zero v e = absurd cc
in-from f d (suc c) v e =
    ⊎_elim (λ h. head_in f d c v h) (λ h. wider f d c v (in-from f (suc d) c v h)) (one_of (f d) (best_in f (suc d) c) v e)

Beats : (ℕ → Option Way) → ℕ → ℕ → Way → ℕ → Type 0
Beats f d c w i = (j : ℕ) (v : Way) → d ≤ j → j < d + c → j ≢ i → f j ≡ Some v → is_before w.left i v.left j ≡ true

finite_later : (m n i j : ℕ) → i < j → cond (ltb m n) true (cond (ltb n m) false (ltb i j)) ≡ true → ltb n m ≡ false
finite_later m n i j l p = grind (arith, nat_tests, p, l)

not_below : (x y : Number) (i j : ℕ) → i < j → is_before x i y j ≡ true → is_below y x ≡ false
not_below (Finite m) (Finite n) i j l p = finite_later m n i j l p
not_below (Finite m) Infinite i j l p = refl
not_below Infinite (Finite n) i j l p = absurd (false≢true p)
not_below Infinite Infinite i j l p = refl

finite_sooner : (m n i j : ℕ) → j < i → cond (ltb m n) true (cond (ltb n m) false (ltb i j)) ≡ true → ltb m n ≡ true
finite_sooner m n i j l p = grind (arith, nat_tests, p, l)

surely_below : (x y : Number) (i j : ℕ) → j < i → is_before x i y j ≡ true → is_below x y ≡ true
surely_below (Finite m) (Finite n) i j l p = finite_sooner m n i j l p
surely_below (Finite m) Infinite i j l p = refl
surely_below Infinite (Finite n) i j l p = absurd (false≢true p)
surely_below Infinite Infinite i j l p = absurd (let no : ltb i j ≡ false = grind (arith, nat_tests, l) in false≢true (sym no ∙ p))

keeps : (w : Way) (o : Option Way) → ((v : Way) → o ≡ Some v → is_below v.left w.left ≡ false) → better (Some w) o ≡ Some w
keeps w None h = refl
keeps w (Some v) h = ap (λ (t : Bool). cond t (Some v) (Some w)) (h v refl)

yields : (w : Way) (o : Option Way) → ((v : Way) → o ≡ Some v → is_below w.left v.left ≡ true) → better o (Some w) ≡ Some w
yields w None h = refl
yields w (Some v) h = ap (λ (t : Bool). cond t (Some w) (Some v)) (h v refl)

in-first : (f : ℕ → Option Way) (d c i : ℕ) (w : Way) → d ≤ i → i < d + c → f i ≡ Some w → Beats f d c w i → best_in f d c ≡ Some w
unfolding Beats
in-first f d zero i w from to e beats = absurd (omega arith)
in-first f d (suc c) i w from to e beats =
    ⊎_elim
    (λ s.
    ap (λ (o : Option Way). better o (best_in f (suc d) c)) (ap f (sym s) ∙ e)
    ∙ keeps w (best_in f (suc d) c)
    (λ v h.
    let at = in-from f (suc d) c v h in
    let a = at.from in
    let b = at.to in
    not_below w.left v.left i at.place (omega arith) (beats at.place v (omega arith) (omega arith) (λ z. omega (arith, z, a, s)) at.there)))
    (λ h.
    ap (better (f d)) (in-first f (suc d) c i w (omega (arith, h)) (omega arith) e (λ j v a b n g. beats j v (omega arith) (omega arith) n g))
    ∙ yields w (f d)
    (λ v g.
    surely_below w.left v.left i d (omega (arith, h)) (beats d v (omega arith) (omega arith) (λ z. h (sym z)) g)))
    (cases_eq i d)

-- ---- over the rows

abbrev no_way_at_all : Option Way
no_way_at_all = None

none_both : (t : Bool) → cond t no_way_at_all None ≡ None
none_both true = refl
none_both false = refl

none_way : (x : Number) (o : Option ℕ) → o ≡ None → way_of x o ≡ None
none_way x o e = ap (way_of x) e

module _ (rows : List NodeRow) (links : AreLinked rows) (goal : Side) (fits : (k : ℕ) → k < length rows → FitsRow rows goal k)
    (xs : List Node) (fit : IsMeaning rows xs) (taken : ℕ → Bool) where
  -- where the walk from a row ends
  abbrev pub leaf : ℕ → Option ℕ
  leaf k = leaf_in rows goal xs taken k

  abbrev pub moves : ℕ → Bool
  moves p = moves_in rows goal xs taken p

  abbrev pub cand : Bool → ℕ → Option Way
  cand by_proof k = way_of (key rows goal by_proof k) (leaf k)

  abbrev pub masked : Bool → Option ℕ → ℕ → Option Way
  masked by_proof last k = masked_in rows goal xs taken by_proof last k

  -- what is still found below row p, where `last` was tried last
  abbrev pub rest : ℕ → Option ℕ → Option ℕ
  rest p last = rest_in rows goal xs taken p last

  kept-node : (k : ℕ) → k < length rows → kept_numbers goal (row_at rows k) ≡ node_numbers goal (node_in xs k)
  kept-node k l = kept-is rows links xs fit goal 0 (λ j from l'. fits j l') k (omega arith) l

  -- a resolved row has no open leaf
  leaf_closed : (taken' : Bool) (own : Own) (its : Numbers) (best : Option Way) → is_resolved its ≡ true → leaf_at taken own its best ≡ None
  leaf_closed t own its best e = ap (λ (b : Bool). cond b None (open_by own.mark (taken own.number) own.number best)) e

  leaf_open : (own : Own) (its : Numbers) (best : Option Way) → is_resolved its ≡ false
      → leaf_at taken own its best ≡ open_by own.mark (taken own.number) own.number best
  leaf_open own its best e = ap (λ (b : Bool). cond b None (open_by own.mark (taken own.number) own.number best)) e

  pub leaf-resolved : (k : ℕ) → k < length rows → is_resolved (kept_numbers goal (row_at rows k)) ≡ true → leaf k ≡ None
  leaf-resolved k l e =
      let x = node_in xs k in
      leaf_closed true x.own (node_numbers goal x) (best_way goal taken (same_side goal x.own.position.to_move) x.children)
      (sym (ap is_resolved (kept-node k l)) ∙ e)

  way-slice : (by_proof : Bool) (d c : ℕ) → d + c ≤ length rows → best_way goal taken by_proof (forest (take c (drop d xs))) ≡ best_in (cand by_proof) d c
  way-slice by_proof d zero h = refl
  way-slice by_proof d (suc c) h =
      let l : d < length xs = omega (arith, fit.as_long) in
      let x = node_in xs d in
      ap (λ (ys : List Node). best_way goal taken by_proof (forest (take (suc c) ys))) (drop-cons xs d blank_node l)
      ∙ (λ i. better (way_of (left_to_show by_proof (sym (kept-node d (omega arith)) i)) (leaf d)) (way-slice by_proof (suc d) c (omega arith) i))

  all_behind : (p : ℕ) → rest p None ≡ leaf_of (best_in (cand (moves p)) (row_at rows p).first (row_at rows p).count)
  all_behind p = refl

  -- an unresolved row: its leaf by its mark
  leaf-by_mark : (k : ℕ) → k < length rows → is_resolved (kept_numbers goal (row_at rows k)) ≡ false
      → leaf k ≡ open_by (row_at rows k).mark (taken k) k (best_in (cand (moves k)) (row_at rows k).first (row_at rows k).count)
  leaf-by_mark k l e =
      let row = row_at rows k in
      let x = node_of k row xs in
      let at = fit.at k l in
      ap (leaf_below goal taken) at
      ∙ leaf_open x.own (node_numbers goal x) (best_way goal taken (moves k) x.children)
      (sym (ap is_resolved (kept-node k l ∙ ap (node_numbers goal) at)) ∙ e)
      ∙ ap (open_by row.mark (taken k) k) (way-slice (moves k) row.first row.count (links.within k l))

  open_mark : (m : Mark) (t : Bool) (k : ℕ) (best : Option Way) → m ≡ Expanded → open_by m t k best ≡ leaf_of best
  open_mark m t k best e = ap (λ (n : Mark). open_by n t k best) e

  pub leaf-inner : (k : ℕ) → k < length rows → is_resolved (kept_numbers goal (row_at rows k)) ≡ false → (row_at rows k).mark ≡ Expanded → leaf k ≡ rest k None
  leaf-inner k l e m = leaf-by_mark k l e ∙ open_mark (row_at rows k).mark (taken k) k _ m

  free : (t : Bool) (k : ℕ) (best : Option Way) → t ≡ false → open_by Unexpanded t k best ≡ Some k
  free t k best e = ap (λ (b : Bool). open_by Unexpanded b k best) e

  busy : (t : Bool) (k : ℕ) (best : Option Way) → t ≡ true → open_by Unexpanded t k best ≡ None
  busy t k best e = ap (λ (b : Bool). open_by Unexpanded b k best) e

  pub leaf-free : (k : ℕ) → k < length rows → is_resolved (kept_numbers goal (row_at rows k)) ≡ false → (row_at rows k).mark ≡ Unexpanded → taken k ≡ false → leaf k ≡ Some k
  leaf-free k l e m t =
      leaf-by_mark k l e
      ∙ ap (λ (n : Mark). open_by n (taken k) k (best_in (cand (moves k)) (row_at rows k).first (row_at rows k).count)) m
      ∙ free (taken k) k _ t

  pub leaf-busy : (k : ℕ) → k < length rows → is_resolved (kept_numbers goal (row_at rows k)) ≡ false → (row_at rows k).mark ≡ Unexpanded → taken k ≡ true → leaf k ≡ None
  leaf-busy k l e m t =
      leaf-by_mark k l e
      ∙ ap (λ (n : Mark). open_by n (taken k) k (best_in (cand (moves k)) (row_at rows k).first (row_at rows k).count)) m
      ∙ busy (taken k) k _ t

  -- a candidate is unresolved, and behind the last one
  unresolved : (r b : Bool) → cond r false b ≡ true → (r ≡ false) × (b ≡ true)
  unresolved true b e = absurd (false≢true e)
  unresolved false b e = (refl, e)

  pub open_of : (by_proof : Bool) (last : Option ℕ) (k : ℕ) → is_candidate rows goal by_proof last k ≡ true
      → (is_resolved (kept_numbers goal (row_at rows k)) ≡ false) × (is_behind rows goal by_proof last k ≡ true)
  open_of by_proof last k e = unresolved (is_resolved (kept_numbers goal (row_at rows k))) (is_behind rows goal by_proof last k) e

  -- what is no candidate has no way, or is not behind the last one
  no_way : (by_proof : Bool) (last : Option ℕ) (k : ℕ) → k < length rows → (r b : Bool) → is_resolved (kept_numbers goal (row_at rows k)) ≡ r
      → is_behind rows goal by_proof last k ≡ b → cond r false b ≡ false → masked by_proof last k ≡ None
  no_way by_proof last k l true b e f g =
      ap (λ (o : Option ℕ). cond (is_behind rows goal by_proof last k) (way_of (key rows goal by_proof k) o) None) (leaf-resolved k l e)
      ∙ none_both (is_behind rows goal by_proof last k)
  no_way by_proof last k l false true e f g = absurd (false≢true (sym g))
  no_way by_proof last k l false false e f g = ap (λ (t : Bool). cond t (cand by_proof k) None) f

  pub rest-none : (p : ℕ) → p < length rows → (last : Option ℕ)
      → IsFirst rows goal (moves p) last (row_at rows p).first ((row_at rows p).first + (row_at rows p).count) None → rest p last ≡ None
  rest-none p l last first =
      ap leaf_of
      (in-none (masked (moves p) last) (row_at rows p).first (row_at rows p).count
      (λ k from to.
      no_way (moves p) last k (let w = links.within p l in omega arith) (is_resolved (kept_numbers goal (row_at rows k))) (is_behind rows goal (moves p) last k) refl refl
      (first k from to)))

  -- ---- the next child

  way_some : (by_proof : Bool) (last : Option ℕ) (k l : ℕ) → is_behind rows goal by_proof last k ≡ true → leaf k ≡ Some l
      → masked by_proof last k ≡ Some (record { left = key rows goal by_proof k; leaf = l })
  way_some by_proof last k l b e =
      ap (λ (t : Bool). cond t (cand by_proof k) None) b ∙ ap (way_of (key rows goal by_proof k)) e

  -- what has a way is a candidate, and its key is what it has left
  pub record IsWay (by_proof : Bool) (last : Option ℕ) (k : ℕ) (v : Way) : Type 0 where
    pub candidate : is_candidate rows goal by_proof last k ≡ true
    pub left_is : v.left ≡ key rows goal by_proof k

  way_by : (by_proof : Bool) (last : Option ℕ) (k : ℕ) → k < length rows → (v : Way) (r b : Bool) (o : Option ℕ)
      → is_resolved (kept_numbers goal (row_at rows k)) ≡ r → is_behind rows goal by_proof last k ≡ b → leaf k ≡ o
      → cond b (way_of (key rows goal by_proof k) o) None ≡ Some v → IsWay by_proof last k v
  way_by by_proof last k l v r false o e f g h = absurd cc
  way_by by_proof last k l v r true None e f g h = absurd cc
  way_by by_proof last k l v true true (Some x) e f g h = let no : None ≡ Some x = sym (leaf-resolved k l e) ∙ g in absurd cc
  way_by by_proof last k l v false true (Some x) e f g h =
      record {
        candidate = (λ i. cond (e i) false (f i));
        left_is = let same : record { left = key rows goal by_proof k; leaf = x } ≡ v = cc in sym (ap (λ (w : Way). w.left) same);
      }

  way_is : (by_proof : Bool) (last : Option ℕ) (k : ℕ) → k < length rows → (v : Way) → masked by_proof last k ≡ Some v → IsWay by_proof last k v
  way_is by_proof last k l v h = way_by by_proof last k l v (is_resolved (kept_numbers goal (row_at rows k))) (is_behind rows goal by_proof last k) (leaf k) refl refl refl h

  -- no child behind c comes to be tried that was not to be tried before
  pub behind_more : (by_proof : Bool) (last : Option ℕ) (c k : ℕ) → is_behind rows goal by_proof last c ≡ true → comes rows goal by_proof c k ≡ true
      → is_behind rows goal by_proof last k ≡ true
  behind_more by_proof None c k b h = refl
  behind_more by_proof (Some a) c k b h =
      before_trans (key rows goal by_proof a) a (key rows goal by_proof c) c (key rows goal by_proof k) k b h

  same_mask : (by_proof : Bool) (last : Option ℕ) (c k : ℕ) → k < length rows → leaf c ≡ None → is_behind rows goal by_proof last c ≡ true
      → (is_candidate rows goal by_proof last k ≡ true → (k ≡ c) ⊎ (comes rows goal by_proof c k ≡ true)) → (r b t : Bool)
      → is_resolved (kept_numbers goal (row_at rows k)) ≡ r → is_behind rows goal by_proof last k ≡ b → comes rows goal by_proof c k ≡ t
      → cond b (cand by_proof k) None ≡ cond t (cand by_proof k) None
  same_mask by_proof last c k l none bc first true b t e f g =
      let no : cand by_proof k ≡ None = none_way (key rows goal by_proof k) (leaf k) (leaf-resolved k l e) in
      (λ i. cond b (no i) None) ∙ none_both b ∙ sym (none_both t) ∙ (λ i. cond t (sym no i) None)
  same_mask by_proof last c k l none bc first false true true e f g = refl
  same_mask by_proof last c k l none bc first false false false e f g = refl
  same_mask by_proof last c k l none bc first false false true e f g =
      absurd (false≢true (sym f ∙ behind_more by_proof last c k bc g))
  same_mask by_proof last c k l none bc first false true false e f g =
      ⊎_elim (λ s. ap (way_of (key rows goal by_proof k)) (ap leaf s ∙ none)) (λ h. absurd (false≢true (sym g ∙ h)))
      (first (λ i. cond (e i) false (f i)))

  module _ (p : ℕ) (inside : p < length rows) (last : Option ℕ) (c : ℕ)
      (first : IsFirst rows goal (moves p) last (row_at rows p).first ((row_at rows p).first + (row_at rows p).count) (Some c)) where
    d : ℕ
    d = (row_at rows p).first

    n : ℕ
    n = (row_at rows p).count

    pub next-inside : c < length rows
    next-inside = let w = links.within p inside in let h = first.0.1 in omega (arith, w, h)

    pub behind_c : is_behind rows goal (moves p) last c ≡ true
    behind_c = (open_of (moves p) last c first.1.0).1

    rest_by : (o : Option ℕ) → leaf c ≡ o → rest p last ≡ or_else o (rest p (Some c))
    unfolding Beats
    rest_by (Some l) e =
        ap leaf_of
        (in-first (masked (moves p) last) (row_at rows p).first (row_at rows p).count c (record { left = key rows goal (moves p) c; leaf = l })
        first.0.0 first.0.1 (way_some (moves p) last c l behind_c e)
        (λ j v from to other h.
        let w = way_is (moves p) last j (let u = links.within p inside in omega (arith, u)) v h in
        ⊎_elim (λ s. absurd (other s))
        (λ b. subst (λ (x : Number). is_before (key rows goal (moves p) c) c x j ≡ true) (sym w.left_is) b)
        (first.1.1 j from to w.candidate)))
    rest_by None e =
        ap leaf_of
        (in-same (masked (moves p) last) (masked (moves p) (Some c)) (row_at rows p).first (row_at rows p).count
        (λ k from to.
        same_mask (moves p) last c k (let u = links.within p inside in omega (arith, u)) e behind_c (first.1.1 k from to)
        (is_resolved (kept_numbers goal (row_at rows k))) (is_behind rows goal (moves p) last k) (comes rows goal (moves p) c k) refl refl refl))

    -- what is found: below the next child, or else behind it
    pub rest-some : rest p last ≡ or_else (leaf c) (rest p (Some c))
    rest-some = rest_by (leaf c) refl

  -- a repetition is no leaf
  pub leaf-repeats : (k : ℕ) → k < length rows → is_resolved (kept_numbers goal (row_at rows k)) ≡ false → (row_at rows k).mark ≡ Repeats → leaf k ≡ None
  leaf-repeats k l e m =
      leaf-by_mark k l e
      ∙ ap (λ (n : Mark). open_by n (taken k) k (best_in (cand (moves k)) (row_at rows k).first (row_at rows k).count)) m
