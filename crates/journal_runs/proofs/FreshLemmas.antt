-- How many of the first roots are unsettled.
use Rattle.std.proofs.Common.{◌≡◌, ℕ, zero, suc, [], ◌∷◌, ◌+◌, ◌-◌, ◌<◌, List, Bool, true, false, Option, Some, None, length, get_or, slice_get, take, refl, sym, ◌∙◌, ap, subst, inl, inr, ⊎_elim, arith}
use Rattle.std.specs.Prelude.{IfSome, IsSome, IsSomeAnd, is_some, not, count_by, ◌↔◌}
use Rattle.std.specs.List.{AllByRecursion as Each}
use Rattle.std.proofs.lemmas.Bool.{true≢false, false≢true}
use Rattle.std.proofs.lemmas.Option.{slice_get-get_or}
use Rattle.std.proofs.lemmas.List.Sums.{count_by_more_yes, count_by_more_no}
use Rattle.draughts_board.specs.declared.pieces.Value.{Value}
use Rattle.proof_tree.specs.declared.rows.Mark.TheVariants.{Unexpanded}
use Rattle.proof_tree.specs.Forest.{Forest, Node, nodes, node_at, value_of}
use Rattle.proof_tree.specs.Rows.{blank_node}
use Rattle.proof_tree.specs.Sound.{IsSoundForest}
use Rattle.certificate_joiner.specs.Strategy.{named}
use Rattle.certificate_joiner.proofs.Named.{named_at, root_is}
use Rattle.journal_runs.specs.Ample.{IsSettledOrFresh}

each_at : (P : Node → Type 0) (xs : List Node) (i : ℕ) (d : Node) → i < length xs → Each P xs → P (get_or xs i d)
each_at P xs i d within each = all_at xs i within each
  where
    all_at : (xs : List Node) (i : ℕ) → i < length xs → Each P xs → P (get_or xs i d)
    all_at [] i within each = absurd (omega (arith, within))
    all_at (x ∷ xs) zero within each = each.0
    all_at (x ∷ xs) (suc i) within each = all_at xs i (omega (arith, within)) each.1

abbrev unsettled_in : List Node → ℕ
unsettled_in xs = count_by (λ root. not (is_some (value_of root))) xs

module _ (roots : Forest) (i : ℕ) (within : i < length (nodes roots)) where
  abbrev root : Node
  root = get_or (nodes roots) i blank_node

  back : i + 1 - 1 ≡ i
  back = omega arith

  root_there : (P : Node → Type 0) → IfSome (slice_get (nodes roots) (i + 1 - 1)) P → P root
  root_there P said =
      subst (λ (o : Option Node). IfSome o P) (slice_get-get_or (nodes roots) i blank_node within)
      (subst (λ k. IfSome (slice_get (nodes roots) k) P) back said)

  value_is : (v : Option Value) (b : Bool) → IfSome (slice_get (nodes roots) (i + 1 - 1)) (λ x. v ≡ value_of x) → is_some v ≡ b → is_some (value_of root) ≡ b
  value_is v b said test = ap (λ (o : Option Value). is_some o) (sym (root_there (λ x. v ≡ value_of x) said)) ∙ test

  pub one_unsettled : (v : Option Value) → IfSome (slice_get (nodes roots) (i + 1 - 1)) (λ x. v ≡ value_of x) → is_some v ≡ false → unsettled_in (take (i + 1) (nodes roots)) ≡ unsettled_in (take i (nodes roots)) + 1
  one_unsettled v said test =
      count_by_more_yes (λ (x : Node). not (is_some (value_of x))) (nodes roots) i blank_node within (ap not (value_is v false said test))

  pub none_unsettled : (v : Option Value) → IfSome (slice_get (nodes roots) (i + 1 - 1)) (λ x. v ≡ value_of x) → is_some v ≡ true → unsettled_in (take (i + 1) (nodes roots)) ≡ unsettled_in (take i (nodes roots))
  none_unsettled v said test =
      count_by_more_no (λ (x : Node). not (is_some (value_of x))) (nodes roots) i blank_node within (ap not (value_is v true said test))

  -- an unsettled root that is no leaf is no fresh one
  pub not_fresh : (v : Option Value) (n : ℕ) (leaf : Option ℕ) → IsSoundForest roots → IfSome (slice_get (nodes roots) (i + 1 - 1)) (λ x. v ≡ value_of x) → is_some v ≡ false
      → IfSome (slice_get (nodes roots) (i + 1 - 1)) (λ x. n ≡ x.own.number) → (IsSomeAnd (node_at n roots) (λ x. x.own.mark ≡ Unexpanded) → IsSome leaf) → is_some leaf ≡ false → Each IsSettledOrFresh (nodes roots) → ⊥
  not_fresh v n leaf sound said test number there none each = ⊎_elim
      (λ settled. false≢true (sym (value_is v false said test) ∙ settled))
      (λ fresh.
      let is = root_is roots sound i n within (subst (λ k. IfSome (slice_get (nodes roots) k) (λ x. n ≡ x.own.number)) back number) in
      let same : Some root ≡ slice_get (nodes roots) i = sym (slice_get-get_or (nodes roots) i blank_node within) in
      let x_is : root ≡ named roots n = some_is root (named roots n) (same ∙ is.1.0) in
      false≢true (sym none ∙ there (subst (λ (o : Option Node). IsSomeAnd o (λ x. x.own.mark ≡ Unexpanded)) (sym (named_at roots n is.0)) (subst (λ (x : Node). x.own.mark ≡ Unexpanded) x_is fresh))))
      (each_at IsSettledOrFresh (nodes roots) i blank_node within each)
    where
      some_is : (x y : Node) → Some x ≡ Some y → x ≡ y
      some_is x y e = cc e
