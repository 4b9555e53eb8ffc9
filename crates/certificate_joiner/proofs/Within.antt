-- While a forest grows, nothing stands on the shelf for nodes that are not there.
use Rattle.std.proofs.Common.{◌≡◌, ◌⊎◌, inl, inr, ℕ, ◌+◌, ◌<◌, ◌≤◌, Bool, true, false, cond, eqb, List, [], ◌∷◌, ◌++◌, Option, Some, None, refl, sym, ◌∙◌, ap, subst, arith}
use Rattle.std.specs.Prelude.{IsSome, IsSomeAnd, nat_lt}
use Rattle.std.proofs.lemmas.Bool.{false≢true, eqb-true}
use Rattle.std.proofs.lemmas.Bool.Decides.{nat_tests}
use Rattle.draughts_board.specs.Board.{Board}
use Rattle.strategy_certificate.specs.declared.certificates.Certificate.{Certificate}
use Rattle.proof_numbers.specs.declared.leaves.Child.{Child}
use Rattle.proof_numbers.specs.Known.{Known}
use Rattle.proof_tree.specs.declared.rows.Mark.TheVariants.{Unexpanded, Expanded}
use Rattle.proof_tree.specs.Changes.{with_root, with_children, with_facts, learn, new_nodes, expanded}
use Rattle.proof_tree.specs.Forest.{Own, Forest, no_node, node, Node, forest, node_at, size}
use Rattle.proof_tree.specs.Sound.{EachNode, IsSoundForest, IsSoundNode, occurrences}
use Rattle.proof_tree.proofs.EachNode.{EachNode-map, EachNode-both, only_node, found_occurs}
use Rattle.proof_tree.proofs.Numbered.{HaveNone, size-appended, size-changed}
use Rattle.certificate_joiner.specs.Shelf.{Put, certificates_of}
use Rattle.certificate_joiner.specs.Growth.{HasNoneFrom, ShelfStaysWithin}
use Rattle.certificate_joiner.proofs.Growth.{certificates-put}
use Rattle.certificate_joiner.proofs.Named.{at_one_place}

later : (a b : ℕ) (puts : List Put) → a ≤ b → HasNoneFrom a puts → HasNoneFrom b puts
later a b puts more none m from = none m (omega arith)

-- ---- children

grows_by : (b : Bool) (below new after : Forest) (others rest : ℕ) → (b ≡ true → below ≡ no_node) → size below ≤ size after → others ≤ rest
    → 1 + size below + others ≤ 1 + size (cond b new after) + rest
grows_by true below new after others rest none le more = (let z : size below ≡ 0 = ap size (none refl) in omega (arith, z, more))
grows_by false below new after others rest none le more = omega (arith, le, more)

grows : (n : ℕ) (children : List Child) (next : ℕ) (path : List Board) (t : Forest) → HaveNone n path t → size t ≤ size (expanded n children next path t)
grows n children next path no_node none = omega arith
grows n children next path (node own below others) none =
    grows_by (eqb own.number n) below (forest (new_nodes (own.position ∷ path) next children)) (expanded n children next (own.position ∷ path) below)
    (size others) (size (expanded n children next path others)) (λ e. none.0 (eqb-true own.number n e))
    (grows n children next (own.position ∷ path) below none.1.0) (grows n children next path others none.1.1)

childless_at : (n : ℕ) (roots : Forest) → IsSoundForest roots → (o : Option Node) → node_at n roots ≡ o → IsSomeAnd o (λ x. x.own.mark ≡ Unexpanded) → HaveNone n [] roots
childless_at n roots sound None is some = absurd some
childless_at n roots sound (Some x) is unexpanded =
    EachNode-map (λ above y. IsSoundNode above y × (y.own.number ≡ n → y ≡ x)) (λ above y. y.own.number ≡ n → y.children ≡ no_node)
    (λ above y h e. h.0.childless (λ m. absurd (let no : Unexpanded ≡ Expanded = sym unexpanded ∙ ap (λ (z : Node). z.own.mark) (sym (h.1 e)) ∙ m in cc))) [] roots
    (EachNode-both IsSoundNode (λ above y. y.own.number ≡ n → y ≡ x) [] roots sound.each (only_node n [] roots x is (at_one_place roots sound n)))

-- ---- a batch

below_by : (n s o : ℕ) → o ≡ cond (nat_lt n s) 1 0 → 1 ≤ o → n < s
below_by n s o is some = grind (arith, nat_tests, is, some)

below_size : (n : ℕ) (roots : Forest) → IsSoundForest roots → (o : Option Node) → node_at n roots ≡ o → IsSome o → n < size roots
below_size n roots sound None is some = absurd (false≢true some)
below_size n roots sound (Some x) is some = below_by n (size roots) (occurrences n roots) (sound.numbered n) (found_occurs n roots x is)

other_node : (n m : ℕ) → n < m → eqb n m ≡ false
other_node n m less = grind (arith, nat_tests, less)

none_with : (n s : ℕ) (batch : List Certificate) (puts : List Put) → n < s → HasNoneFrom s puts → HasNoneFrom s (puts ++ (n, batch) ∷ [])
none_with n s batch puts less none m from =
    certificates-put m puts (n, batch) ∙ ap (λ b. cond b (certificates_of m puts ++ batch) (certificates_of m puts)) (other_node n m (omega (arith, less, from))) ∙ none m from

pub shelf_stays_within : ShelfStaysWithin
shelf_stays_within = record {
  root = λ puts roots p facts none.
      later (size roots) (size (with_root p facts roots)) puts
      (let s = size-appended roots (node (record { number = size roots; position = p; facts = facts; mark = Unexpanded }) no_node no_node) in omega (arith, s)) none;
  children = λ puts roots n children sound leaf none.
      later (size roots) (size (with_children n children roots)) puts
      (grows n children (size roots) [] roots (childless_at n roots sound (node_at n roots) refl leaf)) none;
  facts = λ puts roots n facts batch sound there none.
      later (size roots) (size (with_facts n facts roots)) (puts ++ (n, batch) ∷ [])
      (let s = size-changed (learn n facts) roots in omega (arith, s))
      (none_with n (size roots) batch puts (below_size n roots sound (node_at n roots) refl there) none);
}
