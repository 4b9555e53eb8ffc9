-- The roots of a bench, one by one.
use Rattle.std.proofs.Common.{◌≡◌, ℕ, ◌+◌, ◌-◌, ◌<◌, List, [], ◌∷◌, ◌++◌, Option, Some, length, get_or, slice_get, map, take, refl, sym, ◌∙◌, ap, subst, arith}
use Rattle.std.specs.Prelude.{IfSome, IsSome}
use Rattle.std.proofs.lemmas.List.{take_more, get_or-map, length-map}
use Rattle.certificate_joiner.specs.Strategy.{named}
use Rattle.certificate_joiner.proofs.Named.{root_is, said_of}
use Rattle.draughts_board.specs.Board.{Board}
use Rattle.draughts_board.specs.declared.pieces.Side.TheVariants.{Black, White}
use Rattle.draughts_board.specs.declared.pieces.Value.{Value}
use Rattle.journal_pages.specs.Roots.{row_of}
use Rattle.journal_pages.specs.declared.roots.RootRow.{RootRow}
use Rattle.opening_report.proofs.BenchLemmas.{at_root}
use Rattle.proof_numbers.specs.declared.numbers.Numbers.{Numbers}
use Rattle.proof_tree.specs.Forest.{Forest, Node, nodes, node_at, node_numbers, value_of}
use Rattle.proof_tree.specs.Rows.{blank_node}
use Rattle.proof_tree.specs.Sound.{IsSoundForest}
use Rattle.tree_census.specs.Censuses.{IsCensus}
use Rattle.tree_census.specs.declared.counting.Census.{Census}

-- the first rows, and one more
pub rows_more : (roots : Forest) (ys : List RootRow) (i : ℕ) (r : RootRow) → i < length (nodes roots) → ys ≡ take i (map row_of (nodes roots))
    → IfSome (slice_get (nodes roots) (i + 1 - 1)) (λ x. r ≡ row_of x) → ys ++ r ∷ [] ≡ take (i + 1) (map row_of (nodes roots))
rows_more roots ys i r within front said =
    let xs = nodes roots in
    let blank : RootRow = row_of blank_node in
    let fits : i < length (map row_of xs) = (let e = length-map xs row_of in omega arith) in
    let back : i + 1 - 1 ≡ i = omega arith in
    let here : r ≡ row_of (get_or xs i blank_node) = at_root xs i (λ x. r ≡ row_of x) within (subst (λ k. IfSome (slice_get xs k) (λ x. r ≡ row_of x)) back said) in
    ap (λ (l : List RootRow). l ++ r ∷ []) front
    ∙ (ap (λ (q : RootRow). take i (map row_of xs) ++ q ∷ []) (here ∙ sym (get_or-map row_of xs i blank_node blank within)) ∙ sym (take_more (map row_of xs) i blank fits))

-- ---- a root by its node

module _ (roots : Forest) (sound : IsSoundForest roots) (i n : ℕ) (within : i < length (nodes roots))
    (number : IfSome (slice_get (nodes roots) i) (λ x. n ≡ x.own.number)) (p : Board) (v : Option Value) (black white : Numbers)
    (at : IfSome (node_at n roots) (λ x. p ≡ x.own.position)) (has : IfSome (slice_get (nodes roots) i) (λ x. v ≡ value_of x))
    (of_black : IfSome (node_at n roots) (λ x. black ≡ node_numbers Black x)) (of_white : IfSome (node_at n roots) (λ x. white ≡ node_numbers White x))
    (census : Census) (counted : IfSome (slice_get (nodes roots) i) (IsCensus census)) where
  made : record { position = p; value = v; black = black; white = white; census = census } ≡ row_of (named roots n)
  made =
      let is = root_is roots sound i n within number in
      let position : p ≡ (named roots n).own.position = said_of roots n (λ x. p ≡ x.own.position) is.0 at in
      let value : v ≡ value_of (named roots n) = subst (λ (o : Option Node). IfSome o (λ x. v ≡ value_of x)) is.1.0 has in
      let one : black ≡ node_numbers Black (named roots n) = said_of roots n (λ x. black ≡ node_numbers Black x) is.0 of_black in
      let two : white ≡ node_numbers White (named roots n) = said_of roots n (λ x. white ≡ node_numbers White x) is.0 of_white in
      let all : IsCensus census (named roots n) = subst (λ (o : Option Node). IfSome o (IsCensus census)) is.1.0 counted in
      rw (position, value, one, two, all) refl

  pub row_made : IfSome (slice_get (nodes roots) i) (λ x. record { position = p; value = v; black = black; white = white; census = census } ≡ row_of x)
  row_made =
      let is = root_is roots sound i n within number in
      subst (λ (o : Option Node). IfSome o (λ x. record { position = p; value = v; black = black; white = white; census = census } ≡ row_of x)) (sym is.1.0) made
