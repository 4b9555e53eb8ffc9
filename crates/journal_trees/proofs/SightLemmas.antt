-- What is shown of a node, from what the tree says of it.
use Rattle.std.proofs.Common.{◌≡◌, ℕ, Option, sym, ◌∙◌, ap}
use Rattle.std.specs.Prelude.{Bool, IfSome, List}
use Rattle.draughts_board.specs.Board.{Board}
use Rattle.draughts_board.specs.declared.pieces.Side.TheVariants.{Black, White}
use Rattle.proof_numbers.specs.Known.{Known}
use Rattle.proof_numbers.specs.declared.numbers.Numbers.{Numbers}
use Rattle.proof_tree.specs.Forest.{Forest, Node, node_at, node_numbers}
use Rattle.proof_tree.specs.declared.rows.Mark.{Mark}
use Rattle.certificate_joiner.specs.Strategy.{IsNamed, named}
use Rattle.certificate_joiner.proofs.Named.{number_named, said_of}
use Rattle.journal_trees.specs.Sights.{Sight, is_picked, path_to, sight}

module _ (roots : Forest) (n : ℕ) (some : IsNamed roots n) where
  abbrev x : Node
  x = named roots n

  pub position-is : (p : Board) → IfSome (node_at n roots) (λ y. p ≡ y.own.position) → p ≡ x.own.position
  position-is p said = said_of roots n (λ y. p ≡ y.own.position) some said

  pub sight-is : (next : Option ℕ) (number depth : ℕ) (above : Option Board) (path : Option (List ℕ)) (p : Board) (mark : Mark) (facts : Known) (black white : Numbers) (is_next : Bool)
      → path ≡ path_to above p
      → IfSome (node_at n roots) (λ y. p ≡ y.own.position)
      → IfSome (node_at n roots) (λ y. mark ≡ y.own.mark)
      → IfSome (node_at n roots) (λ y. facts ≡ y.own.facts)
      → IfSome (node_at n roots) (λ y. black ≡ node_numbers Black y)
      → IfSome (node_at n roots) (λ y. white ≡ node_numbers White y)
      → number ≡ n → is_next ≡ is_picked next number
      → ◌≡◌ {A = Sight} (record { depth = depth; number = number; path = path; position = p; mark = mark; facts = facts; black = black; white = white; is_next = is_next })
      (sight next depth above x)
  unfolding sight
  sight-is next number depth above path p mark facts black white is_next path' p' mark' facts' black' white' number' is_next' =
      let num : number ≡ x.own.number = number' ∙ sym (number_named roots n some) in
      let pos : p ≡ x.own.position = position-is p p' in
      let e1 : path ≡ path_to above x.own.position = path' ∙ ap (path_to above) pos in
      let e2 : mark ≡ x.own.mark = said_of roots n (λ y. mark ≡ y.own.mark) some mark' in
      let e3 : facts ≡ x.own.facts = said_of roots n (λ y. facts ≡ y.own.facts) some facts' in
      let e4 : black ≡ node_numbers Black x = said_of roots n (λ y. black ≡ node_numbers Black y) some black' in
      let e5 : white ≡ node_numbers White x = said_of roots n (λ y. white ≡ node_numbers White y) some white' in
      let e6 : is_next ≡ is_picked next x.own.number = is_next' ∙ ap (is_picked next) num in
      cc
