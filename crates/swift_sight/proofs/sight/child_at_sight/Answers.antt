use Rattle.std.proofs.Common.{◌≡◌, ◌↔◌, [], ◌∷◌, ◌==◌, List, ℕ, length, suc, sym, ap, ◌∙◌, refl, arith}
use Rattle.std.specs.Prelude.{IsTrue}
use Rattle.std.proofs.lemmas.Bool.{eqb-true}
use Rattle.draughts_board.specs.Board.{Board}
use Rattle.draughts_board.specs.Play.{successors_of}
use Rattle.swift_sight.proofs.sight.child_at_sight.Goals as goal

-- a list is empty exactly where its length is 0
none-iff : (next : List Board) (n : ℕ) → n ≡ length next → IsTrue (n == 0) ↔ (next ≡ [])
none-iff [] n is = (λ _. refl, λ _. ap (λ m. m == 0) is)
none-iff (q ∷ next) n is = (
  λ zero. (let none = eqb-true n 0 zero in let more : suc (length next) ≡ 0 = sym is ∙ none in let no : ⊥ = omega (arith, more) in absurd no),
  λ none. cc,
)

pub facts_where-facts-requires : goal.facts_where-facts-requires
facts_where-facts-requires g c = none-iff (successors_of c.args.p.now) c.in_ok-count.count c.in_ok-count.ensures
