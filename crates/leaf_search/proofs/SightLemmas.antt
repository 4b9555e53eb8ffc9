-- Positions that are not decided at sight.
use Rattle.std.proofs.Common.{◌≡◌, ◌<◌, ℕ, Bool, true, false, List, [], ◌∷◌, refl, sym, ◌∙◌, arith}
use Rattle.std.specs.Prelude.{◌||◌, nat_le}
use Rattle.std.proofs.lemmas.Bool.{leb-true, false≢true}
use Rattle.draughts_board.specs.Board.{Board, IsLawful, piece_count}
use Rattle.draughts_board.specs.Rules.{IsLegal}
use Rattle.draughts_board.specs.Play.{successors_of, is_nil}
use Rattle.draughts_board.specs.Game.{is_at_sight}
use Rattle.draughts_board.specs.Draughts.{draughts}
use Rattle.certificate_checker.proofs.SightLemmas.{blocked_at_sight}
use Rattle.leaf_search.proofs.FailLemmas.{moving, blocked}

not_nil : {X : Type 0} (xs : List X) → (xs ≡ [] → ⊥) → is_nil xs ≡ false
not_nil [] never = absurd (never refl)
not_nil (x ∷ xs) never = refl

not_within : (n k : ℕ) → k < n → (b : Bool) → nat_le n k ≡ b → b ≡ false
not_within n k more true within = let few = leb-true n k within in let no : ⊥ = omega (arith, few, more) in absurd no
not_within n k more false within = refl

neither : (a b : Bool) → a ≡ false → b ≡ false → (a || b) ≡ false
neither true b left right = cc
neither false b left right = right

-- more pieces than the table, and a legal move
pub unseen : (k : ℕ) (p : Board) → IsLawful p → k < piece_count p → (m : List ℕ) → IsLegal p m → is_at_sight draughts k p ≡ false
unseen k p lawful more m legal =
    neither (is_nil (successors_of p)) (nat_le (piece_count p) k)
    (not_nil (successors_of p) (moving p m lawful legal))
    (not_within (piece_count p) k more (nat_le (piece_count p) k) refl)

-- where there is no legal move, it is decided at sight
pub not_unseen : (k : ℕ) (p : Board) → IsLawful p → ((m : List ℕ) → IsLegal p m → ⊥) → is_at_sight draughts k p ≡ false → ⊥
not_unseen k p lawful none sight = false≢true (sym sight ∙ blocked_at_sight k p (blocked p lawful none))
