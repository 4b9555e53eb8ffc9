use Rattle.std.proofs.Common.{◌≡◌, ◌∙◌, ◌++◌, ◌∷◌, [], map, take, length, List, ℕ, ap, sym, subst, arith}
use Rattle.std.proofs.lemmas.List.{length-take-le}
use Rattle.draughts_board.specs.Board.{Board}
use Rattle.bench_core.specs.Naming.{NamingState, AreRising}
use Rattle.bench_core.proofs.NamingLemmas.{rising_pop, seen_forgotten}
use Rattle.bench_core.proofs.naming.Naming.forget.Goals as goal

pub invariant_of-self : goal.invariant_of-self
invariant_of-self c =
    let named : List Board = c.self.inside.named in
    let counts : List ℕ = c.pop.new.self.items in
    let rising : AreRising 0 (counts ++ c.in-Some.count ∷ []) (length named) = subst (λ (l : List ℕ). AreRising 0 l (length named)) c.in-Some.ensures.items c.self.invariant in
    let popped = rising_pop 0 (length named) c.in-Some.count counts rising in
    let long : length c.cut.new.self ≡ c.in-Some.count = ap length c.cut.ensures ∙ length-take-le c.in-Some.count named popped.1 in
    subst (λ n. AreRising 0 counts n) (sym long) popped.0

pub returns : goal.returns
returns c =
    let named : List Board = c.self.inside.named in
    let counts : List ℕ = c.pop.new.self.items in
    let rising : AreRising 0 (counts ++ c.in-Some.count ∷ []) (length named) = subst (λ (l : List ℕ). AreRising 0 l (length named)) c.in-Some.ensures.items c.self.invariant in
    sym (ap (λ (n : NamingState). n.before) c.self.view_is)
    ∙ (ap (map (λ k. take k named)) c.in-Some.ensures.items
    ∙ (seen_forgotten named counts c.in-Some.count rising ∙ ap (λ (l : List Board). map (λ k. take k l) counts ++ l ∷ []) (sym c.cut.ensures)))
