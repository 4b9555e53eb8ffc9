-- How many of the first roots are settled, and what a turn that counts them shows.
use Rattle.std.proofs.Common.{◌≡◌, ℕ, ◌+◌, ◌-◌, ◌<◌, List, Bool, true, false, Option, length, get_or, slice_get, take, refl, sym, ◌∙◌, ap, subst, arith}
use Rattle.std.specs.Prelude.{IfSome, is_some, count_by}
use Rattle.std.proofs.lemmas.Option.{slice_get-get_or}
use Rattle.std.proofs.lemmas.List.Sums.{count_by_more_yes, count_by_more_no}
use Rattle.draughts_board.specs.declared.pieces.Value.{Value}
use Rattle.proof_tree.specs.Forest.{Forest, Node, nodes, value_of}
use Rattle.proof_tree.specs.Rows.{blank_node}
use Rattle.bench_core.specs.Cores.{Core}
use Rattle.tree_manager.specs.declared.counting.RootCounts.{RootCounts}
use Rattle.tree_manager.specs.declared.entries.Entry.{Entry}
use Rattle.tree_manager.specs.Histories.{IsCoreOf}
use Rattle.tree_manager.specs.Turns.{GrowsByTurns, InOneTurn, AreRootCounts, Counts}
use Rattle.tree_manager.proofs.TurnLemmas.{grows_same}
use Rattle.tree_manager.proofs.SharedLemmas.{grows_turn}

next_is : (roots : Forest) (i : ℕ) (v : Option Value) (b : Bool) → i < length (nodes roots) → IfSome (slice_get (nodes roots) (i + 1 - 1)) (λ x. v ≡ value_of x) → is_some v ≡ b
    → is_some (value_of (get_or (nodes roots) i blank_node)) ≡ b
next_is roots i v b within said test =
    let xs = nodes roots in
    let back : i + 1 - 1 ≡ i = omega arith in
    let there : IfSome (slice_get xs i) (λ x. v ≡ value_of x) = subst (λ k. IfSome (slice_get xs k) (λ x. v ≡ value_of x)) back said in
    let here : v ≡ value_of (get_or xs i blank_node) = subst (λ (o : Option Node). IfSome o (λ x. v ≡ value_of x)) (slice_get-get_or xs i blank_node within) there in
    ap (λ (o : Option Value). is_some o) (sym here) ∙ test

pub one_more : (roots : Forest) (i : ℕ) (v : Option Value) → i < length (nodes roots) → IfSome (slice_get (nodes roots) (i + 1 - 1)) (λ x. v ≡ value_of x) → is_some v ≡ true
    → count_by (λ root. is_some (value_of root)) (take (i + 1) (nodes roots)) ≡ count_by (λ root. is_some (value_of root)) (take i (nodes roots)) + 1
one_more roots i v within said test =
    count_by_more_yes (λ (root : Node). is_some (value_of root)) (nodes roots) i blank_node within (next_is roots i v true within said test)

pub none_more : (roots : Forest) (i : ℕ) (v : Option Value) → i < length (nodes roots) → IfSome (slice_get (nodes roots) (i + 1 - 1)) (λ x. v ≡ value_of x) → is_some v ≡ false
    → count_by (λ root. is_some (value_of root)) (take (i + 1) (nodes roots)) ≡ count_by (λ root. is_some (value_of root)) (take i (nodes roots))
none_more roots i v within said test =
    count_by_more_no (λ (root : Node). is_some (value_of root)) (nodes roots) i blank_node within (next_is roots i v false within said test)

-- the pass enters, the roots of the session are counted, and the pass leaves with its line
pub counts_turn : (counts : RootCounts) (old entered found new : List Entry) (core seen : Core) (roots : Forest) → GrowsByTurns old entered → entered ≡ found
    → IsCoreOf found core → seen ≡ core → roots ≡ seen.state.forest → AreRootCounts counts roots → new ≡ found → InOneTurn old new (λ found new. Counts found new counts)
counts_turn counts old entered found new core seen roots entering whole stands is there counted leaving = record {
  found = new;
  grows = grows_turn old entered found found new entering whole (grows_same found found refl) leaving;
  goes_on = grows_same new new refl;
  does = (
    refl,
    record {
      core = core;
      stands = subst (λ line. IsCoreOf line core) (sym leaving) stands;
      holds = subst (λ (f : Forest). AreRootCounts counts f) (there ∙ ap (λ (c : Core). c.state.forest) is) counted;
    },
  );
}
