use Rattle.std.proofs.Common.{rules, ◌≡◌, ◌<◌, ◌+◌, ◌++◌, ◌∷◌, [], List, take, length, ap, sym, ◌∙◌, subst}
use Rattle.std.specs.Prelude.{IsNone}
use Rattle.std.proofs.lemmas.List.{take_more}
use Rattle.draughts_board.specs.Board.{Board}
use Rattle.proof_tree.specs.Sound.{root_positions}
use Rattle.std.proofs.lemmas.Bool.{true≢false}
use Rattle.tree_manager.specs.Sessions.{with_roots, AreNewRoots}
use Rattle.tree_manager.proofs.RootLemmas.{new_more, root_found, roots_more, roots_same}
use Rattle.tree_manager.proofs.roots.new_roots.Goals as goal
use Rattle.tree_manager.proofs.roots.new_roots.Goals.{then-is_none+in_ok-add, else-is_none}

pub loop-p-preserved : goal.loop-p-preserved
loop-p-preserved c =
    let roots : List Board = root_positions c.args.tree.now.forest in
    let ps : List Board = c.args.positions.now in
    let p : Board = c.p-item.result in
    let i = c.loop-p.p-index in
    let within : i < length ps = search rules in
    let more : take (i + 1) ps ≡ take i ps ++ p ∷ [] = take_more ps i p within ∙ ap (λ (q : Board). take i ps ++ q ∷ []) (sym c.p-item.is) in
    let found = root_found p roots (IsNone c.find_root.result) c.find_root.ensures.none in
    elim c.if-is_none.branch [
      | then-is_none+in_ok-add w ↦
          let absent = found.0 w.if-is_none.ensures in
          let keys = w.in_ok-add.ensures.ok in (
            subst (λ s. roots ++ s ≡ with_roots roots (take (i + 1) ps)) (sym w.added-is) (roots_more roots c.loop-p.added w.add.new.self (take i ps) (take (i + 1) ps) p c.loop-p.invariant.0 absent more keys),
            subst (λ s. AreNewRoots roots s) (sym w.added-is) (new_more roots c.loop-p.added w.add.new.self p c.loop-p.invariant.1 absent keys),
          )
      | else-is_none w ↦
          let known = found.1 (λ none. true≢false (sym w.if-is_none.ensures ∙ none)) in (
            subst (λ s. roots ++ s ≡ with_roots roots (take (i + 1) ps)) (sym w.added-is) (roots_same roots c.loop-p.added (take i ps) (take (i + 1) ps) p c.loop-p.invariant.0 known more),
            subst (λ s. AreNewRoots roots s) (sym w.added-is) c.loop-p.invariant.1,
          )
    ]
