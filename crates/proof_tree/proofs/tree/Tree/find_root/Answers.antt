use Rattle.std.proofs.Common.{◌≡◌, ◌+◌, ◌-◌, ◌↔◌, ℕ, List, Some, None, arith, sym, ap, subst, ◌∙◌}
use Rattle.std.specs.Prelude.{Contains, IsNone, slice_get}
use Rattle.std.specs.Map.{keys_of}
use Rattle.draughts_board.specs.Board.{Board}
use Rattle.proof_tree.specs.Sound.{root_positions}
use Rattle.proof_tree.proofs.RootLemmas.{found-there, none-iff}
use Rattle.proof_tree.proofs.Trees.{positions-are}
use Rattle.proof_tree.proofs.tree.Tree.find_root.Goals as goal

pub returns-in-Some-clause-found : goal.returns-in-Some-clause-found
returns-in-Some-clause-found c =
    let place = c.in-Some.place in
    let back : place + 1 - 1 ≡ place = omega arith in (
      omega arith,
      ap (slice_get (root_positions c.args.self.now.forest)) back
          ∙ ap (λ (ps : List Board). slice_get ps place) (positions-are c.self.inside.rows.items c.self.inside.roots.entries _ _ c.self.inside.spare c.self.invariant.tree c.args.self.now c.self.view_is)
          ∙ found-there c.args.p.now (keys_of c.self.inside.roots.entries) place (sym c.in-Some.ensures),
    )

pub returns-in-Some-clause-none : goal.returns-in-Some-clause-none
returns-in-Some-clause-none c =
    subst (λ (ps : List Board). IsNone (Some c.in-Some.place) ↔ (¬ Contains ps c.args.p.now)) (sym (positions-are c.self.inside.rows.items c.self.inside.roots.entries _ _ c.self.inside.spare c.self.invariant.tree c.args.self.now c.self.view_is))
    (none-iff c.args.p.now c.self.inside.roots.entries (Some c.in-Some.place) c.in-Some.ensures)

pub returns-in-None-clause-none : goal.returns-in-None-clause-none
returns-in-None-clause-none c =
    subst (λ (ps : List Board). IsNone {T = ℕ} None ↔ (¬ Contains ps c.args.p.now)) (sym (positions-are c.self.inside.rows.items c.self.inside.roots.entries _ _ c.self.inside.spare c.self.invariant.tree c.args.self.now c.self.view_is))
    (none-iff c.args.p.now c.self.inside.roots.entries None c.in-None.ensures)
