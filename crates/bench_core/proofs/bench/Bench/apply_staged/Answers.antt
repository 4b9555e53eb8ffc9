use Rattle.std.proofs.Common.{rules, ◌≡◌, ◌≤◌, ◌<◌, ◌^◌, ◌+◌, ◌-◌, List, [], ◌∷◌, ◌++◌, map, length, reverse, refl, ap, sym, ◌∙◌, subst, arith}
use Rattle.std.specs.Prelude.{cond, Bool, true, false}
use Rattle.std.proofs.lemmas.List.{reverse-reverse, reverse-append}
use Rattle.lease_table.specs.Rows.{LeaseRows}
use Rattle.bench_core.specs.declared.staged.Staged.{Staged}
use Rattle.bench_core.specs.Records.{is_work}
use Rattle.bench_core.specs.Cores.{Core, IsCommitted}
use Rattle.bench_core.specs.Benches.{seen, record_staged, nodes_made, work_made, all_nodes_made, IsBench}
use Rattle.bench_core.specs.Applying.{leases_after}
use Rattle.bench_core.specs.Naming.{AreNamesOf}
use Rattle.bench_core.proofs.NamingLemmas.{names_applied}
use Rattle.bench_core.proofs.ApplyLemmas.{IsApplying, can_apply, applying_begun, applying_step, applying_done}
use Rattle.bench_core.proofs.bench.Bench.apply_staged.Goals as goal

-- the last item stands first behind the turn
turned : (waiting rest : List Staged) (item : Staged) → waiting ≡ rest ++ item ∷ [] → reverse waiting ≡ item ∷ reverse rest
turned waiting rest item is = ap reverse is ∙ reverse-append rest (item ∷ [])

at_most_one : (b : Bool) → cond b 1 0 ≤ 1
at_most_one true = omega arith
at_most_one false = omega arith

pub loop-item-init : goal.loop-item-init
loop-item-init c =
    let b = c.self.inside in
    let back : reverse c.reverse.new.self.items ≡ b.staged.items = ap reverse c.reverse.ensures.items ∙ reverse-reverse b.staged.items in
    record {
      applying = subst (λ (ws : List Staged). IsApplying c.args.self.now b.grown b.leases ws b.given b.work b.nodes_due b.settings) (sym back)
          (subst (λ (x : Core). IsApplying x b.grown b.leases b.staged.items b.given b.work b.nodes_due b.settings) c.self.view_is
          (applying_begun b.grown b.leases b.staged.items b.given b.work b.nodes_due b.settings c.self.invariant.bench));
      names = subst (λ (x : Core). AreNamesOf (x.records ++ x.staged) [] c.apply_all.new.self) c.self.view_is
          (names_applied b.grown.records (map record_staged b.staged.items) b.names c.apply_all.new.self c.self.invariant.names c.apply_all.ensures);
    }

pub loop-item-preserved : goal.loop-item-preserved
loop-item-preserved c =
    let b = c.loop-item.self-inside in
    let at = subst (λ (ws : List Staged). IsApplying c.args.self.now b.grown b.leases ws b.given b.work b.nodes_due b.settings) (turned b.staged.items c.pop.new.self.items c.in-Some.item c.in-Some.ensures.items) c.loop-item.invariant.applying in
    let made : c.work.result ≡ work_made c.in-Some.item = c.work.ensures in
    record {
      applying = subst (λ (t : LeaseRows). IsApplying c.args.self.now c.apply.new.grown t (reverse c.pop.new.self.items) b.given (b.work + c.work.result) (b.nodes_due - c.nodes.result) b.settings) (sym c.apply.ensures.leases)
          (subst (λ n. IsApplying c.args.self.now c.apply.new.grown (leases_after c.in-Some.item b.leases) (reverse c.pop.new.self.items) b.given (b.work + n) (b.nodes_due - c.nodes.result) b.settings) (sym made)
          (subst (λ n. IsApplying c.args.self.now c.apply.new.grown (leases_after c.in-Some.item b.leases) (reverse c.pop.new.self.items) b.given (b.work + work_made c.in-Some.item) (b.nodes_due - n) b.settings) (sym c.nodes.ensures)
          (applying_step c.args.self.now b.grown c.apply.new.grown b.leases c.in-Some.item (reverse c.pop.new.self.items) b.given b.work b.nodes_due b.settings at c.apply.ensures.grown)));
      names = c.loop-item.invariant.names;
    }

pub apply-requires : goal.apply-requires
apply-requires c =
    let b = c.loop-item.self-inside in
    let at = subst (λ (ws : List Staged). IsApplying c.args.self.now b.grown b.leases ws b.given b.work b.nodes_due b.settings) (turned b.staged.items c.pop.new.self.items c.in-Some.item c.in-Some.ensures.items) c.loop-item.invariant.applying in
    can_apply b.grown b.leases (reverse c.pop.new.self.items) b.given b.work b.nodes_due b.settings c.in-Some.item at.bench

pub overflow_sub-self : goal.overflow_sub-self
overflow_sub-self c =
    let b = c.loop-item.self-inside in
    let at = subst (λ (ws : List Staged). IsApplying c.args.self.now b.grown b.leases ws b.given b.work b.nodes_due b.settings) (turned b.staged.items c.pop.new.self.items c.in-Some.item c.in-Some.ensures.items) c.loop-item.invariant.applying in
    let made : nodes_made c.in-Some.item + all_nodes_made (reverse c.pop.new.self.items) ≡ b.nodes_due = at.bench.made in
    omega (arith, c.nodes.ensures, made)

pub overflow_add-self : goal.overflow_add-self
overflow_add-self c =
    let b = c.loop-item.self-inside in
    let at = subst (λ (ws : List Staged). IsApplying c.args.self.now b.grown b.leases ws b.given b.work b.nodes_due b.settings) (turned b.staged.items c.pop.new.self.items c.in-Some.item c.in-Some.ensures.items) c.loop-item.invariant.applying in
    let count : b.work + length (c.in-Some.item ∷ reverse c.pop.new.self.items) < 2 ^ 64 = at.bench.countable in
    let one : c.work.result ≤ 1 = subst (λ n. n ≤ 1) (sym c.work.ensures) (at_most_one (is_work (record_staged c.in-Some.item))) in
    let fits : b.work + c.work.result < 2 ^ 64 = omega (arith, count, one) in
    omega (arith, fits)

none_left : (waiting rest : List Staged) → waiting ≡ rest ++ [] → length rest ≡ 0 → (reverse waiting ≡ []) × (rest ≡ [])
none_left waiting [] is none = (ap reverse is, refl)
none_left waiting (x ∷ rest) is none = absurd (omega (arith, none))

pub invariant_of-self : goal.invariant_of-self
invariant_of-self c =
    let b = c.loop-item.self-inside in
    let none = none_left b.staged.items c.pop.new.self.items c.in_default.ensures.items (search rules) in
    let done : IsCommitted c.args.self.now (seen b.grown b.leases [] b.given b.work b.settings) =
    applying_done c.args.self.now b.grown b.leases b.given b.work b.nodes_due b.settings
    (subst (λ (ws : List Staged). IsApplying c.args.self.now b.grown b.leases ws b.given b.work b.nodes_due b.settings) none.0 c.loop-item.invariant.applying) in
    record {
      bench = subst (λ (ws : List Staged). IsBench (seen b.grown b.leases ws b.given b.work b.settings) b.grown b.leases ws b.nodes_due) (none.0 ∙ sym none.1) c.loop-item.invariant.applying.bench;
      names = subst (λ rs. AreNamesOf rs (map record_staged c.pop.new.self.items) b.names) (sym done.records)
          (subst (λ (ws : List Staged). AreNamesOf (c.args.self.now.records ++ c.args.self.now.staged) (map record_staged ws) b.names) (sym none.1) c.loop-item.invariant.names);
    }

pub returns : goal.returns
returns c =
    let b = c.loop-item.self-inside in
    let none = none_left b.staged.items c.pop.new.self.items c.in_default.ensures.items (search rules) in
    subst (λ (ws : List Staged). IsCommitted c.args.self.now (seen b.grown b.leases ws b.given b.work b.settings)) (sym none.1)
    (applying_done c.args.self.now b.grown b.leases b.given b.work b.nodes_due b.settings
    (subst (λ (ws : List Staged). IsApplying c.args.self.now b.grown b.leases ws b.given b.work b.nodes_due b.settings) none.0 c.loop-item.invariant.applying))
