use Rattle.std.proofs.Common.{◌≤◌, ◌-◌, List, map, ap, sym, ◌∙◌, subst}
use Rattle.std.specs.Prelude.{false}
use Rattle.lease_table.specs.Rows.{LeaseRows, marked}
use Rattle.bench_core.specs.declared.staged.Staged.{Staged}
use Rattle.bench_core.specs.Cores.{Core, IsForgotten}
use Rattle.bench_core.specs.Benches.{seen, record_staged, IsBench}
use Rattle.bench_core.specs.Naming.{AreNamesOf}
use Rattle.bench_core.proofs.StageLemmas.{map_push}
use Rattle.bench_core.proofs.NamingLemmas.{names_forgotten, names_some}
use Rattle.bench_core.proofs.ForgetLemmas.{fewer_nodes, can_unkeep, root_left, work_left, forgotten, bench_root_left, bench_work_left}
use Rattle.bench_core.proofs.bench.Bench.forget_ready.Goals as goal

pub forget-requires : goal.forget-requires
forget-requires c none =
    let b = c.self.inside in
    let rest = c.pop.new.self.items in
    names_some b.grown.records (map record_staged rest) (record_staged c.in-Some.item) b.names
    (subst (λ rs. AreNamesOf b.grown.records rs b.names) (ap (map record_staged) c.in-Some.ensures.items ∙ map_push rest c.in-Some.item) c.self.invariant.names) none

pub overflow_sub-self : goal.overflow_sub-self
overflow_sub-self c =
    let b = c.self.inside in
    let bench = subst (λ (ws : List Staged). IsBench (seen b.grown b.leases ws b.given b.work b.settings) b.grown b.leases ws b.nodes_due) c.in-Some.ensures.items c.self.invariant.bench in
    subst (λ n. n ≤ b.nodes_due) (sym c.nodes.ensures) (fewer_nodes b.grown b.leases c.pop.new.self.items c.in-Some.item b.given b.work b.nodes_due b.settings bench)

pub unkeep-requires : goal.unkeep-requires
unkeep-requires c =
    let b = c.self.inside in
    let bench = subst (λ (ws : List Staged). IsBench (seen b.grown b.leases ws b.given b.work b.settings) b.grown b.leases ws b.nodes_due) c.in-Some.ensures.items c.self.invariant.bench in
    can_unkeep b.grown b.leases c.pop.new.self.items c.in-Some.item b.given b.work b.nodes_due b.settings bench c.in-Some-lease.id (sym c.lease.ensures ∙ c.in-Some-lease.is)

pub invariant_of-self : goal.invariant_of-self
invariant_of-self c =
    let b = c.self.inside in
    let rest = c.pop.new.self.items in
    let bench = subst (λ (ws : List Staged). IsBench (seen b.grown b.leases ws b.given b.work b.settings) b.grown b.leases ws b.nodes_due) c.in-Some.ensures.items c.self.invariant.bench in
    record {
      bench = subst (λ (t : LeaseRows). IsBench (seen b.grown t rest b.given b.work b.settings) b.grown t rest (b.nodes_due - c.nodes.result)) (sym c.unkeep.ensures)
          (subst (λ n. IsBench (seen b.grown (record b.leases { rows = marked c.in-Some-lease.id false b.leases.rows }) rest b.given b.work b.settings) b.grown (record b.leases { rows = marked c.in-Some-lease.id false b.leases.rows }) rest (b.nodes_due - n)) (sym c.nodes.ensures)
          (bench_work_left b.grown b.leases rest c.in-Some.item b.given b.work b.nodes_due b.settings bench c.in-Some-lease.id (sym c.lease.ensures ∙ c.in-Some-lease.is)));
      names = names_forgotten b.grown.records (map record_staged rest) (record_staged c.in-Some.item) b.names c.forget.new.self
          (subst (λ rs. AreNamesOf b.grown.records rs b.names) (ap (map record_staged) c.in-Some.ensures.items ∙ map_push rest c.in-Some.item) c.self.invariant.names) c.forget.ensures;
    }

pub returns-in-Some-lease : goal.returns-in-Some-lease
returns-in-Some-lease c =
    let b = c.self.inside in
    let rest = c.pop.new.self.items in
    let item = c.in-Some.item in
    let now = seen b.grown c.unkeep.new.self rest b.given b.work b.settings in
    let bench = subst (λ (ws : List Staged). IsBench (seen b.grown b.leases ws b.given b.work b.settings) b.grown b.leases ws b.nodes_due) c.in-Some.ensures.items c.self.invariant.bench in
    let was = sym (ap (λ (ws : List Staged). seen b.grown b.leases ws b.given b.work b.settings) c.in-Some.ensures.items) ∙ c.self.view_is in
    subst (λ (x : Core). IsForgotten x now) was
    (forgotten b.grown b.leases rest item b.given b.work b.nodes_due b.settings bench now
    (ap (λ (t : LeaseRows). seen b.grown t rest b.given b.work b.settings) c.unkeep.ensures
    ∙ work_left b.grown b.leases rest item b.given b.work b.nodes_due b.settings bench c.in-Some-lease.id (sym c.lease.ensures ∙ c.in-Some-lease.is)))

pub invariant_of-self-in_default-lease : goal.invariant_of-self-in_default-lease
invariant_of-self-in_default-lease c =
    let b = c.self.inside in
    let rest = c.pop.new.self.items in
    let bench = subst (λ (ws : List Staged). IsBench (seen b.grown b.leases ws b.given b.work b.settings) b.grown b.leases ws b.nodes_due) c.in-Some.ensures.items c.self.invariant.bench in
    record {
      bench = subst (λ n. IsBench (seen b.grown b.leases rest b.given b.work b.settings) b.grown b.leases rest (b.nodes_due - n)) (sym c.nodes.ensures)
          (bench_root_left b.grown b.leases rest c.in-Some.item b.given b.work b.nodes_due b.settings bench (sym c.lease.ensures ∙ c.in_default-lease.is));
      names = names_forgotten b.grown.records (map record_staged rest) (record_staged c.in-Some.item) b.names c.forget.new.self
          (subst (λ rs. AreNamesOf b.grown.records rs b.names) (ap (map record_staged) c.in-Some.ensures.items ∙ map_push rest c.in-Some.item) c.self.invariant.names) c.forget.ensures;
    }

pub returns : goal.returns
returns c =
    let b = c.self.inside in
    let rest = c.pop.new.self.items in
    let item = c.in-Some.item in
    let now = seen b.grown b.leases rest b.given b.work b.settings in
    let bench = subst (λ (ws : List Staged). IsBench (seen b.grown b.leases ws b.given b.work b.settings) b.grown b.leases ws b.nodes_due) c.in-Some.ensures.items c.self.invariant.bench in
    let was = sym (ap (λ (ws : List Staged). seen b.grown b.leases ws b.given b.work b.settings) c.in-Some.ensures.items) ∙ c.self.view_is in
    subst (λ (x : Core). IsForgotten x now) was
    (forgotten b.grown b.leases rest item b.given b.work b.nodes_due b.settings bench now
    (root_left b.grown b.leases rest item b.given b.work b.nodes_due b.settings bench (sym c.lease.ensures ∙ c.in_default-lease.is)))
