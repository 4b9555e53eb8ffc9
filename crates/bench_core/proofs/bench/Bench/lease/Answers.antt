use Rattle.std.proofs.Common.{rules, ◌≡◌, ◌+◌, refl, ap, sym, ◌∙◌, subst}
use Rattle.std.specs.Prelude.{false, nat_le, Some, None, Ok, Err, IsSomeAnd}
use Rattle.draughts_board.specs.Board.{Board}
use Rattle.draughts_board.specs.Draughts.{draughts}
use Rattle.draughts_board.specs.Game.{is_at_sight}
use Rattle.proof_tree.specs.Forest.{Forest, node_at}
use Rattle.proof_tree.specs.Picking.{pick, IsOpenLeaf}
use Rattle.lease_table.specs.declared.leases.Lease.{Lease}
use Rattle.lease_table.specs.Rows.{LeaseRows, is_leased}
use Rattle.bench_core.specs.declared.refusals.LeaseRefusal.TheVariants.{NoLeaf}
use Rattle.bench_core.specs.States.{are_settled, lease_answer, lease_of, with_lease, node_position}
use Rattle.bench_core.specs.Cores.{Core}
use Rattle.bench_core.specs.Benches.{seen, IsBench}
use Rattle.bench_core.proofs.BenchLemmas.{core}
use Rattle.bench_core.proofs.KnownAtSight.{leaf_undecided}
use Rattle.bench_core.proofs.LeaseLemmas.{answer_none, answer_of_picked, bench_leased, no_row, leaf_free, leased_is, leased_core, given_rows}
use Rattle.bench_core.proofs.bench.Bench.lease.Goals as goal

pub returns-in_default-clause-refused : goal.returns-in_default-clause-refused
returns-in_default-clause-refused c =
    let b = c.self.inside in
    let some : are_settled b.grown.forest ≡ false = ap are_settled (sym c.tree.ensures.forest) ∙ (sym c.are_settled.ensures ∙ c.if-are_settled.false) in
    let left : nat_le b.settings.budget b.work ≡ false = search rules in
    let picked : None ≡ pick (λ n. is_leased b.leases n (b.given + 1)) b.grown.forest =
    sym c.in_default.is ∙ (c.pick.ensures.value ∙ ap (pick (λ n. is_leased b.leases n (b.given + 1))) c.tree-2.ensures.forest) in
    subst (λ (x : Core). lease_answer x.state c.args.worker ≡ Err (NoLeaf c.live.result)) c.self.view_is
    (answer_none b.grown b.leases b.staged.items b.given b.work b.nodes_due b.settings c.args.worker c.live.result some left picked c.live.ensures)

pub give-requires-clause-new : goal.give-requires-clause-new
give-requires-clause-new c =
    let b = c.self.inside in
    no_row b.grown b.leases b.staged.items b.given b.work b.nodes_due b.settings c.self.invariant.bench

pub give-requires-clause-free : goal.give-requires-clause-free
give-requires-clause-free c =
    let b = c.self.inside in
    let found = subst (λ (f : Forest). IsSomeAnd (node_at c.in-Some.leaf.0 f) (IsOpenLeaf c.in-Some.leaf.1 (λ n. is_leased b.leases n (b.given + 1)))) c.tree-2.ensures.forest c.in-Some.ensures.leaf in
    let at : c.lease_at-lease.result.node ≡ c.in-Some.leaf.0 = ap (λ (l : Lease). l.node) c.lease_at-lease.ensures in
    subst (λ n. is_leased b.leases n (b.given + 1) ≡ false) (sym at) (leaf_free b.grown b.leases b.staged.items b.given b.work b.nodes_due b.settings c.in-Some.leaf found)

pub invariant_of-self-2 : goal.invariant_of-self-2
invariant_of-self-2 c =
    let b = c.self.inside in
    let found = subst (λ (f : Forest). IsSomeAnd (node_at c.in-Some.leaf.0 f) (IsOpenLeaf c.in-Some.leaf.1 (λ n. is_leased b.leases n (b.given + 1)))) c.tree-2.ensures.forest c.in-Some.ensures.leaf in
    let is : c.lease_at-lease.result ≡ lease_of (core b.grown b.leases b.staged.items b.given b.work b.nodes_due b.settings).state c.args.worker c.in-Some.leaf =
    c.lease_at-lease.ensures ∙ ap (λ (f : Forest). record (lease_of (core b.grown b.leases b.staged.items b.given b.work b.nodes_due b.settings).state c.args.worker c.in-Some.leaf) { position = node_position f c.in-Some.leaf.0 }) c.tree-3.ensures.forest in
    let new : c.give.new.self ≡ given_rows b.grown b.leases b.staged.items b.given b.work b.nodes_due b.settings (lease_of (core b.grown b.leases b.staged.items b.given b.work b.nodes_due b.settings).state c.args.worker c.in-Some.leaf) =
    c.in_ok-give.ensures.ok ∙ ap (λ (l : Lease). given_rows b.grown b.leases b.staged.items b.given b.work b.nodes_due b.settings l) is in
    record {
      bench = subst (λ (t : LeaseRows). IsBench (seen b.grown t b.staged.items (b.given + 1) b.work b.settings) b.grown t b.staged.items b.nodes_due) (sym new)
          (bench_leased b.grown b.leases b.staged.items b.given b.work b.nodes_due b.settings c.args.worker c.in-Some.leaf found c.self.invariant.bench);
      names = c.self.invariant.names;
    }

pub returns-clause-answer : goal.returns-clause-answer
returns-clause-answer c =
    let b = c.self.inside in
    let some : are_settled b.grown.forest ≡ false = ap are_settled (sym c.tree.ensures.forest) ∙ (sym c.are_settled.ensures ∙ c.if-are_settled.false) in
    let left : nat_le b.settings.budget b.work ≡ false = search rules in
    let picked : Some c.in-Some.leaf ≡ pick (λ n. is_leased b.leases n (b.given + 1)) b.grown.forest =
    sym c.in-Some.is ∙ (c.pick.ensures.value ∙ ap (pick (λ n. is_leased b.leases n (b.given + 1))) c.tree-2.ensures.forest) in
    let is : c.lease_at-lease.result ≡ lease_of (core b.grown b.leases b.staged.items b.given b.work b.nodes_due b.settings).state c.args.worker c.in-Some.leaf =
    c.lease_at-lease.ensures ∙ ap (λ (f : Forest). record (lease_of (core b.grown b.leases b.staged.items b.given b.work b.nodes_due b.settings).state c.args.worker c.in-Some.leaf) { position = node_position f c.in-Some.leaf.0 }) c.tree-3.ensures.forest in
    subst (λ (x : Core). lease_answer x.state c.args.worker ≡ Ok c.lease_at-lease.result) c.self.view_is
    (answer_of_picked b.grown b.leases b.staged.items b.given b.work b.nodes_due b.settings c.args.worker (Some c.in-Some.leaf) some left picked ∙ ap Ok (sym is))

pub returns-clause-event : goal.returns-clause-event
returns-clause-event c =
    let b = c.self.inside in
    let found = subst (λ (f : Forest). IsSomeAnd (node_at c.in-Some.leaf.0 f) (IsOpenLeaf c.in-Some.leaf.1 (λ n. is_leased b.leases n (b.given + 1)))) c.tree-2.ensures.forest c.in-Some.ensures.leaf in
    let is : c.lease_at-lease.result ≡ lease_of (core b.grown b.leases b.staged.items b.given b.work b.nodes_due b.settings).state c.args.worker c.in-Some.leaf =
    c.lease_at-lease.ensures ∙ ap (λ (f : Forest). record (lease_of (core b.grown b.leases b.staged.items b.given b.work b.nodes_due b.settings).state c.args.worker c.in-Some.leaf) { position = node_position f c.in-Some.leaf.0 }) c.tree-3.ensures.forest in
    let new : c.give.new.self ≡ given_rows b.grown b.leases b.staged.items b.given b.work b.nodes_due b.settings (lease_of (core b.grown b.leases b.staged.items b.given b.work b.nodes_due b.settings).state c.args.worker c.in-Some.leaf) =
    c.in_ok-give.ensures.ok ∙ ap (λ (l : Lease). given_rows b.grown b.leases b.staged.items b.given b.work b.nodes_due b.settings l) is in
    ap (λ (t : LeaseRows). seen b.grown t b.staged.items (b.given + 1) b.work b.settings) new
    ∙ (leased_is b.grown b.leases b.staged.items b.given b.work b.nodes_due b.settings (lease_of (core b.grown b.leases b.staged.items b.given b.work b.nodes_due b.settings).state c.args.worker c.in-Some.leaf) refl c.self.invariant.bench.core.state.lasts (leaf_free b.grown b.leases b.staged.items b.given b.work b.nodes_due b.settings c.in-Some.leaf found)
    ∙ (ap (λ (l : Lease). leased_core (core b.grown b.leases b.staged.items b.given b.work b.nodes_due b.settings) l) (sym is)
    ∙ ap (λ (x : Core). record x { state = with_lease x.state c.lease_at-lease.result }) c.self.view_is))

pub returns-clause-sight : goal.returns-clause-sight
returns-clause-sight c =
    let b = c.self.inside in
    let s = (core b.grown b.leases b.staged.items b.given b.work b.nodes_due b.settings).state in
    let found = subst (λ (f : Forest). IsSomeAnd (node_at c.in-Some.leaf.0 f) (IsOpenLeaf c.in-Some.leaf.1 (λ n. is_leased b.leases n (b.given + 1)))) c.tree-2.ensures.forest c.in-Some.ensures.leaf in
    let place : c.lease_at-lease.result.position ≡ node_position b.grown.forest c.in-Some.leaf.0 =
    ap (λ (l : Lease). l.position) c.lease_at-lease.ensures ∙ ap (λ (f : Forest). node_position f c.in-Some.leaf.0) c.tree-3.ensures.forest in
    let here = subst (λ (p : Board). is_at_sight draughts b.settings.pieces p ≡ false) (sym place)
    (leaf_undecided s c.in-Some.leaf.1 c.in-Some.leaf.0 (λ n. is_leased b.leases n (b.given + 1)) c.self.invariant.bench.core.state.sight found) in
    subst (λ (x : Core). is_at_sight draughts x.state.settings.pieces c.lease_at-lease.result.position ≡ false) c.self.view_is here
