use Rattle.std.proofs.Common.{◌≡◌, ◌+◌, ◌++◌, ◌∷◌, [], ◌<◌, List, length, take, ap, sym, ◌∙◌, subst}
use Rattle.std.proofs.lemmas.List.{take_more}
use Rattle.lease_table.specs.declared.leases.Lease.{Lease}
use Rattle.worker_gate.specs.declared.found.LeafFound.{LeafFound}
use Rattle.worker_gate.specs.Found.{AreFoundOf}
use Rattle.worker_gate.proofs.TogetherLemmas.{both_found, one_found}
use Rattle.worker_gate.proofs.together.search_part.Goals as goal

pub loop-lease-preserved : goal.loop-lease-preserved
loop-lease-preserved g c =
    let leases : List Lease = c.args.leases.now in
    let leaf : LeafFound = c.in_ok-find.field-0 in
    let lease : Lease = c.lease-item.result in
    let items : c.push_back_reserved.new.self.items ≡ c.loop-lease.found.items ++ leaf ∷ [] =
    c.push_back_reserved.ensures.items ∙ ap (λ (found : List LeafFound). found ++ leaf ∷ []) c.reserve.ensures.items in
    let more : take (c.loop-lease.lease-index + 1) leases ≡ take c.loop-lease.lease-index leases ++ lease ∷ [] =
    take_more leases c.loop-lease.lease-index lease c.loop-lease-test.true ∙ ap (λ (l : Lease). take c.loop-lease.lease-index leases ++ l ∷ []) (sym c.lease-item.is) in
    record {
      memo = c.find.ensures.memo ∙ c.loop-lease.invariant.memo;
      found = subst (λ (found : List LeafFound). AreFoundOf (take (c.loop-lease.lease-index + 1) leases) found) (sym items)
          (subst (λ (ls : List Lease). AreFoundOf ls (c.loop-lease.found.items ++ leaf ∷ [])) (sym more)
          (both_found (take c.loop-lease.lease-index leases) (lease ∷ []) c.loop-lease.found.items (leaf ∷ []) c.loop-lease.invariant.found (one_found lease leaf c.in_ok-find.ensures.lease c.in_ok-find.ensures.own)));
    }
