use Rattle.std.proofs.Common.{rules, ◌≡◌, ◌<◌, ◌+◌, ◌/◌, ◌%◌, min, ◌∷◌, List, length, get_or, ap, ◌∙◌, subst, arith}
use Rattle.std.specs.Prelude.{Ok, IfOk}
use Rattle.std.specs.VecDeque.{deque_items}
use Rattle.lease_table.specs.declared.leases.Lease.{Lease}
use Rattle.worker_gate.specs.declared.found.LeafFound.{LeafFound}
use Rattle.worker_gate.specs.Found.{AreFoundOf}
use Rattle.worker_gate.proofs.TogetherLemmas.{covers, found_more, found_none, parts_from}
use Rattle.worker_gate.proofs.together.search_together.Goals as goal

pub loop-part-init : goal.loop-part-init
loop-part-init g c =
    let leases : List Lease = c.args.leases.now in
    let size = c.max-each.result in
    let some : 0 < size = search rules in
    let whole = c.in_ok-parts.parts.ok.0 in
    let counted = c.in_ok-parts.ensures.len in
    let count : length c.in_ok-parts.parts.items ≡ length leases / size + min 1 (length leases % size) = omega (arith, whole, counted) in
    let items : c.into_iter-part-iterator.result.rest.items ≡ c.in_ok-parts.parts.items = c.into_iter-part-iterator.ensures.into_iter_gives.0 in
    found_none deque_items leases c.new-found.result.items c.into_iter-part-iterator.result.rest.items c.new-found.ensures.items
    (rw items
    (parts_from deque_items c.in_ok-parts.parts.items size leases (covers (length c.in_ok-parts.parts.items) (length leases) size some count)
    (λ n d within.
    let chunk = (c.in_ok-parts.ensures.each n d within).1 in
    subst (λ (ls : List Lease). IfOk (get_or c.in_ok-parts.parts.items n d) (λ v. AreFoundOf ls (deque_items v))) chunk.argument_is.value chunk.call)))

pub loop-part-preserved : goal.loop-part-preserved
loop-part-preserved g c =
    let left : c.loop-part.part-iterator.rest.items ≡ c.in-Some.part ∷ c.next.new.self.rest.items = search rules in
    let ok : c.in-Some.part ≡ Ok c.in_ok-part.field-0 = search (rules, c.in_ok-part.was) in
    found_more deque_items c.args.leases.now c.loop-part.found.items c.append.new.self.items c.loop-part.part-iterator.rest.items c.next.new.self.rest.items c.in_ok-part.field-0 c.loop-part.invariant
    (left ∙ ap (λ r. r ∷ c.next.new.self.rest.items) ok)
    c.in_ok-append.ensures.items
