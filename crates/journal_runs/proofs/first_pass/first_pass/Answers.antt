use Rattle.std.proofs.Common.{rules, ◌≡◌}
use Rattle.std.specs.Prelude.{Ok}
use Rattle.journal_runs.specs.FirstPass.{IsAllLeased, leases_waiting}
use Rattle.journal_runs.proofs.FirstLeases.{passes_first}
use Rattle.journal_runs.proofs.first_pass.first_pass.Goals as goal

pub returns-clause-searched : goal.returns-clause-searched
returns-clause-searched g c = λ room.
    let done : c.search_roots.result ≡ Ok c.in_ok-waiting.waiting = search (rules, c.in_ok-waiting.was) in
    let all : IsAllLeased c.search_roots.new.session.core (leases_waiting c.in_ok-waiting.waiting.items) = rw done at (c.search_roots.ensures.all
    (passes_first c.args.session.now.core c.args.lease c.most_first-most.result room c.most_first-most.ensures.sound (c.most_first-most.ensures.all room.fresh room.few room.enough room.together))) in
    c.record_rest.ensures.searched all
