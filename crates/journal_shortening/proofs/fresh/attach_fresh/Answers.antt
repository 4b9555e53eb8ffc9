use Rattle.std.proofs.Common.{◌≡◌, ◌∙◌, ℕ, List, [], map, sym, subst, ap, arith}
use Rattle.disk_journal.specs.Format.{HasPayloads}
use Rattle.journal_shortening.proofs.CauseLemmas.{fresh_blamed, fresh_none}
use Rattle.journal_shortening.proofs.CallLemmas.{fresh_count}
use Rattle.journal_shortening.proofs.fresh.attach_fresh.Goals as goal

pub returns-in-Err-clause-refused : goal.returns-in-Err-clause-refused
returns-in-Err-clause-refused g c honest =
    c.attach_refusal.ensures.nothing
    ∙ fresh_blamed (g.B.Disk.reads c.args.into) c.args.pieces c.in-Err.refused.1 (c.requires.fresh honest) (c.in-Err.ensures.exact honest).fault

pub returns-in-Err-clause-faults : goal.returns-in-Err-clause-faults
returns-in-Err-clause-faults g c = (c.in-Err.ensures.cause.0, λ is. c.in-Err.ensures.cause.1 (c.attach_refusal.ensures.fault is))

pub returns-then-count-gt0-clause-refused : goal.returns-then-count-gt0-clause-refused
returns-then-count-gt0-clause-refused g c honest =
    let none = fresh_count c.in-Ok.attached.0.pieces (g.B.Disk.reads c.args.into) c.in-Ok.attached.1.items (c.in-Ok.ensures.exact honest).good.0.payloads (c.requires.fresh honest) in
    absurd (omega (arith, none, c.in-Ok.ensures.state.2, c.count-count.ensures, c.if-count-gt0.true))

pub returns-clause-empty : goal.returns-clause-empty
returns-clause-empty g c honest =
    let file = g.B.Disk.reads c.args.into in
    let none = fresh_none c.in-Ok.attached.0.pieces file (map (λ p. p.bytes.items) c.in-Ok.attached.1.items) (c.in-Ok.ensures.exact honest).good.0.payloads (c.requires.fresh honest) in
    subst (λ (l : List (List ℕ)). HasPayloads c.args.pieces (g.B.Disk.reads c.in-Ok.attached.0.disk) l) none (c.in-Ok.ensures.same honest)
