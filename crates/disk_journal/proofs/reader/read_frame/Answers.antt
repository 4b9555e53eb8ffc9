use Rattle.std.specs.Prelude.{◌≡◌, ◌+◌, ◌-◌, ◌<◌, ◌≤◌, List, ℕ, true, false, length, take, drop, map, refl}
use Rattle.std.proofs.Common.{rules, ◌∙◌, ap, arith, length-append}
use Rattle.std.proofs.lemmas.List.{length-map, take_at}
use Rattle.disk_journal.specs.Refusals.{IsNoBody}
use Rattle.disk_journal.specs.Rest.{IsOpen}
use Rattle.disk_journal.proofs.FrameLemmas.{length_body}
use Rattle.disk_journal.proofs.LooksLemmas.{reads_then}
use Rattle.disk_journal.proofs.ReadLemmas.{bad_body, good_body}
use Rattle.disk_journal.proofs.reader.read_frame.Goals as goal

pub returns-then-not-branch-2-clause-refused : goal.returns-then-not-branch-2-clause-refused
returns-then-not-branch-2-clause-refused g c = λ tells.
    let file = g.D.Disk.reads c.args.disk.now in
    let size = c.in-Open.size in
    let at_gate : IsOpen size (drop c.args.gate file) = rw c.in-Open.is at (c.in_ok-find_gate.ensures.begins tells) in
    let long : length c.deref_mut.result.now ≡ size = omega (arith, c.deref_mut.ensures.len, c.in_ok-resize.ensures.len) in
    let whole : c.in_ok-fill.field-0 ≡ true = search rules in
    let read = rw whole at (c.in_ok-fill.ensures.bytes tells) in
    let same = ap (λ (l : List ℕ). take (length c.deref_mut.result.now) (drop (c.args.gate + 9) l)) (c.in_ok-find_gate.ensures.reads.looks tells).same in
    let filled : c.fill.new.into ≡ take size (drop (c.args.gate + 9) file) = read ∙ same ∙ ap (λ n. take n (drop (c.args.gate + 9) file)) long in
    let text : c.deref.result.now ≡ c.fill.new.into = c.deref.ensures.value ∙ take_at c.fill.new.into _ c.resize.new.self.len (omega (arith, c.fill.auto.into, c.deref_mut.ensures.len)) in
    let none : c.in_ok-read_body.field-0 ≡ false = search rules in
    let no_body : IsNoBody c.deref.result.now = rw none at c.in_ok-read_body.ensures in
    (refl, bad_body c.args.gate size file c.deref.result.now at_gate (omega arith) (text ∙ filled) (omega (arith, ap length text, c.fill.auto.into, long)) no_body)

pub returns-then-not-branch-2-clause-reads : goal.returns-then-not-branch-2-clause-reads
returns-then-not-branch-2-clause-reads g c =
    reads_then g.D.Disk g.met.D.Disk.now_counts g.met.D.Disk.earlier_counts _ _ _ _ _ _ c.in_ok-find_gate.ensures.reads c.in_ok-fill.ensures.reads (λ is. absurd cc)

pub returns-clause-frame : goal.returns-clause-frame
returns-clause-frame g c = λ tells.
    let file = g.D.Disk.reads c.args.disk.now in
    let size = c.in-Open.size in
    let at_gate : IsOpen size (drop c.args.gate file) = rw c.in-Open.is at (c.in_ok-find_gate.ensures.begins tells) in
    let long : length c.deref_mut.result.now ≡ size = omega (arith, c.deref_mut.ensures.len, c.in_ok-resize.ensures.len) in
    let whole : c.in_ok-fill.field-0 ≡ true = search rules in
    let read = rw whole at (c.in_ok-fill.ensures.bytes tells) in
    let same = ap (λ (l : List ℕ). take (length c.deref_mut.result.now) (drop (c.args.gate + 9) l)) (c.in_ok-find_gate.ensures.reads.looks tells).same in
    let filled : c.fill.new.into ≡ take size (drop (c.args.gate + 9) file) = read ∙ same ∙ ap (λ n. take n (drop (c.args.gate + 9) file)) long in
    let text : c.deref.result.now ≡ c.fill.new.into = c.deref.ensures.value ∙ take_at c.fill.new.into _ c.resize.new.self.len (omega (arith, c.fill.auto.into, c.deref_mut.ensures.len)) in
    let some : c.in_ok-read_body.field-0 ≡ true = search rules in
    let found = rw some at c.in_ok-read_body.ensures in
    good_body c.args.gate size file c.deref.result.now _ _ at_gate (omega arith) (text ∙ filled) (omega (arith, ap length text, c.fill.auto.into, long)) found.0 found.1 found.2 found.3 found.4

pub returns-clause-goes : goal.returns-clause-goes
returns-clause-goes g c =
    let size = c.in-Open.size in
    let within : (0 < size) × (9 + size ≤ c.find_gate.new.len - c.args.gate) = rw c.in-Open.is at c.in_ok-find_gate.ensures.within in
    let long : length c.deref_mut.result.now ≡ size = omega (arith, c.deref_mut.ensures.len, c.in_ok-resize.ensures.len) in
    let text : c.deref.result.now ≡ c.fill.new.into = c.deref.ensures.value ∙ take_at c.fill.new.into _ c.resize.new.self.len (omega (arith, c.fill.auto.into, c.deref_mut.ensures.len)) in
    let some : c.in_ok-read_body.field-0 ≡ true = search rules in
    let found = rw some at c.in_ok-read_body.ensures in
    let counted : length c.read_body.new.payloads.items ≡ length c.args.payloads.now.items + length found.0 =
    omega (arith, ap length found.3, length-map c.read_body.new.payloads.items (λ p. p.bytes.items), length-map c.args.payloads.now.items (λ p. p.bytes.items), length-append (map (λ p. p.bytes.items) c.args.payloads.now.items) found.0) in (
      omega arith,
      omega (arith, within.0, within.1),
      omega (arith, counted, length_body found.0, ap length found.2, ap length text, c.fill.auto.into, long),
    )

pub returns-clause-reads : goal.returns-clause-reads
returns-clause-reads g c =
    reads_then g.D.Disk g.met.D.Disk.now_counts g.met.D.Disk.earlier_counts _ _ _ _ _ _ c.in_ok-find_gate.ensures.reads c.in_ok-fill.ensures.reads (λ is. absurd cc)
