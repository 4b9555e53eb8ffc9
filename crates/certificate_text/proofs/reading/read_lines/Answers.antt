use Rattle.std.proofs.Common.{◌+◌, ◌∷◌, refl, ap, arith, length}
use Rattle.std.proofs.lemmas.Grind.{common_steps}
use Rattle.std.proofs.lemmas.Bool.{false≢true}
use Rattle.std.proofs.lemmas.List.{length-append}
use Rattle.certificate_text.specs.Steps.{place_due}
use Rattle.certificate_text.proofs.Leading.{went_on, refused_text, after_end, truncated}
use Rattle.certificate_text.proofs.Fields.{some_length}
use Rattle.certificate_text.proofs.Exact.{whole_reads}
use Rattle.certificate_text.proofs.reading.read_lines.Goals as goal

pub returns-in_default-clause-refused : goal.returns-in_default-clause-refused
returns-in_default-clause-refused c =
    truncated c.args.text.now c.loop-alloc.lines (place_due c.loop-alloc.due) c.loop-alloc.rest.now c.loop-alloc.invariant.went (c.loop-alloc-test.ensures.0 refl) c.in_default.ensures.none

pub loop-alloc-preserved : goal.loop-alloc-preserved
loop-alloc-preserved c =
    record {
      went = went_on c.args.text.now c.loop-alloc.lines (place_due c.loop-alloc.due) c.in-Some.line.now c.in-Some.behind.now c.loop-alloc.rest.now (place_due c.in-Ok.next) c.loop-alloc.invariant.went c.in-Some.ensures.whole c.in-Ok.ensures.ok;
      room = omega (arith, ap length c.in-Some.ensures.whole, length-append c.in-Some.line.now (10 ∷ c.in-Some.behind.now), c.loop-alloc.invariant.room);
    }

pub returns-in-Err-clause-refused : goal.returns-in-Err-clause-refused
returns-in-Err-clause-refused c =
    refused_text c.args.text.now c.loop-alloc.lines (place_due c.loop-alloc.due) c.in-Some.line.now c.in-Some.behind.now c.loop-alloc.rest.now c.in-Err.refusal c.loop-alloc.invariant.went
    (c.loop-alloc-test.ensures.0 refl) c.in-Some.ensures.before c.in-Some.ensures.whole c.in-Err.ensures.err

pub returns-then-not-is_empty-clause-refused : goal.returns-then-not-is_empty-clause-refused
returns-then-not-is_empty-clause-refused c =
    after_end c.args.text.now c.loop-alloc.lines (place_due c.loop-alloc.due) c.loop-alloc.rest.now c.loop-alloc.invariant.went (λ op. false≢true (c.loop-alloc-test.ensures.1 op)) (some_length (length c.loop-alloc.rest.now) c.if-not-is_empty.ensures)

pub returns-clause-read : goal.returns-clause-read
returns-clause-read c =
    whole_reads c.args.text.now c.loop-alloc.lines (place_due c.loop-alloc.due) c.loop-alloc.rest.now c.whole.result c.loop-alloc.invariant.went c.whole.ensures (grind (arith, common_steps))
