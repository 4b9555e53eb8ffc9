use Rattle.std.specs.Prelude.{◌++◌, length, ◌<◌}
use Rattle.std.proofs.Common.{◌∙◌, ap, subst, arith, length-append}
use Rattle.bench_disk.specs.Runs.{Leaves, leaves_weaker}
use Rattle.disk_journal.specs.Format.{HasPayloads, IsFrame, IsJournal, StandsForEither, journal_front}
use Rattle.disk_journal.specs.FormatLaws.{journal_once}
use Rattle.disk_journal.proofs.AtRestLemmas.{either_between}
use Rattle.disk_journal.proofs.FrameLemmas.{length_body}
use Rattle.disk_journal.proofs.ReceiptLemmas.{acknowledged, at_rest_with, kept, stands}
use Rattle.disk_journal.proofs.StagedLemmas.{length-text_of}
use Rattle.disk_journal.proofs.journal.Journal.commit.Goals as goal

pub overflow_add-self : goal.overflow_add-self
overflow_add-self g c =
    omega (arith, c.self.invariant.counted, c.in-Ok.ensures.bound.0, c.in-Ok.ensures.bound.1, c.len-in-Ok.ensures, ap length c.text.ensures.text, length-text_of c.self.inside.frame, length_body c.self.inside.frame)

pub invariant_of-self : goal.invariant_of-self
invariant_of-self g c =
    let not_failed = ap (λ l. l.failed) c.self.view_is ∙ c.requires in
    let staged = c.self.inside.frame in
    let is_frame : IsFrame staged = c.text.ensures.frame (omega (arith, c.len.ensures, c.if-len-eq0.false)) in
    record {
      bound = c.in-Ok.ensures.bound.1;
      counted = omega (arith, c.self.invariant.counted, c.in-Ok.ensures.bound.0, c.len-in-Ok.ensures, ap length c.text.ensures.text, length-text_of staged, length_body staged);
      at_rest = λ tells _.
          let old = c.self.invariant.at_rest tells not_failed in (
            old.0 ++ staged,
            c.in-Ok.ensures.at_rest tells c.self.inside.pieces old.0 staged is_frame c.text.ensures.text old.1,
            omega (arith, old.2, length-append old.0 staged, c.len-in-Ok.ensures),
          );
    }

pub returns-in-Ok-clause-durable : goal.returns-in-Ok-clause-durable
returns-in-Ok-clause-durable g c = λ tells.
    let not_failed = ap (λ l. l.failed) c.self.view_is ∙ c.requires in
    let staged = c.self.inside.frame in
    let is_frame : IsFrame staged = c.text.ensures.frame (omega (arith, c.len.ensures, c.if-len-eq0.false)) in
    let old = c.self.invariant.at_rest tells not_failed in
    (c.in-Ok.ensures.at_rest tells c.self.inside.pieces old.0 staged is_frame c.text.ensures.text old.1).settled

pub returns-in-Ok-clause-payloads : goal.returns-in-Ok-clause-payloads
returns-in-Ok-clause-payloads g c = rw (← c.self.view_is) (λ tells payloads has.
    let not_failed = ap (λ l. l.failed) c.self.view_is ∙ c.requires in
    let staged = c.self.inside.frame in
    let is_frame : IsFrame staged = c.text.ensures.frame (omega (arith, c.len.ensures, c.if-len-eq0.false)) in
    let old = c.self.invariant.at_rest tells not_failed in
    let rest = at_rest_with g.D.Disk.reads g.D.Disk.images c.self.inside.disk c.self.inside.pieces c.self.inside.gate old.0 payloads old.1 has in
    stands g.D.Disk.reads g.D.Disk.images c.append_frame.new.disk c.self.inside.pieces c.in-Ok.gate (payloads ++ staged) (c.in-Ok.ensures.at_rest tells c.self.inside.pieces payloads staged is_frame c.text.ensures.text rest))

pub returns-in-Ok-clause-frame : goal.returns-in-Ok-clause-frame
returns-in-Ok-clause-frame g c = rw (← c.self.view_is) (λ tells some frames journal.
    let not_failed = ap (λ l. l.failed) c.self.view_is ∙ c.requires in
    let staged = c.self.inside.frame in
    let is_frame : IsFrame staged = c.text.ensures.frame (omega (arith, c.len.ensures, c.if-len-eq0.false)) in
    let rest = (c.self.invariant.at_rest tells not_failed).1 in
    let same = journal_once c.self.inside.pieces c.self.inside.pieces rest.frames frames (g.D.Disk.reads c.self.inside.disk) rest.journal journal in
    c.in-Ok.ensures.frame tells c.self.inside.pieces frames staged is_frame c.text.ensures.text (rest.place ∙ ap (λ f. length (journal_front c.self.inside.pieces f)) same) journal)

pub returns-in-Ok-clause-atomic : goal.returns-in-Ok-clause-atomic
returns-in-Ok-clause-atomic g c = rw (← c.self.view_is) (λ tells payloads has.
    let not_failed = ap (λ l. l.failed) c.self.view_is ∙ c.requires in
    let staged = c.self.inside.frame in
    let is_frame : IsFrame staged = c.text.ensures.frame (omega (arith, c.len.ensures, c.if-len-eq0.false)) in
    let old = c.self.invariant.at_rest tells not_failed in
    let rest = at_rest_with g.D.Disk.reads g.D.Disk.images c.self.inside.disk c.self.inside.pieces c.self.inside.gate old.0 payloads old.1 has in
    c.in-Ok.ensures.crash tells c.self.inside.pieces payloads staged is_frame c.text.ensures.text rest)

pub returns-in-Err-clause-atomic : goal.returns-in-Err-clause-atomic
returns-in-Err-clause-atomic g c = rw (← c.self.view_is) (λ tells payloads has.
    let not_failed = ap (λ l. l.failed) c.self.view_is ∙ c.requires in
    let staged = c.self.inside.frame in
    let is_frame : IsFrame staged = c.text.ensures.frame (omega (arith, c.len.ensures, c.if-len-eq0.false)) in
    let old = c.self.invariant.at_rest tells not_failed in
    let rest = at_rest_with g.D.Disk.reads g.D.Disk.images c.self.inside.disk c.self.inside.pieces c.self.inside.gate old.0 payloads old.1 has in
    c.in-Err.ensures.crash tells c.self.inside.pieces payloads staged is_frame c.text.ensures.text rest)

pub returns-in-Ok-clause-crash : goal.returns-in-Ok-clause-crash
returns-in-Ok-clause-crash g c = λ tells payloads has.
    leaves_weaker g.D.Disk.moment g.D.Disk.images_since _ _ _ _ (either_between c.args.self.now.pieces payloads c.args.self.now.staged) (returns-in-Ok-clause-atomic g c tells payloads has)

pub returns-in-Err-clause-crash : goal.returns-in-Err-clause-crash
returns-in-Err-clause-crash g c = λ tells payloads has.
    leaves_weaker g.D.Disk.moment g.D.Disk.images_since _ _ _ _ (either_between c.args.self.now.pieces payloads c.args.self.now.staged) (returns-in-Err-clause-atomic g c tells payloads has)

pub returns-in-Ok-clause-kept : goal.returns-in-Ok-clause-kept
returns-in-Ok-clause-kept g c = λ tells t low payloads le has since.
    kept g.D.Disk.reads g.D.Disk.images g.D.Disk.images_since g.D.Disk.moment (λ disk. g.met.D.Disk.reads_is_image disk tells) (λ disk s image. g.met.D.Disk.now_counts disk s image tells)
    c.args.self.now.pieces c.args.self.now.disk c.append_frame.new.disk t low payloads c.args.self.now.staged le (returns-in-Ok-clause-crash g c tells payloads has) since

pub returns-in-Err-clause-kept : goal.returns-in-Err-clause-kept
returns-in-Err-clause-kept g c = λ tells t low payloads le has since.
    kept g.D.Disk.reads g.D.Disk.images g.D.Disk.images_since g.D.Disk.moment (λ disk. g.met.D.Disk.reads_is_image disk tells) (λ disk s image. g.met.D.Disk.now_counts disk s image tells)
    c.args.self.now.pieces c.args.self.now.disk c.append_frame.new.disk t low payloads c.args.self.now.staged le (returns-in-Err-clause-crash g c tells payloads has) since

pub returns-in-Ok-clause-acknowledged : goal.returns-in-Ok-clause-acknowledged
returns-in-Ok-clause-acknowledged g c = λ tells payloads has.
    acknowledged g.D.Disk.reads g.D.Disk.images g.D.Disk.images_since g.D.Disk.moment (λ disk image. g.met.D.Disk.only_now disk image tells)
    c.args.self.now.pieces c.append_frame.new.disk c.moment-in-Ok.result payloads c.moment-in-Ok.ensures (returns-in-Ok-clause-durable g c tells) has
