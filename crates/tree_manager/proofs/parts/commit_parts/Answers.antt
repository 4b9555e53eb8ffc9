use Rattle.std.proofs.Common.{rules, arith, ◌≡◌, ◌+◌, ◌-◌, ◌≤◌, ◌++◌, ◌∷◌, [], length, refl, ap, sym, ◌∙◌, true, false, subst, length-append}
use Rattle.std.specs.List.{AllByRecursion as Each}
use Rattle.std.proofs.lemmas.List.{nil_from_length, append-nil}
use Rattle.tree_manager.specs.declared.entries.Entry.TheVariants as entry
use Rattle.tree_manager.specs.declared.marks.Mark.TheVariants as mark
use Rattle.tree_manager.specs.Receipts.{acknowledgements}
use Rattle.tree_manager.specs.Weaving.{woven}
use Rattle.tree_manager.specs.Keeping.{most_entries}
use Rattle.tree_manager.proofs.KeptLemmas.{each_rose, goes_on, kept_acked, kept_broken, line_other, moment_on, number_of}
use Rattle.tree_manager.proofs.CallLemmas.{receipts_of}
use Rattle.tree_manager.proofs.parts.commit_parts.Goals as goal

pub returns-then-waiting-gt0-clause-within : goal.returns-then-waiting-gt0-clause-within
returns-then-waiting-gt0-clause-within g c =
    let unfailed : c.args.journal.now.failed ≡ false = c.requires.unfailed in
    let line_whole : c.commit.new.self.failed ≡ false = search rules in
    let waiting : c.staged-waiting.result ≡ length c.args.journal.now.staged = c.staged-waiting.ensures in
    let some : 0 + 1 ≤ length c.args.journal.now.staged = omega (arith, c.if-waiting-gt0.true, waiting) in
    let room : length c.push.new.self + (c.args.due.now - c.staged-waiting.result) ≤ most_entries =
    omega (arith, ap length c.push.ensures, length-append c.args.marks.now (mark.Acked c.in-Ok.receipt.moment ∷ []), c.requires.within.room unfailed, c.requires.within.owed unfailed, c.requires.within.as_many unfailed, waiting, some) in
    kept_acked g.D.Disk
    c.args.marks.now c.push.new.self most_entries most_entries c.args.due.now (c.args.due.now - c.staged-waiting.result) c.args.bench.now c.apply_staged.new.self c.args.journal.now c.commit.new.self c.in-Ok.receipt.moment
    c.requires.within unfailed c.push.ensures c.in-Ok.ensures.moment room (ap (λ n. c.args.due.now - n) waiting) c.apply_staged.ensures c.in-Ok.ensures.stays.0 c.in-Ok.ensures.staged line_whole c.in-Ok.ensures.count c.in-Ok.ensures.cause.later
    (λ honest. record { crash = c.in-Ok.ensures.crash honest; stays = c.in-Ok.ensures.kept honest })
    (λ honest. record { has = c.in-Ok.ensures.payloads honest; settled = c.in-Ok.ensures.durable honest; acknowledged = c.in-Ok.ensures.acknowledged honest })

pub returns-in-Err-clause-within : goal.returns-in-Err-clause-within
returns-in-Err-clause-within g c =
    let unfailed : c.args.journal.now.failed ≡ false = c.requires.unfailed in
    let failed : c.commit.new.self.failed ≡ true = search rules in
    let count : c.faults-faults.result ≡ g.D.Disk.faults c.commit.new.self.disk = search rules in
    kept_broken g.D.Disk
    c.args.marks.now c.push-in-Err.new.self most_entries most_entries c.args.due.now c.args.bench.now c.args.journal.now c.commit.new.self c.faults-faults.result
    c.requires.within unfailed c.push-in-Err.ensures count c.in-Err.ensures.stays.0 failed c.in-Err.ensures.cause.fault c.in-Err.ensures.cause.later
    (λ honest. record { crash = c.in-Err.ensures.crash honest; stays = c.in-Err.ensures.kept honest })

pub returns-then-waiting-gt0-clause-appends : goal.returns-then-waiting-gt0-clause-appends
returns-then-waiting-gt0-clause-appends g c some =
    let committed = c.apply_staged.ensures in
    (record {
      line = line_other c.args.marks.now c.push.new.self c.args.bench.now c.apply_staged.new.self (mark.Acked c.in-Ok.receipt.moment) (entry.Acked c.in-Ok.receipt.moment) c.requires.within.filled c.push.ensures refl refl
          (rw (committed.records, committed.staged) (append-nil (c.args.bench.now.records ++ c.args.bench.now.staged)));
      enters = committed;
    })

pub returns-then-waiting-gt0-clause-number : goal.returns-then-waiting-gt0-clause-number
returns-then-waiting-gt0-clause-number g c =
    let line_whole : c.commit.new.self.failed ≡ false = search rules in
    c.in-Ok.ensures.number
    ∙ number_of g.D.Disk
    (woven c.push.new.self (c.apply_staged.new.self.records ++ c.apply_staged.new.self.staged)) c.push.new.self most_entries (c.args.due.now - c.staged-waiting.result) c.apply_staged.new.self c.commit.new.self
    (returns-then-waiting-gt0-clause-within g c) line_whole c.apply_staged.ensures.staged

pub returns-then-waiting-gt0-clause-moments : goal.returns-then-waiting-gt0-clause-moments
returns-then-waiting-gt0-clause-moments g c honest =
    let line = woven c.push.new.self (c.apply_staged.new.self.records ++ c.apply_staged.new.self.staged) in
    subst (λ m. Each (λ ack. ack.moment ≤ m) (acknowledgements line)) (sym c.in-Ok.ensures.moment)
    (receipts_of g.D.Disk
    c.push.new.self most_entries (c.args.due.now - c.staged-waiting.result) c.apply_staged.new.self c.commit.new.self (returns-then-waiting-gt0-clause-within g c) honest).moments

pub returns-then-waiting-gt0-clause-since : goal.returns-then-waiting-gt0-clause-since
returns-then-waiting-gt0-clause-since g c honest =
    let unfailed : c.args.journal.now.failed ≡ false = c.requires.unfailed in
    (goes_on g.D.Disk
    (woven c.args.marks.now (c.args.bench.now.records ++ c.args.bench.now.staged)) c.args.marks.now most_entries c.args.due.now c.args.bench.now c.args.journal.now c.commit.new.self c.requires.within unfailed (record { crash = c.in-Ok.ensures.crash honest; stays = c.in-Ok.ensures.kept honest }) honest)

pub returns-then-waiting-gt0-clause-onward : goal.returns-then-waiting-gt0-clause-onward
returns-then-waiting-gt0-clause-onward g c honest =
    let unfailed : c.args.journal.now.failed ≡ false = c.requires.unfailed in
    moment_on g.D.Disk
    (woven c.args.marks.now (c.args.bench.now.records ++ c.args.bench.now.staged)) c.args.marks.now most_entries c.args.due.now c.args.bench.now c.args.journal.now c.commit.new.self c.requires.within unfailed (record { crash = c.in-Ok.ensures.crash honest; stays = c.in-Ok.ensures.kept honest }) honest

pub returns-else-waiting-gt0-clause-onward : goal.returns-else-waiting-gt0-clause-onward
returns-else-waiting-gt0-clause-onward g c honest =
    let unfailed : c.args.journal.now.failed ≡ false = c.requires.unfailed in
    moment_on g.D.Disk
    (woven c.args.marks.now (c.args.bench.now.records ++ c.args.bench.now.staged)) c.args.marks.now most_entries c.args.due.now c.args.bench.now c.args.journal.now c.commit.new.self c.requires.within unfailed (record { crash = c.in-Ok.ensures.crash honest; stays = c.in-Ok.ensures.kept honest }) honest

pub returns-else-waiting-gt0-clause-number : goal.returns-else-waiting-gt0-clause-number
returns-else-waiting-gt0-clause-number g c =
    let unfailed : c.args.journal.now.failed ≡ false = c.requires.unfailed in
    let nothing : length c.args.journal.now.staged ≡ 0 = omega (arith, c.if-waiting-gt0.false, c.staged-waiting.ensures) in
    let none : c.args.bench.now.staged ≡ [] = nil_from_length c.args.bench.now.staged (sym (c.requires.within.as_many unfailed) ∙ nothing) in
    let count : c.commit.new.self.count ≡ c.args.journal.now.count = omega (arith, c.in-Ok.ensures.count, nothing) in
    c.in-Ok.ensures.number ∙ (count
    ∙ number_of g.D.Disk
    (woven c.args.marks.now (c.args.bench.now.records ++ c.args.bench.now.staged)) c.args.marks.now most_entries c.args.due.now c.args.bench.now c.args.journal.now c.requires.within unfailed none)

pub returns-else-waiting-gt0-clause-moments : goal.returns-else-waiting-gt0-clause-moments
returns-else-waiting-gt0-clause-moments g c honest =
    let line = woven c.args.marks.now (c.args.bench.now.records ++ c.args.bench.now.staged) in
    let nothing : length c.args.journal.now.staged ≡ 0 = omega (arith, c.if-waiting-gt0.false, c.staged-waiting.ensures) in
    let idle = c.commit.ensures.idle (nil_from_length c.args.journal.now.staged nothing) in
    let now = ap g.D.Disk.moment idle.0 in
    subst (λ m. Each (λ ack. ack.moment ≤ m) (acknowledgements line)) (sym (c.in-Ok.ensures.moment ∙ now))
    (receipts_of g.D.Disk
    c.args.marks.now most_entries c.args.due.now c.args.bench.now c.args.journal.now c.requires.within honest).moments

pub returns-in-Err-clause-onward : goal.returns-in-Err-clause-onward
returns-in-Err-clause-onward g c honest =
    let unfailed : c.args.journal.now.failed ≡ false = c.requires.unfailed in
    moment_on g.D.Disk
    (woven c.args.marks.now (c.args.bench.now.records ++ c.args.bench.now.staged)) c.args.marks.now most_entries c.args.due.now c.args.bench.now c.args.journal.now c.commit.new.self c.requires.within unfailed (record { crash = c.in-Err.ensures.crash honest; stays = c.in-Err.ensures.kept honest }) honest

pub returns-in-Err-clause-since : goal.returns-in-Err-clause-since
returns-in-Err-clause-since g c honest =
    let unfailed : c.args.journal.now.failed ≡ false = c.requires.unfailed in
    (goes_on g.D.Disk
    (woven c.args.marks.now (c.args.bench.now.records ++ c.args.bench.now.staged)) c.args.marks.now most_entries c.args.due.now c.args.bench.now c.args.journal.now c.commit.new.self c.requires.within unfailed (record { crash = c.in-Err.ensures.crash honest; stays = c.in-Err.ensures.kept honest }) honest)

pub returns-in-Err-clause-refused : goal.returns-in-Err-clause-refused
returns-in-Err-clause-refused g c =
    let unfailed : c.args.journal.now.failed ≡ false = c.requires.unfailed in
    let count : c.faults-faults.result ≡ g.D.Disk.faults c.commit.new.self.disk = search rules in
    let rose = each_rose (woven c.args.marks.now (c.args.bench.now.records ++ c.args.bench.now.staged)) (g.D.Disk.faults c.args.journal.now.disk) (g.D.Disk.faults c.commit.new.self.disk) c.requires.within.not_more c.in-Err.ensures.cause.fault in (
      sym c.requires.within.failed ∙ unfailed,
      (
        (record {
          line = line_other c.args.marks.now c.push-in-Err.new.self c.args.bench.now c.args.bench.now (mark.Broken c.faults-faults.result) (entry.Broken (g.D.Disk.faults c.commit.new.self.disk)) c.requires.within.filled c.push-in-Err.ensures refl
              (ap (λ n. entry.Broken n ∷ []) count) refl;
          enters = refl;
        }),
        (
          rose,
          c.in-Err.ensures.cause.fault,
        ),
      ),
    )
