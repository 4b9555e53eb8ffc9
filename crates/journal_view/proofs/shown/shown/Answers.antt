use Rattle.std.proofs.Common.{ap}
use Rattle.std.specs.Prelude.{Err}
use Rattle.disk_journal.proofs.LooksLemmas.{reads_stays}
use Rattle.journal_looks.specs.declared.refusals.LookRefusal.{LookRefusal}
use Rattle.journal_view.proofs.ShownLemmas.{look_accepted, look_causes, look_refused, shown_causes}
use Rattle.journal_view.proofs.shown.shown.Goals as goal

pub returns-in-Ok : goal.returns-in-Ok
returns-in-Ok g c =
    record {
      shows = c.in-Ok.ensures.shows;
      refused = tt;
      causes = shown_causes g.D.Disk c.args.request c.args.disk.now c.looked.new.disk c.in-Ok.written c.in-Ok.ensures.causes;
      accepted = λ honest good. tt;
      leaves = reads_stays g.D.Disk g.met.D.Disk.now_counts _ _ _ c.in-Ok.ensures.reads;
    }

pub returns-in-Err : goal.returns-in-Err
returns-in-Err g c =
    let fault = c.in-Err.fault in
    record {
      shows = tt;
      refused = look_refused g.D.Disk c.args.request c.args.disk.now c.looked.new.disk fault c.from.result c.from.ensures (λ is. c.in-Err.ensures.reads.cause (ap (λ (x : LookRefusal). Err x) is)) c.in-Err.ensures.refused;
      causes = look_causes g.D.Disk c.args.request c.args.disk.now c.looked.new.disk fault c.from.result c.from.ensures c.in-Err.ensures.causes;
      accepted = look_accepted g.D.Disk c.args.request c.args.disk.now c.looked.new.disk fault c.from.result c.from.ensures c.in-Err.ensures.accepted;
      leaves = reads_stays g.D.Disk g.met.D.Disk.now_counts _ _ _ c.in-Err.ensures.reads;
    }
