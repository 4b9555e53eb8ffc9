use Rattle.std.specs.Prelude.{unwrap_or}
use Rattle.disk_journal.proofs.LooksLemmas.{reads_so}
use Rattle.journal_view.proofs.ShownLemmas.{causes_over, line_shows, memory_accepted, memory_causes, memory_explained, memory_no_fault, same_fault}
use Rattle.journal_view.proofs.lines.line.Goals as goal

pub returns-in-Ok : goal.returns-in-Ok
returns-in-Ok g c =
    let file = g.D.Disk.reads c.args.disk.now in
    let answer = c.written_line.result in
    record {
      shows = line_shows g.D.Disk c.args.asked.root (unwrap_or c.args.asked.plies 0) c.args.disk.now c.in-Ok.certificate answer c.in-Ok.ensures.certifies c.written_line.ensures.writes;
      settled = c.written_line.ensures.settled;
      refused = λ honest. memory_explained file c.args.asked.root answer c.written_line.ensures.memory;
      causes = λ honest. memory_causes file c.args.asked.root c.in-Ok.certificate answer (c.in-Ok.ensures.causes honest) c.written_line.ensures.memory;
      accepted = λ honest there. memory_accepted answer c.written_line.ensures.memory;
      reads = reads_so g.D.Disk _ _ _ _ c.in-Ok.ensures.reads (λ is. absurd (memory_no_fault answer c.written_line.ensures.memory is));
    }

pub returns-in-Err : goal.returns-in-Err
returns-in-Err g c =
    record {
      shows = tt;
      settled = tt;
      refused = c.in-Err.ensures.refused;
      causes = λ honest. causes_over (g.D.Disk.reads c.args.disk.now) c.args.asked.root c.in-Err.fault (c.in-Err.ensures.causes honest);
      accepted = c.in-Err.ensures.accepted;
      reads = reads_so g.D.Disk _ _ _ _ c.in-Err.ensures.reads (same_fault c.in-Err.fault);
    }
