use Rattle.std.proofs.Common.{ap}
use Rattle.std.specs.Prelude.{Err}
use Rattle.disk_journal.proofs.LooksLemmas.{reads_stays}
use Rattle.journal_looks.specs.declared.refusals.LookRefusal.{LookRefusal}
use Rattle.strategy_player.proofs.RootLemmas.{look_accepted, look_causes, look_refused, play_accepted, play_causes, play_refused, play_shows}
use Rattle.strategy_player.proofs.roots.played_root.Goals as goal

pub returns-in-Ok : goal.returns-in-Ok
returns-in-Ok g c =
    let certificate = c.in-Ok.certificate in
    let certified = c.in-Ok.ensures.certifies in
    record {
      shows = play_shows g.D.Disk c.args.request.root c.args.request.side c.args.source.now c.args.disk.now c.certify.new.disk certificate certified c.play_by.result c.play_by.ensures.plays;
      settled = c.play_by.ensures.settled;
      refused = play_refused g.D.Disk c.args.request.root c.args.request.side c.args.source.now c.args.disk.now c.certify.new.disk certificate certified c.play_by.result c.play_by.ensures.refused;
      causes = play_causes g.D.Disk c.args.request.root c.args.request.side c.args.source.now c.args.disk.now c.certify.new.disk certificate certified c.play_by.result c.in-Ok.ensures.causes c.play_by.ensures.plays c.play_by.ensures.refused;
      accepted = play_accepted g.D.Disk c.args.request.root c.args.request.side c.args.source.now c.args.disk.now c.certify.new.disk certificate certified c.play_by.result c.play_by.ensures.refused;
      leaves = reads_stays g.D.Disk g.met.D.Disk.now_counts _ _ _ c.in-Ok.ensures.reads;
    }

pub returns-in-Err : goal.returns-in-Err
returns-in-Err g c =
    let fault = c.in-Err.refusal in
    record {
      shows = tt;
      settled = tt;
      refused = look_refused g.D.Disk c.args.request.root c.args.request.side c.args.source.now c.args.disk.now c.certify.new.disk fault c.from.result c.from.ensures (λ is. c.in-Err.ensures.reads.cause (ap (λ (x : LookRefusal). Err x) is)) c.in-Err.ensures.refused;
      causes = look_causes g.D.Disk c.args.request.root c.args.request.side c.args.source.now c.args.disk.now c.certify.new.disk fault c.from.result c.from.ensures c.in-Err.ensures.causes c.in-Err.ensures.accepted;
      accepted = look_accepted g.D.Disk c.args.request.root c.args.request.side c.args.source.now c.args.disk.now c.certify.new.disk fault c.from.result c.from.ensures c.in-Err.ensures.accepted;
      leaves = reads_stays g.D.Disk g.met.D.Disk.now_counts _ _ _ c.in-Err.ensures.reads;
    }
