use Rattle.std.proofs.Common.{sym}
use Rattle.certificate_lines.proofs.LineLemmas.{longest_more}
use Rattle.certificate_lines.proofs.replies.longest.Goals as goal

pub loop-path-preserved : goal.loop-path-preserved
loop-path-preserved g c =
    let answer = g.O.Oracle.answer_at c.args.oracle.now in
    let x = c.path-item.result in
    let legal = c.requires.legal x (c.loop-path.path-index, c.loop-path-test.true, sym c.path-item.is) in (
      longest_more answer c.args.part.now c.args.p.now c.args.rank c.args.moves.now c.loop-path.path-index x c.loop-path-test.true c.path-item.is c.ply_by-ply.result c.longer.result
          c.ply_by-ply.ensures.path legal c.ply_by-ply.ensures.next c.ply_by-ply.ensures.falls c.longer.ensures.second c.loop-path.best c.loop-path.invariant.0 c.loop-path.invariant.1
          c.longer.ensures.one c.longer.ensures.first,
      tt,
    )
