use Rattle.std.proofs.Common.{◌≡◌, subst}
use Rattle.std.specs.Bool.{OnFalse}
use Rattle.certificate_checker.specs.Refusals.{IsRefusal}
use Rattle.bench_core.proofs.ReplayLemmas.{refused_shown}
use Rattle.bench_core.proofs.replaying.check_shown.Goals as goal

pub returns-in-Err-clause-refused : goal.returns-in-Err-clause-refused
returns-in-Err-clause-refused g c unlawful =
    let answer = g.O.Oracle.answer_at c.args.oracle.now in
    let stands = subst (λ b. OnFalse b ((c.in-Err.refused.0 ≡ c.args.c) × IsRefusal answer c.args.c c.in-Err.refused.1)) (c.refusal_for.ensures.0 unlawful) c.in-Err.ensures.exact.fault in
    refused_shown (g.O.Oracle.piece_limit c.args.oracle.now) answer c.args.p.now c.args.c c.in-Err.refused.1 c.pieces-pieces.ensures.sound stands.1
