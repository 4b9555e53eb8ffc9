use Rattle.std.proofs.Common.{◌≡◌, ◌<◌, ◌-◌, ◌∙◌, length, slice_get, subst, sym, arith}
use Rattle.draughts_board.specs.Draughts.{draughts}
use Rattle.strategy_certificate.specs.Tables.{IsSoundTable}
use Rattle.strategy_certificate.specs.declared.certificates.Certificate.{Certificate}
use Rattle.proof_tree.specs.Forest.{nodes}
use Rattle.opening_report.proofs.BenchLemmas.{joined_there, joined_true}
use Rattle.opening_report.proofs.benches.root_certificate.Goals as goal

pub prove-requires-clause-good : goal.prove-requires-clause-good
prove-requires-clause-good g c =
    let k = c.args.bench.now.state.settings.pieces in
    let xs = nodes c.args.bench.now.state.forest in
    let joined : Certificate = c.in_ok-certificate.certificate in
    let answer = g.O.Oracle.answer_at c.args.oracle.now in
    let within : c.args.number - 1 < length xs = (let f = c.requires.first in let t = c.requires.there in omega (arith, f, t)) in
    let has = joined_there k xs (c.args.number - 1) joined within c.requires.settled c.in_ok-certificate.ensures in
    let sound : IsSoundTable draughts joined.pieces answer =
    subst (λ n. IsSoundTable draughts n answer) (c.requires.tables ∙ sym has.1.1.pieces) c.pieces-pieces.ensures.sound in
    has.1.1.good answer sound

pub returns-clause-value : goal.returns-clause-value
returns-clause-value g c =
    joined_true c.args.bench.now.state.settings.pieces (slice_get (nodes c.args.bench.now.state.forest) (c.args.number - 1)) c.in_ok-certificate.certificate
    c.in_ok-certificate.ensures c.in_ok-prove.ensures.claim
