use Rattle.std.proofs.Common.{◌≡◌, Some, None, ap, sym, subst}
use Rattle.std.specs.Prelude.{IfOk}
use Rattle.draughts_board.specs.Board.{Board}
use Rattle.draughts_board.specs.Draughts.{draughts}
use Rattle.strategy_certificate.specs.declared.certificates.Certificate.{Certificate}
use Rattle.strategy_certificate.specs.Tables.{IsSoundTable}
use Rattle.certificate_player.specs.Choices.{IsFirstRank}
use Rattle.certificate_player.specs.Plays.{Follows, own_part}
use Rattle.certificate_player.proofs.PlayLemmas.{own_good}
use Rattle.certificate_lines.specs.Steps.{Stands, WinsOut}
use Rattle.certificate_lines.specs.declared.line.Line.{Line}
use Rattle.certificate_lines.proofs.LineLemmas.{ranked, starts, won_answer}
use Rattle.certificate_lines.specs.Variations.{HasVariations, is_reply}
use Rattle.certificate_lines.proofs.VariationLemmas.{won_varied}
use Rattle.certificate_lines.proofs.won.won_line.Goals as goal

pub first_rank-requires : goal.first_rank-requires
first_rank-requires g c =
    let answer = g.O.Oracle.answer_at c.args.oracle.now in
    let sound : IsSoundTable draughts c.args.proved.now.pieces answer = subst (λ n. IsSoundTable draughts n answer) (sym c.requires.pieces) c.pieces-pieces.ensures.sound in
    let there : own_part c.args.proved.now c.args.side ≡ Some c.own_part-part.result.now = rw c.certificate-certificate.ensures.value at c.own_part-part.ensures.part in
    rw c.certificate-certificate.ensures.value (own_good c.args.proved.now c.args.side c.own_part-part.result.now answer c.certificate-certificate.ensures.good sound there).1

pub play_out-requires-clause-stands : goal.play_out-requires-clause-stands
play_out-requires-clause-stands g c =
    let answer = g.O.Oracle.answer_at c.args.oracle.now in
    let sound : IsSoundTable draughts c.args.proved.now.pieces answer = subst (λ n. IsSoundTable draughts n answer) (sym c.requires.pieces) c.pieces-pieces.ensures.sound in
    let there : own_part c.args.proved.now c.args.side ≡ Some c.own_part-part.result.now = rw c.certificate-certificate.ensures.value at c.own_part-part.ensures.part in
    let at : c.certificate-certificate.result.now.position ≡ c.args.proved.now.position = ap (λ (x : Certificate). x.position) c.certificate-certificate.ensures.value in
    let follows = subst (λ (p : Board). Follows answer p (Some c.in-Some.rank) c.own_part-part.result.now) at c.in-Some.ensures.follows in
    subst (λ (p : Board). Stands answer c.own_part-part.result.now p (Some c.in-Some.rank)) (sym at) (starts c.args.proved.now c.args.side c.own_part-part.result.now answer c.certificate-certificate.ensures.good sound there (Some c.in-Some.rank) follows)

pub unreachable-requires : goal.unreachable-requires
unreachable-requires g c =
    let answer = g.O.Oracle.answer_at c.args.oracle.now in
    let sound : IsSoundTable draughts c.args.proved.now.pieces answer = subst (λ n. IsSoundTable draughts n answer) (sym c.requires.pieces) c.pieces-pieces.ensures.sound in
    let there : own_part c.args.proved.now c.args.side ≡ Some c.own_part-part.result.now = rw c.certificate-certificate.ensures.value at c.own_part-part.ensures.part in
    let at : c.certificate-certificate.result.now.position ≡ c.args.proved.now.position = ap (λ (x : Certificate). x.position) c.certificate-certificate.ensures.value in
    let follows = subst (λ (p : Board). Follows answer p None c.own_part-part.result.now) at c.in-None.ensures.follows in
    ranked c.args.proved.now c.args.side c.own_part-part.result.now answer c.certificate-certificate.ensures.good sound there c.requires.wins follows

pub returns-clause-line : goal.returns-clause-line
returns-clause-line g c =
    let answer = g.O.Oracle.answer_at c.args.oracle.now in
    let sound : IsSoundTable draughts c.args.proved.now.pieces answer = subst (λ n. IsSoundTable draughts n answer) (sym c.requires.pieces) c.pieces-pieces.ensures.sound in
    let there : own_part c.args.proved.now c.args.side ≡ Some c.own_part-part.result.now = rw c.certificate-certificate.ensures.value at c.own_part-part.ensures.part in
    let at : c.certificate-certificate.result.now.position ≡ c.args.proved.now.position = ap (λ (x : Certificate). x.position) c.certificate-certificate.ensures.value in
    let first = subst (λ (p : Board). IsFirstRank answer p c.own_part-part.result.now (Some c.in-Some.rank)) at c.in-Some.ensures.first in
    let follows = subst (λ (p : Board). Follows answer p (Some c.in-Some.rank) c.own_part-part.result.now) at c.in-Some.ensures.follows in
    won_answer c.args.proved.now c.args.side c.own_part-part.result.now answer c.in-Some.rank c.play_out.result c.certificate-certificate.ensures.good sound there c.own_part-part.ensures.side first follows
    c.play_out.ensures.rank (subst (λ (p : Board). IfOk c.play_out.result (λ (line : Line). WinsOut answer c.own_part-part.result.now p c.in-Some.rank line.moves.items line.end)) at c.play_out.ensures.out)

pub returns-clause-varies : goal.returns-clause-varies
returns-clause-varies g c =
    let answer = g.O.Oracle.answer_at c.args.oracle.now in
    let sound : IsSoundTable draughts c.args.proved.now.pieces answer = subst (λ n. IsSoundTable draughts n answer) (sym c.requires.pieces) c.pieces-pieces.ensures.sound in
    let there : own_part c.args.proved.now c.args.side ≡ Some c.own_part-part.result.now = rw c.certificate-certificate.ensures.value at c.own_part-part.ensures.part in
    let at : c.certificate-certificate.result.now.position ≡ c.args.proved.now.position = ap (λ (x : Certificate). x.position) c.certificate-certificate.ensures.value in
    won_varied c.args.proved.now c.args.side c.own_part-part.result.now answer c.args.varied c.play_out.result sound c.requires.wins there
    (subst (λ (p : Board). IfOk c.play_out.result (λ (line : Line). HasVariations answer (λ q. Some c.own_part-part.result.now) (is_reply c.args.side) c.args.varied p line.moves.items line.variations.items)) at c.play_out.ensures.varies)
