use Rattle.std.proofs.Common.{◌≡◌, ◌++◌, ◌∷◌, [], ◌∙◌, List, Some, ap, refl, subst, sym}
use Rattle.draughts_board.specs.Board.{Board, IsLawful, other}
use Rattle.draughts_board.specs.Rules.{IsLegal, after}
use Rattle.draughts_board.specs.Draughts.{draughts}
use Rattle.strategy_certificate.specs.Tables.{IsSoundTable}
use Rattle.certificate_player.specs.Choices.{GoesOnAt, IsChosen, IsNextRank, Makes}
use Rattle.certificate_player.specs.Plays.{IsPlay, Play, here, last_of, own_part}
use Rattle.certificate_player.proofs.PlayLemmas.{made_on, part_entries, play_on, some_has}
use Rattle.certificate_player.proofs.player.Player.choose.Goals as goal

pub chosen_move-requires-clause-good : goal.chosen_move-requires-clause-good
chosen_move-requires-clause-good g c =
    let answer = g.O.Oracle.answer_at c.args.oracle.now in
    let part = c.own_part-part.result.now in
    let v : Play = record { certificate = c.self.inside.proved; side = c.self.inside.side; later = c.self.inside.later.items; rank = c.self.inside.rank } in
    let pieces : v.certificate.pieces ≡ g.O.Oracle.piece_limit c.args.oracle.now = ap (λ (x : Play). x.certificate.pieces) c.self.view_is ∙ c.requires.pieces in
    let sound : IsSoundTable draughts v.certificate.pieces answer = subst (λ n. IsSoundTable draughts n answer) (sym pieces) c.pieces-pieces.ensures.sound in
    let there : own_part v.certificate v.side ≡ Some part = rw c.certificate-2.ensures.value at c.own_part-part.ensures.part in
    part_entries v part answer c.self.invariant sound there

pub next_rank-self-inside-requires : goal.next_rank-self-inside-requires
next_rank-self-inside-requires g c =
    let answer = g.O.Oracle.answer_at c.args.oracle.now in
    let part = c.own_part-part.result.now in
    let v : Play = record { certificate = c.self.inside.proved; side = c.self.inside.side; later = c.self.inside.later.items; rank = c.self.inside.rank } in
    let pieces : v.certificate.pieces ≡ g.O.Oracle.piece_limit c.args.oracle.now = ap (λ (x : Play). x.certificate.pieces) c.self.view_is ∙ c.requires.pieces in
    let sound : IsSoundTable draughts v.certificate.pieces answer = subst (λ n. IsSoundTable draughts n answer) (sym pieces) c.pieces-pieces.ensures.sound in
    let there : own_part v.certificate v.side ≡ Some part = rw c.certificate-2.ensures.value at c.own_part-part.ensures.part in
    let at : c.position-p.result ≡ here v = c.position-p.ensures.value ∙ ap (λ (qs : List Board). last_of v.certificate.position qs) c.reserve.ensures.items in
    let path = c.in_ok-path.path in
    let is : c.apply-next.result ≡ after (here v) path = c.apply-next.ensures ∙ ap (λ p. after p path) at in
    let chosen : IsChosen answer (here v) v.rank part path = subst (λ p. IsChosen answer p v.rank part path) at c.in_ok-path.ensures.chosen in
    let on : GoesOnAt answer (after (here v) path) v.rank part = made_on v part answer c.self.invariant sound there path chosen in
    subst (λ p. GoesOnAt answer p v.rank part) (sym is) on

pub invariant_of-self-3 : goal.invariant_of-self-3
invariant_of-self-3 g c =
    let answer = g.O.Oracle.answer_at c.args.oracle.now in
    let part = c.own_part-part.result.now in
    let v : Play = record { certificate = c.self.inside.proved; side = c.self.inside.side; later = c.self.inside.later.items; rank = c.self.inside.rank } in
    let pieces : v.certificate.pieces ≡ g.O.Oracle.piece_limit c.args.oracle.now = ap (λ (x : Play). x.certificate.pieces) c.self.view_is ∙ c.requires.pieces in
    let sound : IsSoundTable draughts v.certificate.pieces answer = subst (λ n. IsSoundTable draughts n answer) (sym pieces) c.pieces-pieces.ensures.sound in
    let there : own_part v.certificate v.side ≡ Some part = rw c.certificate-2.ensures.value at c.own_part-part.ensures.part in
    let at : c.position-p.result ≡ here v = c.position-p.ensures.value ∙ ap (λ (qs : List Board). last_of v.certificate.position qs) c.reserve.ensures.items in
    let path = c.in_ok-path.path in
    let is : c.apply-next.result ≡ after (here v) path = c.apply-next.ensures ∙ ap (λ p. after p path) at in
    let lawful : IsLawful (here v) = subst IsLawful at c.to_move-mover.ensures.lawful in
    let legal : IsLegal (here v) path = subst (λ p. IsLegal p path) at c.in_ok-path.ensures.legal in
    let chosen : IsChosen answer (here v) v.rank part path = subst (λ p. IsChosen answer p v.rank part path) at c.in_ok-path.ensures.chosen in
    let on : GoesOnAt answer (after (here v) path) v.rank part = made_on v part answer c.self.invariant sound there path chosen in
    let later : c.push_reserved.new.self.items ≡ v.later ++ c.apply-next.result ∷ [] = c.push_reserved.ensures.items ∙ ap (λ (qs : List Board). qs ++ c.apply-next.result ∷ []) c.reserve.ensures.items in
    subst (λ (qs : List Board). IsPlay (record { certificate = v.certificate; side = v.side; later = qs; rank = c.next_rank-self-inside.result })) (sym later)
    (play_on v part answer c.self.invariant sound there lawful path legal on c.apply-next.result is c.next_rank-self-inside.result c.next_rank-self-inside.ensures.next)

pub returns-clause-makes : goal.returns-clause-makes
returns-clause-makes g c =
    let answer = g.O.Oracle.answer_at c.args.oracle.now in
    let part = c.own_part-part.result.now in
    let v : Play = record { certificate = c.self.inside.proved; side = c.self.inside.side; later = c.self.inside.later.items; rank = c.self.inside.rank } in
    let pieces : v.certificate.pieces ≡ g.O.Oracle.piece_limit c.args.oracle.now = ap (λ (x : Play). x.certificate.pieces) c.self.view_is ∙ c.requires.pieces in
    let sound : IsSoundTable draughts v.certificate.pieces answer = subst (λ n. IsSoundTable draughts n answer) (sym pieces) c.pieces-pieces.ensures.sound in
    let there : own_part v.certificate v.side ≡ Some part = rw c.certificate-2.ensures.value at c.own_part-part.ensures.part in
    let at : c.position-p.result ≡ here v = c.position-p.ensures.value ∙ ap (λ (qs : List Board). last_of v.certificate.position qs) c.reserve.ensures.items in
    let path = c.in_ok-path.path in
    let is : c.apply-next.result ≡ after (here v) path = c.apply-next.ensures ∙ ap (λ p. after p path) at in
    let lawful : IsLawful (here v) = subst IsLawful at c.to_move-mover.ensures.lawful in
    let legal : IsLegal (here v) path = subst (λ p. IsLegal p path) at c.in_ok-path.ensures.legal in
    let chosen : IsChosen answer (here v) v.rank part path = subst (λ p. IsChosen answer p v.rank part path) at c.in_ok-path.ensures.chosen in
    let on : GoesOnAt answer (after (here v) path) v.rank part = made_on v part answer c.self.invariant sound there path chosen in
    let later : c.push_reserved.new.self.items ≡ v.later ++ c.apply-next.result ∷ [] = c.push_reserved.ensures.items ∙ ap (λ (qs : List Board). qs ++ c.apply-next.result ∷ []) c.reserve.ensures.items in
    let w : Play = record { certificate = v.certificate; side = v.side; later = c.push_reserved.new.self.items; rank = c.next_rank-self-inside.result } in
    let next : IsNextRank answer (after (here v) path) v.rank part w.rank = subst (λ p. IsNextRank answer p v.rank part w.rank) is c.next_rank-self-inside.ensures.next in
    let makes : Makes answer v w path = record {
      chosen = some_has (own_part v.certificate v.side) part (λ one. IsChosen answer (here v) v.rank one path) there chosen;
      legal = legal;
      goes_on = record {
        certificate = refl;
        side = refl;
        later = later ∙ ap (λ (p : Board). v.later ++ p ∷ []) is;
        rank = some_has (own_part v.certificate v.side) part (λ one. IsNextRank answer (after (here v) path) v.rank one w.rank) there next;
      };
    } in
    subst (λ (x : Play). Makes answer x w path) c.self.view_is makes

pub returns-clause-valid : goal.returns-clause-valid
unfolding invariant_of-self-3
returns-clause-valid g c = invariant_of-self-3 g c
