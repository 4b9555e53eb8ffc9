use Rattle.std.proofs.Common.{List, ℕ, subst, sym}
use Rattle.std.specs.Prelude.{All, Contains}
use Rattle.std.proofs.lemmas.List.Elements.{All-contains}
use Rattle.draughts_board.specs.Rules.{after}
use Rattle.certificate_player.specs.Choices.{IsShown}
use Rattle.certificate_player.proofs.moves.table_move.Goals as goal

pub first_shown-requires : goal.first_shown-requires
first_shown-requires g c path there = c.in_ok-moves.ensures.rules.sound path (subst (λ (paths : List (List ℕ)). Contains paths path) c.deref.ensures.value there)

pub unreachable-requires : goal.unreachable-requires
unreachable-requires g c =
    let by = c.requires in
    let there = subst (λ (paths : List (List ℕ)). Contains paths by.0) (sym c.deref.ensures.value) (c.in_ok-moves.ensures.rules.complete by.0 by.1.0) in
    All-contains (λ path. IsShown (g.O.Oracle.answer_at c.args.oracle.now) (after c.args.p.now path) c.args.rank c.args.part.now → ⊥) c.deref.result.now by.0 c.in-None.ensures.none there by.1.1
