use Rattle.std.proofs.Common.{sym, subst}
use Rattle.std.specs.Prelude.{All}
use Rattle.draughts_board.specs.Rules.{IsLegal}
use Rattle.leaf_search.proofs.FailLemmas.{All-legal}
use Rattle.leaf_search.proofs.fortress.growth.Growth.choose.Goals as goal

pub staying-requires : goal.staying-requires
staying-requires g c =
    subst (All (IsLegal c.args.p.now)) (sym c.deref.ensures.value) (All-legal c.args.p.now c.in_ok-moves.moves.items c.in_ok-moves.ensures.rules)

pub cheapest-requires : goal.cheapest-requires
cheapest-requires g c =
    subst (All (IsLegal c.args.p.now)) (sym c.deref-2.ensures.value) (All-legal c.args.p.now c.in_ok-moves.moves.items c.in_ok-moves.ensures.rules)
