use Rattle.std.proofs.Common.{◌≡◌, rules, sym, subst, List, ℕ}
use Rattle.draughts_board.specs.Board.{Board, IsLawful}
use Rattle.draughts_board.specs.Rules.{after, put}
use Rattle.draughts_board.proofs.After.{after_is_lawful}
use Rattle.draughts_rules.proofs.next.apply.Goals as goal

pub with-requires : goal.with-requires
with-requires c =
    let p : Board = c.args.p.now in
    let path : List ℕ = c.args.m.now in
    let made : record { cells = put c.take_jumped.new.p.cells c.last-to.result c.at_rest-piece.result; to_move = c.other.result } ≡ after p path = search rules in
    subst IsLawful (sym made) (after_is_lawful p path c.at.ensures.lawful c.requires)
