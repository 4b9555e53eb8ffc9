use Rattle.certificate_player.proofs.Steps.{table_move_there}
use Rattle.certificate_player.proofs.moves.chosen_move.Goals as goal

pub table_move-requires : goal.table_move-requires
table_move-requires g c =
    table_move_there c.requires.sound.0 (g.O.Oracle.answer_at c.args.oracle.now) c.requires.sound.1 c.args.part.now c.args.rank c.args.p.now c.requires.lawful c.requires.good c.requires.follows c.requires.turn c.in-None.ensures.none
