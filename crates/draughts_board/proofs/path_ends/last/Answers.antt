use Rattle.std.proofs.Common.{◌≡◌, ◌+◌, ◌∙◌, ◌-◌, length, arith}
use Rattle.draughts_board.proofs.PathLemmas.{get_or-last}
use Rattle.draughts_board.proofs.path_ends.last.Goals as goal

pub returns : goal.returns
returns c =
    let e : length c.args.path.now - 1 + 1 ≡ length c.args.path.now = omega arith in
    c.index-path-path.is ∙ get_or-last _ _ _ e
