use Rattle.std.proofs.Common.{◌≡◌, vec_len, length, arith, rules}
use Rattle.certificate_checker.proofs.DueLemmas.{stuck_iff_none}
use Rattle.certificate_checker.proofs.due.is_stuck.Goals as goal

pub returns : goal.returns
returns c =
    let moves = c.in_ok-moves.moves in
    let count : vec_len moves ≡ length moves.items = omega (arith, moves.ok.0) in
    rw c.is_empty.ensures (stuck_iff_none c.args.side c.args.p.now moves.items (vec_len moves) count (search rules) c.in_ok-moves.ensures.rules)
