use Rattle.std.proofs.Common.{◌≡◌, rules}
use Rattle.certificate_lines.proofs.VariationLemmas.{adds_no_reply}
use Rattle.certificate_lines.proofs.variations.push_replies.Goals as goal

pub returns-then-eq : goal.returns-then-eq
returns-then-eq g c =
    let mine : c.args.fork.now.position.to_move ≡ c.args.side = search rules in
    adds_no_reply (g.O.Oracle.answer_at c.args.oracle.now) c.args.part.now c.args.fork.now c.args.varied c.args.side c.args.path.now c.args.variations.now.items mine
