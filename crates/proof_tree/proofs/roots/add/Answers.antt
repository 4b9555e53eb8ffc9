use Rattle.std.proofs.Common.{◌++◌, ◌∷◌, [], Bool, cond, not, ap, ◌∙◌}
use Rattle.std.specs.Map.{keys_of}
use Rattle.proof_tree.proofs.SoundForests.{none_any}
use Rattle.proof_tree.proofs.roots.add.Goals as goal

pub returns-clause-entries : goal.returns-clause-entries
returns-clause-entries c =
    let old = c.args.roots.now.entries in
    c.in-Ok.ensures.rows
    ∙ ap (λ (b : Bool). cond b (old ++ (c.args.p.now, c.args.row) ∷ []) old)
    (c.in-Ok.ensures.new ∙ ap not (none_any (keys_of old) c.args.p.now c.requires.absent))
