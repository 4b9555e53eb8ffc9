use Rattle.std.proofs.Common.{◌≡◌, ◌∙◌, ◌∷◌, ◌++◌, [], ap}
use Rattle.certificate_joiner.specs.Strategy.{named}
use Rattle.certificate_joiner.proofs.Named.{said_of}
use Rattle.certificate_joiner.proofs.Rooted.{win_claims}
use Rattle.certificate_joiner.proofs.certificates.win_certificate.Goals as goal

pub returns : goal.returns
returns c =
    let roots = c.args.tree.now.forest in
    let at = said_of roots c.args.n (λ y. c.position.result ≡ y.own.position) c.requires.there c.position.ensures in
    let one = c.in_ok-part_for.field-0 in
    let made : c.from_vec.result ≡ one ∷ [] = c.from_vec.ensures ∙ (c.in_ok-push.ensures.items ∙ ap (λ l. l ++ one ∷ []) c.new-parts.ensures.items) in
    win_claims c.args.pieces (named roots c.args.n).own.position c.args.side one c.position.result c.from_vec.result at made c.in_ok-part_for.ensures.claim c.in_ok-part_for.ensures.good
