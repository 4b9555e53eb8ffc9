use Rattle.std.proofs.Common.{◌≡◌, ◌∙◌, ◌∷◌, ◌++◌, [], ap}
use Rattle.certificate_joiner.specs.Strategy.{named}
use Rattle.certificate_joiner.proofs.Named.{said_of}
use Rattle.certificate_joiner.proofs.Rooted.{draw_claims}
use Rattle.certificate_joiner.proofs.certificates.draw_certificate.Goals as goal

pub returns : goal.returns
returns c =
    let roots = c.args.tree.now.forest in
    let at = said_of roots c.args.n (λ y. c.position.result ≡ y.own.position) c.requires.there c.position.ensures in
    let black = c.in_ok-part_for.field-0 in
    let white = c.in_ok-part_for-2.field-0 in
    let first = c.in_ok-push.ensures.items ∙ ap (λ l. l ++ black ∷ []) c.new-parts.ensures.items in
    let made : c.from_vec.result ≡ black ∷ white ∷ [] = c.from_vec.ensures ∙ (c.in_ok-push-2.ensures.items ∙ ap (λ l. l ++ white ∷ []) first) in
    draw_claims c.args.pieces (named roots c.args.n).own.position black white c.position.result c.from_vec.result at made c.in_ok-part_for.ensures.claim c.in_ok-part_for-2.ensures.claim
    c.in_ok-part_for.ensures.good c.in_ok-part_for-2.ensures.good
