use Rattle.std.proofs.Common.{rules, ◌≡◌, [], ◌∷◌}
use Rattle.strategy_certificate.specs.Certificates.{claim_of}
use Rattle.certificate_checker.proofs.AloneLemmas.{good_alone}
use Rattle.certificate_checker.proofs.proving.prove_part.Goals as goal

pub prove-requires-clause-good : goal.prove-requires-clause-good
prove-requires-clause-good g c =
    let alone : c.from_vec.result ≡ c.args.part ∷ [] = search rules in
    let claims : c.claim-claim.result ≡ claim_of c.args.part = c.claim-claim.ensures in
    good_alone _ c.args.p.now c.claim-claim.result c.pieces.result c.args.part c.from_vec.result claims alone c.requires.good
