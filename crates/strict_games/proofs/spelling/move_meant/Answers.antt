use Rattle.std.proofs.Common.{◌≡◌, ◌∙◌, ◌∷◌, [], Ok, ap, sym}
use Rattle.draughts_board.specs.Resolution.{matches, meaning}
use Rattle.draughts_board.specs.Rules.{after}
use Rattle.pdn_openings.specs.Playing.{meaning_of}
use Rattle.strict_games.proofs.LonePaths.{so}
use Rattle.strict_games.proofs.Spelled.{direct_means}
use Rattle.strict_games.specs.Drafts.{unplaced}
use Rattle.strict_games.proofs.spelling.move_meant.Goals as goal

pub returns-then-is_lone-clause-written : goal.returns-then-is_lone-clause-written
returns-then-is_lone-clause-written c =
    let p = c.args.p.now in
    let x = c.args.from in
    let z = c.args.to in
    let alone = so c.is_lone.result (meaning p (matches p x [] z) ≡ Ok (x ∷ z ∷ [])) c.if-is_lone.true c.is_lone.ensures.alone in
    (x ∷ z ∷ [], (ap (λ s. meaning_of p (unplaced s)) c.direct-step.ensures ∙ direct_means p x z ∙ alone, ap (after p) (sym c.direct-step.ensures)))
