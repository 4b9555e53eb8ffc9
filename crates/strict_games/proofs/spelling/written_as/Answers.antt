use Rattle.std.proofs.Common.{◌≡◌, ◌∙◌, ◌≤◌, length, true, false, nat_eq, refl, sym, ap}
use Rattle.draughts_board.specs.Resolution.{matches, meaning}
use Rattle.draughts_board.specs.Rules.{after}
use Rattle.draughts_board.specs.Same.{same_board-Decides}
use Rattle.pdn_openings.specs.Playing.{meaning_of}
use Rattle.strict_games.specs.Drafts.{unplaced}
use Rattle.strict_games.proofs.Spelled.{direct_means, none_between, some_between, whole_means}
use Rattle.strict_games.proofs.spelling.written_as.Goals as goal

pub returns-then-is_empty : goal.returns-then-is_empty
returns-then-is_empty c =
    let p = c.args.p.now in
    let test : true ≡ nat_eq (length c.args.middle.now) 0 = cc in
    let none = none_between c.args.middle.now test in (
      c.args.played.now,
      (
        ap (λ s. meaning_of p (unplaced s)) c.direct-direct.ensures ∙ direct_means p c.args.from c.args.to
            ∙ ap (λ m. meaning p (matches p c.args.from m c.args.to)) (sym none) ∙ c.requires.means,
        refl,
      ),
    )

pub returns-in-Ok : goal.returns-in-Ok
returns-in-Ok c =
    let p = c.args.p.now in
    let there : after p c.in-Ok.other ≡ after p c.args.played.now =
    sym c.apply.ensures ∙ (same_board-Decides c.apply.result c.apply-there.result).0 (sym c.eq.ensures ∙ c.if-eq.true) ∙ c.apply-there.ensures in
    (c.in-Ok.other, (ap (λ s. meaning_of p (unplaced s)) c.direct-direct.ensures ∙ direct_means p c.args.from c.args.to ∙ sym c.in-Ok.ensures.exact, there))

pub returns-in_default : goal.returns-in_default
returns-in_default c =
    let p = c.args.p.now in
    let test : false ≡ nat_eq (length c.args.middle.now) 0 = cc in
    let some : 1 ≤ length c.args.middle.now = some_between c.args.middle.now test in
    (c.args.played.now, (whole_means p c.args.from c.args.middle.now c.args.to c.args.played.now some c.requires.means, refl))
