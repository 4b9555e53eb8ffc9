use Rattle.std.proofs.Common.{◌≡◌, ◌∙◌, List, sym, subst}
use Rattle.std.proofs.lemmas.Result.{err_from_is_err_and}
use Rattle.pdn_openings.specs.Openings.{AreOpenings}
use Rattle.pdn_text.specs.declared.game.Game.{Game}
use Rattle.program_edges.proofs.GameLemmas.{openings_only, pdn_only, same_games}
use Rattle.program_edges.proofs.games.read_openings.Goals as goal

pub returns-in_err-games-clause-accepted : goal.returns-in_err-games-clause-accepted
returns-in_err-games-clause-accepted c =
    let p = err_from_is_err_and c.from_residual.result c.from_residual.ensures.1 in
    rw (p.1, p.2) (λ games openings good. pdn_only games c.in_err-games.field-0.0 (c.in_err-games.ensures.only_good games good.read))

pub returns-in_err-found-clause-accepted : goal.returns-in_err-found-clause-accepted
returns-in_err-found-clause-accepted c =
    let p = err_from_is_err_and c.from_residual-in_err-found.result c.from_residual-in_err-found.ensures.1 in
    rw (p.1, p.2) (λ games openings good.
    let same : games ≡ c.deref.result.now = sym (same_games c.in_ok-games.games.items games (c.in_ok-games.ensures.only_good games good.read)) ∙ sym c.deref.ensures.value in
    openings_only openings c.in_err-found.field-0.0
    (c.in_err-found.ensures.exact.only_good openings (subst (λ (all : List Game). AreOpenings c.args.plies all openings) same good.opens)))
