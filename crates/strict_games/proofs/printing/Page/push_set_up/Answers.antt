use Rattle.std.proofs.Common.{◌∷◌, [], refl, subst, sym}
use Rattle.std.specs.Prelude.{codes}
use Rattle.std.proofs.lemmas.Result.{on_ok_weaker}
use Rattle.fen_text.specs.Printed.{fen_of}
use Rattle.strict_games.specs.Pages.{AreTagsBefore}
use Rattle.strict_games.proofs.printing.Page.push_set_up.Goals as goal

pub returns-in-Some-clause-says : goal.returns-in-Some-clause-says
returns-in-Some-clause-says c =
    let before = record { name = codes "FEN"; value = fen_of c.in-Some.p } ∷ [] in
    on_ok_weaker c.push_fen.result (λ x. (before, (subst (λ o. AreTagsBefore o before) (sym c.in-Some.is) (x.0, refl), x.1))) c.push_fen.ensures.says

pub returns-in-None-clause-says : goal.returns-in-None-clause-says
returns-in-None-clause-says c = ([], (subst (λ o. AreTagsBefore o []) (sym c.in-None.is) refl, λ s. s))
