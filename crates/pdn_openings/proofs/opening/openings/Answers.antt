use Rattle.std.proofs.Common.{Result, Ok, Err, Vec, Global, IfOk}
use Rattle.pdn_openings.specs.Faults.{opening_wants_memory, OpeningFaultStandsFirst}
use Rattle.pdn_openings.specs.Openings.{AreOpenings}
use Rattle.pdn_openings.specs.declared.opening.Opening.{Opening}
use Rattle.pdn_openings.specs.declared.refusal.OpeningRefusal.{OpeningRefusal}
use Rattle.pdn_openings.proofs.AllGames.{openings_or_fault, one_refusal}
use Rattle.pdn_openings.proofs.Determined.{one_list, as_many}
use Rattle.pdn_openings.proofs.Lawful.{lawful_openings}
use Rattle.pdn_openings.proofs.opening.openings.Goals as goal
use Rattle.shared_words.proofs.Exactness.{exact_list_from_one}

-- what holds of all openings of games holds of those that were found
if_found : (r : Result (Vec Opening Global) OpeningRefusal) (P Q : Vec Opening Global → Type 0) → ((v : Vec Opening Global) → P v → Q v) → IfOk r P → IfOk r Q
if_found (Ok v) P Q f p = f v p
if_found (Err e) P Q f p = tt

pub returns-clause-exact : goal.returns-clause-exact
returns-clause-exact c =
    let plies = c.args.plies in
    let games = c.args.games.now in
    exact_list_from_one opening_wants_memory (AreOpenings plies games) (OpeningFaultStandsFirst plies games) c.all_openings.result c.all_openings.ensures.openings c.all_openings.ensures.refused
    (one_list plies games) (openings_or_fault plies games) (one_refusal plies games)

pub returns-clause-count : goal.returns-clause-count
returns-clause-count c = if_found c.all_openings.result _ _ (λ v. as_many c.args.plies c.args.games.now v.items) c.all_openings.ensures.openings

pub returns-clause-lawful : goal.returns-clause-lawful
returns-clause-lawful c = if_found c.all_openings.result _ _ (λ v. lawful_openings c.args.plies c.args.games.now v.items) c.all_openings.ensures.openings
