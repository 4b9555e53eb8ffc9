use Rattle.std.proofs.Common.{◌≡◌, ◌∙◌, ◌≤◌, ℕ, List, Some, false, ap, arith, length, rules, slice_get, sym}
use Rattle.std.specs.Prelude.{nat_lt}
use Rattle.std.proofs.lemmas.Bool.Decides.{nat_tests}
use Rattle.std.proofs.lemmas.Option.{slice_get-get_or}
use Rattle.strict_games.proofs.Grouped.{past_of, place_of}
use Rattle.strict_games.proofs.groups.OpeningGroups.group.Goals as goal

pub returns-in_err-row : goal.returns-in_err-row
returns-in_err-row c =
    let few : nat_lt c.args.place (length c.self.inside.positions.entries) ≡ false = search rules in
    let long = c.self.invariant in
    let past : length c.self.inside.games.items ≤ c.args.place = grind (arith, nat_tests, few, long) in
    rw c.from_residual.ensures (past_of (λ games. games.items) c.self.inside.positions.entries c.self.inside.games.items c.args.self.now c.self.invariant c.self.view_is c.args.place past)

pub returns : goal.returns
returns c =
    let row : slice_get c.self.inside.positions.entries c.args.place ≡ Some c.in_ok-row.row.now =
    ap (λ rows. slice_get rows c.args.place) (sym c.as_slice.ensures.value)
    ∙ slice_get-get_or c.as_slice.result.now c.args.place c.in_ok-row.row.now c.in_ok-row.ensures.lookup.3.0
    ∙ ap Some (sym c.in_ok-row.ensures.lookup.1) in
    let games : slice_get c.self.inside.games.items c.args.place ≡ Some c.in_ok-games.games.now =
    ap (λ lists. slice_get lists c.args.place) (sym c.deref.ensures.value)
    ∙ slice_get-get_or c.deref.result.now c.args.place c.in_ok-games.games.now c.in_ok-games.ensures.lookup.3.0
    ∙ ap Some (sym c.in_ok-games.ensures.lookup.1) in
    place_of (λ games. games.items) c.self.inside.positions.entries c.self.inside.games.items c.args.self.now c.self.invariant c.self.view_is c.args.place c.in_ok-row.row.now c.in_ok-games.games.now row games
    ∙ ap (λ (list : List ℕ). Some (c.in_ok-row.row.now.0, list)) (sym c.as_slice-2.ensures.value)
