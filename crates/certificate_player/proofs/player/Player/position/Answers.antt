use Rattle.std.proofs.Common.{◌≡◌, ◌<◌, ◌-◌, Some, length, slice_get, sym, subst, arith}
use Rattle.std.proofs.lemmas.Option.{slice_get_within}
use Rattle.certificate_player.specs.Plays.{here}
use Rattle.certificate_player.proofs.Finds.{last_read}
use Rattle.certificate_player.proofs.player.Player.position.Goals as goal

pub returns-in-Some-clause-value : goal.returns-in-Some-clause-value
returns-in-Some-clause-value c =
    let later = c.self.inside.later.items in
    let p = c.in-Some.p.now in
    let at : slice_get later (length later - 1) ≡ Some p = rw c.deref.ensures.value at (sym c.in-Some.ensures.value) in
    let within : length later - 1 < length later = slice_get_within later (length later - 1) p at in
    subst (λ v. p ≡ here v) c.self.view_is (sym (last_read c.self.inside.proved.position later (length later - 1) p (omega (arith, within)) at))
