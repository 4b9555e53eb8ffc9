use Rattle.std.proofs.Common.{◌≡◌, ◌∙◌, [], ◌∷◌, ◌++◌, Some, rules, sym, subst}
use Rattle.strict_games.proofs.Leading.{led_to-push, plays_on}
use Rattle.strict_games.specs.Drafts.{begins, led_to}
use Rattle.strict_games.proofs.draft.Draft.play.Goals as goal

pub invariant_of-self-2 : goal.invariant_of-self-2
invariant_of-self-2 c =
    let old = c.self.inside in
    let found = c.in_ok-found.found in
    let pushed : c.push.new.self.items ≡ old.moves.items ++ found.written ∷ [] = search rules in
    let led = led_to-push (begins old.set_up) old.here c.apply-self-inside.result old.moves.items found.written c.in_ok-found.ensures.written.0 c.self.invariant.led c.in_ok-found.ensures.written.1.0
    (c.in_ok-found.ensures.written.1.1 ∙ sym c.apply-self-inside.ensures) in
    record {
      taken = c.self.invariant.taken;
      led = subst (λ moves. led_to (Some (begins old.set_up)) moves ≡ Some c.apply-self-inside.result) (sym pushed) led;
    }

pub returns-clause-ok : goal.returns-clause-ok
returns-clause-ok c =
    let old = c.self.inside in
    let found = c.in_ok-found.found in
    let pushed : c.push.new.self.items ≡ old.moves.items ++ found.written ∷ [] = search rules in
    plays_on old.set_up old.tags.items old.moves.items c.push.new.self.items old.here c.apply-self-inside.result c.args.from c.args.middle.now c.args.to found.played found.written c.args.self.now
    c.self.view_is c.in_ok-found.ensures.means c.apply-self-inside.ensures pushed
