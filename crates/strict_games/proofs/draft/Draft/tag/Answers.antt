use Rattle.std.proofs.Common.{◌≡◌, ◌∷◌, ◌++◌, [], None, cond, rules}
use Rattle.std.specs.Prelude.{is_ok}
use Rattle.strict_games.proofs.Printed.{tag_taken, taken_pushed}
use Rattle.strict_games.specs.Tags.{cleaned, tag_fault}
use Rattle.strict_games.proofs.draft.Draft.tag.Goals as goal

pub invariant_of-self : goal.invariant_of-self
invariant_of-self c =
    let old = c.self.inside in
    let name = c.args.name.now in
    let value = c.args.value.now in
    let good : tag_fault name value ≡ None = search rules in
    let items : c.push.new.self.items ≡ cond (is_ok c.push.result) (old.tags.items ++ record { name = name; value = cleaned value } ∷ []) old.tags.items = search rules in
    record {
      taken = taken_pushed (is_ok c.push.result) old.tags.items c.push.new.self.items (record { name = name; value = cleaned value }) items c.self.invariant.taken (tag_taken name value good);
      led = c.self.invariant.led;
    }
