use Rattle.std.proofs.Common.{List, ℕ, subst, sym}
use Rattle.std.specs.Prelude.{map}
use Rattle.std.specs.Ordering.{nat_cmp}
use Rattle.game_reader.proofs.SeenNumbers.{put_in}
use Rattle.game_reader.specs.Seen.{IsPutIn}
use Rattle.game_reader.proofs.seen.Seen.first_same.Goals as goal

pub returns-in-Ok : goal.returns-in-Ok
returns-in-Ok c =
    let old = c.args.self.now.games in
    let number_of : ℕ × ℕ → ℕ = λ entry. entry.1 in
    subst (λ (entries : List (ℕ × ℕ)). IsPutIn c.args.number (map number_of old.entries) (map number_of entries)) (sym c.in-Ok.ensures.entries)
    (put_in nat_cmp c.key_of-key.result c.args.number old.entries (sym c.in_default.ensures.value))
