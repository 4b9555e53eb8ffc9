use Rattle.std.proofs.Common.{ap, sym, ◌∙◌, subst}
use Rattle.position_rows.specs.Rows.{AreApart}
use Rattle.opened_games.specs.declared.numbers.Numbers.{Numbers}
use Rattle.opened_games.proofs.Lists.{first_added, first_inside, next_added, next_inside}
use Rattle.opened_games.proofs.numbers.Numbers.add.Goals as goal
use Rattle.opened_games.proofs.numbers.Numbers.add.Goals.{then-is_new+in_ok-push, else-is_new}

pub add_number-requires : goal.add_number-requires
add_number-requires c =
    let old = c.args.self.now in
    let noted = c.in_ok-place.ensures in
    let mid = c.if-is_new.self.lists.items in
    elim c.if-is_new.branch [
      | then-is_new+in_ok-push w ↦
          (first_inside old.positions.entries old.lists.items mid c.args.p c.in_ok-place.place c.requires noted.place c.in_ok-place.is_new noted.new
          w.if-is_new.true w.new.result (ap (λ (x : Numbers). x.lists.items) w.self-is ∙ w.in_ok-push.ensures.items)).0
      | else-is_new w ↦
          next_inside old.positions.entries old.lists.items mid c.args.p c.in_ok-place.place c.requires noted.place c.in_ok-place.is_new noted.new
          w.if-is_new.false (ap (λ (x : Numbers). x.lists.items) w.self-is)
    ]

pub returns-clause-numbers : goal.returns-clause-numbers
returns-clause-numbers c q =
    let old = c.args.self.now in
    let noted = c.in_ok-place.ensures in
    let mid = c.if-is_new.self in
    elim c.if-is_new.branch [
      | then-is_new+in_ok-push w ↦
          first_added old.positions.entries mid.positions.entries old.lists.items mid.lists.items c.add_number.new.lists.items c.args.p _ c.in_ok-place.place c.args.number
          c.requires noted.place (subst (λ (x : Numbers). AreApart x.positions.entries) (sym w.self-is) noted.apart) c.in_ok-add_number.ensures.numbers
          c.in_ok-place.is_new w.if-is_new.true noted.new (ap (λ (x : Numbers). x.positions.entries) w.self-is ∙ noted.rows)
          w.new.result w.new.ensures.items (ap (λ (x : Numbers). x.lists.items) w.self-is ∙ w.in_ok-push.ensures.items) q
      | else-is_new w ↦
          next_added old.positions.entries mid.positions.entries old.lists.items mid.lists.items c.add_number.new.lists.items c.args.p _ c.in_ok-place.place c.args.number
          c.requires noted.place (subst (λ (x : Numbers). AreApart x.positions.entries) (sym w.self-is) noted.apart) c.in_ok-add_number.ensures.numbers
          c.in_ok-place.is_new w.if-is_new.false noted.new (ap (λ (x : Numbers). x.positions.entries) w.self-is ∙ noted.rows)
          (ap (λ (x : Numbers). x.lists.items) w.self-is) q
    ]
