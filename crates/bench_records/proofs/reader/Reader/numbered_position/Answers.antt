use Rattle.std.proofs.Common.{refl, ◌≡◌, ◌∙◌, ◌+◌, ◌++◌, ◌<◌, ◌≤◌, ◌^◌, arith, sym, ap, subst, length, length-append, true, false, inl, inr}
use Rattle.std.specs.Prelude.{Contains}
use Rattle.std.proofs.lemmas.Option.{slice_get_past}
use Rattle.std.proofs.lemmas.List.Elements.{Contains-append_left, Contains-append_right, Contains-append_cases}
use Rattle.std.specs.List.{list_any, position_or_len}
use Rattle.draughts_board.specs.Board.{Board, same_board}
use Rattle.bench_records.specs.Positions.{short_text, position_text}
use Rattle.bench_records.specs.Reading.{Spot}
use Rattle.bench_records.proofs.Numbers.{length-short_text, one_short, short_whole}
use Rattle.bench_records.proofs.Masks.{length-position_text, one_position}
use Rattle.bench_records.proofs.Numbering.{any_absent, any_contains, look_there, look_absent}
use Rattle.bench_records.proofs.Spots.{number_read, number_taken, number_fails, new_read, new_fails}
use Rattle.bench_records.proofs.reader.Reader.numbered_position.Goals as goal
use Rattle.bench_records.proofs.reader.Reader.numbered_position.Goals.{then-n-count-via-then-n-count, then-n-count-via-else-n-count+then-n}

pub returns-in_default-clause-err : goal.returns-in_default-clause-err
returns-in_default-clause-err c others =
    rw (← c.self.view_is)
    (number_fails others (record { left = c.self.inside.left.now; at = c.self.inside.at; named = c.self.inside.names; by_number = c.self.inside.by_number }) (ap (λ (s : Spot). s.by_number) c.self.view_is ∙ c.requires) (λ n rest allowed spelled. short_whole c.self.inside.left.now n rest spelled c.in_default.ensures.none))

pub returns-then-n-count-clause-err : goal.returns-then-n-count-clause-err
returns-then-n-count-clause-err c others =
    let few = c.len-count.ensures.named.few in
    let count = c.len-count.ensures.value in
    rw (← c.self.view_is)
    (number_fails others (record { left = c.self.inside.left.now; at = c.self.inside.at; named = c.self.inside.names; by_number = c.self.inside.by_number }) (ap (λ (s : Spot). s.by_number) c.self.view_is ∙ c.requires) (λ m rest allowed spelled.
    let least = allowed.0 in
    let most = allowed.1.0 in
    let same = one_short m c.in-Some.n rest c.in-Some.rest.now (omega arith) c.in-Some.ensures.some.0 (sym spelled ∙ c.in-Some.ensures.some.1) in
    let own = same.0 in
    elim c.then-n-count.branch [
      | then-n-count-via-then-n-count w ↦ let above = w.if-n-count.true in omega arith
      | then-n-count-via-else-n-count+then-n w ↦ let last = w.if-n.true in omega arith
    ]))

pub overflow_add-self : goal.overflow_add-self
overflow_add-self c = omega (arith, c.self.invariant, ap length c.in-Some.ensures.some.1, length-append (short_text c.in-Some.n) c.in-Some.rest.now, length-short_text c.in-Some.n)

pub invariant_of-self : goal.invariant_of-self
invariant_of-self c = omega (arith, c.self.invariant, ap length c.in-Some.ensures.some.1, length-append (short_text c.in-Some.n) c.in-Some.rest.now, length-short_text c.in-Some.n)

pub returns-then-n-count-2-clause-read : goal.returns-then-n-count-2-clause-read
returns-then-n-count-2-clause-read c others absent =
    let few = c.len-count.ensures.named.few in
    let count = c.len-count.ensures.value in
    let below = c.if-n-count-2.true in
    rw (← c.self.view_is)
    (number_read others (record { left = c.self.inside.left.now; at = c.self.inside.at; named = c.self.inside.names; by_number = c.self.inside.by_number }) (record { left = c.in-Some.rest.now; at = c.self.inside.at + 4; named = c.self.inside.names; by_number = c.self.inside.by_number }) c.in-Some.n c.position-p.result
    (ap (λ (s : Spot). s.by_number) c.self.view_is ∙ c.requires) (omega arith) c.position-p.ensures absent c.in-Some.ensures.some.1 refl refl refl)

pub returns-then-n-count-2-clause-taken : goal.returns-then-n-count-2-clause-taken
returns-then-n-count-2-clause-taken c others there =
    rw (← c.self.view_is)
    (number_taken others (record { left = c.self.inside.left.now; at = c.self.inside.at; named = c.self.inside.names; by_number = c.self.inside.by_number }) c.in-Some.n c.position-p.result c.in-Some.rest.now (ap (λ (s : Spot). s.by_number) c.self.view_is ∙ c.requires) c.in-Some.ensures.some.0 c.position-p.ensures there c.in-Some.ensures.some.1)

pub overflow_add-result : goal.overflow_add-result
overflow_add-result c = omega (arith, c.self.invariant, ap length c.in-Some.ensures.some.1, length-append (short_text c.in-Some.n) c.in-Some.rest.now, length-short_text c.in-Some.n)

pub returns-in_default-split_position-clause-err : goal.returns-in_default-split_position-clause-err
returns-in_default-split_position-clause-err c others =
    let bits = c.in-Some.ensures.some.0 in
    let not_last = c.if-n.false in
    let not_above = c.if-n-count.false in
    let not_below = c.if-n-count-2.false in
    let few = c.len-count.ensures.named.few in
    let count = c.len-count.ensures.value in
    let small : c.in-Some.n + 1 < 2 ^ 32 = omega arith in
    let most : c.in-Some.n ≤ length c.self.inside.names = omega arith in
    let least : length c.self.inside.names ≤ c.in-Some.n = omega arith in
    let past = slice_get_past c.self.inside.names c.in-Some.n least in
    rw (← c.self.view_is)
    (new_fails others (record { left = c.self.inside.left.now; at = c.self.inside.at; named = c.self.inside.names; by_number = c.self.inside.by_number }) c.in-Some.n c.in-Some.rest.now (ap (λ (s : Spot). s.by_number) c.self.view_is ∙ c.requires) small most past c.in-Some.ensures.some.1
    (λ p rest lawful absent spelled. c.in_default-split_position.ensures.none p rest lawful spelled))

pub overflow_add-result-then-is_some : goal.overflow_add-result-then-is_some
overflow_add-result-then-is_some c = omega (arith, c.self.invariant, ap length c.in-Some.ensures.some.1, length-append (short_text c.in-Some.n) c.in-Some.rest.now, length-short_text c.in-Some.n)

pub returns-then-is_some-clause-err : goal.returns-then-is_some-clause-err
returns-then-is_some-clause-err c others =
    let bits = c.in-Some.ensures.some.0 in
    let not_last = c.if-n.false in
    let not_above = c.if-n-count.false in
    let not_below = c.if-n-count-2.false in
    let few = c.len-count.ensures.named.few in
    let count = c.len-count.ensures.value in
    let small : c.in-Some.n + 1 < 2 ^ 32 = omega arith in
    let most : c.in-Some.n ≤ length c.self.inside.names = omega arith in
    let least : length c.self.inside.names ≤ c.in-Some.n = omega arith in
    let past = slice_get_past c.self.inside.names c.in-Some.n least in
    let p : Board = c.in-Some-split_position.cut.0 in
    let found = look_there c.find.result (λ n. list_any (same_board p) c.self.inside.names ≡ true) (λ n. n ≡ position_or_len (same_board p) c.self.inside.names) c.find.ensures.some (sym c.is_some.ensures ∙ c.if-is_some.true) in
    let there = any_contains c.self.inside.names p found.1 in
    rw (← c.self.view_is)
    (new_fails others (record { left = c.self.inside.left.now; at = c.self.inside.at; named = c.self.inside.names; by_number = c.self.inside.by_number }) c.in-Some.n c.in-Some.rest.now (ap (λ (s : Spot). s.by_number) c.self.view_is ∙ c.requires) small most past c.in-Some.ensures.some.1
    (λ q rest lawful absent spelled.
    let same = one_position q p rest c.in-Some-split_position.cut.1.now lawful c.in-Some-split_position.ensures.some.0 (sym spelled ∙ c.in-Some-split_position.ensures.some.1) in
    absent (Contains-append_left c.self.inside.names others q (subst (Contains c.self.inside.names) (sym same.0) there))))

pub overflow_add-self-2 : goal.overflow_add-self-2
overflow_add-self-2 c = omega (arith, c.self.invariant, ap length c.in-Some.ensures.some.1, length-append (short_text c.in-Some.n) c.in-Some.rest.now, length-short_text c.in-Some.n, ap length c.in-Some-split_position.ensures.some.1, length-append (position_text c.in-Some-split_position.cut.0) c.in-Some-split_position.cut.1.now, length-position_text c.in-Some-split_position.cut.0)

pub overflow_add-result-2 : goal.overflow_add-result-2
overflow_add-result-2 c = omega (arith, c.self.invariant, ap length c.in-Some.ensures.some.1, length-append (short_text c.in-Some.n) c.in-Some.rest.now, length-short_text c.in-Some.n)

pub invariant_of-self-2 : goal.invariant_of-self-2
invariant_of-self-2 c = omega (arith, c.self.invariant, ap length c.in-Some.ensures.some.1, length-append (short_text c.in-Some.n) c.in-Some.rest.now, length-short_text c.in-Some.n, ap length c.in-Some-split_position.ensures.some.1, length-append (position_text c.in-Some-split_position.cut.0) c.in-Some-split_position.cut.1.now, length-position_text c.in-Some-split_position.cut.0)

pub returns-clause-read : goal.returns-clause-read
returns-clause-read c others absent =
    let bits = c.in-Some.ensures.some.0 in
    let not_last = c.if-n.false in
    let not_above = c.if-n-count.false in
    let not_below = c.if-n-count-2.false in
    let few = c.len-count.ensures.named.few in
    let count = c.len-count.ensures.value in
    let small : c.in-Some.n + 1 < 2 ^ 32 = omega arith in
    let most : c.in-Some.n ≤ length c.self.inside.names = omega arith in
    let least : length c.self.inside.names ≤ c.in-Some.n = omega arith in
    let past = slice_get_past c.self.inside.names c.in-Some.n least in
    let p : Board = c.in-Some-split_position.cut.0 in
    let none = look_absent c.find.result (list_any (same_board p) c.self.inside.names ≡ false) c.find.ensures.none (sym c.is_some.ensures ∙ c.if-is_some.false) in
    let apart : ¬ Contains (c.self.inside.names ++ others) p = λ there. elim (Contains-append_cases c.self.inside.names others p there) [ inl here ↦ any_absent c.self.inside.names p none here | inr here ↦ absent here ] in
    rw (← c.self.view_is)
    (new_read others (record { left = c.self.inside.left.now; at = c.self.inside.at; named = c.self.inside.names; by_number = c.self.inside.by_number }) c.in-Some.n c.in-Some.rest.now (ap (λ (s : Spot). s.by_number) c.self.view_is ∙ c.requires) small most past c.in-Some.ensures.some.1
    (record { left = c.in-Some-split_position.cut.1.now; at = c.self.inside.at + 21; named = c.add.new.self; by_number = c.self.inside.by_number }) p
    c.in-Some-split_position.ensures.some.0 apart c.in-Some-split_position.ensures.some.1 refl c.in_ok-add.ensures.names refl)

pub returns-clause-taken : goal.returns-clause-taken
returns-clause-taken c others there =
    let bits = c.in-Some.ensures.some.0 in
    let not_last = c.if-n.false in
    let not_above = c.if-n-count.false in
    let not_below = c.if-n-count-2.false in
    let few = c.len-count.ensures.named.few in
    let count = c.len-count.ensures.value in
    let small : c.in-Some.n + 1 < 2 ^ 32 = omega arith in
    let most : c.in-Some.n ≤ length c.self.inside.names = omega arith in
    let least : length c.self.inside.names ≤ c.in-Some.n = omega arith in
    let past = slice_get_past c.self.inside.names c.in-Some.n least in
    let p : Board = c.in-Some-split_position.cut.0 in
    rw (← c.self.view_is)
    (new_fails others (record { left = c.self.inside.left.now; at = c.self.inside.at; named = c.self.inside.names; by_number = c.self.inside.by_number }) c.in-Some.n c.in-Some.rest.now (ap (λ (s : Spot). s.by_number) c.self.view_is ∙ c.requires) small most past c.in-Some.ensures.some.1
    (λ q rest lawful absent spelled.
    let same = one_position q p rest c.in-Some-split_position.cut.1.now lawful c.in-Some-split_position.ensures.some.0 (sym spelled ∙ c.in-Some-split_position.ensures.some.1) in
    absent (Contains-append_right c.self.inside.names others q (subst (Contains others) (sym same.0) there))))
