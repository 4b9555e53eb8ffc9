use Rattle.std.proofs.Common.{◌≡◌, ◌∙◌, nat_eq, true, false, [], ◌++◌, map, length, take, drop, ap, arith, refl, append-nil, length-take}
use Rattle.draughts_board.specs.Geometry.{is_square}
use Rattle.pdn_text.specs.Grammar.{digits_len}
use Rattle.pdn_text.specs.Words.{number}
use Rattle.pdn_text.proofs.WordFields.{later, fields_at, field_digits, later_square, path_fourteen, path_bad, path_ends, not_empty, empty_list}
use Rattle.pdn_text.proofs.words.path_of.Goals as goal

pub square_of-requires : goal.square_of-requires
square_of-requires c =
    let field : c.split_at.result.0.now ≡ take (digits_len c.args.word.now) c.args.word.now = cc in
    rw field (field_digits c.args.word.now)

pub returns-in_err-first : goal.returns-in_err-first
returns-in_err-first c =
    let word = c.args.word.now in
    let field : c.split_at.result.0.now ≡ take (digits_len word) word = cc in
    let bad : is_square (number (take (digits_len word) word)) ≡ false = rw (← field) (c.in_err-first.ensures.none) in
    let none = path_bad word [] (number (take (digits_len word) word)) (map number (later (drop (digits_len word) word))) (ap (map number) (fields_at word)) bad in
    cc

pub returns-then-len-eq13 : goal.returns-then-len-eq13
returns-then-len-eq13 c =
    let front = take c.loop-rest.len c.loop-rest.squares in
    let test : false ≡ nat_eq (length c.loop-rest.rest.now) 0 = cc in
    let some = not_empty (length c.loop-rest.rest.now) test in
    let thirteen : length front ≡ 13 = omega (arith, length-take c.loop-rest.len c.loop-rest.squares) in
    let none = path_fourteen c.args.word.now front c.loop-rest.rest.now c.loop-rest.invariant.parts thirteen some in
    cc

pub square_of-requires-in-loop-rest : goal.square_of-requires-in-loop-rest
square_of-requires-in-loop-rest c =
    let more = c.split_at-in-loop-rest.result.1.now in
    let field : c.split_at-in-loop-rest-2.result.0.now ≡ take (digits_len more) more = cc in
    rw field (field_digits more)

pub returns-in_err-squares : goal.returns-in_err-squares
returns-in_err-squares c =
    let rest = c.loop-rest.rest.now in
    let more = c.split_at-in-loop-rest.result.1.now in
    let field : c.split_at-in-loop-rest-2.result.0.now ≡ take (digits_len more) more = cc in
    let bad : is_square (number (take (digits_len more) more)) ≡ false = rw (← field) (c.in_err-squares.ensures.none) in
    let test : false ≡ nat_eq (length rest) 0 = cc in
    let square = later_square rest more (not_empty (length rest) test) c.split_at-in-loop-rest.ensures.back in
    let front = take c.loop-rest.len c.loop-rest.squares in
    let none = path_bad c.args.word.now front (number (take (digits_len more) more)) (map number (later (drop (digits_len more) more))) (c.loop-rest.invariant.parts ∙ ap (λ x. front ++ x) square) bad in
    cc

pub returns : goal.returns
returns c =
    let front = take c.loop-rest.len c.loop-rest.squares in
    let test : true ≡ nat_eq (length c.loop-rest.rest.now) 0 = cc in
    let last : map number (later c.loop-rest.rest.now) ≡ [] = rw (empty_list c.loop-rest.rest.now test) refl in
    let long : length front ≡ c.loop-rest.len = omega (arith, length-take c.loop-rest.len c.loop-rest.squares) in
    path_ends c.args.word.now front c.of.result (c.loop-rest.invariant.parts ∙ ap (λ x. front ++ x) last ∙ append-nil front) c.loop-rest.invariant.squares
    (omega arith) (omega arith) c.of.ensures.none.0 c.of.ensures.none.1 c.of.ensures.some
