use Rattle.std.proofs.Common.{◌≡◌, ◌+◌, ◌-◌, ◌*◌, true, length, slice_index_or, List, ℕ, arith}
use Rattle.std.specs.Char.{is_ascii_digit}
use Rattle.pdn_text.proofs.PairWords.{IsSign, pair_of_four, pair_of_five}
use Rattle.pdn_text.proofs.words.pair_of.Goals as goal

pub returns-in-len4-2 : goal.returns-in-len4-2
returns-in-len4-2 c =
    let word : List ℕ = c.args.word.now in
    let least = c.in-len4.len_at_least in
    let below = c.in-len4.len_below in
    let ea : is_ascii_digit (slice_index_or word 0 0) ≡ true = cc in
    let eb : is_ascii_digit (slice_index_or word 1 0) ≡ true = cc in
    let es : IsSign (slice_index_or word 2 0) = cc in
    let ec : is_ascii_digit (slice_index_or word 3 0) ≡ true = cc in
    rw c.pair_number-in-len4-2.ensures (pair_of_four word (omega (arith, least, below)) ea eb es ec)

pub returns-in-len5 : goal.returns-in-len5
returns-in-len5 c =
    let word : List ℕ = c.args.word.now in
    let least = c.in-len5.len_at_least in
    let below = c.in-len5.len_below in
    let ea : is_ascii_digit (slice_index_or word 0 0) ≡ true = cc in
    let eb : is_ascii_digit (slice_index_or word 1 0) ≡ true = cc in
    let es : IsSign (slice_index_or word 2 0) = cc in
    let ec : is_ascii_digit (slice_index_or word 3 0) ≡ true = cc in
    let ed : is_ascii_digit (slice_index_or word 4 0) ≡ true = cc in
    rw (c.pair_number-in-len5.ensures, c.pair_number-in-len5-2.ensures) (pair_of_five word (omega (arith, least, below)) ea eb es ec ed)
