-- Two numbers with a sign between, and the number of a move, at the front of a text.
use Rattle.std.specs.Prelude.{ℕ, ◌+◌, ◌-◌, ◌*◌, Bool, ◌&&◌, ◌==◌, nat_lt, List, length, drop, slice_index, Option, Some, None, if◌then◌else◌}
use Rattle.std.specs.Char.{is_ascii_digit}
use Rattle.archive_words.specs.declared.pairs.Numbered.{Numbered}
use Rattle.archive_words.specs.declared.pairs.Pair.{Pair}
use Rattle.archive_words.specs.declared.runs.Join.{Join}
use Rattle.archive_words.specs.declared.runs.Join.TheVariants.{Dash, Cross}

-- this byte stands at this place, from 0
abbrev pub has_at : List ℕ → ℕ → ℕ → Bool
has_at text place byte = nat_lt place (length text) && slice_index text place == byte

abbrev pub has_digit_at : List ℕ → ℕ → Bool
has_digit_at text place = nat_lt place (length text) && is_ascii_digit (slice_index text place)

-- how many digits the number at the front has, two at most
abbrev pub digits_of : List ℕ → ℕ
digits_of text = if has_digit_at text 0 then (if has_digit_at text 1 then 2 else 1) else 0

-- the number in its first digits, so many
abbrev pub number_of : ℕ → List ℕ → ℕ
number_of count text =
    if count == 2 then (slice_index text 0 - 48) * 10 + (slice_index text 1 - 48)
    else slice_index text 0 - 48

-- the number of one digit or two at the front, and what stands behind it
abbrev pub short_number : List ℕ → Option (ℕ × List ℕ)
short_number text =
    if digits_of text == 0 then None
    else Some (number_of (digits_of text) text, drop (digits_of text) text)

-- the sign at the front, `-` or `x`, and what stands behind it
abbrev pub join_at : List ℕ → Option (Join × List ℕ)
join_at text =
    if has_at text 0 45 then Some (Dash, drop 1 text)
    else if has_at text 0 120 then Some (Cross, drop 1 text)
    else None

-- a pair of `count` bytes ends here, with a blank
abbrev pub pair_ended : ℕ → ℕ → Join → Option (ℕ × List ℕ) → Option Pair
pair_ended count first join None = None
pair_ended count first join (Some (second, rest)) =
    if has_at rest 0 32
    then Some (record { first = first; join = join; second = second; len = count - length (drop 1 rest) })
    else None

abbrev pub pair_joined : ℕ → ℕ → Option (Join × List ℕ) → Option Pair
pair_joined count first None = None
pair_joined count first (Some (join, rest)) = pair_ended count first join (short_number rest)

abbrev pub pair_begun : ℕ → Option (ℕ × List ℕ) → Option Pair
pair_begun count None = None
pair_begun count (Some (first, rest)) = pair_joined count first (join_at rest)

-- two numbers with a sign between and a blank behind them; its length is that up to what is left
abbrev pub pair_at : List ℕ → Option Pair
pair_at text = pair_begun (length text) (short_number text)

abbrev pub number_ended : ℕ → Option (ℕ × List ℕ) → Option Numbered
number_ended count None = None
number_ended count (Some (number, rest)) =
    if has_at rest 0 46 && has_at rest 1 32 && nat_lt 0 number
    then Some (record { number = number; len = count - length (drop 2 rest) })
    else None

-- a number from 1 with a dot and a blank behind it
abbrev pub number_at : List ℕ → Option Numbered
number_at text = number_ended (length text) (short_number text)
