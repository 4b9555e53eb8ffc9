-- The hash and the word by whose digits a position is looked up. Nobody has to believe it: whatever it is, a look-up tells what stands there.
use Rattle.std.specs.Prelude.{ℕ, zero, suc, ◌+◌, ◌*◌, ◌/◌, ◌%◌, ◌^◌, Bool, nat_le, bit_and, bit_xor, slice_index}
use Rattle.draughts_board.specs.Board.{Board}
use Rattle.draughts_board.specs.Masks.{masks_of}
use Rattle.position_rows.specs.declared.words.TheConstants.{BLACK_KEY, FACTOR, WHITE_KEY}

-- two masks behind each other
abbrev pub pair_of : ℕ → ℕ → ℕ
pair_of men kings = (men + (kings * 4294967296) % 2 ^ 64) % 2 ^ 64

-- both halves of the product of two numbers of 64 bits
abbrev pub folded : ℕ → ℕ
folded product = bit_xor (bit_and product 18446744073709551615) (product / 2 ^ 64)

-- the hash of a board: its pairs of masks, each changed by a constant, multiplied and folded
unfoldable pub hash_of : Board → ℕ
hash_of p = folded
    ((bit_xor (pair_of (slice_index (masks_of p) 0) (slice_index (masks_of p) 1)) BLACK_KEY
    * bit_xor (pair_of (slice_index (masks_of p) 2) (slice_index (masks_of p) 3)) WHITE_KEY) % 2 ^ 128)

-- the four masks of a board behind each other, times an odd number
unfoldable pub word_of : Board → ℕ
word_of p =
    ((pair_of (slice_index (masks_of p) 0) (slice_index (masks_of p) 1)
    + (pair_of (slice_index (masks_of p) 2) (slice_index (masks_of p) 3) * 18446744073709551616) % 2 ^ 128)
    % 2 ^ 128 * FACTOR) % 2 ^ 128

-- the first digit of a word: the highest of 128 bits
abbrev pub digit : ℕ → Bool
digit word = nat_le 170141183460469231731687303715884105728 word

-- the digits behind it
abbrev pub next_word : ℕ → ℕ
next_word word = (word * 2) % 2 ^ 128

-- the digits of a word behind the first n
abbrev pub word_behind : ℕ → ℕ → ℕ
word_behind word zero = word
word_behind word (suc n) = next_word (word_behind word n)
