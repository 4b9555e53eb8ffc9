-- The words that the program is called with: PATH N SIDE. PATH is the journal's and not empty, N the
-- number of a root, decimal digits without sign and without leading zeros, SIDE `black` or `white`.
use Rattle.std.specs.Prelude.{◌≡◌, ◌≢◌, ℕ, ◌+◌, ◌<◌, ◌≤◌, List, [], ◌∷◌, ◌++◌, length, take, decimal}
use Rattle.bench_edges.specs.Words.{IsRootNumber}
use Rattle.certificate_text.specs.Lines.{side_word}
use Rattle.draughts_board.specs.declared.pieces.Side.{Side}

-- the words ask for a play of the side from the root with this number
pub record Says (words : List (List ℕ)) (root : ℕ) (side : Side) : Type 0 where
  pub path : List ℕ
  pub spelling : words ≡ path ∷ decimal root ∷ side_word side ∷ []
  pub named : path ≢ []
  pub number : IsRootNumber root

-- words that such words begin with
abbrev pub BeginsRequest : List (List ℕ) → Type 0
BeginsRequest front =
    (rest : List (List ℕ)) × ((root : ℕ) × ((side : Side) × Says (front ++ rest) root side))

-- The words ask for none, and this is the place that shows it, from 0: what stands before it begins
-- such words, and with the word at that place nothing does. Where there is no such word, one is
-- missing.
pub record IsRefusedAt (words : List (List ℕ)) (at : ℕ) : Type 0 where
  pub no_request : (root : ℕ) (side : Side) → ¬ Says words root side
  pub within : at ≤ length words
  pub good_before : BeginsRequest (take at words)
  pub bad_with_it : at < length words → ¬ BeginsRequest (take (at + 1) words)
