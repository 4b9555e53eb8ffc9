-- The words that the program is called with: `shorten` or `which`, and the paths of two journals, which are not empty and differ.
use Rattle.std.specs.Prelude.{◌≡◌, ◌≢◌, ℕ, ◌+◌, ◌<◌, ◌≤◌, List, [], ◌∷◌, ◌++◌, length, take, codes}
use Rattle.journal_shorten.specs.declared.words.Task.{Task}
use Rattle.journal_shorten.specs.declared.words.Task.TheVariants.{Shorten, Which}

abbrev pub task_word : Task → List ℕ
task_word Shorten = codes "shorten"
task_word Which = codes "which"

-- the words ask for the task
pub record Says (words : List (List ℕ)) (task : Task) : Type 0 where
  pub old : List ℕ
  pub new : List ℕ
  pub spelling : words ≡ task_word task ∷ old ∷ new ∷ []
  pub old_named : old ≢ []
  pub new_named : new ≢ []
  pub unlike : new ≢ old

-- words that such words begin with
abbrev pub BeginsRequest : List (List ℕ) → Type 0
BeginsRequest front = (rest : List (List ℕ)) × ((task : Task) × Says (front ++ rest) task)

-- The words ask for none, and this is the place that shows it, from 0: what stands before it begins such words, and with the
-- word at that place nothing does. Where there is no such word, one is missing.
pub record IsRefusedAt (words : List (List ℕ)) (at : ℕ) : Type 0 where
  pub no_request : (task : Task) → ¬ Says words task
  pub within : at ≤ length words
  pub good_before : BeginsRequest (take at words)
  pub bad_with_it : at < length words → ¬ BeginsRequest (take (at + 1) words)
