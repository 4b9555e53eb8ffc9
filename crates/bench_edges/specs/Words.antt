-- The words that the program is called with, as the manual has them.
--
--   PATH solve [--workers N] [--depth N] [--pieces K] [--plies N] [--budget N] [--lease N]
--   PATH report
--   PATH certify N
--   PATH verify
--   PATH learn
--   PATH table K
--   PATH table-check
--   PATH generate SEED COUNT
--
-- PATH is the journal's and not empty. The options follow in any order, each at most once, and each
-- with its number in the next word. K is 2 or 3. A number is decimal digits without sign and
-- without leading zeros.
use Rattle.std.specs.Prelude.{◌≡◌, ◌≢◌, ◌⊎◌, ℕ, ◌+◌, ◌<◌, ◌≤◌, List, [], ◌∷◌, ◌++◌, length, take, map, slice_index_or, Option, Some, None, unwrap_or, codes, decimal, if◌then◌else◌}
use Rattle.std.specs.Borrow.{Bor}
use Rattle.std.specs.List.{flat_map}
use Rattle.std.specs.Str.{bytes_eq}
use Rattle.strategy_certificate.specs.Tables.{IsTableSize}
use Rattle.bench_edges.specs.declared.words.Command.{Command}
use Rattle.bench_edges.specs.declared.words.Command.TheVariants.{Solve, Report, Certify, Verify, Learn, MakeTable, TableCheck, Generate}
use Rattle.bench_edges.specs.declared.words.Options.{Options}
use Rattle.bench_edges.specs.declared.words.SolveOption.{SolveOption}
use Rattle.bench_edges.specs.declared.words.SolveOption.TheVariants.{Workers, Depth, Pieces, Plies, Budget, Lease}
use Rattle.bench_edges.specs.declared.words.TheConstants.{DEFAULT_WORKERS, LEAST_WORKERS, MOST_WORKERS, DEFAULT_DEPTH, MOST_DEPTH, DEFAULT_PIECES, LEAST_PIECES, MOST_PIECES, DEFAULT_PLIES, MOST_PLIES, DEFAULT_BUDGET, MOST_BUDGET, DEFAULT_LEASE, LEAST_LEASE, MOST_LEASE, LEAST_ROOT, MOST_ROOT, MOST_SEED, LEAST_COUNT, MOST_COUNT}

-- the bytes of each word
abbrev pub texts : List (Bor (List ℕ)) → List (List ℕ)
texts words = map (λ (word : Bor (List ℕ)). word.now) words

-- the word that names an option of `solve`
abbrev pub option_name : SolveOption → List ℕ
option_name Workers = codes "--workers"
option_name Depth = codes "--depth"
option_name Pieces = codes "--pieces"
option_name Plies = codes "--plies"
option_name Budget = codes "--budget"
option_name Lease = codes "--lease"

-- the least number that it takes, the most, and the one that stands where none is given
abbrev pub least_of : SolveOption → ℕ
least_of Workers = LEAST_WORKERS
least_of Depth = 0
least_of Pieces = LEAST_PIECES
least_of Plies = 0
least_of Budget = 0
least_of Lease = LEAST_LEASE

abbrev pub most_of : SolveOption → ℕ
most_of Workers = MOST_WORKERS
most_of Depth = MOST_DEPTH
most_of Pieces = MOST_PIECES
most_of Plies = MOST_PLIES
most_of Budget = MOST_BUDGET
most_of Lease = MOST_LEASE

abbrev pub default_of : SolveOption → ℕ
default_of Workers = DEFAULT_WORKERS
default_of Depth = DEFAULT_DEPTH
default_of Pieces = DEFAULT_PIECES
default_of Plies = DEFAULT_PLIES
default_of Budget = DEFAULT_BUDGET
default_of Lease = DEFAULT_LEASE

-- the option takes the number
abbrev pub Takes : SolveOption → ℕ → Type 0
Takes option n = (least_of option ≤ n) × (n ≤ most_of option)

-- an option with the number that it is given
pub record Setting : Type 0 where
  pub name : List ℕ
  pub value : ℕ

-- the two words that say it
abbrev pub setting_words : Setting → List (List ℕ)
setting_words s = s.name ∷ decimal s.value ∷ []

-- it is an option that there is, with a number that the option takes
abbrev pub IsSetting : Setting → Type 0
IsSetting s = (option : SolveOption) × ((s.name ≡ option_name option) × Takes option s.value)

-- none of these has the name
abbrev pub IsNew : List ℕ → List Setting → Type 0
IsNew name [] = Unit {0}
IsNew name (s ∷ rest) = (s.name ≢ name) × IsNew name rest

-- options that there are, each at most once
abbrev pub AreSettings : List Setting → Type 0
AreSettings [] = Unit {0}
AreSettings (s ∷ rest) = IsSetting s × IsNew s.name rest × AreSettings rest

-- the number that the option with this name is given, if it is
abbrev pub number_for : List ℕ → List Setting → Option ℕ
number_for name [] = None
number_for name (s ∷ rest) = if bytes_eq s.name name then Some s.value else number_for name rest

-- the number of an option: the one that it is given, or its default
abbrev pub number_of : SolveOption → List Setting → ℕ
number_of option given = unwrap_or (number_for (option_name option) given) (default_of option)

-- `solve` on a path, with these settings
abbrev pub solve_words : List ℕ → List Setting → List (List ℕ)
solve_words path given = path ∷ codes "solve" ∷ flat_map setting_words given

-- The words say `solve` with these options. An option that is not given has its default.
pub record SaysSolve (words : List (List ℕ)) (options : Options) : Type 0 where
  pub path : List ℕ
  pub given : List Setting
  pub spelling : words ≡ solve_words path given
  pub named : path ≢ []
  pub settings : AreSettings given
  pub workers : options.workers ≡ number_of Workers given
  pub depth : options.depth ≡ number_of Depth given
  pub pieces : options.pieces ≡ number_of Pieces given
  pub plies : options.plies ≡ number_of Plies given
  pub budget : options.budget ≡ number_of Budget given
  pub lease : options.lease ≡ number_of Lease given

-- the place of an option among the numbers that are read
abbrev pub place_of : SolveOption → ℕ
place_of Workers = 0
place_of Depth = 1
place_of Pieces = 2
place_of Plies = 3
place_of Budget = 4
place_of Lease = 5

-- The words say `solve`, and these are the numbers that its options are given, each at its option's
-- place; none stands where none is given.
pub record AreGiven (words : List (List ℕ)) (numbers : List (Option ℕ)) : Type 0 where
  pub path : List ℕ
  pub given : List Setting
  pub spelling : words ≡ solve_words path given
  pub named : path ≢ []
  pub settings : AreSettings given
  pub placed : (option : SolveOption) →
      slice_index_or numbers (place_of option) None ≡ number_for (option_name option) given

-- The words say a command by its name and a number.
pub record SaysNumbered (name : List ℕ) (words : List (List ℕ)) (n : ℕ) : Type 0 where
  pub path : List ℕ
  pub spelling : words ≡ path ∷ name ∷ decimal n ∷ []
  pub named : path ≢ []

-- The words say `generate` with a seed and a count.
pub record SaysGenerate (words : List (List ℕ)) (seed count : ℕ) : Type 0 where
  pub path : List ℕ
  pub spelling : words ≡ path ∷ codes "generate" ∷ decimal seed ∷ decimal count ∷ []
  pub named : path ≢ []

-- The words say a command by its name alone.
pub record SaysPlain (name : List ℕ) (words : List (List ℕ)) : Type 0 where
  pub path : List ℕ
  pub spelling : words ≡ path ∷ name ∷ []
  pub named : path ≢ []

-- a root has a number from the first to the last that a journal can hold
abbrev pub IsRootNumber : ℕ → Type 0
IsRootNumber n = (LEAST_ROOT ≤ n) × (n ≤ MOST_ROOT)

-- the seed and the count of `generate`
abbrev pub AreGenerated : ℕ → ℕ → Type 0
AreGenerated seed count = (seed ≤ MOST_SEED) × ((LEAST_COUNT ≤ count) × (count ≤ MOST_COUNT))

-- the words say this command: they are in the grammar
abbrev pub Says : List (List ℕ) → Command → Type 0
Says words (Solve options) = SaysSolve words options
Says words Report = SaysPlain (codes "report") words
Says words (Certify root) = SaysNumbered (codes "certify") words root × IsRootNumber root
Says words Verify = SaysPlain (codes "verify") words
Says words Learn = SaysPlain (codes "learn") words
Says words (MakeTable pieces) = SaysNumbered (codes "table") words pieces × IsTableSize pieces
Says words TableCheck = SaysPlain (codes "table-check") words
Says words (Generate seed count) = SaysGenerate words seed count × AreGenerated seed count

-- the numbers that the command names are within their limits
abbrev pub IsWithinLimits : Command → Type 0
IsWithinLimits (Solve options) =
    Takes Workers options.workers × ((options.depth ≤ MOST_DEPTH) × ((options.plies ≤ MOST_PLIES)
    × (IsTableSize options.pieces × ((options.budget ≤ MOST_BUDGET) × Takes Lease options.lease))))
IsWithinLimits Report = Unit {0}
IsWithinLimits (Certify root) = IsRootNumber root
IsWithinLimits Verify = Unit {0}
IsWithinLimits Learn = Unit {0}
IsWithinLimits (MakeTable pieces) = IsTableSize pieces
IsWithinLimits TableCheck = Unit {0}
IsWithinLimits (Generate seed count) = AreGenerated seed count

-- the commands that are said by their name alone
abbrev pub IsPlain : Command → Type 0
IsPlain (Solve options) = ⊥
IsPlain Report = Unit {0}
IsPlain (Certify root) = ⊥
IsPlain Verify = Unit {0}
IsPlain Learn = Unit {0}
IsPlain (MakeTable pieces) = ⊥
IsPlain TableCheck = Unit {0}
IsPlain (Generate seed count) = ⊥

-- words that some command's words begin with
abbrev pub BeginsCommand : List (List ℕ) → Type 0
BeginsCommand front = (rest : List (List ℕ)) × (command : Command) × Says (front ++ rest) command

-- The words are not in the grammar, and this is the place that shows it: what stands before it
-- begins some command, and with the word at that place nothing does. Where there is no such word,
-- one is missing.
pub record IsRefusedAt (words : List (List ℕ)) (at : ℕ) : Type 0 where
  pub no_command : (command : Command) → ¬ Says words command
  pub within : at ≤ length words
  pub good_before : BeginsCommand (take at words)
  pub bad_with_it : at < length words → ¬ BeginsCommand (take (at + 1) words)
