-- The words that the program is called with.
--
--   PATH roots [--plies P] [--json]
--   PATH line N [--plies P]
--   PATH tree N [--plies P] [--nodes M] [--json]
--   PATH page [N] [--nodes M]
--   PATH records [--json]
--
-- PATH is the journal's and not empty, N the number of a root. Numbers are decimal digits without sign and
-- without leading zeros.
use Rattle.std.specs.Prelude.{◌≡◌, ◌≢◌, ℕ, ◌+◌, ◌<◌, ◌≤◌, List, [], ◌∷◌, ◌++◌, Bool, true, false, Option, Some, None, IfSome, length, take, drop, codes, decimal}
use Rattle.bench_edges.specs.Words.{IsRootNumber}
use Rattle.view_words.specs.declared.requests.Kind.{Kind}
use Rattle.view_words.specs.declared.requests.Kind.TheVariants as kind
use Rattle.view_words.specs.declared.requests.Request.{Request}
use Rattle.view_words.specs.declared.requests.Request.TheVariants.{Roots, Line, Tree, Page, Records}
use Rattle.view_words.specs.declared.requests.TheConstants.{MOST_NODES, MOST_PLAYED, MOST_PLIES, MOST_VARIED}

-- the word that names what is shown
abbrev pub kind_word : Kind → List ℕ
kind_word kind.Roots = codes "roots"
kind_word kind.Line = codes "line"
kind_word kind.Tree = codes "tree"
kind_word kind.Page = codes "page"
kind_word kind.Records = codes "records"

abbrev pub kind_of : Request → Kind
kind_of (Roots asked) = kind.Roots
kind_of (Line asked) = kind.Line
kind_of (Tree asked) = kind.Tree
kind_of (Page asked) = kind.Page
kind_of (Records asked) = kind.Records

-- a number, if it is given
abbrev pub number_words : Option ℕ → List (List ℕ)
number_words None = []
number_words (Some n) = decimal n ∷ []

-- an option and its number, if it is given
abbrev pub option_words : List ℕ → Option ℕ → List (List ℕ)
option_words name None = []
option_words name (Some n) = name ∷ decimal n ∷ []

-- a word, if it is said
abbrev pub flag_words : List ℕ → Bool → List (List ℕ)
flag_words name false = []
flag_words name true = name ∷ []

-- the words behind the one that names what is shown
abbrev pub behind : Request → List (List ℕ)
behind (Roots asked) = option_words (codes "--plies") asked.plies ++ flag_words (codes "--json") asked.json
behind (Line asked) = decimal asked.root ∷ option_words (codes "--plies") asked.plies
behind (Tree asked) =
    decimal asked.root ∷ (option_words (codes "--plies") asked.plies
    ++ (option_words (codes "--nodes") asked.nodes ++ flag_words (codes "--json") asked.json))
behind (Page asked) = number_words asked.root ++ option_words (codes "--nodes") asked.nodes
behind (Records asked) = flag_words (codes "--json") asked.json

-- the words behind the path
abbrev pub spelled : Request → List (List ℕ)
spelled request = kind_word (kind_of request) ∷ behind request

-- a path that is not empty stands in front, and then the word that names what is shown
abbrev pub IsCalled : Kind → List (List ℕ) → Type 0
IsCalled k words =
    (path : List ℕ) × ((path ≢ []) × (words ≡ path ∷ kind_word k ∷ drop 2 words))

-- the numbers in it are within their limits
abbrev pub IsWithin : Request → Type 0
IsWithin (Roots asked) = IfSome asked.plies (λ n. n ≤ MOST_PLAYED)
IsWithin (Line asked) = IsRootNumber asked.root × IfSome asked.plies (λ n. n ≤ MOST_VARIED)
IsWithin (Tree asked) =
    IsRootNumber asked.root
    × (IfSome asked.plies (λ n. n ≤ MOST_PLIES) × IfSome asked.nodes (λ n. n ≤ MOST_NODES))
IsWithin (Page asked) = IfSome asked.root IsRootNumber × IfSome asked.nodes (λ n. n ≤ MOST_NODES)
IsWithin (Records asked) = Unit {0}

-- the words ask for this
pub record Says (words : List (List ℕ)) (request : Request) : Type 0 where
  pub path : List ℕ
  pub spelling : words ≡ path ∷ spelled request
  pub named : path ≢ []
  pub within : IsWithin request

-- words that such words begin with
abbrev pub BeginsRequest : List (List ℕ) → Type 0
BeginsRequest front =
    (rest : List (List ℕ)) × ((request : Request) × Says (front ++ rest) request)

-- The words ask for nothing, and this is the place that shows it, from 0: what stands before it begins
-- such words, and with the word at that place nothing does. Where there is no such word, one is missing.
pub record IsRefusedAt (words : List (List ℕ)) (at : ℕ) : Type 0 where
  pub no_request : (request : Request) → ¬ Says words request
  pub within : at ≤ length words
  pub good_before : BeginsRequest (take at words)
  pub bad_with_it : at < length words → ¬ BeginsRequest (take (at + 1) words)
