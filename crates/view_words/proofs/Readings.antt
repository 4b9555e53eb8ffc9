-- What each command's words ask for, and where others are refused, by what the code reads of them.
use Rattle.std.proofs.Common.{◌≡◌, ◌≢◌, ◌+◌, ℕ, List, [], ◌∷◌, ◌++◌, Bool, true, false, Option, Some, refl, ◌∙◌, ap, arith, drop, codes, decimal}
use Rattle.std.proofs.lemmas.List.{append-nil}
use Rattle.std.specs.Prelude.{IfNone, IfSome}
use Rattle.bench_edges.specs.declared.words.TheConstants.{LEAST_ROOT, MOST_ROOT}
use Rattle.view_words.specs.Places.{HasNoNumber, LacksNumber, ReadsNumber, ReadsOption}
use Rattle.view_words.specs.Words.{IsCalled, IsRefusedAt, Says, flag_words, number_words, option_words}
use Rattle.view_words.specs.declared.requests.Kind.TheVariants as kind
use Rattle.view_words.specs.declared.requests.Request.TheVariants.{Roots, Line, Tree, Page, Records}
use Rattle.view_words.specs.declared.requests.TheConstants.{MOST_NODES, MOST_PLAYED, MOST_PLIES, MOST_VARIED}
use Rattle.view_words.proofs.CommandWords.{Json, Nodes, NodesJson, PliesNodesJson, Varied, end_never, nodes_json_never, number_never, plies_json_never, plies_never}
use Rattle.view_words.proofs.Languages.{End}
use Rattle.view_words.proofs.Passages.{Passage, behind_flag, behind_found, behind_number, behind_option, no_number, no_option, said_of_number, said_of_option, start, too_many}
use Rattle.view_words.proofs.WordLemmas.{says_of}

-- the words that are left of a flag and of an option are none
flag_alone : (said : Bool) → flag_words (codes "--json") said ++ [] ≡ flag_words (codes "--json") said
flag_alone said = append-nil (flag_words (codes "--json") said)

option_alone : (name : List ℕ) (given : Option ℕ) → option_words name given ++ [] ≡ option_words name given
option_alone name given = append-nil (option_words name given)

-- ---- roots

module _ (words : List (List ℕ)) (called : IsCalled kind.Roots words) where
  pub roots_plies : LacksNumber (codes "--plies") MOST_PLAYED (drop 2 words) → (refusal : ℕ) → refusal ≡ 3 → IsRefusedAt words refusal
  roots_plies lacks refusal is = no_option words Json 2 _ (codes "--plies") MOST_PLAYED (start words kind.Roots called) tt plies_json_never lacks refusal is

  module _ (plies : Option ℕ) (p : ℕ) (read : ReadsOption (codes "--plies") MOST_PLAYED (drop 2 words) plies) (some : IfSome plies (λ n. p ≡ 2 + 2)) (none : IfNone plies (p ≡ 2))
      (json : Bool) (q : ℕ) (stands : json ≡ true → drop p words ≡ codes "--json" ∷ drop (p + 1) words) (absent : json ≡ false → (rest : List (List ℕ)) → drop p words ≢ codes "--json" ∷ rest)
      (json_said : json ≡ true → q ≡ p + 1) (json_unsaid : json ≡ false → q ≡ p) where
    roots_read : Passage words End q (λ rest. option_words (codes "--plies") plies ++ (flag_words (codes "--json") json ++ rest))
    roots_read =
        behind_flag words End p _ (codes "--json") (behind_option words Json 2 _ (codes "--plies") MOST_PLAYED (start words kind.Roots called) tt plies_json_never plies read p some none) tt
        (end_never (codes "--json")) json stands absent q json_said json_unsaid

    pub roots_more : drop q words ≢ [] → (refusal : ℕ) → refusal ≡ q → IsRefusedAt words refusal
    roots_more more refusal is = too_many words q _ roots_read more refusal is

    pub roots_said : drop q words ≡ [] → Says words (Roots (record { plies = plies; json = json }))
    roots_said end =
        says_of kind.Roots words called (Roots (record { plies = plies; json = json })) refl (said_of_option (codes "--plies") MOST_PLAYED (drop 2 words) plies read)
        (roots_read.spelled [] end ∙ ap (λ (l : List (List ℕ)). option_words (codes "--plies") plies ++ l) (flag_alone json))

-- ---- lines

module _ (words : List (List ℕ)) (called : IsCalled kind.Line words) where
  pub line_rootless : HasNoNumber LEAST_ROOT MOST_ROOT (drop 2 words) → (refusal : ℕ) → refusal ≡ 2 → IsRefusedAt words refusal
  line_rootless other refusal is = no_number words Varied 2 _ LEAST_ROOT MOST_ROOT (start words kind.Line called) (omega arith) tt other refusal is

  module _ (root : ℕ) (rooted : ReadsNumber LEAST_ROOT MOST_ROOT (drop 2 words) (Some root)) where
    line_root : Passage words Varied 3 (λ rest. decimal root ∷ rest)
    line_root = behind_number words Varied 2 _ LEAST_ROOT MOST_ROOT (start words kind.Line called) root rooted

    pub line_plies : LacksNumber (codes "--plies") MOST_VARIED (drop 3 words) → (refusal : ℕ) → refusal ≡ 4 → IsRefusedAt words refusal
    line_plies lacks refusal is = no_option words End 3 _ (codes "--plies") MOST_VARIED line_root tt (end_never (codes "--plies")) lacks refusal is

    module _ (plies : Option ℕ) (p : ℕ) (read : ReadsOption (codes "--plies") MOST_VARIED (drop 3 words) plies) (some : IfSome plies (λ n. p ≡ 3 + 2)) (none : IfNone plies (p ≡ 3)) where
      line_read : Passage words End p (λ rest. decimal root ∷ (option_words (codes "--plies") plies ++ rest))
      line_read = behind_option words End 3 _ (codes "--plies") MOST_VARIED line_root tt (end_never (codes "--plies")) plies read p some none

      pub line_more : drop p words ≢ [] → (refusal : ℕ) → refusal ≡ p → IsRefusedAt words refusal
      line_more more refusal is = too_many words p _ line_read more refusal is

      pub line_said : drop p words ≡ [] → Says words (Line (record { root = root; plies = plies }))
      line_said end =
          says_of kind.Line words called (Line (record { root = root; plies = plies })) refl
          ((rooted.0, rooted.1.0), said_of_option (codes "--plies") MOST_VARIED (drop 3 words) plies read)
          (line_read.spelled [] end ∙ ap (λ (l : List (List ℕ)). decimal root ∷ l) (option_alone (codes "--plies") plies))

-- ---- trees

module _ (words : List (List ℕ)) (called : IsCalled kind.Tree words) where
  pub tree_rootless : HasNoNumber LEAST_ROOT MOST_ROOT (drop 2 words) → (refusal : ℕ) → refusal ≡ 2 → IsRefusedAt words refusal
  tree_rootless other refusal is = no_number words PliesNodesJson 2 _ LEAST_ROOT MOST_ROOT (start words kind.Tree called) (omega arith) tt other refusal is

  module _ (root : ℕ) (rooted : ReadsNumber LEAST_ROOT MOST_ROOT (drop 2 words) (Some root)) where
    tree_root : Passage words PliesNodesJson 3 (λ rest. decimal root ∷ rest)
    tree_root = behind_number words PliesNodesJson 2 _ LEAST_ROOT MOST_ROOT (start words kind.Tree called) root rooted

    pub tree_plies : LacksNumber (codes "--plies") MOST_PLIES (drop 3 words) → (refusal : ℕ) → refusal ≡ 4 → IsRefusedAt words refusal
    tree_plies lacks refusal is = no_option words NodesJson 3 _ (codes "--plies") MOST_PLIES tree_root tt plies_never lacks refusal is

    module _ (plies : Option ℕ) (p : ℕ) (read_plies : ReadsOption (codes "--plies") MOST_PLIES (drop 3 words) plies) (some_plies : IfSome plies (λ n. p ≡ 3 + 2)) (no_plies : IfNone plies (p ≡ 3)) where
      tree_deep : Passage words NodesJson p (λ rest. decimal root ∷ (option_words (codes "--plies") plies ++ rest))
      tree_deep = behind_option words NodesJson 3 _ (codes "--plies") MOST_PLIES tree_root tt plies_never plies read_plies p some_plies no_plies

      pub tree_nodes : LacksNumber (codes "--nodes") MOST_NODES (drop p words) → (refusal : ℕ) → refusal ≡ p + 1 → IsRefusedAt words refusal
      tree_nodes lacks refusal is = no_option words Json p _ (codes "--nodes") MOST_NODES tree_deep tt nodes_json_never lacks refusal is

      module _ (nodes : Option ℕ) (q : ℕ) (read_nodes : ReadsOption (codes "--nodes") MOST_NODES (drop p words) nodes) (some_nodes : IfSome nodes (λ n. q ≡ p + 2)) (no_nodes : IfNone nodes (q ≡ p))
          (json : Bool) (r : ℕ) (stands : json ≡ true → drop q words ≡ codes "--json" ∷ drop (q + 1) words) (absent : json ≡ false → (rest : List (List ℕ)) → drop q words ≢ codes "--json" ∷ rest)
          (json_said : json ≡ true → r ≡ q + 1) (json_unsaid : json ≡ false → r ≡ q) where
        tree_read : Passage words End r (λ rest. decimal root ∷ (option_words (codes "--plies") plies ++ (option_words (codes "--nodes") nodes ++ (flag_words (codes "--json") json ++ rest))))
        tree_read =
            behind_flag words End q _ (codes "--json") (behind_option words Json p _ (codes "--nodes") MOST_NODES tree_deep tt nodes_json_never nodes read_nodes q some_nodes no_nodes) tt
            (end_never (codes "--json")) json stands absent r json_said json_unsaid

        pub tree_more : drop r words ≢ [] → (refusal : ℕ) → refusal ≡ r → IsRefusedAt words refusal
        tree_more more refusal is = too_many words r _ tree_read more refusal is

        pub tree_said : drop r words ≡ [] → Says words (Tree (record { root = root; plies = plies; nodes = nodes; json = json }))
        tree_said end =
            says_of kind.Tree words called (Tree (record { root = root; plies = plies; nodes = nodes; json = json })) refl (
              (rooted.0, rooted.1.0),
              (said_of_option (codes "--plies") MOST_PLIES (drop 3 words) plies read_plies, said_of_option (codes "--nodes") MOST_NODES (drop p words) nodes read_nodes),
            )
            (tree_read.spelled [] end
            ∙ ap (λ (l : List (List ℕ)). decimal root ∷ (option_words (codes "--plies") plies ++ (option_words (codes "--nodes") nodes ++ l))) (flag_alone json))

-- ---- pages

module _ (words : List (List ℕ)) (called : IsCalled kind.Page words) (root : Option ℕ) (p : ℕ) (rooted : ReadsNumber LEAST_ROOT MOST_ROOT (drop 2 words) root) (some_root : IfSome root (λ n. p ≡ 2 + 1)) (no_root : IfNone root (p ≡ 2)) where
  page_root : Passage words Nodes p (λ rest. number_words root ++ rest)
  page_root =
      behind_found words Nodes 2 _ LEAST_ROOT MOST_ROOT (start words kind.Page called) tt (λ n from to. number_never n (from, to)) root rooted p some_root no_root

  pub page_nodes : LacksNumber (codes "--nodes") MOST_NODES (drop p words) → (refusal : ℕ) → refusal ≡ p + 1 → IsRefusedAt words refusal
  page_nodes lacks refusal is = no_option words End p _ (codes "--nodes") MOST_NODES page_root tt (end_never (codes "--nodes")) lacks refusal is

  module _ (nodes : Option ℕ) (q : ℕ) (read : ReadsOption (codes "--nodes") MOST_NODES (drop p words) nodes) (some : IfSome nodes (λ n. q ≡ p + 2)) (none : IfNone nodes (q ≡ p)) where
    page_read : Passage words End q (λ rest. number_words root ++ (option_words (codes "--nodes") nodes ++ rest))
    page_read = behind_option words End p _ (codes "--nodes") MOST_NODES page_root tt (end_never (codes "--nodes")) nodes read q some none

    pub page_more : drop q words ≢ [] → (refusal : ℕ) → refusal ≡ q → IsRefusedAt words refusal
    page_more more refusal is = too_many words q _ page_read more refusal is

    pub page_said : drop q words ≡ [] → Says words (Page (record { root = root; nodes = nodes }))
    page_said end =
        says_of kind.Page words called (Page (record { root = root; nodes = nodes })) refl
        (said_of_number LEAST_ROOT MOST_ROOT (drop 2 words) root rooted, said_of_option (codes "--nodes") MOST_NODES (drop p words) nodes read)
        (page_read.spelled [] end ∙ ap (λ (l : List (List ℕ)). number_words root ++ l) (option_alone (codes "--nodes") nodes))

-- ---- records

module _ (words : List (List ℕ)) (called : IsCalled kind.Records words)
    (json : Bool) (q : ℕ) (stands : json ≡ true → drop 2 words ≡ codes "--json" ∷ drop (2 + 1) words) (absent : json ≡ false → (rest : List (List ℕ)) → drop 2 words ≢ codes "--json" ∷ rest)
    (json_said : json ≡ true → q ≡ 2 + 1) (json_unsaid : json ≡ false → q ≡ 2) where
  records_read : Passage words End q (λ rest. flag_words (codes "--json") json ++ rest)
  records_read = behind_flag words End 2 _ (codes "--json") (start words kind.Records called) tt (end_never (codes "--json")) json stands absent q json_said json_unsaid

  pub records_more : drop q words ≢ [] → (refusal : ℕ) → refusal ≡ q → IsRefusedAt words refusal
  records_more more refusal is = too_many words q _ records_read more refusal is

  pub records_said : drop q words ≡ [] → Says words (Records (record { json = json }))
  records_said end =
      says_of kind.Records words called (Records (record { json = json })) refl tt (records_read.spelled [] end ∙ flag_alone json)
