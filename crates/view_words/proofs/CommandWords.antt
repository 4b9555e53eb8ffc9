-- The words behind each of those that name what is shown.
use Rattle.std.proofs.Common.{◌≡◌, ◌≢◌, ◌≤◌, ◌<◌, ◌^◌, inl, inr, ℕ, List, [], ◌∷◌, ◌++◌, Bool, true, false, Option, Some, None, refl, sym, ◌∙◌, ap, arith, codes, decimal, get_or}
use Rattle.std.specs.Prelude.{IfSome}
use Rattle.std.proofs.lemmas.Fmt.{decimal_injective, first_decimal}
use Rattle.bench_edges.specs.Words.{IsRootNumber}
use Rattle.bench_edges.specs.declared.words.TheConstants.{LEAST_ROOT, MOST_ROOT}
use Rattle.view_words.specs.Words.{IsWithin, behind, flag_words, kind_of, number_words, option_words}
use Rattle.view_words.specs.declared.requests.Kind.{Kind}
use Rattle.view_words.specs.declared.requests.Kind.TheVariants as kind
use Rattle.view_words.specs.declared.requests.LineRequest.{LineRequest}
use Rattle.view_words.specs.declared.requests.PageRequest.{PageRequest}
use Rattle.view_words.specs.declared.requests.RecordsRequest.{RecordsRequest}
use Rattle.view_words.specs.declared.requests.Request.{Request}
use Rattle.view_words.specs.declared.requests.Request.TheVariants.{Roots, Line, Tree, Page, Records}
use Rattle.view_words.specs.declared.requests.RootsRequest.{RootsRequest}
use Rattle.view_words.specs.declared.requests.TreeRequest.{TreeRequest}
use Rattle.view_words.specs.declared.requests.TheConstants.{MOST_NODES, MOST_PLAYED, MOST_PLIES, MOST_VARIED}
use Rattle.view_words.proofs.Languages.{cons_head, cons_tail, not_cons, End, Flag, Found, Num, Opt, end_words, flag_end, flag_parts, found_parts, found_spelled, opt_parts, opt_spelled}

-- ---- names

name_letter : (one two : List ℕ) → one ≡ two → get_or one 2 0 ≡ get_or two 2 0
name_letter one two same = ap (λ (text : List ℕ). get_or text 2 0) same

plies_nodes : codes "--plies" ≡ codes "--nodes" → ⊥
plies_nodes same = (let e : 112 ≡ 110 = name_letter (codes "--plies") (codes "--nodes") same in absurd (omega (arith, e)))

plies_json : codes "--plies" ≡ codes "--json" → ⊥
plies_json same = (let e : 112 ≡ 106 = name_letter (codes "--plies") (codes "--json") same in absurd (omega (arith, e)))

nodes_json : codes "--nodes" ≡ codes "--json" → ⊥
nodes_json same = (let e : 110 ≡ 106 = name_letter (codes "--nodes") (codes "--json") same in absurd (omega (arith, e)))

number_nodes : (n : ℕ) → IsRootNumber n → decimal n ≡ codes "--nodes" → ⊥
number_nodes n number same =
    let least = number.0 in
    let most = number.1 in
    let first = first_decimal n (omega (arith, least)) (omega (arith, most)) in
    let e : get_or (decimal n) 0 0 ≡ 45 = ap (λ (text : List ℕ). get_or text 0 0) same in
    absurd (omega (arith, first, e))

-- ---- the languages

abbrev pub Json : List (List ℕ) → Type 0
Json words = Flag (codes "--json") End words

abbrev pub PliesJson : List (List ℕ) → Type 0
PliesJson words = Opt (codes "--plies") MOST_PLAYED Json words

abbrev pub Varied : List (List ℕ) → Type 0
Varied words = Opt (codes "--plies") MOST_VARIED End words

abbrev pub NodesJson : List (List ℕ) → Type 0
NodesJson words = Opt (codes "--nodes") MOST_NODES Json words

abbrev pub PliesNodesJson : List (List ℕ) → Type 0
PliesNodesJson words = Opt (codes "--plies") MOST_PLIES NodesJson words

abbrev pub Nodes : List (List ℕ) → Type 0
Nodes words = Opt (codes "--nodes") MOST_NODES End words

-- what may stand behind the word that names what is shown
abbrev pub Tail : Kind → List (List ℕ) → Type 0
Tail kind.Roots words = PliesJson words
Tail kind.Line words = Num LEAST_ROOT MOST_ROOT Varied words
Tail kind.Tree words = Num LEAST_ROOT MOST_ROOT PliesNodesJson words
Tail kind.Page words = Found LEAST_ROOT MOST_ROOT Nodes words
Tail kind.Records words = Json words

-- ---- what follows an option does not begin with it

pub end_never : (name : List ℕ) (rest : List (List ℕ)) → End (name ∷ rest) → ⊥
end_never name rest said = said

pub plies_json_never : (rest : List (List ℕ)) → Json (codes "--plies" ∷ rest) → ⊥
plies_json_never rest said = elim said [ inl l ↦ l | inr o ↦ plies_json o.0 ]

pub nodes_json_never : (rest : List (List ℕ)) → Json (codes "--nodes" ∷ rest) → ⊥
nodes_json_never rest said = elim said [ inl l ↦ l | inr o ↦ nodes_json o.0 ]

pub plies_never : (rest : List (List ℕ)) → NodesJson (codes "--plies" ∷ rest) → ⊥
plies_never rest said = elim said [ inl l ↦ plies_json_never rest l | inr o ↦ plies_nodes o.0 ]

pub number_never : (n : ℕ) → IsRootNumber n → (rest : List (List ℕ)) → Nodes (decimal n ∷ rest) → ⊥
number_never n number rest said = elim said [ inl l ↦ l | inr o ↦ number_nodes n number o.0 ]

-- ---- what a request spells is in its language

line_spelled : (given : Option ℕ) → IfSome given (λ n. n ≤ MOST_VARIED) → Varied (option_words (codes "--plies") given)
line_spelled None within = tt
line_spelled (Some n) within = inr (refl, ((n, (omega arith, (within, refl))), tt))

page_spelled : (given : Option ℕ) → IfSome given (λ n. n ≤ MOST_NODES) → Nodes (option_words (codes "--nodes") given)
page_spelled None within = tt
page_spelled (Some n) within = inr (refl, ((n, (omega arith, (within, refl))), tt))

pub tail_said : (request : Request) → IsWithin request → Tail (kind_of request) (behind request)
tail_said (Roots asked) within =
    opt_spelled Json (codes "--plies") MOST_PLAYED asked.plies within (flag_words (codes "--json") asked.json) (flag_end (codes "--json") asked.json)
tail_said (Line asked) within = ((asked.root, (within.0.0, (within.0.1, refl))), line_spelled asked.plies within.1)
tail_said (Tree asked) within = (
  (asked.root, (within.0.0, (within.0.1, refl))),
  opt_spelled NodesJson (codes "--plies") MOST_PLIES asked.plies within.1.0 (option_words (codes "--nodes") asked.nodes ++ flag_words (codes "--json") asked.json)
      (opt_spelled Json (codes "--nodes") MOST_NODES asked.nodes within.1.1 (flag_words (codes "--json") asked.json) (flag_end (codes "--json") asked.json)),
)
tail_said (Page asked) within =
    found_spelled Nodes LEAST_ROOT MOST_ROOT asked.root within.0 (option_words (codes "--nodes") asked.nodes) (page_spelled asked.nodes within.1)
tail_said (Records asked) within = flag_end (codes "--json") asked.json

-- ---- and what is in its language a request spells

pub record Asked (k : Kind) (words : List (List ℕ)) : Type 0 where
  pub request : Request
  pub called : kind_of request ≡ k
  pub within : IsWithin request
  pub spelling : words ≡ behind request

last_option : (name : List ℕ) (given : Option ℕ) (rest : List (List ℕ)) → End rest → option_words name given ++ rest ≡ option_words name given
last_option name None rest e = end_words rest e
last_option name (Some n) rest e = ap (λ (l : List (List ℕ)). name ∷ decimal n ∷ l) (end_words rest e)

pub tail_parts : (k : Kind) (words : List (List ℕ)) → Tail k words → Asked k words
tail_parts kind.Roots words said =
    let plies = opt_parts Json (codes "--plies") MOST_PLAYED words said in
    let json = flag_parts (codes "--json") plies.rest plies.behind in
    record {
      request = Roots (record { plies = plies.given; json = json.0 });
      called = refl;
      within = plies.within;
      spelling = plies.spelling ∙ ap (λ (l : List (List ℕ)). option_words (codes "--plies") plies.given ++ l) json.1;
    }
tail_parts kind.Line [] said = absurd said
tail_parts kind.Line (w ∷ ws) said =
    let plies = opt_parts End (codes "--plies") MOST_VARIED ws said.1 in
    record {
      request = Line (record { root = said.0.0; plies = plies.given });
      called = refl;
      within = ((said.0.1.0, said.0.1.1.0), plies.within);
      spelling =
          ap (λ (x : List ℕ). x ∷ ws) said.0.1.1.1
          ∙ ap (λ (l : List (List ℕ)). decimal said.0.0 ∷ l) (plies.spelling ∙ last_option (codes "--plies") plies.given plies.rest plies.behind);
    }
tail_parts kind.Tree [] said = absurd said
tail_parts kind.Tree (w ∷ ws) said =
    let plies = opt_parts NodesJson (codes "--plies") MOST_PLIES ws said.1 in
    let nodes = opt_parts Json (codes "--nodes") MOST_NODES plies.rest plies.behind in
    let json = flag_parts (codes "--json") nodes.rest nodes.behind in
    record {
      request = Tree (record { root = said.0.0; plies = plies.given; nodes = nodes.given; json = json.0 });
      called = refl;
      within = ((said.0.1.0, said.0.1.1.0), (plies.within, nodes.within));
      spelling =
          ap (λ (x : List ℕ). x ∷ ws) said.0.1.1.1
          ∙ (ap (λ (l : List (List ℕ)). decimal said.0.0 ∷ l) plies.spelling
          ∙ (ap (λ (l : List (List ℕ)). decimal said.0.0 ∷ (option_words (codes "--plies") plies.given ++ l)) nodes.spelling
          ∙ ap (λ (l : List (List ℕ)). decimal said.0.0 ∷ (option_words (codes "--plies") plies.given ++ (option_words (codes "--nodes") nodes.given ++ l))) json.1));
    }
tail_parts kind.Page words said =
    let root = found_parts Nodes LEAST_ROOT MOST_ROOT words said in
    let nodes = opt_parts End (codes "--nodes") MOST_NODES root.rest root.behind in
    record {
      request = Page (record { root = root.given; nodes = nodes.given });
      called = refl;
      within = (root.within, nodes.within);
      spelling = root.spelling ∙ ap (λ (l : List (List ℕ)). number_words root.given ++ l) (nodes.spelling ∙ last_option (codes "--nodes") nodes.given nodes.rest nodes.behind);
    }
tail_parts kind.Records words said =
    let json = flag_parts (codes "--json") words said in
    record { request = Records (record { json = json.0 }); called = refl; within = tt; spelling = json.1 }

-- ---- one request

-- an option and what follows, where it does not begin what follows
option_once : (name : List ℕ) (x y : List (List ℕ)) → ((rest : List (List ℕ)) → x ≢ name ∷ rest) → ((rest : List (List ℕ)) → y ≢ name ∷ rest)
    → (a b : Option ℕ) → IfSome a (λ n. n < 2 ^ 64) → IfSome b (λ n. n < 2 ^ 64) → option_words name a ++ x ≡ option_words name b ++ y → (a ≡ b) × (x ≡ y)
option_once name x y no_x no_y None None in_a in_b same = (refl, same)
option_once name x y no_x no_y None (Some n) in_a in_b same = absurd (no_x (decimal n ∷ y) same)
option_once name x y no_x no_y (Some m) None in_a in_b same = absurd (no_y (decimal m ∷ x) (sym same))
option_once name x y no_x no_y (Some m) (Some n) in_a in_b same =
    let more : decimal m ∷ x ≡ decimal n ∷ y = cons_tail name name (decimal m ∷ x) (decimal n ∷ y) same in
    (ap (λ k. Some k) (decimal_injective m n in_a in_b (cons_head (decimal m) (decimal n) x y more)), cons_tail (decimal m) (decimal n) x y more)

-- an option at the end
last_once : (name : List ℕ) (a b : Option ℕ) → IfSome a (λ n. n < 2 ^ 64) → IfSome b (λ n. n < 2 ^ 64) → option_words name a ≡ option_words name b → a ≡ b
last_once name None None in_a in_b same = refl
last_once name None (Some n) in_a in_b same = absurd (not_cons name (decimal n ∷ []) same)
last_once name (Some m) None in_a in_b same = absurd (not_cons name (decimal m ∷ []) (sym same))
last_once name (Some m) (Some n) in_a in_b same =
    let more : decimal m ∷ [] ≡ decimal n ∷ [] = cons_tail name name (decimal m ∷ []) (decimal n ∷ []) same in
    ap (λ k. Some k) (decimal_injective m n in_a in_b (cons_head (decimal m) (decimal n) [] [] more))

flag_once : (name : List ℕ) (a b : Bool) → flag_words name a ≡ flag_words name b → a ≡ b
flag_once name false false same = refl
flag_once name false true same = absurd (not_cons name [] same)
flag_once name true false same = absurd (not_cons name [] (sym same))
flag_once name true true same = refl

-- perhaps a root's number, and what follows, where that begins with none
number_once : (x y : List (List ℕ)) → ((n : ℕ) → IsRootNumber n → (rest : List (List ℕ)) → x ≢ decimal n ∷ rest) → ((n : ℕ) → IsRootNumber n → (rest : List (List ℕ)) → y ≢ decimal n ∷ rest)
    → (a b : Option ℕ) → IfSome a IsRootNumber → IfSome b IsRootNumber → number_words a ++ x ≡ number_words b ++ y → (a ≡ b) × (x ≡ y)
number_once x y no_x no_y None None in_a in_b same = (refl, same)
number_once x y no_x no_y None (Some n) in_a in_b same = absurd (no_x n in_b y same)
number_once x y no_x no_y (Some m) None in_a in_b same = absurd (no_y m in_a x (sym same))
number_once x y no_x no_y (Some m) (Some n) in_a in_b same =
    let most_m = in_a.1 in
    let most_n = in_b.1 in
    (ap (λ k. Some k) (decimal_injective m n (omega (arith, most_m)) (omega (arith, most_n)) (cons_head (decimal m) (decimal n) x y same)), cons_tail (decimal m) (decimal n) x y same)

no_json : (name : List ℕ) → (codes "--json" ≡ name → ⊥) → (json : Bool) (rest : List (List ℕ)) → flag_words (codes "--json") json ≢ name ∷ rest
no_json name other false rest same = not_cons name rest same
no_json name other true rest same = other (cons_head (codes "--json") name [] rest same)

no_plies : (nodes : Option ℕ) (json : Bool) (rest : List (List ℕ)) → option_words (codes "--nodes") nodes ++ flag_words (codes "--json") json ≢ codes "--plies" ∷ rest
no_plies None json rest same = no_json (codes "--plies") (λ e. plies_json (sym e)) json rest same
no_plies (Some n) json rest same = plies_nodes (sym (cons_head (codes "--nodes") (codes "--plies") (decimal n ∷ flag_words (codes "--json") json) rest same))

no_number : (nodes : Option ℕ) (n : ℕ) → IsRootNumber n → (rest : List (List ℕ)) → option_words (codes "--nodes") nodes ≢ decimal n ∷ rest
no_number None n number rest same = not_cons (decimal n) rest same
no_number (Some m) n number rest same = number_nodes n number (sym (cons_head (codes "--nodes") (decimal n) (decimal m ∷ []) rest same))

few : (most : ℕ) → most < 2 ^ 64 → (given : Option ℕ) → IfSome given (λ n. n ≤ most) → IfSome given (λ n. n < 2 ^ 64)
few most small None within = tt
few most small (Some n) within = omega (arith, small, within)

pub roots_once : (a b : RootsRequest) → IsWithin (Roots a) → IsWithin (Roots b) → behind (Roots a) ≡ behind (Roots b) → a ≡ b
roots_once a b in_a in_b same =
    let plies = option_once (codes "--plies") (flag_words (codes "--json") a.json) (flag_words (codes "--json") b.json)
    (no_json (codes "--plies") (λ e. plies_json (sym e)) a.json) (no_json (codes "--plies") (λ e. plies_json (sym e)) b.json) a.plies b.plies
    (few MOST_PLAYED (omega arith) a.plies in_a) (few MOST_PLAYED (omega arith) b.plies in_b) same in
    let one : a.plies ≡ b.plies = plies.0 in
    let json : a.json ≡ b.json = flag_once (codes "--json") a.json b.json plies.1 in
    ap (λ (g : Option ℕ). record { plies = g; json = a.json }) one ∙ ap (λ (j : Bool). record { plies = b.plies; json = j }) json

pub line_once : (a b : LineRequest) → IsWithin (Line a) → IsWithin (Line b) → behind (Line a) ≡ behind (Line b) → a ≡ b
line_once a b in_a in_b same =
    let all_a = option_words (codes "--plies") a.plies in
    let all_b = option_words (codes "--plies") b.plies in
    let root_a = in_a.0.1 in
    let root_b = in_b.0.1 in
    let root : a.root ≡ b.root = decimal_injective a.root b.root (omega (arith, root_a)) (omega (arith, root_b)) (cons_head (decimal a.root) (decimal b.root) all_a all_b same) in
    let plies : a.plies ≡ b.plies = last_once (codes "--plies") a.plies b.plies (few MOST_VARIED (omega arith) a.plies in_a.1) (few MOST_VARIED (omega arith) b.plies in_b.1)
    (cons_tail (decimal a.root) (decimal b.root) all_a all_b same) in
    ap (λ (n : ℕ). record { root = n; plies = a.plies }) root ∙ ap (λ (g : Option ℕ). record { root = b.root; plies = g }) plies

pub tree_once : (a b : TreeRequest) → IsWithin (Tree a) → IsWithin (Tree b) → behind (Tree a) ≡ behind (Tree b) → a ≡ b
tree_once a b in_a in_b same =
    let rest_a = option_words (codes "--nodes") a.nodes ++ flag_words (codes "--json") a.json in
    let rest_b = option_words (codes "--nodes") b.nodes ++ flag_words (codes "--json") b.json in
    let all_a = option_words (codes "--plies") a.plies ++ rest_a in
    let all_b = option_words (codes "--plies") b.plies ++ rest_b in
    let root_a = in_a.0.1 in
    let root_b = in_b.0.1 in
    let root : a.root ≡ b.root = decimal_injective a.root b.root (omega (arith, root_a)) (omega (arith, root_b)) (cons_head (decimal a.root) (decimal b.root) all_a all_b same) in
    let plies = option_once (codes "--plies") rest_a rest_b (no_plies a.nodes a.json) (no_plies b.nodes b.json) a.plies b.plies
    (few MOST_PLIES (omega arith) a.plies in_a.1.0) (few MOST_PLIES (omega arith) b.plies in_b.1.0) (cons_tail (decimal a.root) (decimal b.root) all_a all_b same) in
    let nodes = option_once (codes "--nodes") (flag_words (codes "--json") a.json) (flag_words (codes "--json") b.json)
    (no_json (codes "--nodes") (λ e. nodes_json (sym e)) a.json) (no_json (codes "--nodes") (λ e. nodes_json (sym e)) b.json) a.nodes b.nodes
    (few MOST_NODES (omega arith) a.nodes in_a.1.1) (few MOST_NODES (omega arith) b.nodes in_b.1.1) plies.1 in
    let json : a.json ≡ b.json = flag_once (codes "--json") a.json b.json nodes.1 in
    let one : a.plies ≡ b.plies = plies.0 in
    let two : a.nodes ≡ b.nodes = nodes.0 in
    ap (λ (n : ℕ). record { root = n; plies = a.plies; nodes = a.nodes; json = a.json }) root
    ∙ (ap (λ (g : Option ℕ). record { root = b.root; plies = g; nodes = a.nodes; json = a.json }) one
    ∙ (ap (λ (g : Option ℕ). record { root = b.root; plies = b.plies; nodes = g; json = a.json }) two
    ∙ ap (λ (j : Bool). record { root = b.root; plies = b.plies; nodes = b.nodes; json = j }) json))

pub page_once : (a b : PageRequest) → IsWithin (Page a) → IsWithin (Page b) → behind (Page a) ≡ behind (Page b) → a ≡ b
page_once a b in_a in_b same =
    let root = number_once (option_words (codes "--nodes") a.nodes) (option_words (codes "--nodes") b.nodes) (no_number a.nodes) (no_number b.nodes) a.root b.root in_a.0 in_b.0 same in
    let one : a.root ≡ b.root = root.0 in
    let two : a.nodes ≡ b.nodes = last_once (codes "--nodes") a.nodes b.nodes (few MOST_NODES (omega arith) a.nodes in_a.1) (few MOST_NODES (omega arith) b.nodes in_b.1) root.1 in
    ap (λ (g : Option ℕ). record { root = g; nodes = a.nodes }) one ∙ ap (λ (g : Option ℕ). record { root = b.root; nodes = g }) two

pub records_once : (a b : RecordsRequest) → behind (Records a) ≡ behind (Records b) → a ≡ b
records_once a b same = ap (λ (j : Bool). record { json = j }) (flag_once (codes "--json") a.json b.json same)
