-- The nodes of a page are those that are shown, and its text is that of the page.
use Rattle.std.proofs.Common.{◌≡◌, ℕ, zero, suc, ◌+◌, ◌-◌, ◌<◌, List, [], ◌∷◌, ◌++◌, map, take, length, get_or, Option, Some, None, refl, sym, ◌∙◌, ap, subst, arith, append-nil}
use Rattle.std.specs.Prelude.{IfSome, IsSomeAnd}
use Rattle.std.proofs.lemmas.List.{length-map, map-append, take_more}
use Rattle.draughts_board.specs.Board.{Board}
use Rattle.proof_tree.specs.Forest.{Forest, no_node, node, Node, goal_of, size}
use Rattle.tree_census.specs.Censuses.{IsCensus, tree_census, tree_of}
use Rattle.tree_census.specs.declared.counting.Census.{Census}
use Rattle.journal_trees.specs.Sights.{Sight, sight, sight_of}
use Rattle.journal_trees.specs.Trees.{ShowsTree, a_ply_down, next_of, node_count, node_sights, sights}
use Rattle.journal_trees.specs.declared.nodes.ShownNode.{ShownNode}
use Rattle.page_text.specs.Nodes.{AreAt, NodeWords, Twigs, preorder, words_of}
use Rattle.page_text.specs.Pages.{page_text, root_sight}
use Rattle.page_text.specs.Plays.{StepWords}
use Rattle.page_text.specs.declared.nodes.PageNode.{PageNode}
use Rattle.page_text.specs.declared.roots.RootCells.{RootCells}
use Rattle.root_pages.specs.Sights.{WritesSight, page_words, root_twigs, twigs}

-- ---- a tree of nodes

preorder_twigs : (next : Option ℕ) (plies depth : ℕ) (above : Option Board) (t : Forest) → preorder (twigs next plies depth above t) ≡ map page_words (sights next plies depth above t)
preorder_twigs next plies depth above no_node = refl
preorder_twigs next zero depth above (node own children others) =
    ap (λ (l : List NodeWords). page_words (sight next depth above (record { own = own; children = children })) ∷ l) (preorder_twigs next zero depth above others)
preorder_twigs next (suc less) depth above (node own children others) =
    let here = page_words (sight next depth above (record { own = own; children = children })) in
    let below = preorder_twigs next less (depth + 1) (Some own.position) children in
    let beside = preorder_twigs next (suc less) depth above others in
    ap (λ (l : List NodeWords). here ∷ l)
    ((λ i. below i ++ beside i) ∙ sym (map-append page_words (sights next less (depth + 1) (Some own.position) children) (sights next (suc less) depth above others)))

root_preorder : (next : Option ℕ) (plies : ℕ) (x : Node) → preorder (root_twigs next plies x) ≡ map page_words (node_sights next plies 0 None x)
root_preorder next plies x =
    let below = a_ply_down plies [] (λ less. sights next less (0 + 1) (Some x.own.position) x.children) in
    preorder_twigs next plies 0 None (tree_of x) ∙ ap (λ (l : List Sight). page_words (sight next 0 None x) ∷ map page_words l) (append-nil below)

at_depths : (next : Option ℕ) (plies depth : ℕ) (above : Option Board) (t : Forest) → AreAt depth (twigs next plies depth above t)
unfolding sight
at_depths next plies depth above no_node = tt
at_depths next zero depth above (node own children others) = (refl, tt, at_depths next zero depth above others)
at_depths next (suc less) depth above (node own children others) =
    (refl, at_depths next less (depth + 1) (Some own.position) children, at_depths next (suc less) depth above others)

-- ---- what is written

written : (roots : Forest) (x : Node) (cells : List RootCells) (number : ℕ) (steps : List StepWords) (asked most plies more : ℕ) (census : Census) (shown : List ShownNode) (nodes : List PageNode) (text : List ℕ)
    → ShowsTree roots x asked most (map sight_of shown) plies → IsCensus census x → more ≡ census.nodes - length shown → map words_of nodes ≡ map page_words (map sight_of shown)
    → ((tree : Twigs) → AreAt 0 tree → map words_of nodes ≡ preorder tree → text ≡ page_text cells (root_sight number steps tree more))
    → WritesSight roots x cells number steps asked most text
written roots x cells number steps asked most plies more census shown nodes text shows counted left words page =
    let tree = root_twigs (next_of roots) plies x in
    let are : map words_of nodes ≡ preorder tree = words ∙ (ap (map page_words) shows.nodes ∙ sym (root_preorder (next_of roots) plies x)) in
    let long : length shown ≡ node_count plies x = sym (length-map shown sight_of) ∙ shows.count in
    let all : census.nodes ≡ size (tree_of x) = ap (λ (c : Census). c.nodes) counted in
    let rest : more ≡ size (tree_of x) - node_count plies x = left ∙ (λ i. all i - long i) in
    record {
      plies = plies;
      deepest = shows.deepest;
      text_is = page tree (at_depths (next_of roots) plies 0 None (tree_of x)) are ∙ ap (λ m. page_text cells (root_sight number steps tree m)) rest;
    }

pub written_at : (roots : Forest) (o : Option Node) (cells : List RootCells) (number : ℕ) (steps : List StepWords) (asked most plies more : ℕ) (census : Census) (shown : List ShownNode) (nodes : List PageNode) (text : List ℕ)
    → IsSomeAnd o (λ x. ShowsTree roots x asked most (map sight_of shown) plies) → IfSome o (IsCensus census) → more ≡ census.nodes - length shown
    → map words_of nodes ≡ map page_words (map sight_of shown)
    → ((tree : Twigs) → AreAt 0 tree → map words_of nodes ≡ preorder tree → text ≡ page_text cells (root_sight number steps tree more))
    → IsSomeAnd o (λ x. WritesSight roots x cells number steps asked most text)
written_at roots None cells number steps asked most plies more census shown nodes text shows counted left words page = absurd shows
written_at roots (Some x) cells number steps asked most plies more census shown nodes text shows counted left words page =
    written roots x cells number steps asked most plies more census shown nodes text shows counted left words page

-- ---- nodes, one by one

pub nodes_more : (nodes : List ShownNode) (i : ℕ) (seen : ShownNode) (done more : List PageNode) (one : PageNode) → i < length nodes → seen ≡ get_or nodes i seen
    → words_of one ≡ page_words (sight_of seen) → map words_of done ≡ map page_words (map sight_of (take i nodes)) → more ≡ done ++ one ∷ []
    → map words_of more ≡ map page_words (map sight_of (take (i + 1) nodes))
nodes_more nodes i seen done more one within is words so_far pushed =
    let cut : take (i + 1) nodes ≡ take i nodes ++ seen ∷ [] = take_more nodes i seen within ∙ ap (λ (n : ShownNode). take i nodes ++ n ∷ []) (sym is) in
    ap (map words_of) pushed ∙ (map-append words_of done (one ∷ []) ∙ ((λ j. so_far j ++ words j ∷ [])
    ∙ sym (ap (λ (l : List ShownNode). map page_words (map sight_of l)) cut
    ∙ (ap (map page_words) (map-append sight_of (take i nodes) (seen ∷ [])) ∙ map-append page_words (map sight_of (take i nodes)) (sight_of seen ∷ [])))))
