-- The text of nodes, node by node, is that of the elements within each other.
use Rattle.std.proofs.Common.{◌<◌, drop, get_or, length, map, ◌≡◌, ℕ, zero, suc, ◌+◌, ◌-◌, ◌≤◌, List, [], ◌∷◌, ◌++◌, refl, sym, ◌∙◌, ap, arith, zero-add, append-nil}
use Rattle.std.specs.Prelude.{codes}
use Rattle.std.proofs.lemmas.List.{append_assoc}
use Rattle.std.proofs.Math.Seq.{drop-cons}
use Rattle.page_text.specs.Markup.{Markup, beside, markup_text}
use Rattle.page_text.specs.Nodes.{NodeWords, Twigs, words_of, no_twig, twig, preorder, AreAt, detail, twigs_markup, opening_text, closings, nodes_text}
use Rattle.page_text.specs.declared.nodes.PageNode.{PageNode}

-- ---- last tags

closings-add : (a b : ℕ) → closings (a + b) ≡ closings a ++ closings b
unfolding closings
closings-add zero b = ap closings (zero-add b)
closings-add (suc a) b =
    let e : suc a + b ≡ suc (a + b) = omega arith in
    ap closings e ∙ ap (λ t. codes "</details>" ++ t) (closings-add a b)

closings-one : closings 1 ≡ codes "</details>"
unfolding closings
closings-one = refl

closings-none : closings 0 ≡ []
unfolding closings
closings-none = refl

-- ---- rows that begin no deeper

abbrev StartsAt : ℕ → List NodeWords → Type 0
StartsAt k [] = Unit {0}
StartsAt k (node ∷ nodes) = node.depth ≤ k

starts-deeper : (k : ℕ) (nodes : List NodeWords) → StartsAt k nodes → StartsAt (k + 1) nodes
starts-deeper k [] starts = tt
starts-deeper k (node ∷ nodes) starts = omega (arith, starts)

starts-behind : (k : ℕ) (twigs : Twigs) (rest : List NodeWords) → AreAt k twigs → StartsAt k rest → StartsAt k (preorder twigs ++ rest)
starts-behind k no_twig rest at starts = starts
starts-behind k (twig node below others) rest at starts = omega (arith, at.0)

skip : (d k : ℕ) (rest : List NodeWords) → k ≤ d → StartsAt k rest → nodes_text d rest ≡ closings (d - k) ++ nodes_text k rest
skip d k [] le starts =
    let e : d ≡ (d - k) + k = omega (arith, le) in
    ap closings e ∙ closings-add (d - k) k
skip d k (node ∷ rest) le starts =
    let e : d - node.depth ≡ (d - k) + (k - node.depth) = omega (arith, le, starts) in
    ap (λ t. t ++ (opening_text node ++ nodes_text (node.depth + 1) rest)) (ap closings e ∙ closings-add (d - k) (k - node.depth))
    ∙ append_assoc (closings (d - k)) (closings (k - node.depth)) (opening_text node ++ nodes_text (node.depth + 1) rest)

-- ---- a node

detail-text : (node : NodeWords) (below : Markup) → opening_text node ++ (markup_text below ++ codes "</details>") ≡ markup_text (detail node below)
unfolding opening_text
detail-text node below = simp append_assoc

-- a node, those below it, and what follows
node-text : (node : NodeWords) (below others : Markup) (rest : List ℕ)
    → opening_text node ++ (markup_text below ++ (codes "</details>" ++ (markup_text others ++ rest))) ≡ markup_text (beside (detail node below) others) ++ rest
node-text node below others rest =
    sym (append_assoc (opening_text node) (markup_text below) (codes "</details>" ++ (markup_text others ++ rest)))
    ∙ (sym (append_assoc (opening_text node ++ markup_text below) (codes "</details>") (markup_text others ++ rest))
    ∙ (ap (λ t. t ++ (markup_text others ++ rest)) (append_assoc (opening_text node) (markup_text below) (codes "</details>") ∙ detail-text node below)
    ∙ sym (append_assoc (markup_text (detail node below)) (markup_text others) rest)))

-- ---- all

preorder-text : (twigs : Twigs) (d k : ℕ) (rest : List NodeWords) → AreAt k twigs → k ≤ d → StartsAt k rest
    → nodes_text d (preorder twigs ++ rest) ≡ closings (d - k) ++ (markup_text (twigs_markup twigs) ++ nodes_text k rest)
preorder-text no_twig d k rest at le starts = skip d k rest le starts
preorder-text (twig node below others) d k rest at le starts =
    let behind = preorder others ++ rest in
    let starts_there : StartsAt (k + 1) behind = starts-deeper k behind (starts-behind k others rest at.2 starts) in
    let same : (preorder below ++ preorder others) ++ rest ≡ preorder below ++ behind = append_assoc (preorder below) (preorder others) rest in
    let deep : (k + 1) - (k + 1) ≡ 0 = omega arith in
    let one : (k + 1) - k ≡ 1 = omega arith in
    let within : nodes_text (k + 1) (preorder below ++ behind) ≡ markup_text (twigs_markup below) ++ nodes_text (k + 1) behind =
    preorder-text below (k + 1) (k + 1) behind at.1 (omega arith) starts_there
    ∙ ap (λ t. t ++ (markup_text (twigs_markup below) ++ nodes_text (k + 1) behind)) (ap closings deep ∙ closings-none) in
    let after : nodes_text (k + 1) behind ≡ codes "</details>" ++ (markup_text (twigs_markup others) ++ nodes_text k rest) =
    preorder-text others (k + 1) k rest at.2 (omega arith) starts
    ∙ ap (λ t. t ++ (markup_text (twigs_markup others) ++ nodes_text k rest)) (ap closings one ∙ closings-one) in
    let from : nodes_text (node.depth + 1) ((preorder below ++ preorder others) ++ rest) ≡ nodes_text (k + 1) (preorder below ++ behind) =
    ap (λ m. nodes_text (m + 1) ((preorder below ++ preorder others) ++ rest)) at.0 ∙ ap (nodes_text (k + 1)) same in
    ap (λ m. closings (d - m) ++ (opening_text node ++ nodes_text (node.depth + 1) ((preorder below ++ preorder others) ++ rest))) at.0
    ∙ ap (λ t. closings (d - k) ++ t)
    (ap (λ t. opening_text node ++ t) (from ∙ (within ∙ ap (λ t. markup_text (twigs_markup below) ++ t) after))
    ∙ node-text node (twigs_markup below) (twigs_markup others) (nodes_text k rest))

pub tree-text : (twigs : Twigs) (nodes : List NodeWords) → AreAt 0 twigs → nodes ≡ preorder twigs → nodes_text 0 nodes ≡ markup_text (twigs_markup twigs)
tree-text twigs nodes at is =
    let whole : preorder twigs ++ [] ≡ preorder twigs = append-nil (preorder twigs) in
    ap (nodes_text 0) (is ∙ sym whole) ∙ (preorder-text twigs 0 0 [] at (omega arith) tt
    ∙ (ap (λ t. t ++ (markup_text (twigs_markup twigs) ++ nodes_text 0 [])) closings-none
    ∙ (ap (λ t. markup_text (twigs_markup twigs) ++ t) closings-none ∙ append-nil (markup_text (twigs_markup twigs)))))

-- ---- steps of loops

pub closing-step : (text new whole : List ℕ) (count k : ℕ) → k < count → new ≡ text ++ codes "</details>" → text ++ closings (count - k) ≡ whole
    → new ++ closings (count - (k + 1)) ≡ whole
closing-step text new whole count k within pushed so_far =
    let less : 1 + (count - (k + 1)) ≡ count - k = omega (arith, within) in
    let one : codes "</details>" ++ closings (count - (k + 1)) ≡ closings (count - k) =
    ap (λ t. t ++ closings (count - (k + 1))) (sym closings-one) ∙ (sym (closings-add 1 (count - (k + 1))) ∙ ap closings less) in
    ap (λ t. t ++ closings (count - (k + 1))) pushed
    ∙ (append_assoc text (codes "</details>") (closings (count - (k + 1))) ∙ (ap (λ t. text ++ t) one ∙ so_far))

pub closing-end : (text whole : List ℕ) (count k : ℕ) → count ≤ k → text ++ closings (count - k) ≡ whole → text ≡ whole
closing-end text whole count k past so_far =
    let none : count - k ≡ 0 = omega (arith, past) in
    sym (ap (λ m. text ++ closings m) none ∙ (ap (λ t. text ++ t) closings-none ∙ append-nil text)) ∙ so_far

pub nodes-step : (text closed new whole : List ℕ) (before : ℕ) (nodes : List PageNode) (i : ℕ) (node : PageNode) → i < length nodes → node ≡ get_or nodes i node
    → closed ≡ text ++ closings (before - node.depth) → new ≡ closed ++ opening_text (words_of node) → text ++ nodes_text before (map words_of (drop i nodes)) ≡ whole
    → new ++ nodes_text (node.depth + 1) (map words_of (drop (i + 1) nodes)) ≡ whole
nodes-step text closed new whole before nodes i node within is first opened so_far =
    let rest = drop (i + 1) nodes in
    let next : suc i ≡ i + 1 = omega arith in
    let split : drop i nodes ≡ node ∷ rest =
    drop-cons nodes i node within ∙ (ap (λ (x : PageNode). x ∷ drop (suc i) nodes) (sym is) ∙ ap (λ m. node ∷ drop m nodes) next) in
    let after = nodes_text (node.depth + 1) (map words_of rest) in
    let opening = opening_text (words_of node) in
    ap (λ t. t ++ after) (opened ∙ ap (λ t. t ++ opening) first)
    ∙ (append_assoc (text ++ closings (before - node.depth)) opening after
    ∙ (append_assoc text (closings (before - node.depth)) (opening ++ after) ∙ (ap (λ l. text ++ nodes_text before (map words_of l)) (sym split) ∙ so_far)))
