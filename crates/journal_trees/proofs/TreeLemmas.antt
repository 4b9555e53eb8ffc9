-- The nodes of a list, one after the other, with those below each.
use Rattle.std.proofs.Common.{◌≡◌, ℕ, zero, suc, ◌+◌, ◌-◌, ◌^◌, ◌<◌, ◌≤◌, List, [], ◌∷◌, ◌++◌, Option, Some, None, length, slice_get, get_or, take, refl, sym, ◌∙◌, ap, subst, arith, length-append, append-nil}
use Rattle.std.specs.Prelude.{IsSomeAnd, map, sum_by}
use Rattle.std.specs.List.{flat_map}
use Rattle.std.proofs.lemmas.List.{append_assoc, map-append, take_all, take_more}
use Rattle.std.proofs.lemmas.List.Concat.{flat_map-cons}
use Rattle.std.proofs.lemmas.List.Sums.{sum_by-append, sum_by-cons, sum_by-take-le}
use Rattle.std.proofs.lemmas.Grind.{flat_map-append}
use Rattle.draughts_board.specs.Board.{Board}
use Rattle.proof_tree.specs.Forest.{Forest, no_node, node, Node, nodes, size}
use Rattle.certificate_joiner.specs.Strategy.{IsNamed, named, weight}
use Rattle.certificate_joiner.proofs.ListLemmas.{read_take}
use Rattle.certificate_joiner.proofs.Named.{named_at, weight_at}
use Rattle.journal_trees.specs.Sights.{Sight, sight}
use Rattle.journal_trees.specs.declared.nodes.Spot.{Spot}
use Rattle.journal_trees.specs.Trees.{IsDeepest, ShowsTree, a_ply_down, sights, next_of, node_sights, count_to, node_count}

pub a_ply_down-more : {A : Type 0} (plies : ℕ) (none : A) (below : ℕ → A) → 0 < plies → a_ply_down plies none below ≡ below (plies - 1)
a_ply_down-more zero none below some = absurd (omega (arith, some))
a_ply_down-more (suc plies) none below some = (let e : plies ≡ suc plies - 1 = omega arith in ap below e)

-- ---- counts

pub count_to-sum : (plies : ℕ) (t : Forest) → count_to plies t ≡ sum_by (node_count plies) (nodes t)
count_to-sum plies no_node = refl
count_to-sum plies (node own children others) =
    let x : Node = record { own = own; children = children } in
    ap (λ m. node_count plies x + m) (count_to-sum plies others) ∙ sym (sum_by-cons (node_count plies) x (nodes others))

pub node_count-none : (plies : ℕ) (x : Node) → plies ≡ 0 → node_count plies x ≡ 1
node_count-none plies x none = ap (λ m. node_count m x) none

pub node_count-more : (plies : ℕ) (x : Node) → 0 < plies → node_count plies x ≡ 1 + sum_by (node_count (plies - 1)) (nodes x.children)
node_count-more plies x some =
    ap (λ m. 1 + m) (a_ply_down-more plies 0 (λ less. count_to less x.children) some ∙ count_to-sum (plies - 1) x.children)

down-most : (plies most : ℕ) (below : ℕ → ℕ) → ((m : ℕ) → below m ≤ most) → a_ply_down plies 0 below ≤ most
down-most zero most below le = omega arith
down-most (suc plies) most below le = le plies

count_to-size : (plies : ℕ) (t : Forest) → count_to plies t ≤ size t
count_to-size plies no_node = omega arith
count_to-size plies (node own children others) =
    let rest = count_to-size plies others in
    let below = down-most plies (size children) (λ less. count_to less children) (λ m. count_to-size m children) in
    omega (arith, rest, below)

node_count-weight : (plies : ℕ) (x : Node) → node_count plies x ≤ weight x
node_count-weight zero x = omega arith
node_count-weight (suc plies) x = (let le = count_to-size plies x.children in omega (arith, le))

-- the counts of the children so far and of the next one are within that of the node, and fit
module _ (roots : Forest) (n plies i : ℕ) (some : 0 < plies) (is : IsNamed roots n) (c : Node) (at : slice_get (nodes (named roots n).children) i ≡ Some c) where
  pub sum-next : sum_by (node_count (plies - 1)) (take (i + 1) (nodes (named roots n).children))
      ≡ sum_by (node_count (plies - 1)) (take i (nodes (named roots n).children)) + node_count (plies - 1) c
  sum-next =
      let f = node_count (plies - 1) in
      let xs = nodes (named roots n).children in
      ap (sum_by f) (read_take xs i c at) ∙ (sum_by-append f (take i xs) (c ∷ []) ∙ (let e : sum_by f (c ∷ []) ≡ f c = sum_by-cons f c [] ∙ omega arith in ap (λ m. sum_by f (take i xs) + m) e))

  pub count-fits : size roots < 2 ^ 60 → (1 + sum_by (node_count (plies - 1)) (take i (nodes (named roots n).children))) + node_count (plies - 1) c < 2 ^ 60
  count-fits few =
      let f = node_count (plies - 1) in
      let xs = nodes (named roots n).children in
      let le = sum_by-take-le f xs (i + 1) in
      let whole = node_count-more plies (named roots n) some in
      let small = node_count-weight plies (named roots n) in
      let within = weight_at n roots (named roots n) (named_at roots n is) in
      omega (arith, le, whole, small, within, few, sum-next)

pub count-all : (plies i : ℕ) (x : Node) → 0 < plies → length (nodes x.children) ≤ i → 1 + sum_by (node_count (plies - 1)) (take i (nodes x.children)) ≡ node_count plies x
count-all plies i x some past =
    ap (λ l. 1 + sum_by (node_count (plies - 1)) l) (take_all i (nodes x.children) past) ∙ sym (node_count-more plies x some)

-- ---- what is shown

module _ (next : Option ℕ) where
  pub sights-flat : (plies depth : ℕ) (above : Option Board) (t : Forest) → sights next plies depth above t ≡ flat_map (node_sights next plies depth above) (nodes t)
  sights-flat plies depth above no_node = refl
  sights-flat plies depth above (node own children others) =
      let x : Node = record { own = own; children = children } in
      ap (λ l. node_sights next plies depth above x ++ l) (sights-flat plies depth above others)
      ∙ sym (flat_map-cons (node_sights next plies depth above) x (nodes others))

  pub node_sights-none : (plies depth : ℕ) (above : Option Board) (x : Node) → plies ≡ 0 → node_sights next plies depth above x ≡ sight next depth above x ∷ []
  node_sights-none plies depth above x none = ap (λ m. node_sights next m depth above x) none

  pub node_sights-more : (plies depth : ℕ) (above : Option Board) (x : Node) → 0 < plies
      → node_sights next plies depth above x
      ≡ sight next depth above x ∷ flat_map (node_sights next (plies - 1) (depth + 1) (Some x.own.position)) (nodes x.children)
  node_sights-more plies depth above x some =
      ap (λ l. sight next depth above x ∷ l)
      (a_ply_down-more plies [] (λ less. sights next less (depth + 1) (Some x.own.position) x.children) some
      ∙ sights-flat (plies - 1) (depth + 1) (Some x.own.position) x.children)

  pub flat-next : (f : Node → List Sight) (xs : List Node) (i : ℕ) (c : Node) → slice_get xs i ≡ Some c → flat_map f (take (i + 1) xs) ≡ flat_map f (take i xs) ++ f c
  flat-next f xs i c at =
      ap (flat_map f) (read_take xs i c at) ∙ (flat_map-append f (take i xs) (c ∷ []) ∙ ap (λ l. flat_map f (take i xs) ++ l) (flat_map-cons f c [] ∙ append-nil (f c)))

  -- a node, and all below it
  pub below-all : (plies depth : ℕ) (above : Option Board) (x : Node) (p : Board) (old before now : List Sight) → 0 < plies → p ≡ x.own.position
      → before ≡ old ++ sight next depth above x ∷ []
      → now ≡ before ++ flat_map (node_sights next (plies - 1) (depth + 1) (Some p)) (nodes x.children)
      → now ≡ old ++ node_sights next plies depth above x
  below-all plies depth above x p old before now some at first is =
      let below : Board → List Sight = λ q. flat_map (node_sights next (plies - 1) (depth + 1) (Some q)) (nodes x.children) in
      is ∙ (ap (λ l. l ++ below p) first
      ∙ (append_assoc old (sight next depth above x ∷ []) (below p)
      ∙ (ap (λ q. old ++ sight next depth above x ∷ below q) at ∙ ap (λ l. old ++ l) (sym (node_sights-more plies depth above x some)))))

  -- ---- how many

  ply-length : (plies : ℕ) (below : ℕ → List Sight) (count : ℕ → ℕ) → ((m : ℕ) → length (below m) ≡ count m) → length (a_ply_down plies [] below) ≡ a_ply_down plies 0 count
  ply-length zero below count same = refl
  ply-length (suc plies) below count same = same plies

  down-length : (plies depth : ℕ) (above : Option Board) (t : Forest) → length (sights next plies depth above t) ≡ count_to plies t
  down-length plies depth above no_node = refl
  down-length plies depth above (node own children others) =
      let rest = down-length plies depth above others in
      let below = ply-length plies (λ less. sights next less (depth + 1) (Some own.position) children) (λ less. count_to less children)
      (λ m. down-length m (depth + 1) (Some own.position) children) in
      let both = length-append (a_ply_down plies [] (λ less. sights next less (depth + 1) (Some own.position) children)) (sights next plies depth above others) in
      omega (arith, rest, below, both)

  pub node_sights-length : (plies depth : ℕ) (above : Option Board) (x : Node) → length (node_sights next plies depth above x) ≡ node_count plies x
  node_sights-length zero depth above x = refl
  node_sights-length (suc plies) depth above x = (let e = down-length plies (depth + 1) (Some x.own.position) x.children in omega (arith, e))

-- what is shown of a root, once the loop is done
pub shows : (roots : Forest) (x : Node) (o : Option Node) → o ≡ Some x → (asked most plies : ℕ) (next : Option ℕ) (old shown : List Sight) → IsDeepest x asked most plies
    → next ≡ next_of roots → old ≡ [] → shown ≡ old ++ node_sights next plies 0 None x → IsSomeAnd o (λ y. ShowsTree roots y asked most shown plies)
shows roots x o there asked most plies next old shown deep picked none is =
    let all : shown ≡ node_sights (next_of roots) plies 0 None x =
    is ∙ (ap (λ l. l ++ node_sights next plies 0 None x) none ∙ ap (λ (m : Option ℕ). node_sights m plies 0 None x) picked) in
    subst (λ (p : Option Node). IsSomeAnd p (λ y. ShowsTree roots y asked most shown plies)) (sym there)
    (record { deepest = deep; nodes = all; count = ap length all ∙ node_sights-length (next_of roots) plies 0 None x })

pub map-next : (f : Spot → Sight) (xs : List Spot) (i : ℕ) (x : Spot) → i < length xs → x ≡ get_or xs i x → map f (take (i + 1) xs) ≡ map f (take i xs) ++ f x ∷ []
map-next f xs i x within is =
    ap (map f) (take_more xs i x within ∙ ap (λ (y : Spot). take i xs ++ y ∷ []) (sym is)) ∙ map-append f (take i xs) (x ∷ [])
