-- The roots of a bench, one by one, and the certificates of their values.
use Rattle.std.proofs.Common.{◌≡◌, ℕ, ◌+◌, ◌-◌, ◌<◌, List, [], ◌∷◌, ◌++◌, Bool, true, false, Option, Some, None, length, get_or, slice_get, map, take, refl, sym, ◌∙◌, ap, subst, arith, ⊎_elim}
use Rattle.std.specs.Prelude.{Contains, IfSome, IsSome, is_some, nat_eq, suc, cond, ◌≤◌, ◌^◌, ◌&&◌}
use Rattle.std.specs.List.{list_all}
use Rattle.std.proofs.lemmas.Bool.{false≢true}
use Rattle.std.proofs.lemmas.Option.{slice_get-get_or}
use Rattle.std.proofs.lemmas.List.{take_more, get_or-map, length-map}
use Rattle.std.proofs.lemmas.List.Sums.{count_by_more_yes, count_by_more_no}
use Rattle.std.proofs.lemmas.List.Recursion.{is_count_by}
use Rattle.std.proofs.lemmas.List.Elements.{Contains-push_cases}
use Rattle.draughts_board.specs.Board.{Board}
use Rattle.draughts_board.specs.Game.{HasValue}
use Rattle.draughts_board.specs.Draughts.{draughts}
use Rattle.draughts_board.specs.declared.pieces.Value.{Value}
use Rattle.draughts_board.specs.declared.pieces.Value.TheVariants.{BlackWins, WhiteWins, Draw}
use Rattle.strategy_certificate.specs.declared.claims.Claim.{Claim}
use Rattle.strategy_certificate.specs.declared.certificates.Certificate.{Certificate}
use Rattle.strategy_certificate.specs.Certificates.{IsTrueOf}
use Rattle.certificate_joiner.specs.Certified.{IsJoined, claim_for}
use Rattle.certificate_joiner.specs.Strategy.{named}
use Rattle.certificate_joiner.proofs.Named.{EachNode-contains, root_is, said_of}
use Rattle.proof_tree.specs.Forest.{Forest, Node, nodes, node_at, value_of}
use Rattle.proof_tree.specs.Rows.{blank_node}
use Rattle.proof_tree.specs.Sound.{IsSoundForest, IsSoundNode}
use Rattle.bench_core.specs.States.{are_settled}
use Rattle.opening_report.specs.declared.roots.Root.{Root}
use Rattle.opening_report.specs.Lines.{IsLine}
use Rattle.opening_report.specs.Report.{root_of, forest_roots, IsTrueRoot, AreTrueRoots, settled_count, summary_line}
use Rattle.opening_report.proofs.ReportLemmas.{summary_line-is_line}

-- ---- certificates

-- the certificate of a settled root, without the root
pub joined_there : (k : ℕ) (xs : List Node) (i : ℕ) (c : Certificate) → i < length xs → IfSome (slice_get xs i) (λ x. IsSome (value_of x))
    → IfSome (slice_get xs i) (λ x. IfSome (value_of x) (λ v. IsJoined k x.own.position (claim_for v) c)) → (p : Board) × ((claim : Claim) × IsJoined k p claim c)
joined_there k xs i c within settled joined =
    let x = get_or xs i blank_node in
    let here = slice_get-get_or xs i blank_node within in
    by x (value_of x) (subst (λ (o : Option Node). IfSome o (λ x. IsSome (value_of x))) here settled)
    (subst (λ (o : Option Node). IfSome o (λ x. IfSome (value_of x) (λ v. IsJoined k x.own.position (claim_for v) c))) here joined)
  where
    by : (x : Node) (v : Option Value) → IsSome v → IfSome v (λ v. IsJoined k x.own.position (claim_for v) c) → (p : Board) × ((claim : Claim) × IsJoined k p claim c)
    by x None some said = absurd (false≢true some)
    by x (Some v) some said = (x.own.position, (claim_for v, said))

value_claimed : (v : Value) (p : Board) → IsTrueOf (claim_for v) p → HasValue draughts p v
value_claimed BlackWins p h = h
value_claimed WhiteWins p h = h
value_claimed Draw p h = h

-- what it claims is the value
pub joined_true : (k : ℕ) (o : Option Node) (c : Certificate) → IfSome o (λ x. IfSome (value_of x) (λ v. IsJoined k x.own.position (claim_for v) c))
    → IsTrueOf c.claim c.position → IfSome o (λ x. IfSome (value_of x) (HasValue draughts x.own.position))
joined_true k None c joined is = tt
joined_true k (Some x) c joined is = by (value_of x) joined
  where
    by : (v : Option Value) → IfSome v (λ v. IsJoined k x.own.position (claim_for v) c) → IfSome v (HasValue draughts x.own.position)
    by None said = tt
    by (Some v) said =
        value_claimed v x.own.position (subst (λ q. IsTrueOf (claim_for v) q) said.position (subst (λ a. IsTrueOf a c.position) said.claims is))

-- ---- roots

-- what a call says of the root at a place, where there is one
pub at_root : (xs : List Node) (i : ℕ) (P : Node → Type 0) → i < length xs → IfSome (slice_get xs i) P → P (get_or xs i blank_node)
at_root xs i P within said = subst (λ (o : Option Node). IfSome o P) (slice_get-get_or xs i blank_node within) said

pub root_true : (roots : Forest) → IsSoundForest roots → (x : Node) → Contains (nodes roots) x → IfSome (value_of x) (HasValue draughts x.own.position)
    → IsTrueRoot (root_of x)
root_true roots sound x there right = record {
  lawful = (EachNode-contains IsSoundNode [] roots sound.each x there).0.lawful;
  right = λ v is. subst (λ (o : Option Value). IfSome o (HasValue draughts x.own.position)) is right;
}

-- the first roots, and one more
pub roots_more : (roots : Forest) (ys : List Root) (i : ℕ) (r : Root) → i < length (nodes roots) → ys ≡ take i (forest_roots roots)
    → IfSome (slice_get (nodes roots) (i + 1 - 1)) (λ x. r ≡ root_of x) → ys ++ r ∷ [] ≡ take (i + 1) (forest_roots roots)
roots_more roots ys i r within front said =
    let xs = nodes roots in
    let blank : Root = root_of blank_node in
    let fits : i < length (map root_of xs) = (let e = length-map xs root_of in omega arith) in
    let back : i + 1 - 1 ≡ i = omega arith in
    let here : r ≡ root_of (get_or xs i blank_node) = at_root xs i (λ x. r ≡ root_of x) within (subst (λ k. IfSome (slice_get xs k) (λ x. r ≡ root_of x)) back said) in
    ap (λ (l : List Root). l ++ r ∷ []) front
    ∙ (ap (λ (q : Root). take i (map root_of xs) ++ q ∷ []) (here ∙ sym (get_or-map root_of xs i blank_node blank within)) ∙ sym (take_more (map root_of xs) i blank fits))

pub true_more : (ys : List Root) (r : Root) → AreTrueRoots ys → IsTrueRoot r → AreTrueRoots (ys ++ r ∷ [])
true_more ys r each right = λ q there. ⊎_elim (λ before. each q before) (λ is. subst IsTrueRoot is right) (Contains-push_cases ys r q there)

-- ---- how many are settled

settled_more : (roots : Forest) (i : ℕ) (v : Option Value) (b : Bool) → i < length (nodes roots) → IfSome (slice_get (nodes roots) (i + 1 - 1)) (λ x. v ≡ value_of x) → is_some v ≡ b
    → is_some (get_or (forest_roots roots) i (root_of blank_node)).value ≡ b
settled_more roots i v b within said test =
    let xs = nodes roots in
    let back : i + 1 - 1 ≡ i = omega arith in
    let here : v ≡ value_of (get_or xs i blank_node) = at_root xs i (λ x. v ≡ value_of x) within (subst (λ k. IfSome (slice_get xs k) (λ x. v ≡ value_of x)) back said) in
    ap (λ (r : Root). is_some r.value) (get_or-map root_of xs i blank_node (root_of blank_node) within) ∙ (ap (λ (o : Option Value). is_some o) (sym here) ∙ test)

pub one_settled : (roots : Forest) (i : ℕ) (v : Option Value) → i < length (nodes roots) → IfSome (slice_get (nodes roots) (i + 1 - 1)) (λ x. v ≡ value_of x) → is_some v ≡ true
    → settled_count (take (i + 1) (forest_roots roots)) ≡ settled_count (take i (forest_roots roots)) + 1
one_settled roots i v within said test =
    let fits : i < length (forest_roots roots) = (let e = length-map (nodes roots) root_of in omega arith) in
    count_by_more_yes (λ (r : Root). is_some r.value) (forest_roots roots) i (root_of blank_node) fits (settled_more roots i v true within said test)

pub none_settled : (roots : Forest) (i : ℕ) (v : Option Value) → i < length (nodes roots) → IfSome (slice_get (nodes roots) (i + 1 - 1)) (λ x. v ≡ value_of x) → is_some v ≡ false
    → settled_count (take (i + 1) (forest_roots roots)) ≡ settled_count (take i (forest_roots roots))
none_settled roots i v within said test =
    let fits : i < length (forest_roots roots) = (let e = length-map (nodes roots) root_of in omega arith) in
    count_by_more_no (λ (r : Root). is_some r.value) (forest_roots roots) i (root_of blank_node) fits (settled_more roots i v false within said test)

-- ---- whether all are settled

module _ {X Y : Type 0} (f : X → Option Y) where
  abbrev some_count : List X → ℕ
  some_count [] = 0
  some_count (x ∷ xs) = cond (is_some (f x)) (1 + some_count xs) (some_count xs)

  some_count-most : (xs : List X) → some_count xs ≤ length xs
  some_count-most [] = omega arith
  some_count-most (x ∷ xs) = by (is_some (f x)) (some_count xs) (length xs) (some_count-most xs)
    where
      by : (b : Bool) (n m : ℕ) → n ≤ m → cond b (1 + n) n ≤ suc m
      by true n m le = omega arith
      by false n m le = omega arith

  -- as many are some as there are where all are, and fewer elsewhere
  count_tells : (xs : List X)
      → (list_all (λ x. is_some (f x)) xs ≡ true → some_count xs ≡ length xs) × (list_all (λ x. is_some (f x)) xs ≡ false → some_count xs < length xs)
  count_tells [] = (λ all. refl, λ all. absurd (false≢true (sym all)))
  count_tells (x ∷ xs) =
      let rest = count_tells xs in
      by (is_some (f x)) (list_all (λ x. is_some (f x)) xs) (some_count xs) (length xs) rest.0 rest.1 (some_count-most xs)
    where
      by : (b t : Bool) (n m : ℕ) → (t ≡ true → n ≡ m) → (t ≡ false → n < m) → n ≤ m
          → ((b && t) ≡ true → cond b (1 + n) n ≡ suc m) × ((b && t) ≡ false → cond b (1 + n) n < suc m)
      by true t n m same less le = (λ all. let e = same all in omega arith, λ all. let e = less all in omega arith)
      by false t n m same less le = (λ all. absurd (false≢true all), λ all. omega arith)

count_of_roots : (xs : List Node) → some_count (λ (r : Root). r.value) (map root_of xs) ≡ some_count value_of xs
count_of_roots [] = refl
count_of_roots (x ∷ xs) = ap (λ n. cond (is_some (value_of x)) (1 + n) n) (count_of_roots xs)

settled_is_some : (xs : List Root) → some_count (λ (r : Root). r.value) xs ≡ settled_count xs
settled_is_some = is_count_by (some_count (λ (r : Root). r.value)) (λ (r : Root). is_some r.value) refl (λ r rs. refl)

equal_by : (n m : ℕ) (b : Bool) → (b ≡ true → n ≡ m) → (b ≡ false → n < m) → nat_eq n m ≡ b
equal_by n m true same less = (let e = same refl in grind arith)
equal_by n m false same less = (let e = less refl in grind arith)

pub all_settled_from : (roots : Forest) (n m : ℕ) → n ≡ settled_count (forest_roots roots) → m ≡ length (nodes roots) → nat_eq n m ≡ are_settled roots
all_settled_from roots n m here there =
    let xs = nodes roots in
    let count : n ≡ some_count value_of xs = here ∙ (sym (settled_is_some (map root_of xs)) ∙ count_of_roots xs) in
    let tells = count_tells value_of xs in
    rw (count, there) (equal_by (some_count value_of xs) (length xs) (are_settled roots) tells.0 tells.1)

-- ---- the summary

pub summary_is_line : (roots : Forest) → length (nodes roots) ≤ 65536 → IsLine (summary_line (forest_roots roots))
summary_is_line roots few = summary_line-is_line (forest_roots roots) (let e = length-map (nodes roots) root_of in omega arith)

-- ---- a root by its node

module _ (roots : Forest) (sound : IsSoundForest roots) (i n : ℕ) (within : i < length (nodes roots))
    (number : IfSome (slice_get (nodes roots) i) (λ x. n ≡ x.own.number)) where
  pub root_named : IsSome (node_at n roots)
  root_named = (root_is roots sound i n within number).0

  module _ (p : Board) (v : Option Value) (at : IfSome (node_at n roots) (λ x. p ≡ x.own.position))
      (has : IfSome (slice_get (nodes roots) i) (λ x. v ≡ value_of x)) where
    made : record { position = p; value = v } ≡ root_of (named roots n)
    made =
        let is = root_is roots sound i n within number in
        let position : p ≡ (named roots n).own.position = said_of roots n (λ x. p ≡ x.own.position) is.0 at in
        let value : v ≡ value_of (named roots n) = subst (λ (o : Option Node). IfSome o (λ x. v ≡ value_of x)) is.1.0 has in
        rw (position, value) refl

    pub root_made : IfSome (slice_get (nodes roots) i) (λ x. record { position = p; value = v } ≡ root_of x)
    root_made =
        let is = root_is roots sound i n within number in
        subst (λ (o : Option Node). IfSome o (λ x. record { position = p; value = v } ≡ root_of x)) (sym is.1.0) made

    pub root_made_true : IfSome (slice_get (nodes roots) i) (λ x. IfSome (value_of x) (HasValue draughts x.own.position)) → IsTrueRoot (record { position = p; value = v })
    root_made_true right =
        let is = root_is roots sound i n within number in
        subst IsTrueRoot (sym made)
        (root_true roots sound (named roots n) is.1.1 (subst (λ (o : Option Node). IfSome o (λ x. IfSome (value_of x) (HasValue draughts x.own.position))) is.1.0 right))
