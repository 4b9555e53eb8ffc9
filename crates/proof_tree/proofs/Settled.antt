-- A settled root stays settled while the tree grows.
use Rattle.std.proofs.Common.{◌≡◌, ℕ, zero, suc, ◌+◌, ◌-◌, ◌<◌, ◌≤◌, min, Bool, true, false, ◌||◌, ◌&&◌, cond, eqb, List, [], ◌∷◌, map, length, drop, Option, Some, None, is_some, refl, sym, ap, ◌∙◌, subst, arith}
use Rattle.std.specs.List.{list_all}
use Rattle.std.proofs.lemmas.Bool.{false≢true, eqb-true, ne_eqb}
use Rattle.std.proofs.lemmas.Bool.Decides.{nat_tests}
use Rattle.draughts_board.specs.Board.{Board, other, same_side}
use Rattle.draughts_board.specs.Play.{successors_of}
use Rattle.draughts_board.specs.declared.pieces.Side.{Side}
use Rattle.draughts_board.specs.declared.pieces.Side.TheVariants.{Black, White}
use Rattle.draughts_board.specs.declared.pieces.Value.{Value}
use Rattle.draughts_board.specs.declared.pieces.Value.TheVariants.{BlackWins, WhiteWins, Draw}
use Rattle.proof_numbers.specs.declared.leaves.Child.{Child}
use Rattle.proof_numbers.specs.declared.numbers.Number.{Number}
use Rattle.proof_numbers.specs.declared.numbers.Number.TheVariants.{Finite}
use Rattle.proof_numbers.specs.declared.numbers.Numbers.{Numbers}
use Rattle.proof_numbers.specs.Known.{Known, knows_win, knows_hold, joined, IsConsistent}
use Rattle.proof_numbers.specs.Numbers.{least_of, total_of, is_zero, proved, refuted, unknown, counted_moves, mobility}
use Rattle.proof_tree.specs.declared.rows.Mark.{Mark}
use Rattle.proof_tree.specs.declared.rows.Mark.TheVariants.{Unexpanded, Expanded, Repeats}
use Rattle.proof_tree.specs.Changes.{appended, changed, learn, expanded, new_nodes, with_root, with_facts, with_children}
use Rattle.proof_tree.specs.Forest.{Own, Node, Forest, no_node, node, forest, nodes, node_at, size, folded, numbers_by_mark, numbers_at, numbers, node_numbers, goal_of, value_by, value_of, or_else}
use Rattle.proof_tree.specs.Picking.{leaf_below, pick_by, pick_from}
use Rattle.proof_tree.specs.Rows.{node_in, settled_front, IsSettledAt, AreSettled, AreNoted}
use Rattle.proof_tree.specs.Sound.{EachNode, IsSoundForest}
use Rattle.proof_tree.proofs.EachNode.{EachNode-map, only_node, test_true}
use Rattle.proof_tree.proofs.Numbered.{at_most_once}
use Rattle.proof_tree.proofs.OpenLeaves.{least_zero, total_zero}

-- ---- numbers that stay 0

-- what is 0 of the first is 0 of the second
record KeepZeros (a b : Numbers) : Type 0 where
  proof : is_zero a.proof ≡ true → is_zero b.proof ≡ true
  disproof : is_zero a.disproof ≡ true → is_zero b.disproof ≡ true

abbrev AllKeep : List Numbers → List Numbers → Type 0
AllKeep [] [] = Unit {0}
AllKeep [] (y ∷ ys) = ⊥
AllKeep (x ∷ xs) [] = ⊥
AllKeep (x ∷ xs) (y ∷ ys) = KeepZeros x y × AllKeep xs ys

same_zeros : (x : Numbers) → KeepZeros x x
same_zeros x = record { proof = λ e. e; disproof = λ e. e }

or_keeps : (a b c d : Bool) → (a ≡ true → c ≡ true) → (b ≡ true → d ≡ true) → (a || b) ≡ true → (c || d) ≡ true
or_keeps true b c d f g e = ap (λ x. x || d) (f refl)
or_keeps false b true d f g e = refl
or_keeps false b false d f g e = g e

and_keeps : (a b c d : Bool) → (a ≡ true → c ≡ true) → (b ≡ true → d ≡ true) → (a && b) ≡ true → (c && d) ≡ true
and_keeps true b c d f g e = λ i. f refl i && g e i
and_keeps false b c d f g e = absurd (false≢true e)

least_keeps : (h : Numbers → Number) → ((x y : Numbers) → KeepZeros x y → is_zero (h x) ≡ true → is_zero (h y) ≡ true) → (xs ys : List Numbers)
    → AllKeep xs ys → is_zero (least_of (map h xs)) ≡ true → is_zero (least_of (map h ys)) ≡ true
least_keeps h keeps [] [] all e = e
least_keeps h keeps [] (y ∷ ys) all e = absurd all
least_keeps h keeps (x ∷ xs) [] all e = absurd all
least_keeps h keeps (x ∷ xs) (y ∷ ys) all e =
    least_zero (h y) (least_of (map h ys))
    ∙ or_keeps (is_zero (h x)) (is_zero (least_of (map h xs))) (is_zero (h y)) (is_zero (least_of (map h ys)))
    (keeps x y all.0) (least_keeps h keeps xs ys all.1) (sym (least_zero (h x) (least_of (map h xs))) ∙ e)

total_keeps : (h : Numbers → Number) → ((x y : Numbers) → KeepZeros x y → is_zero (h x) ≡ true → is_zero (h y) ≡ true) → (xs ys : List Numbers)
    → AllKeep xs ys → is_zero (total_of (map h xs)) ≡ true → is_zero (total_of (map h ys)) ≡ true
total_keeps h keeps [] [] all e = e
total_keeps h keeps [] (y ∷ ys) all e = absurd all
total_keeps h keeps (x ∷ xs) [] all e = absurd all
total_keeps h keeps (x ∷ xs) (y ∷ ys) all e =
    total_zero (h y) (total_of (map h ys))
    ∙ and_keeps (is_zero (h x)) (is_zero (total_of (map h xs))) (is_zero (h y)) (is_zero (total_of (map h ys)))
    (keeps x y all.0) (total_keeps h keeps xs ys all.1) (sym (total_zero (h x) (total_of (map h xs))) ∙ e)

folded_keeps : (moves : Bool) (xs ys : List Numbers) → AllKeep xs ys → KeepZeros (folded moves xs) (folded moves ys)
folded_keeps true xs ys all = record {
  proof = least_keeps (λ x. x.proof) (λ x y k. k.proof) xs ys all;
  disproof = total_keeps (λ x. x.disproof) (λ x y k. k.disproof) xs ys all;
}
folded_keeps false xs ys all = record {
  proof = total_keeps (λ x. x.proof) (λ x y k. k.proof) xs ys all;
  disproof = least_keeps (λ x. x.disproof) (λ x y k. k.disproof) xs ys all;
}

-- ---- of a node

by_mark_keeps : (goal : Side) (m : Mark) (p : Board) (xs ys : List Numbers) → AllKeep xs ys
    → KeepZeros (numbers_by_mark goal m p xs) (numbers_by_mark goal m p ys)
by_mark_keeps goal Repeats p xs ys all = same_zeros refuted
by_mark_keeps goal Unexpanded p xs ys all = same_zeros (unknown goal p.to_move (mobility p))
by_mark_keeps goal Expanded p xs ys all = folded_keeps (same_side goal p.to_move) xs ys all

by_tests : (w h : Bool) (x y : Numbers) → KeepZeros x y → KeepZeros (cond w proved (cond h refuted x)) (cond w proved (cond h refuted y))
by_tests true h x y k = same_zeros proved
by_tests false true x y k = same_zeros refuted
by_tests false false x y k = k

-- whose children's numbers stay 0
own_keeps : (goal : Side) (own : Own) (xs ys : List Numbers) → AllKeep xs ys → KeepZeros (numbers_at goal own xs) (numbers_at goal own ys)
own_keeps goal own xs ys all =
    by_tests (knows_win goal own.facts) (knows_hold (other goal) own.facts) (numbers_by_mark goal own.mark own.position xs)
    (numbers_by_mark goal own.mark own.position ys) (by_mark_keeps goal own.mark own.position xs ys all)

-- a position counts a move at least
some_moves : (n : ℕ) → is_zero (Finite (counted_moves n)) ≡ true → ⊥
some_moves n t = by (eqb n 0) refl (eqb-true (counted_moves n) 0 t)
  where
    by : (b : Bool) → eqb n 0 ≡ b → cond b 1 (min n 64) ≡ 0 → ⊥
    by true e is = omega arith
    by false e is = let more : 0 < n = grind (arith, nat_tests, e) in omega arith

-- where nothing is known, neither number is 0
unknown_open : (b : Bool) (n : ℕ) (y : Numbers)
    → KeepZeros (cond b (record { proof = Finite 1; disproof = Finite (counted_moves n) }) (record { proof = Finite (counted_moves n); disproof = Finite 1 })) y
unknown_open true n y = record { proof = λ e. absurd (false≢true e); disproof = λ e. absurd (some_moves n e) }
unknown_open false n y = record { proof = λ e. absurd (some_moves n e); disproof = λ e. absurd (false≢true e) }

learnt_by : (w h w' h' : Bool) (x y : Numbers) → (w ≡ true → w' ≡ true) → (h ≡ true → h' ≡ true) → (w' ≡ true → h' ≡ false)
    → ((z : Numbers) → KeepZeros x z) → KeepZeros (cond w proved (cond h refuted x)) (cond w' proved (cond h' refuted y))
learnt_by true h true h' x y f g apart any = same_zeros proved
learnt_by true h false h' x y f g apart any = absurd (false≢true (f refl))
learnt_by false true true h' x y f g apart any = absurd (false≢true (sym (apart refl) ∙ g refl))
learnt_by false true false true x y f g apart any = same_zeros refuted
learnt_by false true false false x y f g apart any = absurd (false≢true (g refl))
learnt_by false false w' h' x y f g apart any = any (cond w' proved (cond h' refuted y))

left_or : (a b : Bool) → a ≡ true → (a || b) ≡ true
left_or true b e = refl
left_or false b e = absurd (false≢true e)

more_wins : (goal : Side) (a b : Known) → knows_win goal a ≡ true → knows_win goal (joined a b) ≡ true
more_wins Black a b = left_or a.black_wins b.black_wins
more_wins White a b = left_or a.white_wins b.white_wins

more_holds : (goal : Side) (a b : Known) → knows_hold goal a ≡ true → knows_hold goal (joined a b) ≡ true
more_holds Black a b = left_or a.black_holds b.black_holds
more_holds White a b = left_or a.white_holds b.white_holds

not_both : (goal : Side) (facts : Known) → IsConsistent facts → knows_win goal facts ≡ true → knows_hold (other goal) facts ≡ false
not_both Black facts agree e = (agree.black e).1
not_both White facts agree e = (agree.white e).1

-- an unexpanded node that learns facts
learnt_keeps : (goal : Side) (own : Own) (facts : Known) (xs ys : List Numbers) → own.mark ≡ Unexpanded → IsConsistent (joined own.facts facts)
    → KeepZeros (numbers_at goal own xs) (numbers_at goal (record own { facts = joined own.facts facts }) ys)
learnt_keeps goal own facts xs ys mark agree =
    let before = numbers_by_mark goal own.mark own.position xs in
    let after = numbers_by_mark goal own.mark own.position ys in
    let any : (z : Numbers) → KeepZeros before z =
    λ z. subst (λ (m : Mark). KeepZeros (numbers_by_mark goal m own.position xs) z) (sym mark)
    (unknown_open (same_side goal own.position.to_move) (length (successors_of own.position)) z) in
    learnt_by (knows_win goal own.facts) (knows_hold (other goal) own.facts) (knows_win goal (joined own.facts facts)) (knows_hold (other goal) (joined own.facts facts))
    before after (more_wins goal own.facts facts) (more_holds (other goal) own.facts facts) (not_both goal (joined own.facts facts) agree) any

-- an unexpanded node that gets children
expanded_keeps : (goal : Side) (own : Own) (xs ys : List Numbers) → own.mark ≡ Unexpanded
    → KeepZeros (numbers_at goal own xs) (numbers_at goal (record own { mark = Expanded }) ys)
expanded_keeps goal own xs ys mark =
    let after = numbers_by_mark goal Expanded own.position ys in
    by_tests (knows_win goal own.facts) (knows_hold (other goal) own.facts) (numbers_by_mark goal own.mark own.position xs) after
    (subst (λ (m : Mark). KeepZeros (numbers_by_mark goal m own.position xs) after) (sym mark)
    (unknown_open (same_side goal own.position.to_move) (length (successors_of own.position)) after))

-- ---- of a forest

module _ (goal : Side) (n : ℕ) where
  learn_by : (b : Bool) (facts : Known) (own : Own) (xs ys : List Numbers) → (b ≡ true → (own.mark ≡ Unexpanded) × IsConsistent (joined own.facts facts))
      → AllKeep xs ys → KeepZeros (numbers_at goal own xs) (numbers_at goal (cond b (record own { facts = joined own.facts facts }) own) ys)
  learn_by true facts own xs ys may all = let m = may refl in learnt_keeps goal own facts xs ys m.0 m.1
  learn_by false facts own xs ys may all = own_keeps goal own xs ys all

  numbers_learnt : (facts : Known) (path : List Board) (t : Forest)
      → EachNode (λ above y. y.own.number ≡ n → (y.own.mark ≡ Unexpanded) × IsConsistent (joined y.own.facts facts)) path t
      → AllKeep (numbers goal t) (numbers goal (changed (learn n facts) t))
  numbers_learnt facts path no_node each = tt
  numbers_learnt facts path (node own children others) each = (
    learn_by (eqb own.number n) facts own (numbers goal children) (numbers goal (changed (learn n facts) children))
        (λ e. each.0 (eqb-true own.number n e)) (numbers_learnt facts (own.position ∷ path) children each.1.0),
    numbers_learnt facts path others each.1.1,
  )

  expand_by : (b : Bool) (own : Own) (below fresh after : Forest) → (b ≡ true → own.mark ≡ Unexpanded)
      → AllKeep (numbers goal below) (numbers goal after)
      → KeepZeros (numbers_at goal own (numbers goal below)) (numbers_at goal (cond b (record own { mark = Expanded }) own) (numbers goal (cond b fresh after)))
  expand_by true own below fresh after may all = expanded_keeps goal own (numbers goal below) (numbers goal fresh) (may refl)
  expand_by false own below fresh after may all = own_keeps goal own (numbers goal below) (numbers goal after) all

  numbers_expanded : (children : List Child) (next : ℕ) (path : List Board) (t : Forest)
      → EachNode (λ above y. y.own.number ≡ n → y.own.mark ≡ Unexpanded) path t
      → AllKeep (numbers goal t) (numbers goal (expanded n children next path t))
  numbers_expanded children next path no_node each = tt
  numbers_expanded children next path (node own below others) each = (
    expand_by (eqb own.number n) own below (forest (new_nodes (own.position ∷ path) next children)) (expanded n children next (own.position ∷ path) below)
        (λ e. each.0 (eqb-true own.number n e)) (numbers_expanded children next (own.position ∷ path) below each.1.0),
    numbers_expanded children next path others each.1.1,
  )

-- ---- of the roots

value_is_some : (p q d e : Bool) → is_some (cond p (Some BlackWins) (cond q (Some WhiteWins) (cond (d && e) (Some Draw) None))) ≡ (p || (q || (d && e)))
value_is_some true q d e = refl
value_is_some false true d e = refl
value_is_some false false true true = refl
value_is_some false false true false = refl
value_is_some false false false e = refl

value_stays : (b w b' w' : Numbers) → KeepZeros b b' → KeepZeros w w' → is_some (value_by b w) ≡ true → is_some (value_by b' w') ≡ true
value_stays b w b' w' black white e =
    value_is_some (is_zero b'.proof) (is_zero w'.proof) (is_zero b'.disproof) (is_zero w'.disproof)
    ∙ or_keeps (is_zero b.proof) (is_zero w.proof || (is_zero b.disproof && is_zero w.disproof)) (is_zero b'.proof) (is_zero w'.proof || (is_zero b'.disproof && is_zero w'.disproof))
    black.proof
    (or_keeps (is_zero w.proof) (is_zero b.disproof && is_zero w.disproof) (is_zero w'.proof) (is_zero b'.disproof && is_zero w'.disproof) white.proof
    (and_keeps (is_zero b.disproof) (is_zero w.disproof) (is_zero b'.disproof) (is_zero w'.disproof) black.disproof white.disproof))
    (sym (value_is_some (is_zero b.proof) (is_zero w.proof) (is_zero b.disproof) (is_zero w.disproof)) ∙ e)

front_step : (x y : Bool) (m n : ℕ) → (x ≡ true → y ≡ true) → m ≤ n → cond x (suc m) 0 ≤ cond y (suc n) 0
front_step true true m n f le = omega arith
front_step true false m n f le = absurd (false≢true (f refl))
front_step false y m n f le = omega arith

-- which roots of the first are settled still are in the second
abbrev pub AllStay : List Node → List Node → Type 0
AllStay [] ys = Unit {0}
AllStay (x ∷ xs) [] = ⊥
AllStay (x ∷ xs) (y ∷ ys) = (is_some (value_of x) ≡ true → is_some (value_of y) ≡ true) × AllStay xs ys

all_stay : (t u : Forest) → AllKeep (numbers Black t) (numbers Black u) → AllKeep (numbers White t) (numbers White u) → AllStay (nodes t) (nodes u)
all_stay no_node u black white = tt
all_stay (node own children others) no_node black white = absurd black
all_stay (node own children others) (node own' children' others') black white =
    let x : Node = record { own = own; children = children } in
    let y : Node = record { own = own'; children = children' } in
    (value_stays (node_numbers Black x) (node_numbers White x) (node_numbers Black y) (node_numbers White y) black.0 white.0, all_stay others others' black.1 white.1)

all_appended : (t u : Forest) → AllStay (nodes t) (nodes (appended t u))
all_appended no_node u = tt
all_appended (node own children others) u = (λ e. e, all_appended others u)

stays_at : (xs ys : List Node) (k : ℕ) → AllStay xs ys → IsSettledAt xs k → IsSettledAt ys k
stays_at [] ys k all h = absurd h
stays_at (x ∷ xs) [] k all h = absurd all
stays_at (x ∷ xs) (y ∷ ys) zero all h = all.0 h
stays_at (x ∷ xs) (y ∷ ys) (suc k) all h = stays_at xs ys k all.1 h

-- what was noted stays so
pub still_noted : (xs ys : List Node) (ends starts : List ℕ) → AllStay xs ys → AreNoted xs ends starts → AreNoted ys ends starts
still_noted xs ys ends starts all noted = record {
  ahead = λ k end at n from to. stays_at xs ys n all (noted.ahead k end at n from to);
  behind = λ k start at n from to. stays_at xs ys n all (noted.behind k start at n from to);
}

front_stays : (t u : Forest) → AllKeep (numbers Black t) (numbers Black u) → AllKeep (numbers White t) (numbers White u)
    → settled_front (nodes t) ≤ settled_front (nodes u)
front_stays no_node u black white = omega arith
front_stays (node own children others) no_node black white = absurd black
front_stays (node own children others) (node own' children' others') black white =
    let x : Node = record { own = own; children = children } in
    let y : Node = record { own = own'; children = children' } in
    front_step (is_some (value_of x)) (is_some (value_of y)) (settled_front (nodes others)) (settled_front (nodes others'))
    (value_stays (node_numbers Black x) (node_numbers White x) (node_numbers Black y) (node_numbers White y) black.0 white.0)
    (front_stays others others' black.1 white.1)

front_appended : (t u : Forest) → settled_front (nodes t) ≤ settled_front (nodes (appended t u))
front_appended no_node u = omega arith
front_appended (node own children others) u =
    let x : Node = record { own = own; children = children } in
    front_step (is_some (value_of x)) (is_some (value_of x)) (settled_front (nodes others)) (settled_front (nodes (appended others u))) (λ e. e)
    (front_appended others u)

pub front_with_root : (p : Board) (facts : Known) (roots : Forest) → settled_front (nodes roots) ≤ settled_front (nodes (with_root p facts roots))
front_with_root p facts roots = front_appended roots (node (record { number = size roots; position = p; facts = facts; mark = Unexpanded }) no_node no_node)

pub all_with_root : (p : Board) (facts : Known) (roots : Forest) → AllStay (nodes roots) (nodes (with_root p facts roots))
all_with_root p facts roots = all_appended roots (node (record { number = size roots; position = p; facts = facts; mark = Unexpanded }) no_node no_node)

module _ (roots : Forest) (n : ℕ) (x : Node) (sound : IsSoundForest roots) (here : node_at n roots ≡ Some x) (leaf : x.own.mark ≡ Unexpanded) where
  only : EachNode (λ above y. y.own.number ≡ n → y ≡ x) [] roots
  only = only_node n [] roots x here (at_most_once n roots sound.numbered)

  pub front_with_facts : (facts : Known) → IsConsistent (joined x.own.facts facts) → settled_front (nodes roots) ≤ settled_front (nodes (with_facts n facts roots))
  front_with_facts facts agree =
      let each = EachNode-map (λ above y. y.own.number ≡ n → y ≡ x)
      (λ above y. y.own.number ≡ n → (y.own.mark ≡ Unexpanded) × IsConsistent (joined y.own.facts facts))
      (λ above y is e. subst (λ (z : Node). (z.own.mark ≡ Unexpanded) × IsConsistent (joined z.own.facts facts)) (sym (is e)) (leaf, agree)) [] roots only in
      front_stays roots (changed (learn n facts) roots) (numbers_learnt Black n facts [] roots each) (numbers_learnt White n facts [] roots each)

  pub all_with_facts : (facts : Known) → IsConsistent (joined x.own.facts facts) → AllStay (nodes roots) (nodes (with_facts n facts roots))
  all_with_facts facts agree =
      let each = EachNode-map (λ above y. y.own.number ≡ n → y ≡ x)
      (λ above y. y.own.number ≡ n → (y.own.mark ≡ Unexpanded) × IsConsistent (joined y.own.facts facts))
      (λ above y is e. subst (λ (z : Node). (z.own.mark ≡ Unexpanded) × IsConsistent (joined z.own.facts facts)) (sym (is e)) (leaf, agree)) [] roots only in
      all_stay roots (changed (learn n facts) roots) (numbers_learnt Black n facts [] roots each) (numbers_learnt White n facts [] roots each)

  pub front_with_children : (children : List Child) → settled_front (nodes roots) ≤ settled_front (nodes (with_children n children roots))
  front_with_children children =
      let each = EachNode-map (λ above y. y.own.number ≡ n → y ≡ x) (λ above y. y.own.number ≡ n → y.own.mark ≡ Unexpanded)
      (λ above y is e. subst (λ (z : Node). z.own.mark ≡ Unexpanded) (sym (is e)) leaf) [] roots only in
      front_stays roots (expanded n children (size roots) [] roots) (numbers_expanded Black n children (size roots) [] roots each)
      (numbers_expanded White n children (size roots) [] roots each)

  pub all_with_children : (children : List Child) → AllStay (nodes roots) (nodes (with_children n children roots))
  all_with_children children =
      let each = EachNode-map (λ above y. y.own.number ≡ n → y ≡ x) (λ above y. y.own.number ≡ n → y.own.mark ≡ Unexpanded)
      (λ above y is e. subst (λ (z : Node). z.own.mark ≡ Unexpanded) (sym (is e)) leaf) [] roots only in
      all_stay roots (expanded n children (size roots) [] roots) (numbers_expanded Black n children (size roots) [] roots each)
      (numbers_expanded White n children (size roots) [] roots each)

-- ---- the first unsettled root

pub front_within : (xs : List Node) → settled_front xs ≤ length xs
front_within [] = omega arith
front_within (x ∷ xs) = by (is_some (value_of x)) (front_within xs)
  where
    by : (b : Bool) → settled_front xs ≤ length xs → cond b (suc (settled_front xs)) 0 ≤ suc (length xs)
    by true le = omega arith
    by false le = omega arith

-- the root behind k settled ones
pub front_goes_on : (xs : List Node) (k : ℕ) → k < length xs → k ≤ settled_front xs → is_some (value_of (node_in xs k)) ≡ true → suc k ≤ settled_front xs
front_goes_on [] k l le e = absurd (omega arith)
front_goes_on (x ∷ xs) zero l le e = subst (λ (b : Bool). 1 ≤ cond b (suc (settled_front xs)) 0) (sym e) (omega arith)
front_goes_on (x ∷ xs) (suc k) l le e = by (is_some (value_of x)) le (λ below. front_goes_on xs k (omega arith) below e)
  where
    by : (b : Bool) → suc k ≤ cond b (suc (settled_front xs)) 0 → (k ≤ settled_front xs → suc k ≤ settled_front xs)
        → suc (suc k) ≤ cond b (suc (settled_front xs)) 0
    by true le more = let m = more (omega arith) in omega arith
    by false le more = absurd (omega arith)

pub front_ends : (xs : List Node) (k : ℕ) → k < length xs → k ≤ settled_front xs → is_some (value_of (node_in xs k)) ≡ false → k ≡ settled_front xs
front_ends [] k l le e = absurd (omega arith)
front_ends (x ∷ xs) zero l le e = subst (λ (b : Bool). 0 ≡ cond b (suc (settled_front xs)) 0) (sym e) refl
front_ends (x ∷ xs) (suc k) l le e = by (is_some (value_of x)) le (λ below. front_ends xs k (omega arith) below e)
  where
    by : (b : Bool) → suc k ≤ cond b (suc (settled_front xs)) 0 → (k ≤ settled_front xs → k ≡ settled_front xs)
        → suc k ≡ cond b (suc (settled_front xs)) 0
    by true le same = ap suc (same (omega arith))
    by false le same = absurd (omega arith)

-- all are settled where none is left
abbrev has_value : Node → Bool
has_value root = is_some (value_of root)

front_full : (xs : List Node) → list_all has_value xs ≡ true → settled_front xs ≡ length xs
front_full [] e = refl
front_full (x ∷ xs) e = by (has_value x) e (front_full xs)
  where
    by : (b : Bool) → (b && list_all has_value xs) ≡ true → (list_all has_value xs ≡ true → settled_front xs ≡ length xs)
        → cond b (suc (settled_front xs)) 0 ≡ suc (length xs)
    by true e rest = ap suc (rest e)
    by false e rest = absurd (false≢true e)

front_short : (xs : List Node) → list_all has_value xs ≡ false → settled_front xs < length xs
front_short [] e = absurd (false≢true (sym e))
front_short (x ∷ xs) e = by (has_value x) e (front_short xs)
  where
    by : (b : Bool) → (b && list_all has_value xs) ≡ false → (list_all has_value xs ≡ false → settled_front xs < length xs)
        → cond b (suc (settled_front xs)) 0 < suc (length xs)
    by true e rest = let l = rest e in omega (arith, l)
    by false e rest = omega arith

pub front_all : (xs : List Node) → eqb (settled_front xs) (length xs) ≡ list_all (λ root. is_some (value_of root)) xs
front_all xs = by (list_all has_value xs) refl
  where
    by : (b : Bool) → list_all has_value xs ≡ b → eqb (settled_front xs) (length xs) ≡ b
    by true e = test_true (settled_front xs) (length xs) (front_full xs e)
    by false e = ne_eqb (settled_front xs) (length xs) (λ same. let l = front_short xs e in omega (arith, l, same))

-- settled roots give nothing to work on
pub front_skipped : (taken : ℕ → Bool) (xs : List Node) (k : ℕ) → k ≤ settled_front xs → pick_from taken xs ≡ pick_from taken (drop k xs)
front_skipped taken [] zero le = refl
front_skipped taken [] (suc k) le = absurd (omega arith)
front_skipped taken (x ∷ xs) zero le = refl
front_skipped taken (x ∷ xs) (suc k) le = by (value_of x) le ∙ front_skipped taken xs k (within (is_some (value_of x)) le)
  where
    within : (b : Bool) → suc k ≤ cond b (suc (settled_front xs)) 0 → k ≤ settled_front xs
    within true le = omega arith
    within false le = absurd (omega arith)

    by : (v : Option Value) → suc k ≤ cond (is_some v) (suc (settled_front xs)) 0
        → or_else (pick_by v (leaf_below (goal_of x) taken x) (goal_of x)) (pick_from taken xs) ≡ pick_from taken xs
    by (Some v) le = refl
    by None le = absurd (omega arith)

pick_next : (taken : ℕ → Bool) (xs : List Node) (k : ℕ) → IsSettledAt xs k → pick_from taken (drop k xs) ≡ pick_from taken (drop (suc k) xs)
pick_next taken [] k h = absurd h
pick_next taken (x ∷ []) zero h = by (value_of x) h
  where
    by : (v : Option Value) → is_some v ≡ true → or_else (pick_by v (leaf_below (goal_of x) taken x) (goal_of x)) (pick_from taken []) ≡ pick_from taken []
    by (Some v) e = refl
    by None e = absurd (false≢true e)
pick_next taken (x ∷ (y ∷ xs)) zero h = by (value_of x) h
  where
    by : (v : Option Value) → is_some v ≡ true → or_else (pick_by v (leaf_below (goal_of x) taken x) (goal_of x)) (pick_from taken (y ∷ xs)) ≡ pick_from taken (y ∷ xs)
    by (Some v) e = refl
    by None e = absurd (false≢true e)
pick_next taken (x ∷ xs) (suc k) h = pick_next taken xs k h

stretch_by : (taken : ℕ → Bool) (xs : List Node) (n k end : ℕ) → end ≡ k + n → AreSettled xs k end → pick_from taken (drop k xs) ≡ pick_from taken (drop end xs)
stretch_by taken xs zero k end is all = ap (λ (i : ℕ). pick_from taken (drop i xs)) (let it : k ≡ end = omega (arith, is) in it)
stretch_by taken xs (suc n) k end is all =
    pick_next taken xs k (all k (omega arith) (omega (arith, is))) ∙ stretch_by taken xs n (suc k) end (omega (arith, is)) (λ i from to. all i (omega (arith, from)) to)

-- a stretch of settled roots gives nothing to work on
pub stretch_skipped : (taken : ℕ → Bool) (xs : List Node) (k end : ℕ) → k ≤ end → AreSettled xs k end → pick_from taken (drop k xs) ≡ pick_from taken (drop end xs)
stretch_skipped taken xs k end le all = stretch_by taken xs (end - k) k end (omega (arith, le)) all
