-- A record of work settles an unsettled root that looking ahead decides, and changes no other root.
use Rattle.std.proofs.Common.{◌≡◌, ◌≤◌, ◌+◌, ℕ, zero, suc, Bool, true, false, cond, eqb, List, [], ◌∷◌, Option, Some, None, is_some, IsSome, refl, ap, sym, ◌∙◌, subst, inl, inr, ⊎_elim, arith}
use Rattle.std.specs.Prelude.{◌⊎◌, not}
use Rattle.std.specs.List.{AllByRecursion as Each}
use Rattle.std.proofs.lemmas.Bool.{true≢false, false≢true, eqb-true}
use Rattle.std.proofs.lemmas.List.Sums.{sum_by-cons}
use Rattle.draughts_board.specs.Board.{Board, other}
use Rattle.draughts_board.specs.Draughts.{draughts}
use Rattle.draughts_board.specs.Game.{ShowsWin, ShowsHold}
use Rattle.draughts_board.specs.declared.pieces.Side.{Side}
use Rattle.draughts_board.specs.declared.pieces.Side.TheVariants.{Black, White}
use Rattle.draughts_board.specs.declared.pieces.Value.{Value}
use Rattle.draughts_board.specs.declared.pieces.Value.TheVariants.{BlackWins, WhiteWins}
use Rattle.draughts_board.proofs.Truth.{CanForce-weaker, Wins-holds}
use Rattle.proof_numbers.specs.declared.numbers.Numbers.{Numbers}
use Rattle.proof_numbers.specs.Known.{Known, joined, knows_win, knows_hold}
use Rattle.proof_numbers.specs.Numbers.{proved, refuted, is_zero, is_resolved}
use Rattle.proof_tree.specs.declared.rows.Mark.{Mark}
use Rattle.proof_tree.specs.declared.rows.Mark.TheVariants.{Unexpanded}
use Rattle.proof_tree.specs.Forest.{Own, Forest, no_node, node, Node, nodes, node_at, numbers, numbers_at, numbers_by_mark, value_by, value_of, goal_of, or_else}
use Rattle.proof_tree.specs.Changes.{changed, learn}
use Rattle.proof_tree.specs.Picking.{Way, best_way, open_by, pick_by, pick_at, pick_from}
use Rattle.proof_tree.specs.Sound.{occurrences}
use Rattle.proof_tree.proofs.EachNode.{found_occurs, found_where, test_true}
use Rattle.draughts_board.specs.Board.{same_side}
use Rattle.journal_runs.specs.Ample.{ShowsValue, unsettled_roots}
use Rattle.journal_runs.specs.FirstPass.{IsUnsettledRoot}

-- ---- an unsettled root

counts_one : (b : Bool) (k l : ℕ) → b ≡ true → 1 ≤ cond b 1 0 + (k + l)
counts_one true k l e = omega arith
counts_one false k l e = absurd (false≢true e)

root_occurs : (n : ℕ) (t : Forest) → IsUnsettledRoot n t → 1 ≤ occurrences n t
root_occurs n no_node h = absurd h
root_occurs n (node own children others) (inl h) = counts_one (eqb own.number n) (occurrences n children) (occurrences n others) (test_true own.number n h.0)
root_occurs n (node own children others) (inr h) = let r = root_occurs n others h in omega (arith, r)

-- the counts of a node whose number is counted once at most
first_only : (b : Bool) (k l : ℕ) → cond b 1 0 + (k + l) ≤ 1 → b ≡ true → (k ≡ 0) × (l ≡ 0)
first_only true k l e h = (omega arith, omega arith)
first_only false k l e h = absurd (false≢true h)

others_only : (b : Bool) (k l : ℕ) → cond b 1 0 + (k + l) ≤ 1 → 1 ≤ l → (b ≡ false) × ((k ≡ 0) × (l ≤ 1))
others_only true k l e h = absurd (omega arith)
others_only false k l e h = (refl, (omega arith, omega arith))

none_counted : (b : Bool) (k l : ℕ) → cond b 1 0 + (k + l) ≡ 0 → (b ≡ false) × ((k ≡ 0) × (l ≡ 0))
none_counted true k l e = absurd (omega arith)
none_counted false k l e = (refl, (omega arith, omega arith))

-- what a number names has this number
pub number_named : (n : ℕ) (t : Forest) (x : Node) → node_at n t ≡ Some x → x.own.number ≡ n
number_named n no_node x there = absurd (cc there)
number_named n (node own children others) x there =
    let self : Node = record { own = own; children = children } in
    ⊎_elim (λ here. subst (λ (y : Node). y.own.number ≡ n) here.1 (eqb-true own.number n here.0))
    (λ elsewhere. ⊎_elim (λ below. number_named n children x below) (λ rest. number_named n others x rest.1) elsewhere.1)
    (found_where (eqb own.number n) self x (node_at n children) (node_at n others) there)

-- it is the node that its number names
pub the_root : (P : Node → Type 0) (n : ℕ) (t : Forest) (x : Node) → occurrences n t ≤ 1 → IsUnsettledRoot n t → node_at n t ≡ Some x → Each P (nodes t) → (value_of x ≡ None) × P x
the_root P n no_node x once h there each = absurd h
the_root P n (node own children others) x once (inl h) there each =
    let self : Node = record { own = own; children = children } in
    ⊎_elim (λ here. (subst (λ (y : Node). value_of y ≡ None) here.1 h.1, subst P here.1 each.0))
    (λ elsewhere. absurd (true≢false (sym (test_true own.number n h.0) ∙ elsewhere.0)))
    (found_where (eqb own.number n) self x (node_at n children) (node_at n others) there)
the_root P n (node own children others) x once (inr h) there each =
    let self : Node = record { own = own; children = children } in
    let few = others_only (eqb own.number n) (occurrences n children) (occurrences n others) once (root_occurs n others h) in
    ⊎_elim (λ here. absurd (true≢false (sym here.0 ∙ few.0)))
    (λ elsewhere. ⊎_elim
    (λ below. let some = found_occurs n children x below in absurd (omega (arith, some, few.1.0)))
    (λ rest. the_root P n others x few.1.1 h rest.1 each.1)
    elsewhere.1)
    (found_where (eqb own.number n) self x (node_at n children) (node_at n others) there)

-- ---- the root that is picked

is_it : (v : Option Value) (m : Mark) (r taken : Bool) (n : ℕ) (best : Option Way) (goal : Side) (leaf : ℕ × Side) → IsSome v ⊎ (m ≡ Unexpanded) → pick_by v (cond r None (open_by m taken n best)) goal ≡ Some leaf → (n ≡ leaf.0) × (v ≡ None)
is_it (Some w) m r taken n best goal leaf h e = absurd (cc e)
is_it None m r taken n best goal leaf (inl h) e = absurd (false≢true h)
is_it None m r taken n best goal leaf (inr h) e = at_leaf r taken (subst (λ (k : Mark). pick_by None (cond r None (open_by k taken n best)) goal ≡ Some leaf) h e)
  where
    at_leaf : (r taken : Bool) → pick_by None (cond r None (open_by Unexpanded taken n best)) goal ≡ Some leaf → (n ≡ leaf.0) × (◌≡◌ {A = Option Value} None None)
    at_leaf true taken e = absurd (cc e)
    at_leaf false true e = absurd (cc e)
    at_leaf false false e = let same : (n, goal) ≡ leaf = cc e in (ap (λ (l : ℕ × Side). l.0) same, refl)

first_or_rest : (a b : Option (ℕ × Side)) (r : ℕ × Side) → or_else a b ≡ Some r → (a ≡ Some r) ⊎ (b ≡ Some r)
first_or_rest None b r e = inr e
first_or_rest (Some x) b r e = inl e

abbrev pub IsLeafOrSettled : Node → Type 0
IsLeafOrSettled root = IsSome (value_of root) ⊎ (root.own.mark ≡ Unexpanded)

pub picked_root : (taken : ℕ → Bool) (t : Forest) (leaf : ℕ × Side) → Each IsLeafOrSettled (nodes t) → pick_from taken (nodes t) ≡ Some leaf → IsUnsettledRoot leaf.0 t
picked_root taken no_node leaf each e = absurd (cc e)
picked_root taken (node own children others) leaf each e =
    let root : Node = record { own = own; children = children } in
    let its = numbers_at (goal_of root) own (numbers (goal_of root) children) in
    ⊎_elim
    (λ here. inl (is_it (value_of root) own.mark (is_resolved its) (taken own.number) own.number (best_way (goal_of root) taken (same_side (goal_of root) own.position.to_move) children) (goal_of root) leaf each.0 here))
    (λ rest. inr (picked_root taken others leaf each.1 rest))
    (first_or_rest (pick_at taken root) (pick_from taken (nodes others)) leaf e)

-- ---- what looking ahead shows

held_too : (k : ℕ) (s : Side) (d : ℕ) (path : List Board) (p : Board) → ShowsWin draughts k s d p → ShowsHold draughts k s d path p
held_too k s zero path p h = inr (h.0, Wins-holds draughts s p h.1)
held_too k s (suc d) path p (inl h) = inl (inr (h.0, Wins-holds draughts s p h.1))
held_too k s (suc d) path p (inr h) = inr (h.0, CanForce-weaker draughts s (ShowsWin draughts k s d) (ShowsHold draughts k s d (p ∷ path)) p (λ q shows. held_too k s d (p ∷ path) q shows) h.1)

-- so it shows for each goal the goal's win or the other side's hold
pub shown_for : (k depth : ℕ) (goal : Side) (p : Board) → ShowsValue k depth p → ShowsWin draughts k goal depth p ⊎ ShowsHold draughts k (other goal) depth [] p
shown_for k depth Black p (inl black) = inl black
shown_for k depth White p (inl black) = inr (held_too k Black depth [] p black)
shown_for k depth Black p (inr (inl white)) = inr (held_too k White depth [] p white)
shown_for k depth White p (inr (inl white)) = inl white
shown_for k depth Black p (inr (inr both)) = inr both.1
shown_for k depth White p (inr (inr both)) = inr both.0

-- ---- what settles a root

abbrev pub decided : Bool → Bool → Numbers → Numbers
decided win hold rest = cond win proved (cond hold refuted rest)

pub by_black : (hold : Bool) (x w : Numbers) (win : Bool) → win ≡ true → is_some (value_by (decided win hold x) w) ≡ true
by_black hold x w true e = refl
by_black hold x w false e = absurd (false≢true e)

pub by_white : (b : Numbers) (hold : Bool) (y : Numbers) (win : Bool) → win ≡ true → is_some (value_by b (decided win hold y)) ≡ true
by_white b hold y false e = absurd (false≢true e)
by_white b hold y true e = either (is_zero b.proof)
  where
    either : (z : Bool) → is_some (cond z (Some BlackWins) (Some WhiteWins)) ≡ true
    either true = refl
    either false = refl

pub by_holds : (bw ww wh bh : Bool) (x y : Numbers) → wh ≡ true → bh ≡ true → is_some (value_by (decided bw wh x) (decided ww bh y)) ≡ true
by_holds true ww wh bh x y e f = refl
by_holds false true wh bh x y e f = by_white (decided false wh x) bh y true refl
by_holds false false true true x y e f = refl
by_holds false false false bh x y e f = absurd (false≢true e)
by_holds false false true false x y e f = absurd (false≢true f)

pub shown_settles : (k depth : ℕ) (own : Own) (children : Forest) → ShowsValue k depth own.position
    → ((s : Side) → ShowsWin draughts k s depth own.position → knows_win s own.facts ≡ true) → ((s : Side) → ShowsHold draughts k s depth [] own.position → knows_hold s own.facts ≡ true)
    → is_some (value_of (record { own = own; children = children })) ≡ true
shown_settles k depth own children shows wins holds =
    let x = numbers_by_mark Black own.mark own.position (numbers Black children) in
    let y = numbers_by_mark White own.mark own.position (numbers White children) in
    let f = own.facts in
    ⊎_elim (λ black. by_black f.white_holds x (decided f.white_wins f.black_holds y) f.black_wins (wins Black black))
    (λ more. ⊎_elim (λ white. by_white (decided f.black_wins f.white_holds x) f.black_holds y f.white_wins (wins White white))
    (λ both. by_holds f.black_wins f.white_wins f.white_holds f.black_holds x y (holds White both.1) (holds Black both.0)) more)
    shows

-- ---- a root that learns

-- how many are left, counted from the first on
abbrev pub left : Forest → ℕ
left no_node = 0
left (node own children others) = cond (is_some (value_of (record { own = own; children = children }))) (left others) (suc (left others))

count_step : (b : Bool) (m : ℕ) → cond (not b) 1 0 + m ≡ cond b m (suc m)
count_step true m = omega arith
count_step false m = omega arith

pub left_is : (t : Forest) → unsettled_roots t ≡ left t
left_is no_node = refl
left_is (node own children others) =
    let root : Node = record { own = own; children = children } in
    sum_by-cons (λ (x : Node). cond (not (is_some (value_of x))) 1 0) root (nodes others)
    ∙ (ap (λ n. cond (not (is_some (value_of root))) 1 0 + n) (left_is others) ∙ count_step (is_some (value_of root)) (left others))

left_over : (t : Forest) (b : Bool) (own : Own) (children : Forest) → is_some (value_of (record { own = own; children = children })) ≡ b → left (node own children t) ≡ cond b (left t) (suc (left t))
left_over t b own children e = ap (λ c. cond c (left t) (suc (left t))) e

module _ (n : ℕ) (facts : Known) where
  abbrev after : Forest → Forest
  after t = changed (learn n facts) t

  learn_other : (own : Own) → eqb own.number n ≡ false → learn n facts own ≡ own
  learn_other own e = ap (λ b. cond b (record own { facts = joined own.facts facts }) own) e

  no_changes : (t : Forest) → occurrences n t ≡ 0 → after t ≡ t
  no_changes no_node e = refl
  no_changes (node own children others) e =
      let none = none_counted (eqb own.number n) (occurrences n children) (occurrences n others) e in
      λ i. node (learn_other own none.0 i) (no_changes children none.1.0 i) (no_changes others none.1.1 i)

  same_first : (own : Own) (children others : Forest) → eqb own.number n ≡ false → occurrences n children ≡ 0 → after (node own children others) ≡ node own children (after others)
  same_first own children others e none = λ i. node (learn_other own e i) (no_changes children none i) (after others)

  -- of what holds of each settled root
  module _ (P : Node → Type 0) (of_settled : (x : Node) → IsSome (value_of x) → P x) where
    -- what a record leaves of the roots
    pub record IsSettledOne (t new : Forest) : Type 0 where
      pub within : Each P (nodes new)
      pub fewer : suc (left new) ≡ left t
      pub others : (m : ℕ) → (m ≡ n → ⊥) → IsUnsettledRoot m t → IsUnsettledRoot m new

    first_settles : (own : Own) (children others new : Forest) (own' : Own) (children' : Forest) → own.number ≡ n → value_of (record { own = own; children = children }) ≡ None
        → is_some (value_of (record { own = own'; children = children' })) ≡ true → new ≡ others → Each P (nodes others)
        → IsSettledOne (node own children others) (node own' children' new)
    first_settles own children others new own' children' is none settled same each =
        subst (λ (f : Forest). IsSettledOne (node own children others) (node own' children' f)) (sym same)
        (record {
          within = (of_settled (record { own = own'; children = children' }) settled, each);
          fewer = ap suc (left_over others true own' children' settled) ∙ sym (left_over others false own children (ap is_some none));
          others = λ m differs. ⊎_elim (λ first. absurd (differs (sym first.0 ∙ is))) (λ rest. inr rest);
        })

    then_others : (own : Own) (children others new : Forest) → P (record { own = own; children = children }) → IsSettledOne others new → IsSettledOne (node own children others) (node own children new)
    then_others own children others new first h = record {
      within = (first, h.within);
      fewer = fewer_by (is_some (value_of (record { own = own; children = children }))) (left new) (left others) h.fewer;
      others = λ m differs. ⊎_elim (λ here. inl here) (λ rest. inr (h.others m differs rest));
    }
      where
        fewer_by : (b : Bool) (x y : ℕ) → suc x ≡ y → suc (cond b x (suc x)) ≡ cond b y (suc y)
        fewer_by true x y e = e
        fewer_by false x y e = ap suc e

    pub settled_one : (t : Forest) (x : Node) → occurrences n t ≤ 1 → IsUnsettledRoot n t → node_at n t ≡ Some x
        → is_some (value_of (record { own = learn n facts x.own; children = after x.children })) ≡ true → Each P (nodes t) → IsSettledOne t (after t)
    settled_one no_node x once h there settled each = absurd h
    settled_one (node own children others) x once (inl h) there settled each =
        let self : Node = record { own = own; children = children } in
        let few = first_only (eqb own.number n) (occurrences n children) (occurrences n others) once (test_true own.number n h.0) in
        ⊎_elim
        (λ here. first_settles own children others (after others) (learn n facts own) (after children) h.0 h.1
        (subst (λ (y : Node). is_some (value_of (record { own = learn n facts y.own; children = after y.children })) ≡ true) (sym here.1) settled) (no_changes others few.1) each.1)
        (λ elsewhere. absurd (true≢false (sym (test_true own.number n h.0) ∙ elsewhere.0)))
        (found_where (eqb own.number n) self x (node_at n children) (node_at n others) there)
    settled_one (node own children others) x once (inr h) there settled each =
        let self : Node = record { own = own; children = children } in
        let few = others_only (eqb own.number n) (occurrences n children) (occurrences n others) once (root_occurs n others h) in
        subst (IsSettledOne (node own children others)) (sym (same_first own children others few.0 few.1.0))
        (⊎_elim (λ here. absurd (true≢false (sym here.0 ∙ few.0)))
        (λ elsewhere. ⊎_elim
        (λ below. let some = found_occurs n children x below in absurd (omega (arith, some, few.1.0)))
        (λ rest. then_others own children others (after others) each.0 (settled_one others x few.1.1 h rest.1 settled each.1))
        elsewhere.1)
        (found_where (eqb own.number n) self x (node_at n children) (node_at n others) there))
