-- A lease is of a leaf that was not taken, and has the next number.
use Rattle.std.proofs.Common.{◌≡◌, ℕ, ◌+◌, List, [], ◌∷◌, refl, ap, sym, ◌∙◌, subst, inl, inr, ⊎_elim}
use Rattle.std.specs.Prelude.{◌⊎◌, Bool, true, false, cond, if◌then◌else◌, nat_le, filter, ◌&&◌, ◌||◌, Option, Some, None, Result, Ok, Err}
use Rattle.std.specs.List.{list_any}
use Rattle.draughts_board.specs.Board.{same_side}
use Rattle.draughts_board.specs.declared.pieces.Side.{Side}
use Rattle.draughts_board.specs.declared.pieces.Value.{Value}
use Rattle.proof_numbers.specs.declared.numbers.Number.{Number}
use Rattle.proof_numbers.specs.declared.numbers.Numbers.{Numbers}
use Rattle.proof_numbers.specs.Numbers.{is_resolved}
use Rattle.proof_tree.specs.declared.rows.Mark.{Mark}
use Rattle.proof_tree.specs.declared.rows.Mark.TheVariants.{Unexpanded, Expanded, Repeats}
use Rattle.proof_tree.specs.Forest.{Own, Forest, no_node, node, Node, nodes, numbers, numbers_at, goal_of, value_of, or_else}
use Rattle.proof_tree.specs.Picking.{Way, is_below, better, left_to_show, leaf_of, way_of, open_by, leaf_at, best_way, leaf_below, pick_by, pick_at, pick_from, pick}
use Rattle.lease_table.specs.declared.leases.Lease.{Lease}
use Rattle.lease_table.specs.declared.leases.Row.{Row}
use Rattle.lease_table.specs.Rows.{is_of, is_live_row, is_leased}
use Rattle.bench_core.specs.declared.refusals.LeaseRefusal.{LeaseRefusal}
use Rattle.bench_core.specs.declared.refusals.LeaseRefusal.TheVariants.{Done, Spent}
use Rattle.bench_core.specs.States.{CoreState, are_settled, lease_of, lease_of_picked, lease_answer}

-- ---- what is picked is free

some_is : {A : Type 0} (x y : A) → Some x ≡ Some y → x ≡ y
some_is x y h = cc h

better_by : (b : Bool) (x y way : Way) → (if b then Some y else Some x) ≡ Some way → (x ≡ way) ⊎ (y ≡ way)
better_by true x y way h = inr (some_is y way h)
better_by false x y way h = inl (some_is x way h)

better_of : (a b : Option Way) (way : Way) → better a b ≡ Some way → (a ≡ Some way) ⊎ (b ≡ Some way)
better_of None b way h = inr h
better_of (Some x) None way h = inl h
better_of (Some x) (Some y) way h =
    ⊎_elim (λ e. inl (ap (λ (w : Way). Some w) e)) (λ e. inr (ap (λ (w : Way). Some w) e))
    (better_by (is_below y.left x.left) x y way h)

way_leaf : (left : Number) (leaf : Option ℕ) (way : Way) → way_of left leaf ≡ Some way → leaf ≡ Some way.leaf
way_leaf left None way h = absurd (cc h)
way_leaf left (Some n) way h = ap (λ (w : Way). Some w.leaf) (some_is (record { left = left; leaf = n }) way h)

leaf_way : (best : Option Way) (n : ℕ) → leaf_of best ≡ Some n → (way : Way) × (best ≡ Some way) × (way.leaf ≡ n)
leaf_way None n h = absurd (cc h)
leaf_way (Some way) n h = (way, refl, some_is way.leaf n h)

open_free : (taken : ℕ → Bool) (mark : Mark) (b : Bool) (m : ℕ) (best : Option Way) (n : ℕ) → taken m ≡ b
    → ((way : Way) → best ≡ Some way → taken way.leaf ≡ false) → open_by mark b m best ≡ Some n → taken n ≡ false
open_free taken Unexpanded true m best n is free h = absurd (cc h)
open_free taken Unexpanded false m best n is free h = subst (λ k. taken k ≡ false) (some_is m n h) is
open_free taken Expanded b m best n is free h =
    let way = leaf_way best n h in subst (λ k. taken k ≡ false) way.2 (free way.0 way.1)
open_free taken Repeats b m best n is free h = absurd (cc h)

unresolved_free : (taken : ℕ → Bool) (own : Own) (b : Bool) (best : Option Way) (n : ℕ) → ((way : Way) → best ≡ Some way → taken way.leaf ≡ false)
    → (if b then None else open_by own.mark (taken own.number) own.number best) ≡ Some n → taken n ≡ false
unresolved_free taken own true best n free h = absurd (cc h)
unresolved_free taken own false best n free h = open_free taken own.mark (taken own.number) own.number best n refl free h

leaf_free : (taken : ℕ → Bool) (own : Own) (its : Numbers) (best : Option Way) (n : ℕ) → ((way : Way) → best ≡ Some way → taken way.leaf ≡ false)
    → leaf_at taken own its best ≡ Some n → taken n ≡ false
leaf_free taken own its best n free h = unresolved_free taken own (is_resolved its) best n free h

best_free : (goal : Side) (taken : ℕ → Bool) (by_proof : Bool) (roots : Forest) (way : Way) → best_way goal taken by_proof roots ≡ Some way → taken way.leaf ≡ false
best_free goal taken by_proof no_node way h = absurd (cc h)
best_free goal taken by_proof (node own children others) way h =
    let its = numbers_at goal own (numbers goal children) in
    let best = best_way goal taken (same_side goal own.position.to_move) children in
    ⊎_elim
    (λ here. leaf_free taken own its best way.leaf (best_free goal taken (same_side goal own.position.to_move) children)
    (way_leaf (left_to_show by_proof its) (leaf_at taken own its best) way here))
    (λ there. best_free goal taken by_proof others way there)
    (better_of (way_of (left_to_show by_proof its) (leaf_at taken own its best)) (best_way goal taken by_proof others) way h)

by_value : (value : Option Value) (leaf : Option ℕ) (goal : Side) (found : ℕ × Side) → pick_by value leaf goal ≡ Some found → leaf ≡ Some found.0
by_value (Some v) leaf goal found h = absurd (cc h)
by_value None None goal found h = absurd (cc h)
by_value None (Some n) goal found h = ap (λ (f : ℕ × Side). Some f.0) (some_is (n, goal) found h)

at_free : (taken : ℕ → Bool) (root : Node) (found : ℕ × Side) → pick_at taken root ≡ Some found → taken found.0 ≡ false
at_free taken root found h =
    let goal = goal_of root in
    leaf_free taken root.own (numbers_at goal root.own (numbers goal root.children)) (best_way goal taken (same_side goal root.own.position.to_move) root.children) found.0
    (best_free goal taken (same_side goal root.own.position.to_move) root.children)
    (by_value (value_of root) (leaf_below goal taken root) goal found h)

else_of : (a b : Option (ℕ × Side)) (found : ℕ × Side) → or_else a b ≡ Some found → (a ≡ Some found) ⊎ (b ≡ Some found)
else_of None b found h = inr h
else_of (Some x) b found h = inl h

from_free : (taken : ℕ → Bool) (roots : List Node) (found : ℕ × Side) → pick_from taken roots ≡ Some found → taken found.0 ≡ false
from_free taken [] found h = absurd (cc h)
from_free taken (root ∷ more) found h =
    ⊎_elim (λ here. at_free taken root found here) (λ there. from_free taken more found there)
    (else_of (pick_at taken root) (pick_from taken more) found h)

pub pick_free : (taken : ℕ → Bool) (roots : Forest) (found : ℕ × Side) → pick taken roots ≡ Some found → taken found.0 ≡ false
pick_free taken roots found h = from_free taken (nodes roots) found h

-- ---- the lease of an answer

ok_is : (a b : Lease) → let x : Result Lease LeaseRefusal = Ok a in let y : Result Lease LeaseRefusal = Ok b in x ≡ y → a ≡ b
ok_is a b h = cc h

picked_is : (s : CoreState) (worker : ℕ) (found : Option (ℕ × Side)) (lease : Lease) → lease_of_picked s worker found ≡ Ok lease
    → (leaf : ℕ × Side) × (found ≡ Some leaf) × (lease_of s worker leaf ≡ lease)
picked_is s worker None lease h = absurd (cc h)
picked_is s worker (Some leaf) lease h = (leaf, refl, ok_is (lease_of s worker leaf) lease h)

answer_is : (s : CoreState) (worker : ℕ) (done spent : Bool) (found : Option (ℕ × Side)) (lease : Lease)
    → (if done then Err Done else (if spent then Err (Spent s.work s.settings.budget) else lease_of_picked s worker found)) ≡ Ok lease
    → (leaf : ℕ × Side) × (found ≡ Some leaf) × (lease_of s worker leaf ≡ lease)
answer_is s worker true spent found lease h = absurd (cc h)
answer_is s worker false true found lease h = absurd (cc h)
answer_is s worker false false found lease h = picked_is s worker found lease h

pub lease_number : (s : CoreState) (worker : ℕ) (lease : Lease) → lease_answer s worker ≡ Ok lease → lease.id ≡ s.given + 1
lease_number s worker lease h =
    let leaf = answer_is s worker (are_settled s.forest) (nat_le s.settings.budget s.work) (pick (λ n. is_leased s.leases n (s.given + 1)) s.forest) lease h in
    sym (ap (λ (l : Lease). l.id) leaf.2)

pub lease_worker : (s : CoreState) (worker : ℕ) (lease : Lease) → lease_answer s worker ≡ Ok lease → lease.worker ≡ worker
lease_worker s worker lease h =
    let leaf = answer_is s worker (are_settled s.forest) (nat_le s.settings.budget s.work) (pick (λ n. is_leased s.leases n (s.given + 1)) s.forest) lease h in
    sym (ap (λ (l : Lease). l.worker) leaf.2)

pub lease_settings : (s : CoreState) (worker : ℕ) (lease : Lease) → lease_answer s worker ≡ Ok lease → (lease.pieces ≡ s.settings.pieces) × (lease.depth ≡ s.settings.depth)
lease_settings s worker lease h =
    let leaf = answer_is s worker (are_settled s.forest) (nat_le s.settings.budget s.work) (pick (λ n. is_leased s.leases n (s.given + 1)) s.forest) lease h in
    (sym (ap (λ (l : Lease). l.pieces) leaf.2), sym (ap (λ (l : Lease). l.depth) leaf.2))

and_true : (b : Bool) → (b && true) ≡ b
and_true true = refl
and_true false = refl

and_false : (b : Bool) → (b && false) ≡ false
and_false true = refl
and_false false = refl

filtered_step : (p : Row → Bool) (row : Row) (rows : List Row) (b rest : Bool) → rest ≡ list_any p rows → ((p row && b) || rest) ≡ list_any p (cond b (row ∷ rows) rows)
filtered_step p row rows true rest same = rw same (ap (λ c. c || list_any p rows) (and_true (p row)))
filtered_step p row rows false rest same = rw same (ap (λ c. c || list_any p rows) (and_false (p row)))

any_filtered : (p t : Row → Bool) (rows : List Row) → list_any (λ row. p row && t row) rows ≡ list_any p (filter t rows)
any_filtered p t [] = refl
any_filtered p t (row ∷ rows) = filtered_step p row (filter t rows) (t row) (list_any (λ r. p r && t r) rows) (any_filtered p t rows)

pub lease_free : (s : CoreState) (worker : ℕ) (lease : Lease) → lease_answer s worker ≡ Ok lease
    → list_any (is_of lease.node) (filter (is_live_row s.leases.limit (s.given + 1)) s.leases.rows) ≡ false
lease_free s worker lease h =
    let taken : ℕ → Bool = λ n. is_leased s.leases n (s.given + 1) in
    let leaf = answer_is s worker (are_settled s.forest) (nat_le s.settings.budget s.work) (pick taken s.forest) lease h in
    sym (any_filtered (is_of lease.node) (is_live_row s.leases.limit (s.given + 1)) s.leases.rows)
    ∙ subst (λ (l : Lease). taken l.node ≡ false) leaf.2 (pick_free taken s.forest leaf.0 leaf.1)
