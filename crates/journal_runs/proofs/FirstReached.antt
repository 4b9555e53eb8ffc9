-- What a work record of a root's own node leaves of the roots.
use Rattle.std.proofs.Common.{◌≡◌, ◌≤◌, ℕ, suc, Bool, true, false, cond, eqb, List, [], ◌∷◌, Option, Some, None, is_some, IsSome, refl, ap, sym, ◌∙◌, subst, inl, inr, ⊎_elim}
use Rattle.std.specs.Prelude.{◌⊎◌, ◌||◌, ◌&&◌}
use Rattle.std.specs.List.{list_any, AllByRecursion as Each}
use Rattle.std.proofs.lemmas.Bool.{true≢false, false≢true, eqb-true, eq-eqb, or_cases}
use Rattle.draughts_board.specs.Board.{Board, other}
use Rattle.draughts_board.specs.Draughts.{draughts}
use Rattle.draughts_board.specs.Game.{ShowsWin, ShowsHold}
use Rattle.draughts_board.specs.declared.pieces.Side.{Side}
use Rattle.draughts_board.specs.declared.pieces.Side.TheVariants.{Black, White}
use Rattle.draughts_board.specs.declared.pieces.Value.{Value}
use Rattle.draughts_board.specs.declared.pieces.Value.TheVariants.{BlackWins, WhiteWins, Draw}
use Rattle.proof_numbers.specs.declared.leaves.Child.{Child}
use Rattle.proof_numbers.specs.declared.numbers.Numbers.{Numbers}
use Rattle.proof_numbers.specs.Known.{Known, joined, known_value, knows_win, knows_hold}
use Rattle.proof_tree.specs.declared.rows.Mark.TheVariants.{Expanded}
use Rattle.proof_tree.specs.Forest.{Own, Forest, no_node, node, Node, nodes, node_at, numbers, numbers_by_mark, value_of, size}
use Rattle.proof_tree.specs.Changes.{changed, learn, with_facts, expanded, expand_own, with_children}
use Rattle.proof_tree.specs.Sound.{occurrences, EachNode}
use Rattle.proof_tree.proofs.EachNode.{only_node}
use Rattle.proof_tree.proofs.Settled.{AllStay}
use Rattle.journal_runs.specs.Ample.{ShowsValue, IsReached}
use Rattle.journal_runs.proofs.AmpleRoots.{by_black, by_white, by_holds, decided, shown_settles, shown_for}
use Rattle.journal_runs.proofs.FirstRoots.{has}

-- ---- roots before and behind a record

abbrev Paired : (Node → Node → Type 0) → List Node → List Node → Type 0
Paired R [] [] = Unit {0}
Paired R [] (y ∷ ys) = ⊥
Paired R (x ∷ xs) [] = ⊥
Paired R (x ∷ xs) (y ∷ ys) = R x y × Paired R xs ys

each_paired : (R : Node → Node → Type 0) (P Q : Node → Type 0) (xs ys : List Node) → ((x y : Node) → R x y → P x → Q y) → Paired R xs ys → Each P xs → Each Q ys
each_paired R P Q [] [] f pairs each = tt
each_paired R P Q [] (y ∷ ys) f pairs each = absurd pairs
each_paired R P Q (x ∷ xs) [] f pairs each = absurd pairs
each_paired R P Q (x ∷ xs) (y ∷ ys) f pairs each = (f x y pairs.0 each.0, each_paired R P Q xs ys f pairs.1 each.1)

-- of a root: the number and the position stay, and so does a value
pub record IsStill (x y : Node) : Type 0 where
  pub number : y.own.number ≡ x.own.number
  pub position : y.own.position ≡ x.own.position
  pub settled : is_some (value_of x) ≡ true → is_some (value_of y) ≡ true

still_paired : (R : Node → Node → Type 0) (xs ys : List Node) → ((x y : Node) → R x y → (y.own.number ≡ x.own.number) × (y.own.position ≡ x.own.position)) → Paired R xs ys → AllStay xs ys
    → Paired (λ x y. R x y × IsStill x y) xs ys
still_paired R [] [] f pairs stay = tt
still_paired R [] (y ∷ ys) f pairs stay = absurd pairs
still_paired R (x ∷ xs) [] f pairs stay = absurd pairs
still_paired R (x ∷ xs) (y ∷ ys) f pairs stay =
    let same = f x y pairs.0 in
    ((pairs.0, record { number = same.0; position = same.1; settled = stay.0 }), still_paired R xs ys f pairs.1 stay.1)

still_reached : (k depth : ℕ) (x y : Node) → IsStill x y → IsReached k depth x → IsReached k depth y
still_reached k depth x y still reached shows = still.settled (reached (subst (λ p. ShowsValue k depth p) still.position shows))

-- ---- facts that are learnt

abbrev learnt : ℕ → Known → Node → Node
learnt n facts x = record { own = learn n facts x.own; children = changed (learn n facts) x.children }

learn_paired : (n : ℕ) (facts : Known) (t : Forest) → Paired (λ x y. y ≡ learnt n facts x) (nodes t) (nodes (with_facts n facts t))
learn_paired n facts no_node = tt
learn_paired n facts (node own children others) = (refl, learn_paired n facts others)

learn_number : (n : ℕ) (facts : Known) (own : Own) → (learn n facts own).number ≡ own.number
learn_number n facts own = by (eqb own.number n)
  where
    by : (b : Bool) → (cond b (record own { facts = joined own.facts facts }) own).number ≡ own.number
    by true = refl
    by false = refl

learn_position : (n : ℕ) (facts : Known) (own : Own) → (learn n facts own).position ≡ own.position
learn_position n facts own = by (eqb own.number n)
  where
    by : (b : Bool) → (cond b (record own { facts = joined own.facts facts }) own).position ≡ own.position
    by true = refl
    by false = refl

learn_still : (n : ℕ) (facts : Known) (t : Forest) → AllStay (nodes t) (nodes (with_facts n facts t)) → Paired (λ x y. (y ≡ learnt n facts x) × IsStill x y) (nodes t) (nodes (with_facts n facts t))
learn_still n facts t stay =
    still_paired (λ x y. y ≡ learnt n facts x) (nodes t) (nodes (with_facts n facts t))
    (λ x y is. (ap (λ (z : Node). z.own.number) is ∙ learn_number n facts x.own, ap (λ (z : Node). z.own.position) is ∙ learn_position n facts x.own))
    (learn_paired n facts t) stay

-- ---- a node that is expanded

abbrev ExpandsOwn : ℕ → Node → Node → Type 0
ExpandsOwn n x y = y.own ≡ expand_own n x.own

expand_paired : (n : ℕ) (children : List Child) (next : ℕ) (path : List Board) (t : Forest) → Paired (ExpandsOwn n) (nodes t) (nodes (expanded n children next path t))
expand_paired n children next path no_node = tt
expand_paired n children next path (node own below others) = (refl, expand_paired n children next path others)

expand_same : (n : ℕ) (own : Own) → ((expand_own n own).number ≡ own.number) × ((expand_own n own).position ≡ own.position)
expand_same n own = by (eqb own.number n)
  where
    by : (b : Bool) → ((cond b (record own { mark = Expanded }) own).number ≡ own.number) × ((cond b (record own { mark = Expanded }) own).position ≡ own.position)
    by true = (refl, refl)
    by false = (refl, refl)

expand_still : (n : ℕ) (children : List Child) (t : Forest) → AllStay (nodes t) (nodes (with_children n children t)) → Paired (λ x y. ExpandsOwn n x y × IsStill x y) (nodes t) (nodes (with_children n children t))
expand_still n children t stay =
    still_paired (ExpandsOwn n) (nodes t) (nodes (with_children n children t))
    (λ x y is. let same = expand_same n x.own in (ap (λ (own : Own). own.number) is ∙ same.0, ap (λ (own : Own). own.position) is ∙ same.1))
    (expand_paired n children (size t) [] t) stay

-- ---- roots that are due

-- it is reached, or there is still to come a record of its node
abbrev pub IsDue : ℕ → ℕ → List ℕ → Node → Type 0
IsDue k depth ns root = IsReached k depth root ⊎ (has root.own.number ns ≡ true)

each_root : (P : List Board → Node → Type 0) (path : List Board) (t : Forest) → EachNode P path t → Each (P path) (nodes t)
each_root P path no_node each = tt
each_root P path (node own children others) each = (each.0, each_root P path others each.1.1)

-- a root with the number of this node is the node
named : (n : ℕ) (t : Forest) (x : Node) → node_at n t ≡ Some x → occurrences n t ≤ 1 → Each (λ root. root.own.number ≡ n → root ≡ x) (nodes t)
named n t x there once = each_root (λ above y. y.own.number ≡ n → y ≡ x) [] t (only_node n [] t x there once)

each_both : (P Q : Node → Type 0) (xs : List Node) → Each P xs → Each Q xs → Each (λ x. P x × Q x) xs
each_both P Q [] p q = tt
each_both P Q (x ∷ xs) p q = ((p.0, q.0), each_both P Q xs p.1 q.1)

module _ (k depth : ℕ) (t : Forest) (n : ℕ) (ns : List ℕ) (x : Node) (there : node_at n t ≡ Some x) (once : occurrences n t ≤ 1) where
  abbrev Before : Node → Type 0
  Before root = IsDue k depth (n ∷ ns) root × (root.own.number ≡ n → root ≡ x)

  due_on : (new : Forest) (R : Node → Node → Type 0) → Paired (λ x y. R x y × IsStill x y) (nodes t) (nodes new) → ((y : Node) → R x y × IsStill x y → IsReached k depth y)
      → Each (IsDue k depth (n ∷ ns)) (nodes t) → Each (IsDue k depth ns) (nodes new)
  due_on new R pairs here due =
      each_paired (λ x y. R x y × IsStill x y) Before (IsDue k depth ns) (nodes t) (nodes new) step pairs
      (each_both (IsDue k depth (n ∷ ns)) (λ root. root.own.number ≡ n → root ≡ x) (nodes t) due (named n t x there once))
    where
      worked : (root y : Node) → R root y × IsStill root y → Before root → (eqb root.own.number n ≡ true) ⊎ (has root.own.number ns ≡ true) → IsDue k depth ns y
      worked root y pair before (inl same) =
          let is = before.1 (eqb-true root.own.number n same) in
          inl (here y (subst (λ (z : Node). R z y × IsStill z y) is pair))
      worked root y pair before (inr more) = inr (subst (λ m. has m ns ≡ true) (sym pair.1.number) more)

      step : (root y : Node) → R root y × IsStill root y → Before root → IsDue k depth ns y
      step root y pair before =
          ⊎_elim (λ reached. inl (still_reached k depth root y pair.1 reached))
          (λ of. worked root y pair before (or_cases (eqb root.own.number n) (has root.own.number ns) of)) before.0

  -- a search that tells all that looking ahead shows
  pub due_solved : (facts : Known) → AllStay (nodes t) (nodes (with_facts n facts t)) → x.own.number ≡ n
      → ((s : Side) → ShowsWin draughts k s depth x.own.position → knows_win s (joined x.own.facts facts) ≡ true)
      → ((s : Side) → ShowsHold draughts k s depth [] x.own.position → knows_hold s (joined x.own.facts facts) ≡ true)
      → Each (IsDue k depth (n ∷ ns)) (nodes t) → Each (IsDue k depth ns) (nodes (with_facts n facts t))
  due_solved facts stay number wins holds due =
      due_on (with_facts n facts t) (λ x y. y ≡ learnt n facts x) (learn_still n facts t stay)
      (λ y pair shows.
      let own_is : learn n facts x.own ≡ record x.own { facts = joined x.own.facts facts } = ap (λ b. cond b (record x.own { facts = joined x.own.facts facts }) x.own) (test number) in
      let shows_x : ShowsValue k depth x.own.position = subst (λ p. ShowsValue k depth p) pair.1.position shows in
      subst (λ (z : Node). is_some (value_of z) ≡ true) (sym pair.0)
      (subst (λ (own : Own). is_some (value_of (record { own = own; children = changed (learn n facts) x.children })) ≡ true) (sym own_is)
      (shown_settles k depth (record x.own { facts = joined x.own.facts facts }) (changed (learn n facts) x.children) shows_x wins holds)))
      due
    where
      test : x.own.number ≡ n → eqb x.own.number n ≡ true
      test e = eq-eqb x.own.number n e

  -- one that was exhausted
  pub due_expanded : (goal : Side) (children : List Child) → AllStay (nodes t) (nodes (with_children n children t)) → (ShowsWin draughts k goal depth x.own.position → ⊥) → (ShowsHold draughts k (other goal) depth [] x.own.position → ⊥)
      → Each (IsDue k depth (n ∷ ns)) (nodes t) → Each (IsDue k depth ns) (nodes (with_children n children t))
  due_expanded goal children stay no_win no_hold due =
      due_on (with_children n children t) (ExpandsOwn n) (expand_still n children t stay)
      (λ y pair shows. absurd (⊎_elim no_win no_hold (shown_for k depth goal x.own.position (subst (λ p. ShowsValue k depth p) pair.1.position shows))))
      due

-- nothing is to come
pub all_reached : (k depth : ℕ) (xs : List Node) → Each (IsDue k depth []) xs → Each (IsReached k depth) xs
all_reached k depth [] each = tt
all_reached k depth (x ∷ xs) each = (⊎_elim (λ reached. reached) (λ of. absurd (false≢true of)) each.0, all_reached k depth xs each.1)

-- ---- growth

pub reached_learnt : (k depth n : ℕ) (facts : Known) (t : Forest) → AllStay (nodes t) (nodes (with_facts n facts t)) → Each (IsReached k depth) (nodes t) → Each (IsReached k depth) (nodes (with_facts n facts t))
reached_learnt k depth n facts t stay each =
    each_paired (λ x y. (y ≡ learnt n facts x) × IsStill x y) (IsReached k depth) (IsReached k depth) (nodes t) (nodes (with_facts n facts t)) (λ x y pair reached. still_reached k depth x y pair.1 reached) (learn_still n facts t stay) each

pub reached_expanded : (k depth n : ℕ) (children : List Child) (t : Forest) → AllStay (nodes t) (nodes (with_children n children t)) → Each (IsReached k depth) (nodes t) → Each (IsReached k depth) (nodes (with_children n children t))
reached_expanded k depth n children t stay each =
    each_paired (λ x y. ExpandsOwn n x y × IsStill x y) (IsReached k depth) (IsReached k depth) (nodes t) (nodes (with_children n children t)) (λ x y pair reached. still_reached k depth x y pair.1 reached) (expand_still n children t stay) each

-- ---- facts that tell a value

or_true : (a b : Bool) → b ≡ true → a || b ≡ true
or_true true b e = refl
or_true false b e = e

module _ (facts : Known) (own : Own) (children : Forest) where
  abbrev f : Known
  f = joined own.facts facts

  abbrev x : Numbers
  x = numbers_by_mark Black own.mark own.position (numbers Black children)

  abbrev y : Numbers
  y = numbers_by_mark White own.mark own.position (numbers White children)

  settles_by : (bw ww bh wh : Bool) → facts.black_wins ≡ bw → facts.white_wins ≡ ww → facts.black_holds ≡ bh → facts.white_holds ≡ wh
      → is_some (cond bw (Some BlackWins) (cond ww (Some WhiteWins) (cond (bh && wh) (Some Draw) None))) ≡ true
      → is_some (value_of (record { own = record own { facts = f }; children = children })) ≡ true
  settles_by true ww bh wh a b c d h = by_black f.white_holds x (decided f.white_wins f.black_holds y) f.black_wins (or_true own.facts.black_wins facts.black_wins a)
  settles_by false true bh wh a b c d h = by_white (decided f.black_wins f.white_holds x) f.black_holds y f.white_wins (or_true own.facts.white_wins facts.white_wins b)
  settles_by false false true true a b c d h = by_holds f.black_wins f.white_wins f.white_holds f.black_holds x y (or_true own.facts.white_holds facts.white_holds d) (or_true own.facts.black_holds facts.black_holds c)
  settles_by false false true false a b c d h = absurd (false≢true h)
  settles_by false false false wh a b c d h = absurd (false≢true h)

  pub value_settles : is_some (known_value facts) ≡ true → is_some (value_of (record { own = record own { facts = f }; children = children })) ≡ true
  value_settles h = settles_by facts.black_wins facts.white_wins facts.black_holds facts.white_holds refl refl refl refl h
