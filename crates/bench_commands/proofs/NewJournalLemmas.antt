-- On a new journal a budget of COUNT is ample for COUNT openings that are made from a seed.
use Rattle.std.proofs.Common.{◌≡◌, ℕ, zero, suc, ◌+◌, ◌-◌, ◌<◌, ◌≤◌, cond, true, false, List, [], ◌∷◌, ◌++◌, map, length, take, refl, ap, ◌∙◌, sym, subst, inl, inr, arith, append_assoc, append-nil, ⊎_elim}
use Rattle.std.proofs.lemmas.Grind.{common_steps}
use Rattle.std.specs.Prelude.{Contains, min, not, is_some}
use Rattle.std.specs.List.{list_any, range_with_len, AllByRecursion as Each}
use Rattle.std.proofs.lemmas.Bool.{true≢false, false≢true, cases_Bool}
use Rattle.std.proofs.lemmas.List.{length-take, length-append, length-map}
use Rattle.std.proofs.lemmas.List.Sums.{count_by-le-length}
use Rattle.bench_disk.specs.declared.disk.Disk.{Ghosts}
use Rattle.draughts_board.specs.Board.{Board, same_board}
use Rattle.draughts_board.specs.Draughts.{draughts}
use Rattle.draughts_board.specs.Same.{same_board-Decides}
use Rattle.draughts_board.specs.Game.{is_at_sight}
use Rattle.draughts_board.specs.Rules.{first_places}
use Rattle.draughts_board.proofs.Members.{Contains-nil, Contains-cons_cases, Contains-head, Contains-tail, Contains-from_map, any_true}
use Rattle.draughts_board.proofs.Successors.{Contains-from_first_places}
use Rattle.proof_numbers.specs.declared.leaves.Child.{Child}
use Rattle.proof_numbers.specs.Facts.{no_facts}
use Rattle.proof_numbers.specs.Known.{nothing_known}
use Rattle.proof_numbers.specs.Numbers.{mobility}
use Rattle.proof_numbers.specs.Sight.{AreFactsAtSight}
use Rattle.proof_tree.specs.Forest.{Forest, no_node, node, Node, nodes, value_of}
use Rattle.proof_tree.specs.Changes.{appended, with_root}
use Rattle.proof_tree.specs.Sound.{root_positions}
use Rattle.proof_tree.proofs.EachNode.{root_positions-appended}
use Rattle.bench_records.specs.declared.records.BenchRecord.TheVariants.{Begin}
use Rattle.bench_core.specs.Growing.{GrowsWith, GrowsWithAll}
use Rattle.capture_positions.specs.Walk.{index_of_step, numbered_position, openings_from, walk}
use Rattle.tree_manager.specs.Sessions.{with_roots}
use Rattle.tree_manager.specs.Receipts.{ReadsRecords}
use Rattle.journal_runs.specs.Ample.{IsAmple, IsWithinReach, unsettled_roots}
use Rattle.bench_disk.specs.Disk.{IsHonest}
use Rattle.bench_commands.specs.Accepted.{HasAmpleBudget, HasRoom}
use Rattle.bench_commands.specs.declared.commands.generate.TheConstants.{GENERATE_DEPTH, GENERATE_PIECES}
use Rattle.bench_commands.proofs.OnePlyLemmas.{IsShown, numbered_shown}

-- ---- one root

-- nothing is known at sight
unseen_facts : (p : Board) → is_at_sight draughts 2 p ≡ false → AreFactsAtSight 2 p nothing_known
unseen_facts p unseen = record {
  black_wins = (λ h. absurd (false≢true h), λ h. absurd (true≢false (sym h.0 ∙ unseen)));
  white_wins = (λ h. absurd (false≢true h), λ h. absurd (true≢false (sym h.0 ∙ unseen)));
  black_holds = (λ h. absurd (false≢true h), λ h. ⊎_elim (λ there. absurd (Contains-nil p there)) (λ seen. absurd (true≢false (sym seen.0 ∙ unseen))) h);
  white_holds = (λ h. absurd (false≢true h), λ h. ⊎_elim (λ there. absurd (Contains-nil p there)) (λ seen. absurd (true≢false (sym seen.0 ∙ unseen))) h);
}

root_of : Board → Child
root_of p = record { position = p; facts = no_facts; moves = mobility p; counted = refl }

begins_one : (f : Forest) (p : Board) → IsShown p → (Contains (root_positions f) p → ⊥) → length (root_positions f) < 65536 → GrowsWith 2 f (Begin p) (with_root p nothing_known f)
unfolding root_of
begins_one f p shown absent room = record {
  lawful = record { lawful = shown.lawful; absent = absent; room = room };
  applied = (root_of p, (refl, (unseen_facts p shown.unseen, refl)));
}

each_appended : (P : Node → Type 0) (f g : Forest) → Each P (nodes f) → Each P (nodes g) → Each P (nodes (appended f g))
each_appended P no_node g one two = two
each_appended P (node own children others) g one two = (one.0, each_appended P others g one.1 two)

-- ---- all of them

record AreBegun (f : Forest) (roots ps : List Board) : Type 0 where
  added : List Board
  all : roots ++ added ≡ with_roots roots ps
  new : Forest
  grown : GrowsWithAll 2 f (map Begin added) new
  positions : root_positions new ≡ roots ++ added
  within : Each (IsWithinReach 2 1) (nodes f) → Each (IsWithinReach 2 1) (nodes new)
  few : length added ≤ length ps

same_boards : (p : Board) → same_board p p ≡ true
same_boards p = (same_board-Decides p p).1 refl

begin_each : (ps : List Board) (f : Forest) (roots : List Board) → root_positions f ≡ roots → length roots + length ps ≤ 65536 → ((p : Board) → Contains ps p → IsShown p) → AreBegun f roots ps
begin_each [] f roots is room shown = record {
  added = [];
  all = append-nil roots;
  new = f;
  grown = refl;
  positions = is ∙ sym (append-nil roots);
  within = λ each. each;
  few = omega arith;
}
begin_each (p ∷ ps) f roots is room shown = elim (cases_Bool (list_any (same_board p) roots)) [
  | inl old ↦ (let rest = begin_each ps f roots is (omega arith) (λ q there. shown q (Contains-tail p q ps there)) in
      let fewer = rest.few in
      record {
        added = rest.added;
        all = rest.all ∙ sym (ap (λ b. with_roots (cond b roots (roots ++ p ∷ [])) ps) old);
        new = rest.new;
        grown = rest.grown;
        positions = rest.positions;
        within = rest.within;
        few = omega (arith, fewer);
      })
  | inr none ↦ (let next = with_root p nothing_known f in
      let one = shown p (Contains-head p ps) in
      let size = length-append roots (p ∷ []) in
      let there : root_positions next ≡ roots ++ p ∷ [] = root_positions-appended f _ ∙ ap (λ (r : List Board). r ++ p ∷ []) is in
      let rest = begin_each ps next (roots ++ p ∷ []) there (omega (arith, size, room)) (λ q there. shown q (Contains-tail p q ps there)) in
      let fewer = rest.few in
      let long : length (root_positions f) ≡ length roots = ap length is in
      record {
        added = p ∷ rest.added;
        all = sym (append_assoc roots (p ∷ []) rest.added) ∙ (rest.all ∙ sym (ap (λ b. with_roots (cond b roots (roots ++ p ∷ [])) ps) none));
        new = rest.new;
        grown = (
          next,
          (
            begins_one f p one (λ held. true≢false (sym (any_true (same_board p) roots p (subst (λ (r : List Board). Contains r p) is held) (same_boards p)) ∙ none)) (omega (arith, long, room)),
            rest.grown,
          ),
        );
        positions = rest.positions ∙ append_assoc roots (p ∷ []) rest.added;
        within = λ each. rest.within (each_appended (IsWithinReach 2 1) f _ each ((inr (refl, one.shown)), tt));
        few = omega (arith, fewer);
      })
]

-- ---- the openings that a seed gives

contains_taken : (n : ℕ) (xs : List Board) (x : Board) → Contains (take n xs) x → Contains xs x
contains_taken zero xs x there = absurd (Contains-nil x there)
contains_taken (suc n) [] x there = there
contains_taken (suc n) (y ∷ xs) x there = elim (Contains-cons_cases y (take n xs) x there) [
  | inl same ↦ subst (λ (z : Board). Contains (y ∷ xs) z) same (Contains-head y xs)
  | inr later ↦ Contains-tail y x xs (contains_taken n xs x later)
]

opening_shown : (seed count : ℕ) (p : Board) → Contains (openings_from seed count) p → IsShown p
opening_shown seed count p there =
    let met = Contains-from_map (λ k. numbered_position (index_of_step seed k)) (range_with_len 0 4176) p
    (Contains-from_first_places (walk seed 4176) p (contains_taken count (first_places (walk seed 4176)) p there)) in
    subst IsShown met.1.1 (numbered_shown (index_of_step seed met.0) (omega arith))

min_at_most : (k n m : ℕ) → k ≡ min n m → k ≤ n
min_at_most k n m is = grind (arith, common_steps)

budget_of : (k n : ℕ) → k ≤ n → n ≤ 2000 → k ≤ min n (1000000 - 0)
budget_of k n few most = grind (arith, common_steps)

ample_from : (count : ℕ) (ps : List Board) → length ps ≤ count → count ≤ 2000 → ((p : Board) → Contains ps p → IsShown p) → IsAmple 2 1 count ps []
ample_from count ps short most shown =
    let begins = begin_each ps no_node [] refl (omega (arith, short, most)) shown in
    let roots = count_by-le-length (λ (root : Node). not (is_some (value_of root))) (nodes begins.new) in
    let same : length (root_positions begins.new) ≡ length begins.added = ap length begins.positions in
    let size : length (root_positions begins.new) ≡ length (nodes begins.new) = length-map (nodes begins.new) (λ (root : Node). root.own.position) in
    let few = begins.few in
    let within : unsettled_roots begins.new ≤ count = omega (arith, roots, same, size, few, short) in
    record {
      added = begins.added;
      all = begins.all;
      roots = begins.new;
      begins = begins.grown;
      within = begins.within tt;
      enough = budget_of (unsettled_roots begins.new) count within most;
    }

short_front : (n : ℕ) (xs : List Board) → length (take n xs) ≤ n
short_front n xs = min_at_most (length (take n xs)) n (length xs) (length-take n xs)

-- ---- a new journal

room_for : (count : ℕ) (ps : List Board) → length ps ≤ count → count ≤ 2000 → ((p : Board) → Contains ps p → IsShown p) → length (with_roots [] ps) ≤ 65536
room_for count ps short most shown =
    let begins = begin_each ps no_node [] refl (omega (arith, short, most)) shown in
    let few = begins.few in
    let all : length begins.added ≡ length (with_roots [] ps) = ap length begins.all in
    omega (arith, all, few, short, most)

module _ {D : Type 0} (g : Ghosts D) (seed count : ℕ) (old : D) (most : count ≤ 2000) (honest : IsHonest g.TELLS) (read : ReadsRecords GENERATE_PIECES (g.reads old) []) where
  pub new_has_room : HasRoom g GENERATE_PIECES (openings_from seed count) old
  new_has_room = record {
    honest = honest;
    records = [];
    read = read;
    room = room_for count (openings_from seed count) (short_front count (first_places (walk seed 4176))) most (opening_shown seed count);
  }

  pub new_has_ample_budget : HasAmpleBudget g GENERATE_PIECES GENERATE_DEPTH count (openings_from seed count) old
  new_has_ample_budget = record {
    honest = honest;
    records = [];
    read = read;
    ample = ample_from count (openings_from seed count) (short_front count (first_places (walk seed 4176))) most (opening_shown seed count);
  }
