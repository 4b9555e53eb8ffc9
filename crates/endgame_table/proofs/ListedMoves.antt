-- The moves of a table as they are listed, index by index.
use Rattle.std.proofs.Common.{◌≡◌, ◌≢◌, ℕ, suc, ◌+◌, ◌<◌, ◌≤◌, Bool, true, false, cond, eqb, Option, Some, None, List, [], ◌∷◌, ◌++◌, length, map, replicate, refl, sym, ◌∙◌, ap, subst, inl, inr, arith}
use Rattle.std.specs.Prelude.{All, Contains, nat_lt, slice_index, slice_index_or, slice_set}
use Rattle.std.proofs.lemmas.Bool.{cases_Bool, cases_lt, eqb-true, eqb-false, eq-eqb, ne_eqb, ltb-true, ltb-false}
use Rattle.std.proofs.lemmas.List.{get_or_append_left, get_or_at, get_or_past, get_or-replicate, get_or-set_same, get_or-set_other, length-append, length-set, length-replicate}
use Rattle.std.proofs.lemmas.List.Elements.{All-nil, All-cons, All-append}
use Rattle.std.proofs.lemmas.List.FromFn.{get_or-map-range_with_len, length-map-range_with_len, sum_by-map-range_with_len_more}
use Rattle.std.proofs.lemmas.List.Sums.{sum_by-append, sum_by-cons}
use Rattle.std.specs.List.{range_with_len}
use borrow.Author.Count.{below_more}
use Rattle.draughts_board.specs.Board.{Board}
use Rattle.draughts_board.specs.Play.{successors_of}
use Rattle.draughts_board.proofs.Members.{Contains-nil, Contains-head}
use Rattle.table_index.specs.Order.{entry_count, index_of, position_at}
use Rattle.endgame_table.specs.declared.origins.Link.{Link}
use Rattle.endgame_table.specs.declared.origins.Origins.{Origins}
use Rattle.strategy_certificate.specs.Tables.{IsTableSize}
use Rattle.endgame_table.specs.Marking.{one_if, times}
use Rattle.endgame_table.specs.Origins.{origins_from, origins_at, AreLinks, AreOrigins, AddsOrigins}
use Rattle.endgame_table.specs.Rounds.{undecided, IsAfterLosses, kept, lost, left, IsStart, IsBegun}
use Rattle.endgame_table.specs.Rows.{indices_after, first_number, begun_number, moves_of, ListsMoves}
use Rattle.endgame_table.proofs.Filled.{start-from_listed}
use Rattle.endgame_table.proofs.MarkLemmas.{times-cons, times-append}
use Rattle.endgame_table.proofs.OriginLists.{origins-more, origins-new, origins-end, are_links-more}

-- ---- one origin more

module _ (old new : Origins) (count target index : ℕ) (are : AreOrigins old count) (inside : target < count) (index_inside : index < count)
    (links : new.links.items ≡ old.links.items ++ record { origin = index; next = slice_index old.heads.items target } ∷ [])
    (heads : new.heads.items ≡ slice_set old.heads.items target (length old.links.items + 1)) where
  link : Link
  link = record { origin = index; next = slice_index old.heads.items target }

  heads_same : length new.heads.items ≡ length old.heads.items
  heads_same = ap length heads ∙ length-set old.heads.items target (length old.links.items + 1)

  links_more : length new.links.items ≡ length old.links.items + 1
  links_more = ap length links ∙ length-append old.links.items (record { origin = index; next = slice_index old.heads.items target } ∷ [])

  -- at the target the index stands in front
  at_target : origins_at new target ≡ index ∷ origins_at old target
  at_target =
      let size = are.heads in
      let here : slice_index new.heads.items target ≡ suc (length old.links.items) = ap (λ h. slice_index h target) heads ∙ get_or-set_same old.heads.items target (length old.links.items + 1) 0 (omega arith) ∙ (let e : length old.links.items + 1 ≡ suc (length old.links.items) = omega arith in e) in
      (λ i. origins_from (links i) (here i))
      ∙ origins-new old.links.items (record { origin = index; next = slice_index old.heads.items target }) are.links (are.places target)

  -- and elsewhere nothing changed
  elsewhere : (t : ℕ) → t ≢ target → origins_at new t ≡ origins_at old t
  elsewhere t other =
      let here : slice_index new.heads.items t ≡ slice_index old.heads.items t = ap (λ h. slice_index h t) heads ∙ get_or-set_other old.heads.items target t (length old.links.items + 1) 0 other in
      (λ i. origins_from (links i) (here i))
      ∙ origins-more old.links.items (record { origin = index; next = slice_index old.heads.items target }) are.links (slice_index old.heads.items t) (are.places t)

  pub adds-one : AddsOrigins index (target ∷ []) old new
  adds-one = record {
    heads = heads_same;
    links = links_more;
    origins = λ t i below. elim (cases_Bool (eqb target t)) [
      | inl at ↦ (let same : target ≡ t = eqb-true target t at in subst (λ t. times i (origins_at new t) ≡ times i (origins_at old t) + cond (eqb i index) (times t (target ∷ [])) 0) same (front i))
      | inr off ↦ (let other : t ≢ target = λ e. eqb-false target t off (sym e) in
          let none : times t (target ∷ []) ≡ 0 = times-cons t target [] ∙ (let z : one_if (eqb target t) + 0 ≡ 0 = (let o : one_if (eqb target t) ≡ 0 = ap (λ b. one_if b) off in omega (arith, o)) in z) in
          ap (times i) (elsewhere t other) ∙ same_sum (eqb i index) (times i (origins_at old t)) (times t (target ∷ [])) none)
    ];
  }
    where
      same_sum : (b : Bool) (a m : ℕ) → m ≡ 0 → a ≡ a + cond b m 0
      same_sum true a m z = omega (arith, z)
      same_sum false a m z = omega arith

      -- the target itself stands once in the list of it
      once : times target (target ∷ []) ≡ 1
      once = times-cons target target [] ∙ (let z : one_if (eqb target target) + 0 ≡ 1 = (let o : one_if (eqb target target) ≡ 1 = ap (λ b. one_if b) (eq-eqb target target refl) in omega (arith, o)) in z)

      front : (i : ℕ) → times i (origins_at new target) ≡ times i (origins_at old target) + cond (eqb i index) (times target (target ∷ [])) 0
      front i =
          let e = ap (times i) at_target ∙ times-cons i index (origins_at old target) in
          elim (cases_Bool (eqb i index)) [
            | inl at ↦ (let a : cond (eqb i index) (times target (target ∷ [])) 0 ≡ times target (target ∷ []) = ap (λ b. cond b (times target (target ∷ [])) 0) at in
                let b : one_if (eqb index i) ≡ 1 = ap (λ b. one_if b) (eq-eqb index i (sym (eqb-true i index at))) in
                let o = once in omega (arith, e, a, b, o))
            | inr off ↦ (let a : cond (eqb i index) (times target (target ∷ [])) 0 ≡ 0 = ap (λ b. cond b (times target (target ∷ [])) 0) off in
                let b : one_if (eqb index i) ≡ 0 = ap (λ b. one_if b) (ne_eqb index i (λ s. eqb-false i index off (sym s))) in
                omega (arith, e, a, b))
          ]

  pub are-more : AreOrigins new count
  are-more = record {
    links = subst AreLinks (sym links) (are_links-more old.links.items (record { origin = index; next = slice_index old.heads.items target }) are.links (are.places target));
    heads = heads_same ∙ are.heads;
    places = λ t. elim (cases_Bool (eqb target t)) [
      | inl at ↦ (let same : target ≡ t = eqb-true target t at in
          subst (λ t. slice_index new.heads.items t ≤ length new.links.items) same
          (let here : slice_index new.heads.items target ≡ length old.links.items + 1 = ap (λ h. slice_index h target) heads ∙ get_or-set_same old.heads.items target (length old.links.items + 1) 0 (let size = are.heads in omega arith) in omega (arith, here, links_more)))
      | inr off ↦ (let here : slice_index new.heads.items t ≡ slice_index old.heads.items t = ap (λ h. slice_index h t) heads ∙ get_or-set_other old.heads.items target t (length old.links.items + 1) 0 (λ e. eqb-false target t off (sym e)) in
          let place = are.places t in omega (arith, here, links_more, place))
    ];
    inside = λ t. elim (cases_Bool (eqb target t)) [
      | inl at ↦ (let same : target ≡ t = eqb-true target t at in
          subst (λ t. All (λ i. i < count) (origins_at new t)) same (subst (All (λ i. i < count)) (sym at_target) (All-cons (λ i. i < count) index (origins_at old target) index_inside (are.inside target))))
      | inr off ↦ subst (All (λ i. i < count)) (sym (elsewhere t (λ e. eqb-false target t off (sym e)))) (are.inside t)
    ];
  }

-- ---- origins in parts

pub adds-none : (index : ℕ) (o : Origins) → AddsOrigins index [] o o
adds-none index o = record {
  heads = refl;
  links = omega arith;
  origins = λ t i below. by (eqb i index) (times i (origins_at o t));
}
  where
    by : (b : Bool) (a : ℕ) → a ≡ a + cond b 0 0
    by true a = omega arith
    by false a = omega arith

pub adds-append : (index : ℕ) (a b : List ℕ) (old mid new : Origins) → AddsOrigins index a old mid → AddsOrigins index b mid new → AddsOrigins index (a ++ b) old new
adds-append index a b old mid new x y = record {
  heads = y.heads ∙ x.heads;
  links = (let e = x.links in let f = y.links in let size = length-append a b in omega (arith, e, f, size));
  origins = λ t i below.
      let e = x.origins t i below in
      let size = x.heads in
      let f = y.origins t i (omega arith) in
      f ∙ ap (λ n. n + cond (eqb i index) (times t b) 0) e ∙ by (eqb i index) (times i (origins_at old t)) (times t a) (times t b) (times t (a ++ b)) (times-append t a b);
}
  where
    by : (c : Bool) (n p q r : ℕ) → r ≡ p + q → n + cond c p 0 + cond c q 0 ≡ n + cond c r 0
    by true n p q r e = omega (arith, e)
    by false n p q r e = omega arith

-- ---- in the middle of the listing

pub record Listed (count index : ℕ) (o : Origins) (waiting numbers lost_ones : List ℕ) : Type 0 where
  pub origins : AreOrigins o count
  pub turned : (t i : ℕ) → t < count → times i (origins_at o t) ≡ cond (nat_lt i index) (times t (indices_after (position_at i))) 0
  pub waiting_count : length waiting ≡ index
  pub waits : (i : ℕ) → i < index → slice_index waiting i ≡ length (indices_after (position_at i))
  pub numbers_count : length numbers ≡ index
  pub numbers_at : (i : ℕ) → i < index → slice_index numbers i ≡ begun_number (position_at i)
  pub inside : All (λ t. t < count) lost_ones
  pub listed : (t : ℕ) → times t lost_ones ≡ one_if (eqb (slice_index numbers t) 1)
  pub found : undecided numbers + length lost_ones ≡ undecided (map (λ i. first_number (position_at i)) (range_with_len 0 index))

lt_is : (a b : ℕ) → a < b → nat_lt a b ≡ true
lt_is a b less = elim (cases_Bool (nat_lt a b)) [ inl t ↦ t | inr f ↦ absurd (let h = ltb-false a b f in omega arith) ]

ge_is : (a b : ℕ) → b ≤ a → nat_lt a b ≡ false
ge_is a b more = elim (cases_Bool (nat_lt a b)) [ inl t ↦ absurd (let h = ltb-true a b t in omega arith) | inr f ↦ f ]

zeros : (count t : ℕ) → slice_index (replicate count 0) t ≡ 0
zeros count t = by (replicate count 0) (length-replicate count 0) (λ below. get_or-replicate count t 0 0 below)
  where
    by : (xs : List ℕ) → length xs ≡ count → (t < count → slice_index xs t ≡ 0) → slice_index xs t ≡ 0
    by xs size within = elim (cases_lt t count) [ inl below ↦ within below | inr past ↦ get_or_past xs t 0 (omega (arith, size, past)) ]

-- before the first index
pub listed-first : (count : ℕ) (o : Origins) → o.heads.items ≡ replicate count 0 → o.links.items ≡ [] → Listed count 0 o [] [] []
listed-first count o heads links =
    let at_end : (t : ℕ) → slice_index o.heads.items t ≡ 0 = λ t. ap (λ h. slice_index h t) heads ∙ zeros count t in
    let none : (t : ℕ) → origins_at o t ≡ [] = λ t. ap (origins_from o.links.items) (at_end t) ∙ origins-end o.links.items in
    record {
      origins = record {
        links = subst AreLinks (sym links) (λ k. omega arith);
        heads = ap length heads ∙ length-replicate count 0;
        places = λ t. let e = at_end t in omega arith;
        inside = λ t. subst (All (λ i. i < count)) (sym (none t)) (All-nil (λ i. i < count));
      };
      turned = λ t i below. ap (times i) (none t) ∙ sym (ap (λ b. cond b (times t (indices_after (position_at i))) 0) (ge_is i 0 (omega arith)));
      waiting_count = refl;
      waits = λ i below. absurd (omega arith);
      numbers_count = refl;
      numbers_at = λ i below. absurd (omega arith);
      inside = All-nil (λ t. t < count);
      listed = λ t. refl;
      found = refl;
    }

one_or_none : (o : Option Board) → one_if (eqb (begun_number o) 0) + one_if (eqb (begun_number o) 1) ≡ one_if (eqb (first_number o) 0)
one_or_none None = refl
one_or_none (Some p) = by (eqb (length (successors_of p)) 0)
  where
    by : (b : Bool) → one_if (eqb (one_if b) 0) + one_if (eqb (one_if b) 1) ≡ 1
    by true = refl
    by false = refl

-- one index more
pub listed-more : (count index : ℕ) (o o' : Origins) (waiting waiting' numbers numbers' lost_ones lost_ones' : List ℕ) (targets number : ℕ)
    → Listed count index o waiting numbers lost_ones → index < count → AddsOrigins index (indices_after (position_at index)) o o' → AreOrigins o' count
    → waiting' ≡ waiting ++ targets ∷ [] → targets ≡ length (indices_after (position_at index))
    → numbers' ≡ numbers ++ number ∷ [] → number ≡ begun_number (position_at index)
    → lost_ones' ≡ lost_ones ++ cond (eqb number 1) (index ∷ []) []
    → Listed count (index + 1) o' waiting' numbers' lost_ones'
listed-more count index o o' waiting waiting' numbers numbers' lost_ones lost_ones' targets number now below adds are waiting_is targets_is numbers_is number_is lost_is =
    let waiting_count = now.waiting_count in
    let numbers_count = now.numbers_count in
    record {
      origins = are;
      turned = λ t i inside.
          adds.origins t i (let size = now.origins.heads in omega arith)
          ∙ ap (λ n. n + cond (eqb i index) (times t (indices_after (position_at index))) 0) (now.turned t i inside)
          ∙ turn t i;
      waiting_count = ap length waiting_is ∙ length-append waiting (targets ∷ []) ∙ (let z : length waiting + 1 ≡ index + 1 = omega (arith, waiting_count) in z);
      waits =
          below_more (λ i. slice_index waiting' i ≡ length (indices_after (position_at i))) index
          (λ i less. ap (λ w. slice_index w i) waiting_is ∙ get_or_append_left waiting (targets ∷ []) 0 i (omega arith) ∙ now.waits i less)
          (ap (λ w. slice_index w index) waiting_is ∙ get_or_at waiting targets [] 0 index waiting_count ∙ targets_is);
      numbers_count = ap length numbers_is ∙ length-append numbers (number ∷ []) ∙ (let z : length numbers + 1 ≡ index + 1 = omega (arith, numbers_count) in z);
      numbers_at =
          below_more (λ i. slice_index numbers' i ≡ begun_number (position_at i)) index
          (λ i less. ap (λ n. slice_index n i) numbers_is ∙ get_or_append_left numbers (number ∷ []) 0 i (omega arith) ∙ now.numbers_at i less)
          (ap (λ n. slice_index n index) numbers_is ∙ get_or_at numbers number [] 0 index numbers_count ∙ number_is);
      inside = subst (All (λ t. t < count)) (sym lost_is) (All-append (λ t. t < count) lost_ones (cond (eqb number 1) (index ∷ []) []) now.inside (one_inside (eqb number 1)));
      listed = λ t. ap (times t) lost_is ∙ times-append t lost_ones (cond (eqb number 1) (index ∷ []) []) ∙ ap (λ n. n + times t (cond (eqb number 1) (index ∷ []) [])) (now.listed t) ∙ list_one t;
      found =
          let size = length-append lost_ones (cond (eqb number 1) (index ∷ []) []) in
          let more = sum_by-append (λ n. one_if (eqb n 0)) numbers (number ∷ []) in
          let was = now.found in
          let first = sum_by-map-range_with_len_more (λ n. one_if (eqb n 0)) (λ i. first_number (position_at i)) 0 index index (omega arith) in
          let one = one_or_none (position_at index) in
          let here : one_if (eqb number 0) + one_if (eqb number 1) ≡ one_if (eqb (first_number (position_at index)) 0) = subst (λ n. one_if (eqb n 0) + one_if (eqb n 1) ≡ one_if (eqb (first_number (position_at index)) 0)) (sym number_is) one in
          let long = one_long (eqb number 1) in
          let alone = undecided-one number in
          let a : undecided numbers' ≡ undecided (numbers ++ number ∷ []) = ap undecided numbers_is in
          let b : length lost_ones' ≡ length (lost_ones ++ cond (eqb number 1) (index ∷ []) []) = ap length lost_is in
          omega (arith, size, more, was, first, here, long, alone, a, b);
    }
  where
    turn : (t i : ℕ) → cond (nat_lt i index) (times t (indices_after (position_at i))) 0 + cond (eqb i index) (times t (indices_after (position_at index))) 0
        ≡ cond (nat_lt i (index + 1)) (times t (indices_after (position_at i))) 0
    turn t i = elim (cases_lt i index) [
      | inl less ↦ (let a : cond (nat_lt i index) (times t (indices_after (position_at i))) 0 ≡ times t (indices_after (position_at i)) = ap (λ b. cond b (times t (indices_after (position_at i))) 0) (lt_is i index less) in
          let b : cond (eqb i index) (times t (indices_after (position_at index))) 0 ≡ 0 = ap (λ b. cond b (times t (indices_after (position_at index))) 0) (ne_eqb i index (λ e. absurd (omega arith))) in
          let c : cond (nat_lt i (index + 1)) (times t (indices_after (position_at i))) 0 ≡ times t (indices_after (position_at i)) = ap (λ b. cond b (times t (indices_after (position_at i))) 0) (lt_is i (index + 1) (omega arith)) in
          omega (arith, a, b, c))
      | inr more ↦ (let a : cond (nat_lt i index) (times t (indices_after (position_at i))) 0 ≡ 0 = ap (λ b. cond b (times t (indices_after (position_at i))) 0) (ge_is i index more) in
          elim (cases_Bool (eqb i index)) [
            | inl at ↦ (let same : i ≡ index = eqb-true i index at in
                let b : cond (eqb i index) (times t (indices_after (position_at index))) 0 ≡ times t (indices_after (position_at index)) = ap (λ b. cond b (times t (indices_after (position_at index))) 0) at in
                let c : cond (nat_lt i (index + 1)) (times t (indices_after (position_at i))) 0 ≡ times t (indices_after (position_at i)) = ap (λ b. cond b (times t (indices_after (position_at i))) 0) (lt_is i (index + 1) (omega arith)) in
                let d : times t (indices_after (position_at i)) ≡ times t (indices_after (position_at index)) = ap (λ j. times t (indices_after (position_at j))) same in
                omega (arith, a, b, c, d))
            | inr off ↦ (let other : i ≢ index = eqb-false i index off in
                let b : cond (eqb i index) (times t (indices_after (position_at index))) 0 ≡ 0 = ap (λ b. cond b (times t (indices_after (position_at index))) 0) off in
                let c : cond (nat_lt i (index + 1)) (times t (indices_after (position_at i))) 0 ≡ 0 = ap (λ b. cond b (times t (indices_after (position_at i))) 0) (ge_is i (index + 1) (omega arith)) in
                omega (arith, a, b, c))
          ])
    ]

    one_inside : (b : Bool) → All (λ t. t < count) (cond b (index ∷ []) [])
    one_inside true = All-cons (λ t. t < count) index [] below (All-nil (λ t. t < count))
    one_inside false = All-nil (λ t. t < count)

    one_long : (b : Bool) → length (cond b (index ∷ []) []) ≡ one_if b
    one_long true = refl
    one_long false = refl

    undecided-one : (n : ℕ) → undecided (n ∷ []) ≡ one_if (eqb n 0)
    undecided-one n = sum_by-cons (λ n. one_if (eqb n 0)) n [] ∙ (let z : one_if (eqb n 0) + 0 ≡ one_if (eqb n 0) = omega arith in z)

    times-one : (t : ℕ) (b : Bool) → times t (cond b (index ∷ []) []) ≡ cond b (one_if (eqb index t)) 0
    times-one t true = times-cons t index [] ∙ (let z : one_if (eqb index t) + 0 ≡ one_if (eqb index t) = omega arith in z)
    times-one t false = refl

    nothing : (b : Bool) → ◌≡◌ {A = ℕ} (cond b 0 0) 0
    nothing true = refl
    nothing false = refl

    list_one : (t : ℕ) → one_if (eqb (slice_index numbers t) 1) + times t (cond (eqb number 1) (index ∷ []) []) ≡ one_if (eqb (slice_index numbers' t) 1)
    list_one t = elim (cases_Bool (eqb index t)) [
      | inl at ↦ (let same : index ≡ t = eqb-true index t at in
          let count_now = now.numbers_count in
          let old : one_if (eqb (slice_index numbers t) 1) ≡ 0 = ap (λ n. one_if (eqb n 1)) (get_or_past numbers t 0 (omega (arith, count_now, same))) in
          let here : slice_index numbers' t ≡ number = ap (λ n. slice_index n t) numbers_is ∙ get_or_at numbers number [] 0 t (count_now ∙ same) in
          let new : one_if (eqb (slice_index numbers' t) 1) ≡ one_if (eqb number 1) = ap (λ n. one_if (eqb n 1)) here in
          let front : times t (cond (eqb number 1) (index ∷ []) []) ≡ one_if (eqb number 1) = times-one t (eqb number 1) ∙ ap (λ b. cond (eqb number 1) (one_if b) 0) at in
          omega (arith, old, new, front))
      | inr off ↦ (let other : index ≢ t = eqb-false index t off in
          let count_now = now.numbers_count in
          let none : times t (cond (eqb number 1) (index ∷ []) []) ≡ 0 = times-one t (eqb number 1) ∙ ap (λ b. cond (eqb number 1) (one_if b) 0) off ∙ nothing (eqb number 1) in
          let same : slice_index numbers' t ≡ slice_index numbers t = elim (cases_lt t index) [
            | inl less ↦ ap (λ n. slice_index n t) numbers_is ∙ get_or_append_left numbers (number ∷ []) 0 t (omega arith)
            | inr more ↦ ap (λ n. slice_index n t) numbers_is ∙ get_or_past (numbers ++ number ∷ []) t 0 (let size = length-append numbers (number ∷ []) in omega (arith, size, count_now, other, more)) ∙ sym (get_or_past numbers t 0 (omega arith))
          ] in
          let alike : one_if (eqb (slice_index numbers' t) 1) ≡ one_if (eqb (slice_index numbers t) 1) = ap (λ n. one_if (eqb n 1)) same in
          omega (arith, none, alike))
    ]

-- ---- all of them

pub lists-moves : (count : ℕ) → ListsMoves count (moves_of count).rows (moves_of count).first
unfolding moves_of
lists-moves count = record {
  rows_count = length-map-range_with_len (λ i. indices_after (position_at i)) 0 count;
  numbers_count = length-map-range_with_len (λ i. first_number (position_at i)) 0 count;
  rows_at = λ i below. get_or-map-range_with_len (λ i. indices_after (position_at i)) 0 count i i [] below (omega arith);
  numbers_at = λ i below. get_or-map-range_with_len (λ i. first_number (position_at i)) 0 count i i 0 below (omega arith);
}

first-listed : (count : ℕ) → map (λ i. first_number (position_at i)) (range_with_len 0 count) ≡ (moves_of count).first
unfolding moves_of
first-listed count = refl

module _ (k : ℕ) (size : IsTableSize k) (o : Origins) (waiting numbers lost_ones : List ℕ) (now : Listed (entry_count k) (entry_count k) o waiting numbers lost_ones) where
  listing : ListsMoves (entry_count k) (moves_of (entry_count k)).rows (moves_of (entry_count k)).first
  listing = lists-moves (entry_count k)

  start : IsStart (moves_of (entry_count k)).rows (moves_of (entry_count k)).first
  start = start-from_listed k (moves_of (entry_count k)).rows (moves_of (entry_count k)).first size listing

  begun-loss : (i before after : ℕ) (row : List ℕ) (p : Option Board) → before ≡ first_number p → after ≡ begun_number p → row ≡ indices_after p
      → ((t : ℕ) → Contains row t → slice_index (moves_of (entry_count k)).first t ≡ 0)
      → IsAfterLosses 0 (moves_of (entry_count k)).first row before after
  begun-loss i before after row None b a r leads = kept (λ e. absurd (omega (arith, b, e))) (a ∙ sym b)
  begun-loss i before after row (Some p) b a r leads = by (successors_of p) refl
    where
      by : (next : List Board) → successors_of p ≡ next → IsAfterLosses 0 (moves_of (entry_count k)).first row before after
      by [] e = lost b (λ t here. absurd (Contains-nil t (subst (λ l. Contains l t) (r ∙ ap (map index_of) e) here))) (a ∙ ap (λ n. one_if (eqb (length n) 0)) e)
      by (q ∷ more) e =
          let here : Contains row (index_of q) = subst (λ l. Contains l (index_of q)) (sym (r ∙ ap (map index_of) e)) (Contains-head (index_of q) (map index_of more)) in
          let z = leads (index_of q) here in
          left b (index_of q, (here, λ m w. absurd (omega (arith, z, w))))
          (a ∙ ap (λ n. one_if (eqb (length n) 0)) e ∙ ap (λ b. one_if b) (ne_eqb (length (q ∷ more)) 0 (λ z. absurd (omega (arith, z)))))

  row-past : (i : ℕ) → entry_count k ≤ i → slice_index_or (moves_of (entry_count k)).rows i [] ≡ []
  row-past i over = get_or_past (moves_of (entry_count k)).rows i [] (let c = listing.rows_count in omega arith)

  pub begun-from_listed : IsBegun (moves_of (entry_count k)).rows (moves_of (entry_count k)).first o waiting numbers lost_ones
  begun-from_listed =
      let c = listing.rows_count in
      record {
        start = start;
        origins = subst (AreOrigins o) (sym c) now.origins;
        turned = λ t i below. now.turned t i (omega arith) ∙ elim (cases_lt i (entry_count k)) [
          | inl less ↦ ap (λ b. cond b (times t (indices_after (position_at i))) 0) (lt_is i (entry_count k) less) ∙ ap (times t) (sym (listing.rows_at i less))
          | inr over ↦ ap (λ b. cond b (times t (indices_after (position_at i))) 0) (ge_is i (entry_count k) over) ∙ ap (times t) (sym (row-past i over))
        ];
        waiting_count = now.waiting_count ∙ sym c;
        waits = λ i below. now.waits i (omega arith) ∙ ap length (sym (listing.rows_at i (omega arith)));
        each = now.numbers_count ∙ sym c;
        losses = λ i below.
            begun-loss i (slice_index (moves_of (entry_count k)).first i) (slice_index numbers i) (slice_index_or (moves_of (entry_count k)).rows i []) (position_at i)
            (listing.numbers_at i (omega arith)) (now.numbers_at i (omega arith)) (listing.rows_at i (omega arith)) (start.leads i below);
        inside = subst (λ n. All (λ t. t < n) lost_ones) (sym c) now.inside;
        listed = now.listed;
        found = now.found ∙ ap undecided (first-listed (entry_count k));
      }
