-- Why what a lesson adds may be added.
use Rattle.std.proofs.Common.{◌≡◌, ◌∙◌, ◌+◌, ◌≤◌, ◌<◌, ◌++◌, ℕ, suc, Bool, true, false, cond, inl, inr, List, [], ◌∷◌, map, length, Option, Some, None, refl, sym, ap, subst, slice_get, arith}
use Rattle.std.specs.Prelude.{Contains, All, IsTrue, ◌↔◌, nat_lt, is_some}
use Rattle.std.proofs.lemmas.Bool.{false≢true, or_parts, ltb-true}
use Rattle.std.proofs.lemmas.List.{length-map}
use Rattle.std.proofs.lemmas.List.Elements.{All-nil, All-cons, All-head, All-tail}
use Rattle.std.proofs.lemmas.Option.{none-some, same_Some, slice_get_within, get_or_from_slice_get}
use Rattle.draughts_board.specs.Board.{Board, IsLawful, same_board}
use Rattle.draughts_board.specs.Same.{same_board-Decides}
use Rattle.draughts_board.specs.Draughts.{draughts}
use Rattle.draughts_board.specs.Game.{ShowsWin, ShowsHold, is_at_sight}
use Rattle.draughts_board.specs.declared.pieces.Side.{Side}
use Rattle.draughts_board.specs.declared.pieces.Side.TheVariants.{Black, White}
use Rattle.draughts_board.proofs.Members.{Contains-nil, Contains-cons_cases}
use Rattle.strategy_certificate.specs.declared.oracle.Answer.{Answer}
use Rattle.strategy_certificate.specs.declared.claims.Claim.{Claim}
use Rattle.strategy_certificate.specs.declared.claims.Claim.TheVariants.{Win, Hold, Draw}
use Rattle.strategy_certificate.specs.declared.certificates.Part.{Part}
use Rattle.strategy_certificate.specs.declared.certificates.Part.TheVariants as part
use Rattle.strategy_certificate.specs.declared.certificates.Certificate.{Certificate}
use Rattle.strategy_certificate.specs.Parts.{WinList}
use Rattle.strategy_certificate.specs.Tables.{IsSoundTable, IsTableSize}
use Rattle.strategy_certificate.specs.Certificates.{claim_of, due_claims, IsGood, IsGoodPart}
use Rattle.strategy_certificate.specs.Claims.{HasShortRanks}
use Rattle.strategy_certificate.proofs.RankLemmas.{short_parts_are_good}
use Rattle.proof_numbers.specs.declared.leaves.Child.{Child}
use Rattle.proof_numbers.specs.Facts.{known}
use Rattle.proof_numbers.specs.Sight.{AreFactsAtSight}
use Rattle.proof_numbers.specs.Known.{Known, nothing_known, joined, includes}
use Rattle.proof_tree.specs.declared.rows.Mark.{Mark}
use Rattle.proof_tree.specs.declared.rows.Mark.TheVariants.{Unexpanded, Expanded, Repeats}
use Rattle.proof_tree.specs.declared.tree.TheConstants.{MOST_ROOTS}
use Rattle.proof_tree.specs.Forest.{Forest, no_node, node, Node, nodes, node_at, size, value_of}
use Rattle.proof_tree.specs.Changes.{appended, with_root}
use Rattle.proof_tree.specs.Sound.{IsSoundNode, IsSoundForest, root_positions}
use Rattle.proof_tree.proofs.SoundForests.{IsSound-root}
use Rattle.certificate_checker.specs.Told.{facts_claimed, facts_shown}
use Rattle.certificate_joiner.specs.Certified.{IsShelved}
use Rattle.certificate_joiner.proofs.Named.{EachNode-contains, root_found}
use Rattle.bench_records.specs.declared.records.BenchRecord.{BenchRecord}
use Rattle.bench_records.specs.declared.records.BenchRecord.TheVariants.{Begin}
use Rattle.bench_core.specs.Growing.{MayBeSolved, MayBegin, IsLawfulRecord, IsApplied}
use Rattle.proved_book.specs.Books.{IsKeptAs}
use Rattle.certificate_checker.proofs.AloneLemmas.{good_alone}
use Rattle.journal_lessons.specs.declared.lessons.Lesson.{Lesson}
use Rattle.journal_lessons.specs.declared.lessons.Lesson.TheVariants as lesson
use Rattle.journal_lessons.specs.Lessons.{root_from, root_with, covers, is_expanded, lesson_at, lesson_of, taught_by, IsRecordedPart, AreRecordedParts, IsRecordedAs, IsSolveBy, AreAdded}
use Rattle.journal_lessons.specs.Laws.{AreLawfulFrom, LessonsAreLawful}

-- ---- the root with a position

module _ (p : Board) where
  -- it is one of the roots, and stands at the place that its number says
  pub record IsRootAt (n : ℕ) (xs : List Node) (m : ℕ) (x : Node) : Type 0 where
    pub place : ℕ
    pub number : m ≡ n + place
    pub at : slice_get xs place ≡ Some x
    pub position : x.own.position ≡ p

  pub root_there : (n : ℕ) (xs : List Node) (m : ℕ) (x : Node) → root_from n p xs ≡ Some (m, x) → IsRootAt n xs m x
  root_there n [] m x is = absurd (none-some (m, x) is)
  root_there n (y ∷ ys) m x is = by (same_board y.own.position p) refl is (λ h. root_there (suc n) ys m x h)
    where
      by : (b : Bool) → same_board y.own.position p ≡ b → cond b (Some (n, y)) (root_from (suc n) p ys) ≡ Some (m, x) → (root_from (suc n) p ys ≡ Some (m, x) → IsRootAt (suc n) ys m x) → IsRootAt n (y ∷ ys) m x
      by true same h further =
          let pair : ◌≡◌ {A = ℕ × Node} (n, y) (m, x) = same_Some (n, y) (m, x) h in
          record {
            place = 0;
            number = (let e : n ≡ m = ap (λ (z : ℕ × Node). z.0) pair in omega arith);
            at = ap (λ (z : ℕ × Node). Some z.1) pair;
            position = subst (λ (z : Node). z.own.position ≡ p) (ap (λ (z : ℕ × Node). z.1) pair) ((same_board-Decides y.own.position p).0 same);
          }
      by false other h further =
          let rest = further h in
          record { place = suc rest.place; number = (let e : m ≡ suc n + rest.place = rest.number in omega arith); at = rest.at; position = rest.position }

  pub no_root : (n : ℕ) (xs : List Node) → root_from n p xs ≡ None → Contains (map (λ x. x.own.position) xs) p → ⊥
  no_root n [] none there = Contains-nil p there
  no_root n (y ∷ ys) none there = by (same_board y.own.position p) refl none (λ h rest. no_root (suc n) ys h rest)
    where
      by : (b : Bool) → same_board y.own.position p ≡ b → cond b (Some (n, y)) (root_from (suc n) p ys) ≡ None → (root_from (suc n) p ys ≡ None → Contains (map (λ x. x.own.position) ys) p → ⊥) → ⊥
      by true same h further = none-some (n, y) (sym h)
      by false other h further =
          elim (Contains-cons_cases y.own.position (map (λ x. x.own.position) ys) p there) [
            | inl e ↦ false≢true (sym other ∙ (same_board-Decides y.own.position p).1 e)
            | inr rest ↦ further h rest
          ]

-- ---- what is recorded tells what the certificate claims

abbrev facts_of : List Claim → Known
facts_of [] = nothing_known
facts_of (claim ∷ more) = joined (facts_claimed claim) (facts_of more)

kept_side : (w short : WinList) → IsKeptAs w short → short.side ≡ w.side
kept_side w short (inl (fits, same)) = ap (λ (x : WinList). x.side) same
kept_side w short (inr (long, by)) = ap (λ (x : WinList). x.side) by.is

same_claim : (one kept : Part) → IsRecordedPart one kept → claim_of kept ≡ claim_of one
same_claim (part.Win w) kept (short, (how, (fits, is))) = ap claim_of is ∙ ap Win (kept_side w short how)
same_claim (part.Hold h) kept is = ap claim_of is

recorded_claims : (k : ℕ) (p : Board) (parts : List Part) (shown : List Certificate) → AreRecordedParts k p parts shown → facts_shown shown ≡ facts_of (map claim_of parts)
recorded_claims k p [] shown are = ap facts_shown are
recorded_claims k p (one ∷ more) shown (kept, (how, (rest, (is, others)))) =
    ap facts_shown is ∙ (λ i. joined (facts_claimed (same_claim one kept how i)) (recorded_claims k p more rest others i))

told_whole : (claim : Claim) → facts_of (due_claims claim) ≡ facts_claimed claim
told_whole (Win Black) = refl
told_whole (Win White) = refl
told_whole (Hold Black) = refl
told_whole (Hold White) = refl
told_whole Draw = refl

pub recorded_tells : (c : Certificate) (shown : List Certificate) → map claim_of c.parts ≡ due_claims c.claim → IsRecordedAs c shown → facts_shown shown ≡ facts_claimed c.claim
recorded_tells c shown due are = recorded_claims c.pieces c.position c.parts shown are ∙ (ap facts_of due ∙ told_whole c.claim)

-- ---- .. and may stand on the shelf

few : (k : ℕ) → IsTableSize k → k ≤ 3
few k (inl is) = omega arith
few k (inr is) = omega arith

module _ (k : ℕ) (size : IsTableSize k) (answer : Board → Option Answer) (sound : IsSoundTable draughts k answer) (p : Board) where
  abbrev IsKeptWell : Part → Type 0
  IsKeptWell x = IsGoodPart answer p x × HasShortRanks x

  kept_good : (one kept : Part) → IsRecordedPart one kept → IsGoodPart answer p one → IsKeptWell kept
  kept_good (part.Win w) kept (short, (inl (fit, same), (fits, is))) good =
      subst IsKeptWell (sym is) (subst (λ (v : WinList). IsGoodPart answer p (part.Win v)) (sym same) good, fits)
  kept_good (part.Win w) kept (short, (inr (long, by), (fits, is))) good =
      let both = short_parts_are_good k answer (few k size) sound w short by good.0 in
      subst IsKeptWell (sym is) ((both.0, both.1 good.1.0 p good.1.1), fits)
  kept_good (part.Hold h) kept is good = subst IsKeptWell (sym is) (good, tt)

  pub shelved : (parts : List Part) (shown : List Certificate) → All (IsGoodPart answer p) parts → AreRecordedParts k p parts shown → All (IsShelved k p) shown
  shelved [] shown good are = subst (All (IsShelved k p)) (sym are) (All-nil (IsShelved k p))
  shelved (one ∷ more) shown good (kept, (how, (rest, (is, others)))) =
      let well = kept_good one kept how (All-head (IsGoodPart answer p) one more good) in
      let c : Certificate = record { position = p; claim = claim_of kept; pieces = k; parts = kept ∷ [] } in
      let first : IsShelved k p c = record {
        position = refl;
        pieces = refl;
        good = (answer, (sound, good_alone answer p (claim_of kept) k kept (kept ∷ []) refl refl well.0));
        short = All-cons HasShortRanks kept [] well.1 (All-nil HasShortRanks);
      } in
      subst (All (IsShelved k p)) (sym is) (All-cons (IsShelved k p) c rest first (shelved more rest (All-tail (IsGoodPart answer p) one more good) others))

-- ---- a new root

pub nodes_appended : (t u : Forest) → nodes (appended t u) ≡ nodes t ++ nodes u
nodes_appended no_node u = refl
nodes_appended (node own children others) u = ap (λ (xs : List Node). record { own = own; children = children } ∷ xs) (nodes_appended others u)

at_end : (xs : List Node) (x : Node) → slice_get (xs ++ x ∷ []) (length xs) ≡ Some x
at_end [] x = refl
at_end (y ∷ ys) x = at_end ys x

in_list : (xs : List Node) (i : ℕ) (x : Node) → slice_get xs i ≡ Some x → Contains xs x
in_list xs i x at = let within = slice_get_within xs i x at in (i, within, get_or_from_slice_get xs i x x at)

module _ (roots : Forest) (child : Child) where
  abbrev pub new_root : Node
  new_root = record { own = record { number = size roots; position = child.position; facts = known child.facts; mark = Unexpanded }; children = no_node }

  abbrev pub begun_forest : Forest
  begun_forest = with_root child.position (known child.facts) roots

  pub last_root : slice_get (nodes begun_forest) (length (nodes roots)) ≡ Some new_root
  last_root = ap (λ (xs : List Node). slice_get xs (length (nodes roots))) (nodes_appended roots (node new_root.own no_node no_node)) ∙ at_end (nodes roots) new_root

  pub new_found : IsSoundForest roots → IsLawful child.position → ¬ Contains (root_positions roots) child.position → node_at (size roots) begun_forest ≡ Some new_root
  new_found sound lawful absent =
      root_found begun_forest (IsSound-root child roots sound lawful absent) new_root (in_list (nodes begun_forest) (length (nodes roots)) new_root last_root)

-- ---- at sight nothing is known of a position that is not decided there

module _ (k : ℕ) (p : Board) (unseen : is_at_sight draughts k p ≡ false) where
  no_win : (s : Side) → ShowsWin draughts k s 0 p → ⊥
  no_win s (at, wins) = false≢true (sym unseen ∙ at)

  no_hold : (s : Side) → ShowsHold draughts k s 0 [] p → ⊥
  no_hold s (inl there) = Contains-nil p there
  no_hold s (inr (at, holds)) = false≢true (sym unseen ∙ at)

  unknown : {P : Type 0} (b : Bool) → IsTrue b ↔ P → (P → ⊥) → b ≡ false
  unknown true both none = absurd (none (both.0 refl))
  unknown false both none = refl

  nothing_seen : (facts : Known) → AreFactsAtSight k p facts → facts ≡ nothing_known
  nothing_seen facts sight =
      let bw = unknown facts.black_wins sight.black_wins (no_win Black) in
      let ww = unknown facts.white_wins sight.white_wins (no_win White) in
      let bh = unknown facts.black_holds sight.black_holds (no_hold Black) in
      let wh = unknown facts.white_holds sight.white_holds (no_hold White) in
      λ i. record { black_wins = bw i; white_wins = ww i; black_holds = bh i; white_holds = wh i }

claims_more : (claim : Claim) → includes nothing_known (facts_claimed claim) ≡ false
claims_more (Win Black) = refl
claims_more (Win White) = refl
claims_more (Hold Black) = refl
claims_more (Hold White) = refl
claims_more Draw = refl

-- ---- lawful

-- the lesson begins a root
abbrev pub begins_root : Lesson → Bool
begins_root (lesson.Known root) = false
begins_root (lesson.Solves root n) = false
begins_root (lesson.Begins root) = true
begins_root (lesson.BeginsAndSolves root n) = true
begins_root (lesson.RootExpanded root) = false
begins_root lesson.TooManyRoots = false

unexpanded_root : (x : Node) → IsSoundNode [] x → is_expanded x.own.mark ≡ false → x.own.mark ≡ Unexpanded
unexpanded_root x sound other = by x.own.mark refl
  where
    by : (m : Mark) → x.own.mark ≡ m → x.own.mark ≡ Unexpanded
    by Unexpanded is = is
    by Expanded is = absurd (false≢true (sym other ∙ ap is_expanded is))
    by Repeats is = absurd (Contains-nil x.own.position (sound.repeats.0 is))

module _ (roots : Forest) (c : Certificate) (added : List BenchRecord) (sound : IsSoundForest roots) (lawful : IsLawful c.position) (size_of : IsTableSize c.pieces) (good : IsGood c) where
  solves : (now : Forest) (n : ℕ) (leaf : Node) → node_at n now ≡ Some leaf → leaf.own.mark ≡ Unexpanded → leaf.own.position ≡ c.position → includes leaf.own.facts (facts_claimed c.claim) ≡ false
      → (r : BenchRecord) → IsSolveBy n c r → IsLawfulRecord c.pieces now r
  solves now n leaf there unexpanded position lacks r (shown, (are, is)) =
      let tells = recorded_tells c shown good.1.1.due are in
      let may : MayBeSolved c.pieces c.position shown leaf = record {
        position = position;
        shelved = shelved c.pieces size_of good.0 good.1.0 c.position c.parts shown good.1.1.parts are;
        gains = ap (includes leaf.own.facts) tells ∙ lacks;
      } in
      subst (IsLawfulRecord c.pieces now) (sym is) (record { leaf = leaf; there = there; unexpanded = unexpanded; holds = may })

  -- where no root has the position

  module _ (none : root_with c.position roots ≡ None) where
    absent : ¬ Contains (root_positions roots) c.position
    absent there = no_root c.position 1 (nodes roots) none there

    begins : nat_lt (length (nodes roots)) MOST_ROOTS ≡ true → MayBegin c.position (root_positions roots)
    begins room = record {
      lawful = lawful;
      absent = absent;
      room = (let lt = ltb-true (length (nodes roots)) MOST_ROOTS room in let long = length-map (nodes roots) (λ (x : Node). x.own.position) in subst (λ (n : ℕ). n < MOST_ROOTS) (sym long) lt);
    }

    then_solves : is_at_sight draughts c.pieces c.position ≡ false → (r : BenchRecord) → IsSolveBy (size roots) c r
        → (next : Forest) → IsApplied c.pieces roots (Begin c.position) next → IsLawfulRecord c.pieces next r
    then_solves unseen r solve next (child, (at, (sight, is))) =
        let seen : known child.facts ≡ nothing_known = nothing_seen c.pieces c.position unseen (known child.facts) (subst (λ (q : Board). AreFactsAtSight c.pieces q (known child.facts)) at sight) in
        let found = new_found roots child sound (subst IsLawful (sym at) lawful) (subst (λ (q : Board). ¬ Contains (root_positions roots) q) (sym at) absent) in
        solves next (size roots) (new_root roots child) (subst (λ (t : Forest). node_at (size roots) t ≡ Some (new_root roots child)) (sym is) found) refl at
        (ap (λ (facts : Known). includes facts (facts_claimed c.claim)) seen ∙ claims_more c.claim) r solve

    new_lawful : AreAdded c (lesson_at c.pieces roots c None) added → AreLawfulFrom c.pieces roots added
    new_lawful are = by_room (nat_lt (length (nodes roots)) MOST_ROOTS) refl are
      where
        by_sight : (b : Bool) → is_at_sight draughts c.pieces c.position ≡ b → MayBegin c.position (root_positions roots)
            → AreAdded c (cond b (lesson.Begins (suc (length (nodes roots)))) (lesson.BeginsAndSolves (suc (length (nodes roots))) (size roots))) added → AreLawfulFrom c.pieces roots added
        by_sight true seen may h = subst (AreLawfulFrom c.pieces roots) (sym h) (may, λ next applied. tt)
        by_sight false unseen may (r, (solve, is)) =
            subst (AreLawfulFrom c.pieces roots) (sym is) (may, λ next applied. (then_solves unseen r solve next applied, λ after more. tt))

        by_room : (b : Bool) → nat_lt (length (nodes roots)) MOST_ROOTS ≡ b
            → AreAdded c (cond b (cond (is_at_sight draughts c.pieces c.position) (lesson.Begins (suc (length (nodes roots)))) (lesson.BeginsAndSolves (suc (length (nodes roots))) (size roots))) lesson.TooManyRoots) added
            → AreLawfulFrom c.pieces roots added
        by_room true room h = by_sight (is_at_sight draughts c.pieces c.position) refl (begins room) h
        by_room false full h = absurd h

  -- where this root has it

  module _ (n : ℕ) (x : Node) (is : root_with c.position roots ≡ Some (n, x)) where
    at : IsRootAt c.position 1 (nodes roots) n x
    at = root_there c.position 1 (nodes roots) n x is

    inside : Contains (nodes roots) x
    inside = in_list (nodes roots) at.place x at.at

    old_lawful : AreAdded c (taught_by n x c.claim) added → AreLawfulFrom c.pieces roots added
    old_lawful are = by_cover (covers x c.claim) refl are
      where
        by_mark : (b : Bool) → is_expanded x.own.mark ≡ b → covers x c.claim ≡ false
            → AreAdded c (cond b (lesson.RootExpanded n) (lesson.Solves n x.own.number)) added → AreLawfulFrom c.pieces roots added
        by_mark true expanded lacking h = absurd h
        by_mark false other lacking (r, (solve, all)) =
            let here = EachNode-contains IsSoundNode [] roots sound.each x inside in
            subst (AreLawfulFrom c.pieces roots) (sym all)
            (solves roots x.own.number x (root_found roots sound x inside) (unexpanded_root x here.0 other) at.position (or_parts (is_some (value_of x)) (includes x.own.facts (facts_claimed c.claim)) lacking).1 r solve, λ next applied. tt)

        by_cover : (b : Bool) → covers x c.claim ≡ b
            → AreAdded c (cond b (lesson.Known n) (cond (is_expanded x.own.mark) (lesson.RootExpanded n) (lesson.Solves n x.own.number))) added
            → AreLawfulFrom c.pieces roots added
        by_cover true covered h = subst (AreLawfulFrom c.pieces roots) (sym h) tt
        by_cover false lacking h = by_mark (is_expanded x.own.mark) refl lacking h

begins_none : (n : ℕ) (x : Node) (claim : Claim) → begins_root (taught_by n x claim) ≡ false
begins_none n x claim = by (covers x claim) (is_expanded x.own.mark)
  where
    by : (b d : Bool) → begins_root (cond b (lesson.Known n) (cond d (lesson.RootExpanded n) (lesson.Solves n x.own.number))) ≡ false
    by true d = refl
    by false true = refl
    by false false = refl

few_when : (roots : Forest) (c : Certificate) (b : Bool) → nat_lt (length (nodes roots)) MOST_ROOTS ≡ b → (l : Lesson)
    → l ≡ cond b (cond (is_at_sight draughts c.pieces c.position) (lesson.Begins (suc (length (nodes roots)))) (lesson.BeginsAndSolves (suc (length (nodes roots))) (size roots))) lesson.TooManyRoots
    → begins_root l ≡ true → length (root_positions roots) < MOST_ROOTS
few_when roots c true room l is sure =
    let long = length-map (nodes roots) (λ (x : Node). x.own.position) in
    subst (λ (n : ℕ). n < MOST_ROOTS) (sym long) (ltb-true (length (nodes roots)) MOST_ROOTS room)
few_when roots c false full l is sure = absurd (false≢true (sym (ap begins_root is) ∙ sure))

-- where the lesson begins a root, there is room for one that no root is
pub may_begin : (roots : Forest) (c : Certificate) → begins_root (lesson_of c.pieces roots c) ≡ true → (¬ Contains (root_positions roots) c.position) × (length (root_positions roots) < MOST_ROOTS)
may_begin roots c sure = by (root_with c.position roots) refl sure
  where
    by : (o : Option (ℕ × Node)) → root_with c.position roots ≡ o → begins_root (lesson_at c.pieces roots c o) ≡ true → (¬ Contains (root_positions roots) c.position) × (length (root_positions roots) < MOST_ROOTS)
    by None none h = (λ there. no_root c.position 1 (nodes roots) none there, few_when roots c (nat_lt (length (nodes roots)) MOST_ROOTS) refl (lesson_at c.pieces roots c None) refl h)
    by (Some (n, x)) is h = absurd (false≢true (sym (begins_none n x c.claim) ∙ h))

pub lessons_are_lawful : LessonsAreLawful
lessons_are_lawful roots c added sound lawful size_of good are = by (root_with c.position roots) refl are
  where
    by : (o : Option (ℕ × Node)) → root_with c.position roots ≡ o → AreAdded c (lesson_at c.pieces roots c o) added → AreLawfulFrom c.pieces roots added
    by None none h = new_lawful roots c added sound lawful size_of good none h
    by (Some (n, x)) is h = old_lawful roots c added sound lawful size_of good n x is h
