-- A list of games has one list of openings, or one fault that stands first.
use Rattle.std.proofs.Common.{◌≡◌, ◌⊎◌, inl, inr, ℕ, suc, ◌+◌, ◌<◌, ◌≤◌, List, [], ◌∷◌, ◌++◌, length, get_or, take, drop, sym, subst, arith, length-take-le, take_all}
use Rattle.std.specs.Bool.{OnFalse}
use Rattle.shared_words.proofs.Exactness.{on_false}
use Rattle.pdn_openings.specs.Faults.{opening_wants_memory, IsOpeningFault, OpeningFaultStandsFirst}
use Rattle.pdn_openings.specs.Openings.{IsOpening, AreOpeningsFrom, AreOpenings}
use Rattle.pdn_openings.specs.declared.opening.Opening.{Opening}
use Rattle.pdn_openings.specs.declared.refusal.OpeningRefusal.{OpeningRefusal}
use Rattle.pdn_openings.proofs.OneGame.{opening_or_fault, one_fault}
use Rattle.pdn_openings.proofs.Steps.{take-one_more, split-at}
use Rattle.pdn_text.specs.declared.game.Game.{Game}

-- one more game
opened-push : (plies number : ℕ) (games : List Game) (openings : List Opening) (game : Game) (opening : Opening)
    → AreOpeningsFrom plies number games openings → IsOpening plies (number + length games) game opening
    → AreOpeningsFrom plies number (games ++ game ∷ []) (openings ++ opening ∷ [])
opened-push plies number [] [] game opening each more =
    (subst (λ n. IsOpening plies n game opening) (let n : number + 0 ≡ number = omega arith in n) more, tt)
opened-push plies number [] (o ∷ openings) game opening each more = absurd each
opened-push plies number (g ∷ games) [] game opening each more = absurd each
opened-push plies number (g ∷ games) (o ∷ openings) game opening each more = (
  each.0,
  opened-push plies (suc number) games openings game opening each.1
      (subst (λ n. IsOpening plies n game opening) (let n : number + length (g ∷ games) ≡ suc number + length games = omega arith in n) more),
)

-- ---- where a fault stands first, going through the games

-- the first of the games that has no opening has this fault
abbrev pub FirstFault : ℕ → ℕ → List Game → OpeningRefusal → Type 0
FirstFault plies number [] fault = ⊥
FirstFault plies number (game ∷ games) fault =
    IsOpeningFault plies number game fault ⊎ ((opening : Opening) × (IsOpening plies number game opening × FirstFault plies (suc number) games fault))

first-behind : (plies number : ℕ) (before : List Game) (openings : List Opening) (game : Game) (behind : List Game) (fault : OpeningRefusal)
    → AreOpeningsFrom plies number before openings → IsOpeningFault plies (number + length before) game fault
    → FirstFault plies number (before ++ game ∷ behind) fault
first-behind plies number [] openings game behind fault opened faulty =
    inl (subst (λ n. IsOpeningFault plies n game fault) (let n : number + 0 ≡ number = omega arith in n) faulty)
first-behind plies number (g ∷ before) [] game behind fault opened faulty = absurd opened
first-behind plies number (g ∷ before) (o ∷ openings) game behind fault opened faulty =
    inr (
      o,
      (
        opened.0,
        first-behind plies (suc number) before openings game behind fault opened.1
            (subst (λ n. IsOpeningFault plies n game fault) (let n : number + length (g ∷ before) ≡ suc number + length before = omega arith in n) faulty),
      ),
    )

first-fault : (plies : ℕ) (games : List Game) (fault : OpeningRefusal) → OpeningFaultStandsFirst plies games fault → FirstFault plies 1 games fault
first-fault plies games fault s =
    subst (λ gs. FirstFault plies 1 gs fault) (sym s.all)
    (first-behind plies 1 s.before s.openings s.game s.behind fault s.opened
    (subst (λ n. IsOpeningFault plies n s.game fault) (let n : suc (length s.before) ≡ 1 + length s.before = omega arith in n) s.faulty))

-- ---- never both, and no other

openings_or_first : (plies number : ℕ) (games : List Game) (openings : List Opening) (fault : OpeningRefusal) → AreOpeningsFrom plies number games openings
    → FirstFault plies number games fault → ⊥
openings_or_first plies number [] openings fault opened first = first
openings_or_first plies number (g ∷ games) [] fault opened first = opened
openings_or_first plies number (g ∷ games) (o ∷ openings) fault opened first = elim first [
  | inl f ↦ opening_or_fault plies number g o fault opened.0 f
  | inr h ↦ openings_or_first plies (suc number) games openings fault opened.1 h.1.1
]

one_first : (plies number : ℕ) (games : List Game) (e f : OpeningRefusal) → FirstFault plies number games e → FirstFault plies number games f → e ≡ f
one_first plies number [] e f a b = absurd a
one_first plies number (g ∷ games) e f a b = elim a [
  | inl x ↦ elim b [ inl y ↦ one_fault plies number g e f x y | inr y ↦ absurd (opening_or_fault plies number g y.0 e y.1.0 x) ]
  | inr x ↦ elim b [ inl y ↦ absurd (opening_or_fault plies number g x.0 f x.1.0 y) | inr y ↦ one_first plies (suc number) games e f x.1.1 y.1.1 ]
]

pub openings_or_fault : (plies : ℕ) (games : List Game) (openings : List Opening) (fault : OpeningRefusal) → AreOpenings plies games openings
    → OpeningFaultStandsFirst plies games fault → ⊥
openings_or_fault plies games openings fault opened s = openings_or_first plies 1 games openings fault opened (first-fault plies games fault s)

pub one_refusal : (plies : ℕ) (games : List Game) (e f : OpeningRefusal) → OpeningFaultStandsFirst plies games e → OpeningFaultStandsFirst plies games f → e ≡ f
one_refusal plies games e f a b = one_first plies 1 games e f (first-fault plies games e a) (first-fault plies games f b)

-- ---- game by game

-- the games before place i have openings, and the fault of that at place i stands first
pub stands_here : (plies : ℕ) (games : List Game) (openings : List Opening) (i : ℕ) (game : Game) (fault : OpeningRefusal) → i < length games
    → game ≡ get_or games i game → AreOpeningsFrom plies 1 (take i games) openings → OnFalse (opening_wants_memory fault) (IsOpeningFault plies (i + 1) game fault)
    → OnFalse (opening_wants_memory fault) (OpeningFaultStandsFirst plies games fault)
stands_here plies games openings i game fault h is opened faulty = on_false (opening_wants_memory fault) (IsOpeningFault plies (i + 1) game fault) (OpeningFaultStandsFirst plies games fault) stands faulty
  where
    stands : IsOpeningFault plies (i + 1) game fault → OpeningFaultStandsFirst plies games fault
    stands f = record {
      before = take i games;
      openings = openings;
      game = game;
      behind = drop (suc i) games;
      all = split-at games i game h is;
      opened = opened;
      faulty =
          let n : i + 1 ≡ suc (length (take i games)) = omega (arith, length-take-le i games (omega arith)) in
          subst (λ n. IsOpeningFault plies n game fault) n f;
    }

-- the game at place i has its opening too
pub goes_on : (plies : ℕ) (games : List Game) (openings more : List Opening) (i : ℕ) (game : Game) (opening : Opening) → i < length games
    → game ≡ get_or games i game → AreOpeningsFrom plies 1 (take i games) openings → IsOpening plies (i + 1) game opening
    → more ≡ openings ++ opening ∷ [] → AreOpeningsFrom plies 1 (take (i + 1) games) more
goes_on plies games openings more i game opening h is opened one pushed =
    let n : i + 1 ≡ 1 + length (take i games) = omega (arith, length-take-le i games (omega arith)) in
    let longer = opened-push plies 1 (take i games) openings game opening opened (subst (λ n. IsOpening plies n game opening) n one) in
    subst (λ os. AreOpeningsFrom plies 1 (take (i + 1) games) os) (sym pushed)
    (subst (λ gs. AreOpeningsFrom plies 1 gs (openings ++ opening ∷ [])) (sym (take-one_more games i game h is)) longer)

-- all games are gone through
pub all_opened : (plies : ℕ) (games : List Game) (openings : List Opening) (i : ℕ) → length games ≤ i → AreOpeningsFrom plies 1 (take i games) openings
    → AreOpenings plies games openings
all_opened plies games openings i h opened = subst (λ gs. AreOpeningsFrom plies 1 gs openings) (take_all i games h) opened
