-- What the steps of a look-up say of one another, and what a new node changes.
use Rattle.std.proofs.Common.{◌≡◌, ℕ, zero, suc, ◌+◌, ◌<◌, ◌≤◌, inl, inr, List, Bool, length, refl, sym, ◌∙◌, subst, ap, arith}
use Rattle.std.proofs.lemmas.Bool.{cases_lt}
use Rattle.draughts_board.specs.Board.{Board}
use Rattle.position_rows.specs.declared.tree.Node.{Node}
use Rattle.position_rows.specs.declared.tree.End.TheVariants.{Behind}
use Rattle.position_rows.specs.Rows.{IsRowAt, IsNumberOf}
use Rattle.position_rows.specs.Words.{digit, next_word, word_behind, word_of}
use Rattle.position_rows.specs.Walks.{LinksTo, Reaches, IsBehind, IsEnd, IsHung, IsOnTheWay, TellsBehind, node_at}

-- a look-up comes to one node by n digits
pub reaches_once : (nodes : List Node) (word n i k : ℕ) → Reaches nodes word n i → Reaches nodes word n k → i ≡ k
reaches_once nodes word zero i k a b = a ∙ sym b
reaches_once nodes word (suc n) i k (a, ra, la) (b, rb, lb) =
    let same : a ≡ b = reaches_once nodes word n a b ra rb in
    let there : LinksTo nodes b (digit (word_behind word n)) i = subst (λ (x : ℕ). LinksTo nodes x (digit (word_behind word n)) i) same la in
    sym there.named ∙ lb.named

-- a look-up that comes to a node by more than n digits went on behind n
pub reaches_before : (nodes : List Node) (word m n k : ℕ) → Reaches nodes word m k → n < m
    → (i : ℕ) × (j : ℕ) × Reaches nodes word n i × LinksTo nodes i (digit (word_behind word n)) j
reaches_before nodes word zero n k r lt = absurd (omega (arith, lt))
reaches_before nodes word (suc m) n k (i, r, l) lt =
    elim (cases_lt n m) [
      | inl less ↦ reaches_before nodes word m n i r less
      | inr ge ↦ (
          let same : m ≡ n = omega (arith, lt, ge) in
          subst (λ (y : ℕ). (i : ℕ) × (j : ℕ) × Reaches nodes word y i × LinksTo nodes i (digit (word_behind word y)) j) same (i, k, r, l))
    ]

-- where each link stays, a look-up comes as far as before
pub reaches_more : (old new : List Node) → ((i : ℕ) (d : Bool) (k : ℕ) → LinksTo old i d k → LinksTo new i d k)
    → (word n k : ℕ) → Reaches old word n k → Reaches new word n k
reaches_more old new more word zero k r = r
reaches_more old new more word (suc n) k (i, r, l) =
    (i, reaches_more old new more word n i r, more i (digit (word_behind word n)) k l)

module _ (old new : List Node) (p : Board) (i r : ℕ) (d : Bool) (hung : IsHung old new i d (r + 1)) where
  -- the row of a node that was hung where the look-up of its position ended is behind
  pub hung_behind : IsEnd old p i d → IsBehind new p r
  hung_behind end = record {
    steps = suc end.steps;
    node = length old;
    reached = (
      i,
      reaches_more old new hung.kept (word_of p) end.steps i end.reached,
      subst (λ (x : Bool). LinksTo new i x (length old)) (sym end.next) hung.linked,
    );
    number = hung.number;
  }

  -- the others stay
  pub behind_stays : (q : Board) (s : ℕ) → IsBehind old q s → IsBehind new q s
  behind_stays q s b = record {
    steps = b.steps;
    node = b.node;
    reached = reaches_more old new hung.kept (word_of q) b.steps b.node b.reached;
    number = hung.numbers b.node s b.number;
  }

module _ {E : Type 0} (rows : List (Board × E)) (nodes : List Node) (p : Board) (i word : ℕ)
    (way : IsOnTheWay rows nodes p i word) (not_here : ¬ IsNumberOf rows (node_at nodes i).number p) where
  -- a node that the look-up comes to by no more digits has not the number of the row
  missed_so_far : (r n k : ℕ) → IsRowAt rows r p → n ≤ way.steps → Reaches nodes (word_of p) n k
      → ¬ ((node_at nodes k).number ≡ r + 1)
  missed_so_far r n k row le reached number =
      elim (cases_lt n way.steps) [
        | inl less ↦ way.missed r n k row less reached number
        | inr ge ↦ (
            let same : n ≡ way.steps = omega (arith, le, ge) in
            let there : Reaches nodes (word_of p) way.steps k = subst (λ (x : ℕ). Reaches nodes (word_of p) x k) same reached in
            let here : k ≡ i = reaches_once nodes (word_of p) way.steps k i there way.reached in
            not_here (r, subst (λ (x : ℕ). (node_at nodes x).number ≡ r + 1) here number, row))
      ]

  -- the look-up goes on
  pub way_goes_on : (k : ℕ) → LinksTo nodes i (digit word) k → IsOnTheWay rows nodes p k (next_word word)
  way_goes_on k link = record {
    steps = suc way.steps;
    inside = link.inside;
    word = ap next_word way.word;
    reached = (i, way.reached, subst (λ (x : ℕ). LinksTo nodes i (digit x) k) way.word link);
    missed = λ r n m row lt reached. missed_so_far r n m row (omega (arith, lt)) reached;
  }

  -- the look-up ends
  pub way_ends : ((k : ℕ) → ¬ LinksTo nodes i (digit word) k) → TellsBehind rows nodes p (Behind i (digit word))
  way_ends none = (
    record {
      steps = way.steps;
      inside = way.inside;
      reached = way.reached;
      next = ap digit (sym way.word);
      none = none;
    },
    λ r row b. elim (cases_lt way.steps b.steps) [
      | inl past ↦ (
          let on = reaches_before nodes (word_of p) b.steps way.steps b.node b.reached past in
          let here : on.0 ≡ i = reaches_once nodes (word_of p) way.steps on.0 i on.2 way.reached in
          none on.1 (subst (λ (x : ℕ). LinksTo nodes i (digit x) on.1) (sym way.word)
          (subst (λ (x : ℕ). LinksTo nodes x (digit (word_behind (word_of p) way.steps)) on.1) here on.3)))
      | inr le ↦ missed_so_far r b.steps b.node row le b.reached b.number
    ],
  )

-- a look-up begins at the first node
pub way_begins : {E : Type 0} (rows : List (Board × E)) (nodes : List Node) (p : Board) (w : ℕ) → w ≡ word_of p
    → 0 < length nodes → IsOnTheWay rows nodes p 0 w
way_begins rows nodes p w is some = record {
  steps = 0;
  inside = some;
  word = is;
  reached = refl;
  missed = λ r n k row lt. absurd (omega (arith, lt));
}
