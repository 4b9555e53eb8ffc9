-- A settled root has a good certificate, and its value is true.
use Rattle.std.proofs.Common.{◌≡◌, ℕ, ◌≤◌, List, [], ◌∷◌, refl, sym, ap, subst, Bool, true, false, ◌&&◌, cond, Option, Some, None}
use Rattle.std.specs.Prelude.{IfSome}
use Rattle.std.proofs.lemmas.List.Elements.{All-contains, All-weaker, All-cons, All-nil}
use Rattle.draughts_board.specs.Board.{Board}
use Rattle.draughts_board.specs.Game.{HasValue}
use Rattle.draughts_board.specs.Draughts.{draughts}
use Rattle.draughts_board.specs.declared.pieces.Side.{Side}
use Rattle.draughts_board.specs.declared.pieces.Side.TheVariants.{Black, White}
use Rattle.draughts_board.specs.declared.pieces.Value.{Value}
use Rattle.draughts_board.specs.declared.pieces.Value.TheVariants as value
use Rattle.strategy_certificate.specs.declared.oracle.Answer.{Answer}
use Rattle.strategy_certificate.specs.declared.claims.Claim.TheVariants.{Win, Draw}
use Rattle.strategy_certificate.specs.declared.certificates.Part.TheVariants as part
use Rattle.strategy_certificate.specs.declared.certificates.Certificate.{Certificate}
use Rattle.strategy_certificate.specs.Tables.{IsSoundTable}
use Rattle.strategy_certificate.specs.Certificates.{IsGoodPart, IsHeld, IsTrueOf}
use Rattle.strategy_certificate.proofs.PartLemmas.{IsGoodBy-true}
use Rattle.proof_tree.specs.Forest.{Node, nodes, value_of}
use Rattle.proof_tree.specs.Sound.{IsSoundNode}
use Rattle.certificate_joiner.specs.Growing.{IsReachedWithin}
use Rattle.certificate_joiner.specs.Shelf.{Put}
use Rattle.certificate_joiner.specs.Certified.{IsCertified, IsJoined, claim_for, IsGoodByEach}
use Rattle.certificate_joiner.specs.Laws.{SettledRootsAreShown, SettledValuesAreTrue}
use Rattle.certificate_joiner.specs.Strategy.{FromNode}
use Rattle.certificate_joiner.proofs.Nodes.{position_of, is_proved, is_disproved}
use Rattle.certificate_joiner.proofs.Holds.{HoldsAllBut-good, HoldsAllBut-held_all}
use Rattle.certificate_joiner.proofs.LowRanks.{RanksAreLow, ranks_are_low}
use Rattle.certificate_joiner.proofs.Named.{All-both-nodes}
use Rattle.certificate_joiner.proofs.WinTree.{won_part}
use Rattle.certificate_joiner.proofs.HoldTree.{held_part}

-- ---- what a value says of the numbers

abbrev pub Says : Node → Value → Type 0
Says root value.BlackWins = is_proved Black root ≡ true
Says root value.WhiteWins = is_proved White root ≡ true
Says root value.Draw = (is_disproved Black root ≡ true) × (is_disproved White root ≡ true)

pub value_says : (root : Node) (v : Value) → value_of root ≡ Some v → Says root v
value_says root v is = by (is_proved Black root) (is_disproved Black root) (is_proved White root) (is_disproved White root) refl refl refl refl is
  where
    by : (a b c d : Bool) → is_proved Black root ≡ a → is_disproved Black root ≡ b → is_proved White root ≡ c → is_disproved White root ≡ d
        → cond a (Some value.BlackWins) (cond c (Some value.WhiteWins) (cond (b && d) (Some value.Draw) None)) ≡ Some v → Says root v
    by true b c d ea eb ec ed is = subst (Says root) (let e : value.BlackWins ≡ v = cc in e) ea
    by false b true d ea eb ec ed is = subst (Says root) (let e : value.WhiteWins ≡ v = cc in e) ec
    by false true false true ea eb ec ed is = subst (Says root) (let e : value.Draw ≡ v = cc in e) (eb, ed)
    by false true false false ea eb ec ed is = absurd (cc)
    by false false false d ea eb ec ed is = absurd (cc)

module _ (k : ℕ) (low : RanksAreLow k) (puts : List Put) (root : Node)
    (tree : FromNode IsSoundNode [] root) (cert : FromNode (λ path. IsCertified k puts) [] root) where
  win_shown : (s : Side) → is_proved s root ≡ true → (c : Certificate) × ((c.position ≡ position_of root) × ((c.pieces ≡ k) × ((c.claim ≡ Win s) × IsGoodByEach c)))
  win_shown s t =
      let found = won_part k low puts s root tree cert t in
      let won = found.1.0 in (
        record { position = position_of root; claim = Win s; pieces = k; parts = part.Win won.part ∷ [] },
        (
          refl,
          (
            refl,
            (
              refl,
              λ answer sound. record {
                due = ap (λ t. Win t ∷ []) won.side;
                parts = All-cons (IsGoodPart answer (position_of root)) (part.Win won.part) []
                    ((won.wins answer sound).good, (let here = All-contains (IsReachedWithin won.part answer won.n) found.0 (position_of root) (won.wins answer sound).reached found.1.1 in (here.0, here.1.1)))
                    (All-nil (IsGoodPart answer (position_of root)));
              },
            ),
          ),
        ),
      )

  -- the part by which the other side than the goal holds is good
  hold_good : (goal : Side) (t : is_disproved goal root ≡ true) (answer : Board → Option Answer) → IsSoundTable draughts k answer
      → IsGoodPart answer (position_of root) (part.Hold (held_part k puts goal root tree cert t).1.0.part)
  hold_good goal t answer sound =
      let found = held_part k puts goal root tree cert t in
      let all = found.1.0.holds answer sound in (
        HoldsAllBut-good answer found.0 found.1.0.part all,
        All-contains (IsHeld found.1.0.part answer) found.0 (position_of root) (HoldsAllBut-held_all answer found.0 found.1.0.part all) found.1.1,
      )

  draw_shown : is_disproved Black root ≡ true → is_disproved White root ≡ true → (c : Certificate) × ((c.position ≡ position_of root) × ((c.pieces ≡ k) × ((c.claim ≡ Draw) × IsGoodByEach c)))
  draw_shown for_white for_black =
      let black = held_part k puts White root tree cert for_black in
      let white = held_part k puts Black root tree cert for_white in (
        record { position = position_of root; claim = Draw; pieces = k; parts = part.Hold black.1.0.part ∷ part.Hold white.1.0.part ∷ [] },
        (
          refl,
          (
            refl,
            (
              refl,
              λ answer sound. record {
                due = (let b = black.1.0.side in let w = white.1.0.side in cc);
                parts = All-cons (IsGoodPart answer (position_of root)) (part.Hold black.1.0.part) (part.Hold white.1.0.part ∷ []) (hold_good White for_black answer sound)
                    (All-cons (IsGoodPart answer (position_of root)) (part.Hold white.1.0.part) [] (hold_good Black for_white answer sound) (All-nil (IsGoodPart answer (position_of root))));
              },
            ),
          ),
        ),
      )

  shown : (v : Value) → Says root v → (c : Certificate) × IsJoined k (position_of root) (claim_for v) c
  shown value.BlackWins t = let w = win_shown Black t in (w.0, record { position = w.1.0; pieces = w.1.1.0; claims = w.1.1.1.0; good = w.1.1.1.1 })
  shown value.WhiteWins t = let w = win_shown White t in (w.0, record { position = w.1.0; pieces = w.1.1.0; claims = w.1.1.1.0; good = w.1.1.1.1 })
  shown value.Draw t = let w = draw_shown t.0 t.1 in (w.0, record { position = w.1.0; pieces = w.1.1.0; claims = w.1.1.1.0; good = w.1.1.1.1 })

root_shown : (k : ℕ) (puts : List Put) (root : Node) → k ≤ 3 → FromNode IsSoundNode [] root → FromNode (λ path. IsCertified k puts) [] root
    → (o : Option Value) → value_of root ≡ o → IfSome o (λ v. (c : Certificate) × IsJoined k (position_of root) (claim_for v) c)
root_shown k puts root few tree cert None is = tt
root_shown k puts root few tree cert (Some v) is = shown k (ranks_are_low k few) puts root tree cert v (value_says root v is)

pub settled_roots_are_shown : SettledRootsAreShown
settled_roots_are_shown k puts roots few sound certified =
    All-weaker (λ root. FromNode IsSoundNode [] root × FromNode (λ path. IsCertified k puts) [] root)
    (λ root. IfSome (value_of root) (λ v. (c : Certificate) × IsJoined k (position_of root) (claim_for v) c))
    (λ root both. root_shown k puts root few both.0 both.1 (value_of root) refl) (nodes roots)
    (All-both-nodes IsSoundNode (λ path. IsCertified k puts) [] roots sound certified)

claim_is_value : (p : Board) (v : Value) → IsTrueOf (claim_for v) p → HasValue draughts p v
claim_is_value p value.BlackWins t = t
claim_is_value p value.WhiteWins t = t
claim_is_value p value.Draw t = t

value_true : (k : ℕ) (answer : Board → Option Answer) → IsSoundTable draughts k answer → (root : Node) (o : Option Value)
    → IfSome o (λ v. (c : Certificate) × IsJoined k (position_of root) (claim_for v) c) → IfSome o (HasValue draughts (position_of root))
value_true k answer sound root None found = tt
value_true k answer sound root (Some v) found =
    let c = found.0 in
    let table = subst (λ n. IsSoundTable draughts n answer) (sym found.1.pieces) sound in
    claim_is_value (position_of root) v
    (subst (λ p. IsTrueOf (claim_for v) p) found.1.position (subst (λ claim. IsTrueOf claim c.position) found.1.claims (IsGoodBy-true c.pieces answer table c (found.1.good answer table))))

pub settled_values_are_true : SettledValuesAreTrue
settled_values_are_true k answer puts roots few table sound certified =
    All-weaker (λ root. IfSome (value_of root) (λ v. (c : Certificate) × IsJoined k (position_of root) (claim_for v) c))
    (λ root. IfSome (value_of root) (HasValue draughts (position_of root)))
    (λ root found. value_true k answer table root (value_of root) found) (nodes roots)
    (settled_roots_are_shown k puts roots few sound certified)
