-- What was collected from a root is a strategy, and the part that was joined from it is good for the root.
use Rattle.std.proofs.Common.{◌≡◌, ℕ, ◌≤◌, List, [], ◌∷◌, refl, sym, ◌∙◌, ap, subst, true, Option, Some, None, map, length, arith}
use Rattle.std.specs.Prelude.{Contains, IsSome, IfSome, IfOk, Result, slice_get}
use Rattle.std.proofs.lemmas.Result.{IfOk-weaker}
use Rattle.std.proofs.lemmas.Bool.{false≢true}
use Rattle.std.proofs.lemmas.List.Elements.{All-contains, All-cons, All-nil}
use Rattle.draughts_board.specs.Board.{Board}
use Rattle.draughts_board.specs.declared.pieces.Side.{Side}
use Rattle.draughts_board.proofs.Members.{Contains-head, Contains-map}
use Rattle.draughts_board.specs.declared.pieces.Side.TheVariants.{Black, White}
use Rattle.draughts_board.specs.declared.pieces.Value.{Value}
use Rattle.strategy_certificate.specs.declared.claims.Claim.TheVariants as claims
use Rattle.strategy_certificate.specs.declared.certificates.Part.{Part}
use Rattle.strategy_certificate.specs.declared.certificates.Part.TheVariants as part
use Rattle.strategy_certificate.specs.declared.certificates.Certificate.{Certificate}
use Rattle.strategy_certificate.specs.Parts.{WinList, HoldList}
use Rattle.strategy_certificate.specs.Certificates.{IsGoodPart, IsHeld, claim_of}
use Rattle.certificate_joiner.specs.declared.steps.Aim.{Aim}
use Rattle.proof_tree.specs.Forest.{Forest, Node, nodes, value_of}
use Rattle.proof_tree.specs.Sound.{EachNode, IsSoundNode}
use Rattle.certificate_joiner.specs.Shelf.{Put}
use Rattle.certificate_joiner.specs.Certified.{IsCertified, IsJoined, claim_for}
use Rattle.certificate_joiner.proofs.Nodes.{position_of}
use Rattle.certificate_joiner.proofs.Named.{EachNode-contains}
use Rattle.certificate_joiner.specs.Growing.{IsReachedWithin, WinsAll, HoldsAllBut}
use Rattle.certificate_joiner.specs.Steps.{ByEachTable}
use Rattle.certificate_joiner.specs.Strategy.{IsDueNode, Collected, IsStrategy, weight, is_due}
use Rattle.certificate_joiner.proofs.Holds.{HoldsAllBut-good, HoldsAllBut-held_all}

module _ (k : ℕ) (puts : List Put) (aim : Aim) (s : Side) (f : ℕ → Node) (Has : ℕ → Type 0) (root : ℕ) (nodes : List ℕ) (all : Collected aim s f Has root nodes (length nodes)) where
  pub strategy_from : IsDueNode k puts aim s [] (f root) → IsStrategy k puts aim s f Has nodes
  strategy_from due = record { there = all.there; due = all.due k puts due; closed = all.closed }

  pub few_from : (n : ℕ) → weight (f root) ≤ n → length nodes ≤ n
  few_from n le = let lighter = all.lighter in omega arith

  root_first : Contains (map (λ m. position_of (f m)) nodes) (position_of (f root))
  root_first =
      Contains-map (λ m. position_of (f m)) nodes root (subst (λ l. Contains l root) (sym all.begins.1) (Contains-head root all.begins.0))

  pub win_good : (n : ℕ) (list : WinList) → ByEachTable k (λ answer. WinsAll answer n (map (λ m. position_of (f m)) nodes) list) → ByEachTable k (λ answer. IsGoodPart answer (position_of (f root)) (part.Win list))
  win_good n list wins answer sound =
      let w = wins answer sound in
      let reached = All-contains (IsReachedWithin list answer n) (map (λ m. position_of (f m)) nodes) (position_of (f root)) w.reached root_first in
      (w.good, (reached.0, reached.1.1))

  pub hold_good : (list : HoldList) → ByEachTable k (λ answer. HoldsAllBut answer [] (map (λ m. position_of (f m)) nodes) list) → ByEachTable k (λ answer. IsGoodPart answer (position_of (f root)) (part.Hold list))
  hold_good list holds answer sound =
      let h = holds answer sound in (
        HoldsAllBut-good answer (map (λ m. position_of (f m)) nodes) list h,
        All-contains (IsHeld list answer) (map (λ m. position_of (f m)) nodes) (position_of (f root)) (HoldsAllBut-held_all answer (map (λ m. position_of (f m)) nodes) list h) root_first,
      )

-- ---- the certificate

module _ (k : ℕ) (p : Board) where
  pub win_claims : (s : Side) (one : Part) (position : Board) (parts : List Part) → position ≡ p → parts ≡ one ∷ [] → claim_of one ≡ claims.Win s
      → ByEachTable k (λ answer. IsGoodPart answer p one) → IsJoined k p (claims.Win s) (record { position = position; claim = claims.Win s; pieces = k; parts = parts })
  win_claims s one position parts at made said good =
      subst (λ q. IsJoined k p (claims.Win s) (record { position = q; claim = claims.Win s; pieces = k; parts = parts })) (sym at)
      (subst (λ ps. IsJoined k p (claims.Win s) (record { position = p; claim = claims.Win s; pieces = k; parts = ps })) (sym made)
      (record {
        position = refl;
        pieces = refl;
        claims = refl;
        good = λ answer sound. record {
          due = ap (λ c. c ∷ []) said;
          parts = All-cons (IsGoodPart answer p) one [] (good answer sound) (All-nil (IsGoodPart answer p));
        };
      }))

  pub draw_claims : (black white : Part) (position : Board) (parts : List Part) → position ≡ p → parts ≡ black ∷ white ∷ [] → claim_of black ≡ claims.Hold Black → claim_of white ≡ claims.Hold White
      → ByEachTable k (λ answer. IsGoodPart answer p black) → ByEachTable k (λ answer. IsGoodPart answer p white)
      → IsJoined k p claims.Draw (record { position = position; claim = claims.Draw; pieces = k; parts = parts })
  draw_claims black white position parts at made b w good_black good_white =
      subst (λ q. IsJoined k p claims.Draw (record { position = q; claim = claims.Draw; pieces = k; parts = parts })) (sym at)
      (subst (λ ps. IsJoined k p claims.Draw (record { position = p; claim = claims.Draw; pieces = k; parts = ps })) (sym made)
      (record {
        position = refl;
        pieces = refl;
        claims = refl;
        good = λ answer sound. record {
          due = λ i. b i ∷ w i ∷ [];
          parts = All-cons (IsGoodPart answer p) black (white ∷ []) (good_black answer sound)
              (All-cons (IsGoodPart answer p) white [] (good_white answer sound) (All-nil (IsGoodPart answer p)));
        };
      }))

-- ---- a root by its place

module _ (roots : Forest) (place : ℕ) (x : Node) (here : slice_get (nodes roots) place ≡ Some x) where
  pub value_at : (o : Option Value) (v : Value) → IfSome (slice_get (nodes roots) place) (λ y. o ≡ value_of y) → o ≡ Some v → value_of x ≡ Some v
  value_at o v said is = sym (subst (λ (y : Option Node). IfSome y (λ z. o ≡ value_of z)) here said) ∙ is

  pub is_settled : (o : Option Value) → IfSome (slice_get (nodes roots) place) (λ y. o ≡ value_of y)
      → IfSome (slice_get (nodes roots) place) (λ y. IsSome (value_of y)) → o ≡ None → ⊥
  is_settled o said settled is =
      let none : value_of x ≡ None = sym (subst (λ (y : Option Node). IfSome y (λ z. o ≡ value_of z)) here said) ∙ is in
      false≢true (subst IsSome none (subst (λ (y : Option Node). IfSome y (λ z. IsSome (value_of z))) here settled))

  pub joined_root : {E : Type 0} (r : Result Certificate E) (k : ℕ) (v : Value) → value_of x ≡ Some v
      → IfOk r (IsJoined k x.own.position (claim_for v))
      → IfOk r (λ c. IfSome (slice_get (nodes roots) place) (λ y. IfSome (value_of y) (λ u. IsJoined k y.own.position (claim_for u) c)))
  joined_root r k v is joined =
      IfOk-weaker r _ _
      (λ c one. subst (λ (y : Option Node). IfSome y (λ z. IfSome (value_of z) (λ u. IsJoined k z.own.position (claim_for u) c))) (sym here)
      (subst (λ (o : Option Value). IfSome o (λ u. IsJoined k x.own.position (claim_for u) c)) (sym is) one)) joined

pub due_root : (k : ℕ) (puts : List Put) (roots : Forest) → EachNode IsSoundNode [] roots → EachNode (λ path. IsCertified k puts) [] roots
    → (x : Node) → Contains (nodes roots) x → (aim : Aim) (s : Side) → is_due aim s x ≡ true → IsDueNode k puts aim s [] x
due_root k puts roots sound certified x there aim s due = record {
  sound = EachNode-contains IsSoundNode [] roots sound x there;
  certified = EachNode-contains (λ path. IsCertified k puts) [] roots certified x there;
  due = due;
}
