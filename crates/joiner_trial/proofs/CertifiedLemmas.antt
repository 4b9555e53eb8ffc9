-- Every fact stays certified while the tree grows, and a leaf that learns stays a leaf.
use Rattle.std.proofs.Common.{◌≡◌, ℕ, ◌≤◌, Bool, true, false, cond, eqb, List, [], ◌∷◌, ◌++◌, Option, Some, None, take, refl, sym, ◌∙◌, ap, subst}
use Rattle.std.specs.Prelude.{All, IfSome, IsSome, IsSomeAnd}
use Rattle.std.proofs.lemmas.List.Elements.{All-cons, All-nil, All-take}
use Rattle.draughts_board.specs.Board.{Board}
use Rattle.draughts_board.proofs.Members.{Contains-head}
use Rattle.strategy_certificate.specs.declared.certificates.Certificate.{Certificate}
use Rattle.strategy_certificate.specs.Certificates.{IsGood}
use Rattle.certificate_checker.specs.Answers.{IsFinding}
use Rattle.certificate_checker.specs.Sight.{IsAtSight}
use Rattle.certificate_checker.specs.Told.{facts_claimed}
use Rattle.certificate_checker.proofs.FactLemmas.{consistent, claim_tells_win, claim_tells_hold}
use Rattle.proof_numbers.specs.declared.facts.Facts.{Facts}
use Rattle.proof_numbers.specs.declared.leaves.Child.{Child}
use Rattle.proof_numbers.specs.Facts.{known}
use Rattle.proof_numbers.specs.Known.{Known, knows_win, knows_hold, joined, IsConsistent}
use Rattle.proof_numbers.specs.Sight.{AreFactsAtSight}
use Rattle.proof_tree.specs.declared.rows.Mark.{Mark}
use Rattle.proof_tree.specs.declared.rows.Mark.TheVariants.{Unexpanded}
use Rattle.proof_tree.specs.Changes.{changed, learn, with_root, with_children, with_facts}
use Rattle.proof_tree.specs.Forest.{Own, Forest, no_node, node, Node, node_at, or_else, size}
use Rattle.proof_tree.specs.Sound.{TreeState, IsSoundForest}
use Rattle.proof_tree.proofs.SoundForests.{IsSound-learnt}
use Rattle.certificate_joiner.specs.Shelf.{Put}
use Rattle.certificate_joiner.specs.Certified.{IsShelved}
use Rattle.certificate_joiner.specs.Growth.{AreShownBy}
use Rattle.certificate_joiner.proofs.Growth.{roots_stay_certified, children_stay_certified, facts_stay_certified}
use Rattle.certificate_joiner.proofs.Agreeing.{shown_facts_agree}
use Rattle.certificate_joiner.proofs.Within.{shelf_stays_within}
use Rattle.joiner_trial.specs.Certified.{CertifiedState, IsCertifiedTree, HasLearnt}

-- ---- what a certificate shows

shown_by : (k : ℕ) (p : Board) (c : Certificate) (facts : Known) → IsGood c → facts ≡ facts_claimed c.claim → IsFinding k p c → AreShownBy k p facts (c ∷ [])
shown_by k p c facts good told finding = record {
  shelved = All-cons (IsShelved k p) c [] (record { position = finding.position; pieces = finding.pieces; good = good; short = finding.short }) (All-nil (IsShelved k p));
  wins = λ s t. (c, (Contains-head c [], claim_tells_win s c.claim (subst (λ f. knows_win s f ≡ true) told t)));
  holds = λ s t. (c, (Contains-head c [], claim_tells_hold s c.claim (subst (λ f. knows_hold s f ≡ true) told t)));
}

-- the certificate that is taken out of a proved one
shown_at : (k : ℕ) (proved c : Certificate) (facts : Known) (o : Option Node) → c ≡ proved → IsGood proved → facts ≡ facts_claimed c.claim
    → IfSome o (λ x. IsFinding k x.own.position proved) → IfSome o (λ x. AreShownBy k x.own.position facts (c ∷ []))
shown_at k proved c facts None is good told finding = tt
shown_at k proved c facts (Some x) is good told finding =
    shown_by k x.own.position c facts (subst IsGood (sym is) good) told (subst (IsFinding k x.own.position) (sym is) finding)

there_is : (o : Option Node) → IsSomeAnd o (λ x. x.own.mark ≡ Unexpanded) → IsSome o
there_is None leaf = absurd leaf
there_is (Some x) leaf = refl

-- A leaf is to learn these facts, which the batch shows.
pub record Learns (k : ℕ) (roots : Forest) (n : ℕ) (facts : Known) (batch : List Certificate) : Type 0 where
  pub sound : IsSoundForest roots
  pub leaf : IsSomeAnd (node_at n roots) (λ x. x.own.mark ≡ Unexpanded)
  pub shown : IfSome (node_at n roots) (λ x. AreShownBy k x.own.position facts batch)
  pub consistent : IsConsistent facts

pub learns : (k : ℕ) (tree : TreeState) (state : CertifiedState) (n : ℕ) (proved c : Certificate) (facts : Facts)
    → ◌≡◌ {A = CertifiedState} (record { pieces = k; tree = tree }) state → IsSoundForest state.tree.forest
    → IsSomeAnd (node_at n state.tree.forest) (λ x. x.own.mark ≡ Unexpanded)
    → IfSome (node_at n state.tree.forest) (λ x. IsFinding state.pieces x.own.position proved)
    → c ≡ proved → IsGood proved → known facts ≡ facts_claimed c.claim → Learns k tree.forest n (known facts) (c ∷ [])
learns k tree state n proved c facts is sound leaf finding same good told = record {
  sound = subst (λ (s : CertifiedState). IsSoundForest s.tree.forest) (sym is) sound;
  leaf = subst (λ (s : CertifiedState). IsSomeAnd (node_at n s.tree.forest) (λ x. x.own.mark ≡ Unexpanded)) (sym is) leaf;
  shown = shown_at k proved c (known facts) (node_at n tree.forest) same good told
      (subst (λ (s : CertifiedState). IfSome (node_at n s.tree.forest) (λ x. IsFinding s.pieces x.own.position proved)) (sym is) finding);
  consistent = consistent facts;
}

-- ---- the tree grows

module _ (k memory : ℕ) (roots : Forest) (puts : List Put) (old : IsCertifiedTree k memory roots puts) where
  pub root_more : (p : Board) (facts : Known) → AreFactsAtSight k p facts → IsCertifiedTree k memory (with_root p facts roots) puts
  root_more p facts sight = record {
    few = old.few;
    memory_is = old.memory_is;
    certified = roots_stay_certified k puts roots p facts old.within sight old.certified;
    within = shelf_stays_within.root puts roots p facts old.within;
  }

  pub children_more : (n : ℕ) (children : List Child) → IsSoundForest roots → IsSomeAnd (node_at n roots) (λ x. x.own.mark ≡ Unexpanded)
      → All (IsAtSight k) children → IsCertifiedTree k memory (with_children n children roots) puts
  children_more n children sound leaf sight = record {
    few = old.few;
    memory_is = old.memory_is;
    certified = children_stay_certified k puts roots n children old.within sight old.certified;
    within = shelf_stays_within.children puts roots n children sound leaf old.within;
  }

  module _ (n : ℕ) (facts : Known) (batch : List Certificate) (l : Learns k roots n facts batch) where
    pub facts_more : IsCertifiedTree k memory (with_facts n facts roots) (puts ++ (n, batch) ∷ [])
    facts_more = record {
      few = old.few;
      memory_is = old.memory_is;
      certified = facts_stay_certified k puts roots n facts batch l.sound l.shown old.certified;
      within = shelf_stays_within.facts puts roots n facts batch l.sound (there_is (node_at n roots) l.leaf) old.within;
    }

    pub facts_agree : IfSome (node_at n roots) (λ x. IsConsistent (joined x.own.facts facts))
    facts_agree = by (node_at n roots) (shown_facts_agree k puts roots n facts batch l.sound old.certified l.consistent) l.shown
      where
        by : (o : Option Node) → IfSome o (λ x. AreShownBy k x.own.position facts batch → IsConsistent (joined x.own.facts facts))
            → IfSome o (λ x. AreShownBy k x.own.position facts batch) → IfSome o (λ x. IsConsistent (joined x.own.facts facts))
        by None agree shown = tt
        by (Some x) agree shown = agree shown

    pub has_learnt : (new : Forest) → new ≡ with_facts n facts roots → HasLearnt n roots new
    has_learnt new is = record {
      facts = facts;
      changed = is;
      sound = subst IsSoundForest (sym is) (by (node_at n roots) refl l.leaf facts_agree);
    }
      where
        by : (o : Option Node) → node_at n roots ≡ o → IsSomeAnd o (λ x. x.own.mark ≡ Unexpanded) → IfSome o (λ x. IsConsistent (joined x.own.facts facts))
            → IsSoundForest (with_facts n facts roots)
        by None at leaf agree = absurd leaf
        by (Some x) at leaf agree = IsSound-learnt n facts roots x l.sound at agree

-- ---- a leaf that learns

mapped : (Own → Own) → Option Node → Option Node
mapped f None = None
mapped f (Some x) = Some (record { own = f x.own; children = changed f x.children })

mapped_else : (f : Own → Own) (b : Bool) (x : Node) (o p : Option Node)
    → cond b (mapped f (Some x)) (or_else (mapped f o) (mapped f p)) ≡ mapped f (cond b (Some x) (or_else o p))
unfolding mapped
mapped_else f true x o p = refl
mapped_else f false x None p = refl
mapped_else f false x (Some y) p = refl

at_changed : (f : Own → Own) → ((own : Own) → (f own).number ≡ own.number) → (n : ℕ) (t : Forest) → node_at n (changed f t) ≡ mapped f (node_at n t)
unfolding mapped
at_changed f same n no_node = refl
at_changed f same n (node own children others) =
    (λ i. cond (eqb (same own i) n) (Some (record { own = f own; children = changed f children })) (or_else (at_changed f same n children i) (at_changed f same n others i)))
    ∙ mapped_else f (eqb own.number n) (record { own = own; children = children }) (node_at n children) (node_at n others)

by_own : (n : ℕ) (facts : Known) (own : Own) (b : Bool) → eqb own.number n ≡ b
    → ((learn n facts own).number ≡ own.number) × (((learn n facts own).position ≡ own.position) × ((learn n facts own).mark ≡ own.mark))
by_own n facts own true is = (let e = ap (λ (b : Bool). cond b (record own { facts = joined own.facts facts }) own) is in (ap (λ (o : Own). o.number) e, (ap (λ (o : Own). o.position) e, ap (λ (o : Own). o.mark) e)))
by_own n facts own false is = (let e = ap (λ (b : Bool). cond b (record own { facts = joined own.facts facts }) own) is in (ap (λ (o : Own). o.number) e, (ap (λ (o : Own). o.position) e, ap (λ (o : Own). o.mark) e)))

module _ (n : ℕ) (old new : Forest) (learnt : HasLearnt n old new) where
  f : Own → Own
  f = learn n learnt.facts

  kept : (own : Own) → ((f own).number ≡ own.number) × (((f own).position ≡ own.position) × ((f own).mark ≡ own.mark))
  unfolding f
  kept own = by_own n learnt.facts own (eqb own.number n) refl

  found : node_at n new ≡ mapped f (node_at n old)
  unfolding f
  found = ap (node_at n) learnt.changed ∙ at_changed f (λ own. (kept own).0) n old

  pub still_leaf : IsSomeAnd (node_at n old) (λ x. x.own.mark ≡ Unexpanded) → IsSomeAnd (node_at n new) (λ x. x.own.mark ≡ Unexpanded)
  unfolding mapped
  still_leaf leaf = subst (λ o. IsSomeAnd o (λ x. x.own.mark ≡ Unexpanded)) (sym found) (by (node_at n old) leaf)
    where
      by : (o : Option Node) → IsSomeAnd o (λ x. x.own.mark ≡ Unexpanded) → IsSomeAnd (mapped f o) (λ x. x.own.mark ≡ Unexpanded)
      by None leaf = leaf
      by (Some x) leaf = (kept x.own).1.1 ∙ leaf

  pub still_of : (P : Board → Type 0) → IfSome (node_at n old) (λ x. P x.own.position) → IfSome (node_at n new) (λ x. P x.own.position)
  unfolding mapped
  still_of P holds = subst (λ o. IfSome o (λ x. P x.own.position)) (sym found) (by (node_at n old) holds)
    where
      by : (o : Option Node) → IfSome o (λ x. P x.own.position) → IfSome (mapped f o) (λ x. P x.own.position)
      by None holds = tt
      by (Some x) holds = subst P (sym (kept x.own).1.0) holds

-- the others are findings too
pub others_too : (k : ℕ) (o : Option Node) (n : ℕ) (all some : List Certificate) → some ≡ take n all
    → IfSome o (λ x. All (IsFinding k x.own.position) all) → IfSome o (λ x. All (IsFinding k x.own.position) some)
others_too k None n all some is finding = tt
others_too k (Some x) n all some is finding = subst (All (IsFinding k x.own.position)) (sym is) (All-take (IsFinding k x.own.position) n all finding)
