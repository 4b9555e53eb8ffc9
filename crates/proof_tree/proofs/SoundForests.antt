-- Every change of a forest keeps it sound.
use Rattle.std.proofs.Common.{◌≡◌, ◌↔◌, ℕ, zero, suc, ◌<◌, Bool, true, false, cond, eqb, List, [], ◌∷◌, length, get_or, map, Some, refl, sym, ap, ◌∙◌, subst, arith}
use Rattle.std.specs.Prelude.{Contains, All}
use Rattle.std.specs.List.{IsDistinct, list_any}
use Rattle.std.proofs.lemmas.Bool.{false≢true, eqb-true}
use Rattle.std.proofs.lemmas.Map.Keys.{IsDistinct-push}
use Rattle.std.proofs.lemmas.Map.Views.{Contains-from_any}
use Rattle.draughts_board.specs.Board.{Board, IsLawful, same_board}
use Rattle.draughts_board.specs.Play.{successors_of}
use Rattle.draughts_board.specs.Same.{same_board-Decides, same_board-equivalence}
use Rattle.draughts_board.proofs.Members.{Contains-nil, Contains-map, Contains-head, Contains-tail}
use Rattle.draughts_board.proofs.Successors.{path-to_successor}
use Rattle.draughts_board.proofs.After.{after_is_lawful}
use Rattle.proof_numbers.specs.declared.leaves.Child.{Child}
use Rattle.proof_numbers.specs.Facts.{known}
use Rattle.proof_numbers.specs.Known.{Known, joined, IsConsistent}
use Rattle.proof_tree.specs.declared.rows.Mark.TheVariants.{Unexpanded, Expanded, Repeats}
use Rattle.proof_tree.specs.Forest.{Own, Forest, no_node, node, Node, node_at, forest, size}
use Rattle.proof_tree.specs.Changes.{with_root, changed, learn, with_facts, stands_on, new_nodes, expanded, with_children}
use Rattle.proof_tree.specs.Sound.{EachNode, IsSoundNode, IsSoundForest, root_positions}
use Rattle.proof_tree.proofs.EachNode.{EachNode-map, EachNode-both, EachNode-appended, only_node, found_occurs, root_positions-appended, root_positions-changed}
use Rattle.proof_tree.proofs.Numbered.{AreNumbered-root, AreNumbered-changed, AreNumbered-expanded, HaveNone, once, at_most_once}

-- ---- marks

found_head : (q p : Board) (path : List Board) (b : Bool) → same_board q p ≡ b → (stands_on path p ≡ true → Contains path p)
    → cond b true (stands_on path p) ≡ true → Contains (q ∷ path) p
found_head q p path true s rest e = (0, omega arith, (same_board-Decides q p).0 s)
found_head q p path false s rest e = let c = rest e in (suc c.0, (let h = c.1 in omega (arith, h)), c.2)

found_at : (path : List Board) (p : Board) → stands_on path p ≡ true → Contains path p
found_at [] p e = absurd (false≢true e)
found_at (q ∷ path) p e = found_head q p path (same_board q p) refl (found_at path p) e

either : (b c : Bool) → c ≡ true → cond b true c ≡ true
either true c h = refl
either false c h = h

stands_at : (path : List Board) (p : Board) (k : ℕ) → k < length path → get_or path k p ≡ p → stands_on path p ≡ true
stands_at [] p k l e = absurd (omega arith)
stands_at (q ∷ path) p zero l e = ap (λ (b : Bool). cond b true (stands_on path p)) ((same_board-Decides q p).1 e)
stands_at (q ∷ path) p (suc k) l e = either (same_board q p) (stands_on path p) (stands_at path p k (omega arith) e)

mark_by : (b : Bool) → (cond b Repeats Unexpanded ≡ Repeats) ↔ (b ≡ true)
mark_by true = (λ e. refl, λ e. refl)
mark_by false = (λ e. cc, λ e. absurd (false≢true e))

mark_new : (b : Bool) → cond b Repeats Unexpanded ≡ Expanded → ⊥
mark_new true e = cc
mark_new false e = cc

-- ---- new nodes

consistent : (child : Child) → IsConsistent (known child.facts)
consistent child = record { black = child.facts.black; white = child.facts.white }

sound-new : (path : List Board) (next : ℕ) (children : List Child) → All (λ c. IsLawful c.position) children
    → EachNode IsSoundNode path (forest (new_nodes path next children))
sound-new path next [] lawful = tt
sound-new path next (c ∷ children) lawful =
    let m = mark_by (stands_on path c.position) in (
      record {
        lawful = lawful 0 c (omega arith);
        consistent = consistent c;
        expanded = λ e. absurd (mark_new (stands_on path c.position) e);
        childless = λ h. refl;
        repeats = (λ e. found_at path c.position (m.0 e), λ h. m.1 (stands_at path c.position h.0 h.1 h.2));
      },
      (tt, sound-new path (suc next) children (λ k d l. lawful (suc k) d (omega arith))),
    )

positions-new : (path : List Board) (next : ℕ) (children : List Child)
    → root_positions (forest (new_nodes path next children)) ≡ map (λ c. c.position) children
positions-new path next [] = refl
positions-new path next (c ∷ children) = ap (λ (ps : List Board). c.position ∷ ps) (positions-new path (suc next) children)

-- ---- each node's own changed

abbrev KeepPlaces : (Own → Own) → Type 0
KeepPlaces f = ((own : Own) → (f own).position ≡ own.position) × ((own : Own) → (f own).mark ≡ own.mark)

sound-changed : (f : Own → Own) → KeepPlaces f → (path : List Board) (t : Forest) → EachNode IsSoundNode path t
    → EachNode (λ above x. IsConsistent (f x.own).facts) path t → EachNode IsSoundNode path (changed f t)
sound-changed f keeps path no_node s c = tt
sound-changed f keeps path (node own children others) s c =
    let at = keeps.0 own in
    let mark = keeps.1 own in
    let old = s.0 in (
      record {
        lawful = subst IsLawful (sym at) old.lawful;
        consistent = c.0;
        expanded = λ e. root_positions-changed f keeps.0 children ∙ old.expanded (sym mark ∙ e) ∙ ap successors_of (sym at);
        childless = λ h. ap (changed f) (old.childless (λ e. h (mark ∙ e)));
        repeats = (
          λ e. subst (Contains path) (sym at) (old.repeats.0 (sym mark ∙ e)),
          λ h. mark ∙ old.repeats.1 (subst (Contains path) at h),
        );
      },
      (
        subst (λ (p : Board). EachNode IsSoundNode (p ∷ path) (changed f children)) (sym at) (sound-changed f keeps (own.position ∷ path) children s.1.0 c.1.0),
        sound-changed f keeps path others s.1.1 c.1.1,
      ),
    )

-- ---- facts

learn-position : (b : Bool) (own : Own) (facts : Known) → (cond b (record own { facts = joined own.facts facts }) own).position ≡ own.position
learn-position true own facts = refl
learn-position false own facts = refl

learn-mark : (b : Bool) (own : Own) (facts : Known) → (cond b (record own { facts = joined own.facts facts }) own).mark ≡ own.mark
learn-mark true own facts = refl
learn-mark false own facts = refl

learn-number : (b : Bool) (own : Own) (facts : Known) → (cond b (record own { facts = joined own.facts facts }) own).number ≡ own.number
learn-number true own facts = refl
learn-number false own facts = refl

learn-consistent : (b : Bool) (own : Own) (facts : Known) → (b ≡ true → IsConsistent (joined own.facts facts)) → IsConsistent own.facts
    → IsConsistent (cond b (record own { facts = joined own.facts facts }) own).facts
learn-consistent true own facts h old = h refl
learn-consistent false own facts h old = old

pub IsSound-learnt : (n : ℕ) (facts : Known) (t : Forest) (x : Node) → IsSoundForest t → node_at n t ≡ Some x → IsConsistent (joined x.own.facts facts)
    → IsSoundForest (with_facts n facts t)
IsSound-learnt n facts t x sound at agree =
    let f = learn n facts in
    let keeps : (own : Own) → (f own).position ≡ own.position = λ own. learn-position (eqb own.number n) own facts in
    record {
      each =
          sound-changed f (keeps, λ own. learn-mark (eqb own.number n) own facts) [] t sound.each
          (EachNode-map (λ above y. IsSoundNode above y × (y.own.number ≡ n → y ≡ x)) (λ above y. IsConsistent (f y.own).facts)
          (λ above y h.
          learn-consistent (eqb y.own.number n) y.own facts
          (λ e. subst (λ (z : Node). IsConsistent (joined z.own.facts facts)) (sym (h.1 (eqb-true y.own.number n e))) agree) (let s = h.0 in s.consistent)) [] t
          (EachNode-both IsSoundNode (λ above y. y.own.number ≡ n → y ≡ x) [] t sound.each
          (only_node n [] t x at (at_most_once n t sound.numbered))));
      numbered = AreNumbered-changed f (λ own. learn-number (eqb own.number n) own facts) t sound.numbered;
      apart = subst (IsDistinct same_board) (sym (root_positions-changed f keeps t)) sound.apart;
    }

-- ---- a root

pub equal_boards : (p q : Board) → same_board p q ≡ true → p ≡ q
equal_boards p q e = (same_board-Decides p q).0 e

pub none_any : (ps : List Board) (p : Board) → ¬ Contains ps p → list_any (same_board p) ps ≡ false
none_any ps p absent = by (list_any (same_board p) ps) refl where
  by : (b : Bool) → list_any (same_board p) ps ≡ b → b ≡ false
  by true e = absurd (absent (Contains-from_any equal_boards p ps e))
  by false e = refl

pub IsSound-root : (root : Child) (t : Forest) → IsSoundForest t → IsLawful root.position → ¬ Contains (root_positions t) root.position
    → IsSoundForest (with_root root.position (known root.facts) t)
IsSound-root root t sound lawful absent =
    let own : Own = record { number = size t; position = root.position; facts = known root.facts; mark = Unexpanded } in
    let first : IsSoundNode [] (record { own = own; children = no_node }) =
    record {
      lawful = lawful;
      consistent = consistent root;
      expanded = λ e. absurd (let no : Unexpanded ≡ Expanded = e in cc);
      childless = λ h. refl;
      repeats = (λ e. absurd (let no : Unexpanded ≡ Repeats = e in cc), λ h. absurd (Contains-nil root.position h));
    } in
    record {
      each = EachNode-appended IsSoundNode [] t (node own no_node no_node) sound.each (first, (tt, tt));
      numbered = AreNumbered-root own t refl sound.numbered;
      apart =
          subst (IsDistinct same_board) (sym (root_positions-appended t (node own no_node no_node)))
          (IsDistinct-push same_board-equivalence (root_positions t) root.position sound.apart (none_any (root_positions t) root.position absent));
    }

-- ---- children

expand-position : (b : Bool) (own : Own) → (cond b (record own { mark = Expanded }) own).position ≡ own.position
expand-position true own = refl
expand-position false own = refl

root_positions-expanded : (n : ℕ) (children : List Child) (next : ℕ) (path : List Board) (t : Forest)
    → root_positions (expanded n children next path t) ≡ root_positions t
root_positions-expanded n children next path no_node = refl
root_positions-expanded n children next path (node own below others) =
    λ i. expand-position (eqb own.number n) own i ∷ root_positions-expanded n children next path others i

-- what the node that is expanded is
pub record IsOpening (children : List Child) (x : Node) : Type 0 where
  pub unexpanded : x.own.mark ≡ Unexpanded
  pub successors : map (λ c. c.position) children ≡ successors_of x.own.position

sound_by : (n : ℕ) (children : List Child) (next : ℕ) (path : List Board) (own : Own) (below : Forest) (b : Bool)
    → All (λ c. IsLawful c.position) children → IsSoundNode path (record { own = own; children = below })
    → (b ≡ true → IsOpening children (record { own = own; children = below }))
    → EachNode IsSoundNode (own.position ∷ path) (expanded n children next (own.position ∷ path) below)
    → let new = cond b (forest (new_nodes (own.position ∷ path) next children)) (expanded n children next (own.position ∷ path) below) in
    IsSoundNode path (record { own = cond b (record own { mark = Expanded }) own; children = new })
    × EachNode IsSoundNode ((cond b (record own { mark = Expanded }) own).position ∷ path) new
sound_by n children next path own below true lawful old opening rest =
    let o = opening refl in (
      record {
        lawful = old.lawful;
        consistent = old.consistent;
        expanded = λ e. positions-new (own.position ∷ path) next children ∙ o.successors;
        childless = λ h. absurd (h refl);
        repeats = (
          λ e. absurd (let no : Expanded ≡ Repeats = e in cc),
          λ h. absurd (let no : Unexpanded ≡ Repeats = sym o.unexpanded ∙ old.repeats.1 h in cc),
        );
      },
      sound-new (own.position ∷ path) next children lawful,
    )
sound_by n children next path own below false lawful old opening rest = (
  record {
    lawful = old.lawful;
    consistent = old.consistent;
    expanded = λ e. root_positions-expanded n children next (own.position ∷ path) below ∙ old.expanded e;
    childless = λ h. ap (expanded n children next (own.position ∷ path)) (old.childless h);
    repeats = old.repeats;
  },
  rest,
)

sound-expanded : (n : ℕ) (children : List Child) (next : ℕ) (path : List Board) (t : Forest) → All (λ c. IsLawful c.position) children
    → EachNode IsSoundNode path t → EachNode (λ above x. x.own.number ≡ n → IsOpening children x) path t
    → EachNode IsSoundNode path (expanded n children next path t)
sound-expanded n children next path no_node lawful s o = tt
sound-expanded n children next path (node own below others) lawful s o =
    let here = sound_by n children next path own below (eqb own.number n) lawful s.0 (λ e. o.0 (eqb-true own.number n e))
    (sound-expanded n children next (own.position ∷ path) below lawful s.1.0 o.1.0) in
    (here.0, (here.1, sound-expanded n children next path others lawful s.1.1 o.1.1))

contained : (cs : List Child) (k : ℕ) (d : Child) → k < length cs → Contains cs (get_or cs k d)
contained [] k d l = absurd (omega arith)
contained (c ∷ cs) zero d l = Contains-head c cs
contained (c ∷ cs) (suc k) d l = Contains-tail c (get_or cs k d) cs (contained cs k d (omega arith))

-- successors of a lawful position are lawful
lawful-children : (p : Board) (children : List Child) → IsLawful p → map (λ c. c.position) children ≡ successors_of p
    → All (λ c. IsLawful c.position) children
lawful-children p children lawful are k d l =
    let q = (get_or children k d).position in
    let there : Contains (successors_of p) q =
    subst (λ (ps : List Board). Contains ps q) are (Contains-map (λ c. c.position) children (get_or children k d) (contained children k d l)) in
    let r = path-to_successor p q lawful there in
    subst IsLawful r.1.1 (after_is_lawful p r.0 lawful r.1.0)

pub IsSound-expanded : (n : ℕ) (children : List Child) (t : Forest) (x : Node) → IsSoundForest t → node_at n t ≡ Some x → IsOpening children x
    → IsLawful x.own.position → IsSoundForest (with_children n children t)
IsSound-expanded n children t x sound at opening lawful =
    let only = only_node n [] t x at (at_most_once n t sound.numbered) in
    let opens : EachNode (λ above y. y.own.number ≡ n → IsOpening children y) [] t =
    EachNode-map (λ above y. y.own.number ≡ n → y ≡ x) (λ above y. y.own.number ≡ n → IsOpening children y)
    (λ above y h e. subst (IsOpening children) (sym (h e)) opening) [] t only in
    let none : HaveNone n [] t =
    EachNode-map (λ above y. IsSoundNode above y × (y.own.number ≡ n → IsOpening children y)) (λ above y. y.own.number ≡ n → y.children ≡ no_node)
    (λ above y h e.
    let s = h.0 in
    let o = h.1 e in
    s.childless (λ m. absurd (let no : Unexpanded ≡ Expanded = sym o.unexpanded ∙ m in cc))) [] t
    (EachNode-both IsSoundNode (λ above y. y.own.number ≡ n → IsOpening children y) [] t sound.each opens) in
    record {
      each = sound-expanded n children (size t) [] t (lawful-children x.own.position children lawful opening.successors) sound.each opens;
      numbered = AreNumbered-expanded n children t none (once n t sound.numbered (found_occurs n t x at)) sound.numbered;
      apart = subst (IsDistinct same_board) (sym (root_positions-expanded n children (size t) [] t)) sound.apart;
    }
