use Rattle.std.proofs.Common.{◌≡◌, ◌<◌, ◌∙◌, List, length, length-set, arith, ap, sym, subst}
use Rattle.std.proofs.lemmas.List.{with_items_is}
use Rattle.std.specs.Vec.{with_items}
use Rattle.proof_tree.specs.declared.rows.NodeRow.{NodeRow}
use Rattle.proof_tree.specs.Rows.{row_at, opened, AreLinked, AreRekept, AreExpanded, AreCounted, Fits}
use Rattle.proof_tree.proofs.Expanding.{AreExpanded-rekept}
use Rattle.proof_tree.proofs.Opening.{pushed, pushed-long, after, AreExpanded-after, AreCounted-expanded, links_after, Fits-after}
use Rattle.proof_tree.proofs.growing.expand.Goals as goal

rows_are : (c : goal.After-deref_mut) → c.deref_mut.result.now ≡ pushed c.args.rows.now.items c.args.at c.args.children.now c.requires.linked c.requires.inside c.requires.leaf
rows_are c = c.deref_mut.ensures.value ∙ c.push_children.ensures.items

first_is : (c : goal.After-deref_mut) → c.len-first.result ≡ length c.args.rows.now.items
first_is c = let e = c.len-first.ensures in let o = c.args.rows.now.ok.0 in omega (arith, e, o)

after_is : (c : goal.After-deref_mut)
    → opened c.deref_mut.result.now c.args.at (row_at c.deref_mut.result.now c.args.at) c.len-first.result (length c.args.children.now)
    ≡ after c.args.rows.now.items c.args.at c.args.children.now c.requires.linked c.requires.inside c.requires.leaf
after_is c = λ i. opened ((rows_are c) i) c.args.at (row_at ((rows_are c) i) c.args.at) ((first_is c) i) (length c.args.children.now)

pub open-requires-clause-linked : goal.open-requires-clause-linked
open-requires-clause-linked c =
    subst AreLinked (sym (after_is c))
    (links_after c.args.rows.now.items c.args.at c.args.children.now c.requires.linked c.requires.inside c.requires.leaf)

pub open-requires-clause-few : goal.open-requires-clause-few
open-requires-clause-few c =
    let long = ap length (rows_are c) ∙ pushed-long c.args.rows.now.items c.args.at c.args.children.now c.requires.linked c.requires.inside c.requires.leaf in
    omega (arith, long, c.requires.few)

pub open-requires-clause-counted : goal.open-requires-clause-counted
open-requires-clause-counted c =
    subst AreCounted (sym (after_is c))
    (AreCounted-expanded c.args.rows.now.items _ c.args.at c.args.children.now c.requires.inside
    (AreExpanded-after c.args.rows.now.items c.args.at c.args.children.now c.requires.linked c.requires.inside c.requires.leaf) c.requires.counted)

pub open-requires-clause-fits : goal.open-requires-clause-fits
open-requires-clause-fits c k l h =
    subst (λ (xs : List NodeRow). Fits xs k) (sym (after_is c))
    (Fits-after c.args.rows.now.items c.args.at c.args.children.now c.requires.linked c.requires.inside c.requires.leaf c.requires.fits k
    (subst (λ (xs : List NodeRow). k < length xs) (rows_are c) l) h)

module _ (c : goal.After-rows-1) where
  rows_now : c.deref_mut.result.now ≡ pushed c.args.rows.now.items c.args.at c.args.children.now c.requires.linked c.requires.inside c.requires.leaf
  rows_now = c.deref_mut.ensures.value ∙ c.push_children.ensures.items

  first_now : c.len-first.result ≡ length c.args.rows.now.items
  first_now = let e = c.len-first.ensures in let o = c.args.rows.now.ok.0 in omega (arith, e, o)

  after_now : opened c.deref_mut.result.now c.args.at (row_at c.deref_mut.result.now c.args.at) c.len-first.result (length c.args.children.now)
      ≡ after c.args.rows.now.items c.args.at c.args.children.now c.requires.linked c.requires.inside c.requires.leaf
  after_now = λ i. opened (rows_now i) c.args.at (row_at (rows_now i) c.args.at) (first_now i) (length c.args.children.now)

  same : AreRekept (after c.args.rows.now.items c.args.at c.args.children.now c.requires.linked c.requires.inside c.requires.leaf) c.open.new.rows
  same = subst (λ (xs : List NodeRow). AreRekept xs c.open.new.rows) after_now c.open.ensures.same

  step : AreExpanded c.args.rows.now.items c.open.new.rows c.args.at c.args.children.now
  step =
      AreExpanded-rekept c.args.rows.now.items _ c.open.new.rows c.args.at c.args.children.now c.requires.inside
      (AreExpanded-after c.args.rows.now.items c.args.at c.args.children.now c.requires.linked c.requires.inside c.requires.leaf) same

  written : (with_items c.push_children.new.rows c.open.new.rows).items ≡ c.open.new.rows
  written = with_items_is c.push_children.new.rows c.open.new.rows
      (c.open.ensures.same.links.as_long ∙ length-set c.deref_mut.result.now c.args.at _ ∙ c.deref_mut.ensures.len)

pub returns-clause-step : goal.returns-clause-step
returns-clause-step c = subst (λ (xs : List NodeRow). AreExpanded c.args.rows.now.items xs c.args.at c.args.children.now) (sym (written c)) (step c)

pub returns-clause-fits : goal.returns-clause-fits
returns-clause-fits c k l =
    subst (λ (xs : List NodeRow). k < length xs → Fits xs k) (sym (written c)) (c.open.ensures.fits k) l
