-- What holds of each place holds of those that a change leaves.
use Rattle.std.proofs.Common.{◌≡◌, ℕ, ◌+◌, List, [], ◌∷◌, ◌++◌, ap, sym, ◌∙◌, subst, ◌⊎◌, ⊎_elim, Bool, true, false, cond, Option, Some}
use Rattle.std.specs.Prelude.{eqb, filter}
use Rattle.std.specs.List.{AllByRecursion}
use Rattle.std.specs.Map.{lookup}
use Rattle.indexmap.specs.IndexMap.{insert_entry}
use Rattle.std.proofs.lemmas.Bool.{cases_Bool, eqb-true}
use Rattle.std.proofs.lemmas.Option.{same_Some}
use Rattle.lease_table.specs.declared.leases.Row.{Row}
use Rattle.lease_table.specs.Tables.{Entry}

module _ {X : Type 0} (P : X → Type 0) (test : X → Bool) where
  each_cond : (b : Bool) (e : X) (es : List X) → P e → AllByRecursion P es → AllByRecursion P (cond b (e ∷ es) es)
  each_cond true e es p q = (p, q)
  each_cond false e es p q = q

  pub each_filtered : (es : List X) → AllByRecursion P es → AllByRecursion P (filter test es)
  each_filtered [] all = tt
  each_filtered (e ∷ es) all = each_cond (test e) e (filter test es) all.0 (each_filtered es all.1)

pub each_pushed : {X : Type 0} (P : X → Type 0) (es : List X) (e : X) → AllByRecursion P es → P e → AllByRecursion P (es ++ e ∷ [])
each_pushed P [] e all one = (one, tt)
each_pushed P (d ∷ es) e all one = (all.0, each_pushed P es e all.1 one)

pub each_inserted : (P : Entry → Type 0) (id : ℕ) (v : Option Row) (es : List Entry) → AllByRecursion P es → P (id, v) → AllByRecursion P (insert_entry eqb es id v)
each_inserted P id v [] all here = (here, tt)
each_inserted P id v (e ∷ es) all here = ⊎_elim
    (λ own.
    let same : id ≡ e.0 = eqb-true id e.0 own in
    subst (λ b. AllByRecursion P (cond b ((e.0, v) ∷ es) (e ∷ insert_entry eqb es id v))) (sym own) (subst (λ k. P (k, v)) same here, all.1))
    (λ other. subst (λ b. AllByRecursion P (cond b ((e.0, v) ∷ es) (e ∷ insert_entry eqb es id v))) (sym other) (all.0, each_inserted P id v es all.1 here))
    (cases_Bool (eqb id e.0))

pub each_found : (P : Entry → Type 0) (id : ℕ) (es : List Entry) (slot : Option Row) → AllByRecursion P es → lookup (eqb id) es ≡ Some slot → P (id, slot)
each_found P id [] slot all known = absurd (cc)
each_found P id (e ∷ es) slot all known = ⊎_elim
    (λ own.
    let same : id ≡ e.0 = eqb-true id e.0 own in
    let slot_is : e.1 ≡ slot = same_Some e.1 slot (ap (λ b. cond b (Some e.1) (lookup (eqb id) es)) (sym own) ∙ known) in
    subst P (λ i. (sym same i, slot_is i)) all.0)
    (λ other. each_found P id es slot all.1 (ap (λ b. cond b (Some e.1) (lookup (eqb id) es)) (sym other) ∙ known))
    (cases_Bool (eqb id e.0))
