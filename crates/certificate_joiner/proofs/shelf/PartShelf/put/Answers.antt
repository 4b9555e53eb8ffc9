use Rattle.std.proofs.Common.{◌≡◌, ◌∙◌, ◌≤◌, ◌+◌, ◌-◌, ◌++◌, ◌∷◌, [], ℕ, Some, None, cond, eqb, sym, ap, subst, length, arith}
use Rattle.std.specs.Map.{lookup}
use Rattle.indexmap.proofs.CallerLemmas.{insert_entry-new}
use Rattle.certificate_joiner.specs.Shelf.{ShelfState, batches_of}
use Rattle.certificate_joiner.specs.ShelfRows.{puts_of}
use Rattle.certificate_joiner.proofs.ShelfLemmas.{is_key, at_end, place_fits, puts_new, IsShelf-put}
use Rattle.certificate_joiner.proofs.shelf.PartShelf.put.Goals as goal

pub overflow_add-place : goal.overflow_add-place
overflow_add-place c =
    let fits = place_fits c.self.inside.batches.entries c.self.inside.counts.entries _ _ c.self.inside.spare c.self.invariant c.args.n in
    let e = c.batches-place.ensures ∙ ap (λ (s : ShelfState). length (batches_of c.args.n s.puts)) (sym c.self.view_is) in
    omega (arith, fits, e)

-- the batch stands behind the others under its place
made : (c : goal.After-self-1) → c.insert.new.self.entries
    ≡ c.self.inside.batches.entries
    ++ ((c.args.n, length (batches_of c.args.n (puts_of c.self.inside.batches.entries))), c.args.certificates.items) ∷ []
made c =
    let rows = c.self.inside.batches.entries in
    let n = c.args.n in
    let place : c.batches-place.result ≡ length (batches_of n (puts_of rows)) =
    c.batches-place.ensures ∙ ap (λ (s : ShelfState). length (batches_of n s.puts)) (sym c.self.view_is) in
    let none : lookup (is_key c.number.result c.batches-place.result) rows ≡ None =
    (λ i. lookup (is_key (c.number.ensures i) (place i)) rows) ∙ at_end rows c.self.inside.counts.entries _ _ c.self.inside.spare c.self.invariant n in
    c.in-Ok.ensures.entries ∙ insert_entry-new _ c.self.inside.batches (c.number.result, c.batches-place.result) c.from_vec-batch.result none
    ∙ (λ i. rows ++ ((c.number.ensures i, place i), c.from_vec-batch.ensures i) ∷ [])

updated : (c : goal.After-self-1) (m : ℕ) → lookup (eqb m) c.insert-2.new.self.entries
    ≡ cond (eqb c.args.n m) (Some (length (batches_of c.args.n (puts_of c.self.inside.batches.entries)) + 1)) (lookup (eqb m) c.self.inside.counts.entries)
updated c m =
    let place : c.batches-place.result ≡ length (batches_of c.args.n (puts_of c.self.inside.batches.entries)) =
    c.batches-place.ensures ∙ ap (λ (s : ShelfState). length (batches_of c.args.n s.puts)) (sym c.self.view_is) in
    c.in-Ok-insert.ensures.updates.0 m ∙ (λ i. cond (eqb (c.number-2.ensures i) m) (Some (place i + 1)) (lookup (eqb m) c.self.inside.counts.entries))

pub invariant_of-self : goal.invariant_of-self
invariant_of-self c =
    let some : 1 ≤ c.self.inside.spare = subst (λ (s : ShelfState). 1 ≤ s.spare) (sym c.self.view_is) c.requires in
    IsShelf-put c.self.inside.batches.entries c.self.inside.counts.entries _ _ c.self.inside.spare c.self.invariant c.args.n c.args.certificates.items some
    c.insert.new.self.entries c.insert-2.new.self.entries (made c) (updated c) _ _ c.in-Ok.ensures.spare c.in-Ok-insert.ensures.spare

pub returns : goal.returns
returns c =
    let some : 1 ≤ c.self.inside.spare = subst (λ (s : ShelfState). 1 ≤ s.spare) (sym c.self.view_is) c.requires in
    let puts = puts_new c.self.inside.batches.entries c.self.inside.counts.entries _ _ c.self.inside.spare c.self.invariant c.args.n c.args.certificates.items some
    c.insert.new.self.entries c.insert-2.new.self.entries (made c) (updated c)
    ∙ ap (λ (s : ShelfState). s.puts ++ (c.args.n, c.args.certificates.items) ∷ []) c.self.view_is in
    let left = ap (λ (s : ShelfState). s.spare - 1) c.self.view_is in
    λ i. record { puts = puts i; spare = left i }
