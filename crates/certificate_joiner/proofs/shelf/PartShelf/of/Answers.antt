use Rattle.std.proofs.Common.{◌∙◌, Some, sym, ap, slice_get, []}
use Rattle.std.proofs.lemmas.Option.{slice_get-get_or}
use Rattle.std.specs.Map.{lookup}
use Rattle.certificate_joiner.specs.Shelf.{ShelfState, batches_of}
use Rattle.certificate_joiner.proofs.ShelfLemmas.{is_key, at_place}
use Rattle.certificate_joiner.proofs.shelf.PartShelf.of.Goals as goal

pub unreachable-requires : goal.unreachable-requires
unreachable-requires c =
    let rows = c.self.inside.batches.entries in
    let n = c.args.n in
    let found = c.in-None.ensures.value ∙ ap (λ k. lookup (is_key k c.args.batch) rows) c.number.ensures ∙ at_place rows c.self.inside.counts.entries _ _ c.self.inside.spare c.self.invariant n c.args.batch
    ∙ ap (λ (s : ShelfState). slice_get (batches_of n s.puts) c.args.batch) c.self.view_is in
    let some = slice_get-get_or (batches_of n c.args.self.now.puts) c.args.batch [] c.requires in
    cc

pub returns : goal.returns
returns c =
    let rows = c.self.inside.batches.entries in
    let n = c.args.n in
    sym (c.in-Some.ensures.value ∙ ap (λ k. lookup (is_key k c.args.batch) rows) c.number.ensures ∙ at_place rows c.self.inside.counts.entries _ _ c.self.inside.spare c.self.invariant n c.args.batch
    ∙ ap (λ (s : ShelfState). slice_get (batches_of n s.puts) c.args.batch) c.self.view_is)
    ∙ ap Some (sym c.as_slice.ensures)
