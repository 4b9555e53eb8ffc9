use Rattle.std.proofs.Common.{◌∙◌, ap, eqb, length}
use Rattle.std.specs.Map.{lookup}
use Rattle.std.specs.Option.{option_map_or}
use Rattle.certificate_joiner.specs.Shelf.{ShelfState, batches_of}
use Rattle.certificate_joiner.proofs.shelf.PartShelf.batches.Goals as goal

pub returns-in-Some : goal.returns-in-Some
returns-in-Some c =
    ap (λ o. option_map_or (λ m. m) o 0) (c.in-Some.ensures.value ∙ ap (λ k. lookup (eqb k) c.self.inside.counts.entries) c.number.ensures)
    ∙ c.self.invariant.counted c.args.n ∙ ap (λ (s : ShelfState). length (batches_of c.args.n s.puts)) c.self.view_is

pub returns-in-None : goal.returns-in-None
returns-in-None c =
    ap (λ o. option_map_or (λ m. m) o 0) (c.in-None.ensures.value ∙ ap (λ k. lookup (eqb k) c.self.inside.counts.entries) c.number.ensures)
    ∙ c.self.invariant.counted c.args.n ∙ ap (λ (s : ShelfState). length (batches_of c.args.n s.puts)) c.self.view_is
