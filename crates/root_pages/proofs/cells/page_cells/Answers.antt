use Rattle.std.proofs.Common.{rules, ◌≡◌, ◌<◌, ◌≤◌, ◌∙◌, get_or, length, arith}
use Rattle.std.proofs.lemmas.List.{get_or_default, take_all}
use Rattle.root_pages.specs.Cells.{all_cells}
use Rattle.root_pages.proofs.CellLemmas.{as_many, cells_more}
use Rattle.root_pages.proofs.cells.page_cells.Goals as goal

pub loop-i-preserved : goal.loop-i-preserved
loop-i-preserved c =
    let rows = c.args.rows.now in
    let works = c.args.work.now in
    let i = c.loop-i.i in
    let same = c.requires in
    let within : i < length rows = search rules in
    let there : i < length works = omega (arith, within, same) in
    cells_more rows works i c.index-rows-i.result (get_or works i 0) c.loop-i.cells.items c.push.new.self.items c.cells_of.result same within c.index-rows-i.is
    (get_or_default works i 0 (get_or works i 0) there) c.cells_of.ensures c.loop-i.invariant c.in_ok-push.ensures.items

pub returns : goal.returns
returns c =
    let rows = c.args.rows.now in
    let works = c.args.work.now in
    let many = as_many rows works c.requires in
    let end : length rows ≤ c.loop-i.i = search rules in
    let past : length (all_cells rows works) ≤ c.loop-i.i = omega (arith, many, end) in
    c.loop-i.invariant ∙ take_all c.loop-i.i (all_cells rows works) past
