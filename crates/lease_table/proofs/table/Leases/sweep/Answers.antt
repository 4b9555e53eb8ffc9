use Rattle.std.proofs.Common.{refl, rules, Bool, false}
use Rattle.std.specs.Option.{option_map_or}
use Rattle.std.proofs.lemmas.Map.Made.{filter_same_pairs}
use Rattle.lease_table.specs.declared.leases.Row.{Row}
use Rattle.lease_table.specs.Rows.{is_live_row}
use Rattle.lease_table.specs.Tables.{Entry}
use Rattle.lease_table.proofs.Standing.{rows_filtered}
use Rattle.lease_table.proofs.Marks.{swept_table}
use Rattle.lease_table.proofs.table.Leases.sweep.Goals as goal

pub invariant_of-self : goal.invariant_of-self
invariant_of-self c =
    let test : Row → Bool = is_live_row c.self.inside.limit c.args.now in
    let kept = filter_same_pairs _ (λ (e : Entry). option_map_or test e.1 false) _ (λ k v b w f' t. search rules) _ _ c.retain.ensures.filtered in
    swept_table test c.self.inside.rows.entries c.retain.new.self.entries c.self.inside.numbers.items c.self.invariant c.retain.ensures.unique kept

pub returns : goal.returns
returns c =
    let test : Row → Bool = is_live_row c.self.inside.limit c.args.now in
    let kept = filter_same_pairs _ (λ (e : Entry). option_map_or test e.1 false) _ (λ k v b w f' t. search rules) _ _ c.retain.ensures.filtered in
    rw (← c.self.view_is, kept, rows_filtered test c.self.inside.rows.entries) refl
