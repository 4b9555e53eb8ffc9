use Rattle.std.proofs.Common.{◌∙◌, ap, rules, inr}
use Rattle.std.specs.Prelude.{eqb, is_some}
use Rattle.std.specs.Map.{lookup}
use Rattle.std.proofs.lemmas.Map.Made.{filter_same_pairs}
use Rattle.lease_table.specs.Tables.{Entry}
use Rattle.lease_table.proofs.Giving.{packed_absent}
use Rattle.lease_table.proofs.table.make_room.Goals as goal

pub returns-clause-entries : goal.returns-clause-entries
returns-clause-entries c =
    let kept = filter_same_pairs _ (λ (e : Entry). is_some e.1) _ (λ k v b w f' t. search rules) _ _ c.retain.ensures.filtered in
    inr (c.reserve-2.ensures.entries ∙ kept)

pub returns-clause-absent : goal.returns-clause-absent
returns-clause-absent c =
    let kept = filter_same_pairs _ (λ (e : Entry). is_some e.1) _ (λ k v b w f' t. search rules) _ _ c.retain.ensures.filtered in
    ap (lookup (eqb c.args.number)) (c.reserve-2.ensures.entries ∙ kept) ∙ packed_absent c.args.number c.args.rows.now.entries c.requires.unique c.requires.none
