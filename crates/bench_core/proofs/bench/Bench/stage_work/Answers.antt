use Rattle.std.proofs.Common.{rules, ◌≡◌, ◌≤◌, ◌<◌, ◌^◌, ◌+◌, List, [], ◌∷◌, ◌++◌, map, length, refl, ap, sym, ◌∙◌, subst, arith}
use Rattle.std.specs.Prelude.{true, false}
use Rattle.lease_table.specs.Rows.{LeaseRows, marked}
use Rattle.bench_core.specs.States.{HasRow, IsFoundUnder}
use Rattle.bench_core.specs.Cores.{Core, with_staged, CanApplyAll}
use Rattle.bench_records.specs.Texts.{IsShortText, named_in}
use Rattle.bench_core.specs.declared.staged.Staged.{Staged}
use Rattle.bench_core.specs.Naming.{AreNamesOf}
use Rattle.bench_core.specs.Benches.{seen, record_staged, nodes_made, IsPrepared, IsBench}
use Rattle.bench_core.proofs.StageLemmas.{map_push, bench_roomy}
use Rattle.bench_core.proofs.NamingLemmas.{names_same, names_more, names_staged, short_text_of}
use Rattle.bench_core.proofs.KeepLemmas.{bench_worked, work_seen, found_live}
use Rattle.bench_core.proofs.ApplyLemmas.{applies_all}
use Rattle.bench_core.proofs.bench.Bench.stage_work.Goals as goal

pub invariant_of-self : goal.invariant_of-self
invariant_of-self c =
    let b = c.self.inside in
    record {
      bench = bench_roomy b.grown c.reserve.new.self b.leases b.staged.items b.given b.work b.nodes_due b.settings c.reserve.ensures.forest c.reserve.ensures.records b.staged.items refl c.self.invariant.bench c.reserve.ensures.nodes c.reserve.ensures.room;
      names = names_same b.grown.records c.reserve.new.self.records (map record_staged b.staged.items) (map record_staged b.staged.items) b.names b.names c.reserve.ensures.records refl refl c.self.invariant.names;
    }

pub invariant_of-self-in_err-reserve-2 : goal.invariant_of-self-in_err-reserve-2
invariant_of-self-in_err-reserve-2 c =
    let b = c.self.inside in
    record {
      bench = bench_roomy b.grown c.reserve.new.self b.leases b.staged.items b.given b.work b.nodes_due b.settings c.reserve.ensures.forest c.reserve.ensures.records c.reserve-2.new.self.items c.reserve-2.ensures.items c.self.invariant.bench c.reserve.ensures.nodes c.reserve.ensures.room;
      names = names_same b.grown.records c.reserve.new.self.records (map record_staged b.staged.items) (map record_staged c.reserve-2.new.self.items) b.names b.names c.reserve.ensures.records (ap (map record_staged) c.reserve-2.ensures.items) refl c.self.invariant.names;
    }

pub invariant_of-self-in_err-text : goal.invariant_of-self-in_err-text
invariant_of-self-in_err-text c =
    let b = c.self.inside in
    record {
      bench = bench_roomy b.grown c.reserve.new.self b.leases b.staged.items b.given b.work b.nodes_due b.settings c.reserve.ensures.forest c.reserve.ensures.records c.reserve-2.new.self.items c.reserve-2.ensures.items c.self.invariant.bench c.reserve.ensures.nodes c.reserve.ensures.room;
      names = names_same b.grown.records c.reserve.new.self.records (map record_staged b.staged.items) (map record_staged c.reserve-2.new.self.items) b.names c.stage.new.self c.reserve.ensures.records (ap (map record_staged) c.reserve-2.ensures.items) c.in_err-text.ensures.err c.self.invariant.names;
    }

pub keep-requires : goal.keep-requires
keep-requires c =
    let b = c.self.inside in
    let found = subst (λ (x : Core). HasRow (λ row. (row.kept ≡ false) × IsFoundUnder x.state row.lease (record_staged c.args.item)) x.state c.args.id) (sym c.self.view_is) c.requires.found in
    found_live b.grown c.reserve.new.self b.leases b.staged.items b.given b.work b.nodes_due b.settings c.reserve.ensures.forest c.reserve.ensures.records c.args.item c.args.id c.self.invariant.bench found

pub invariant_of-self-2 : goal.invariant_of-self-2
invariant_of-self-2 c =
    let b = c.self.inside in
    let items : c.push_reserved.new.self.items ≡ b.staged.items ++ c.args.item ∷ [] = c.push_reserved.ensures.items ∙ ap (λ (l : List Staged). l ++ c.args.item ∷ []) c.reserve-2.ensures.items in
    let total : c.in-Some.nodes ≡ b.nodes_due + nodes_made c.args.item = search rules in
    let found = subst (λ (x : Core). HasRow (λ row. (row.kept ≡ false) × IsFoundUnder x.state row.lease (record_staged c.args.item)) x.state c.args.id) (sym c.self.view_is) c.requires.found in
    let prepared = subst (λ (x : Core). IsPrepared x.state c.args.item) (sym c.self.view_is) c.requires.prepared in
    let nodes : b.nodes_due + nodes_made c.args.item ≤ c.reserve.new.self.nodes = omega (arith, total, c.in_ok-reserve.ensures.enough.0) in
    let long : c.len.result ≡ length b.staged.items = search rules in
    let count : b.work + (length b.staged.items + 1) < 2 ^ 64 = search rules in
    let room : length b.staged.items + 1 ≤ c.reserve.new.self.room = omega (arith, long, c.in_ok-reserve.ensures.enough.1) in
    record {
      bench = subst (λ (t : LeaseRows). IsBench (seen c.reserve.new.self t c.push_reserved.new.self.items b.given b.work b.settings) c.reserve.new.self t c.push_reserved.new.self.items c.in-Some.nodes) (sym c.keep.ensures)
          (subst (λ n. IsBench (seen c.reserve.new.self (record b.leases { rows = marked c.args.id true b.leases.rows }) c.push_reserved.new.self.items b.given b.work b.settings) c.reserve.new.self (record b.leases { rows = marked c.args.id true b.leases.rows }) c.push_reserved.new.self.items n) (sym total)
          (bench_worked b.grown c.reserve.new.self b.leases b.staged.items b.given b.work b.nodes_due b.settings c.reserve.ensures.forest c.reserve.ensures.records c.args.item c.args.id c.self.invariant.bench found c.push_reserved.new.self.items items c.requires.kept prepared nodes room count));
      names = subst (λ rs. AreNamesOf rs (map record_staged c.push_reserved.new.self.items) c.stage.new.self) (sym c.reserve.ensures.records)
          (subst (λ ss. AreNamesOf b.grown.records ss c.stage.new.self) (sym (ap (map record_staged) items ∙ map_push b.staged.items c.args.item))
          (names_staged b.grown.records (map record_staged b.staged.items) (record_staged c.args.item) b.names c.stage.new.self c.self.invariant.names
          (names_more b.names c.stage.new.self (record_staged c.args.item) c.args.sheet.now c.requires.sheet c.in_ok-text.ensures.names)));
    }

pub returns-clause-staged : goal.returns-clause-staged
returns-clause-staged c =
    let b = c.self.inside in
    let items : c.push_reserved.new.self.items ≡ b.staged.items ++ c.args.item ∷ [] = c.push_reserved.ensures.items ∙ ap (λ (l : List Staged). l ++ c.args.item ∷ []) c.reserve-2.ensures.items in
    let found = subst (λ (x : Core). HasRow (λ row. (row.kept ≡ false) × IsFoundUnder x.state row.lease (record_staged c.args.item)) x.state c.args.id) (sym c.self.view_is) c.requires.found in
    ap (λ (t : LeaseRows). seen c.reserve.new.self t c.push_reserved.new.self.items b.given b.work b.settings) c.keep.ensures
    ∙ (work_seen b.grown c.reserve.new.self b.leases b.staged.items b.given b.work b.nodes_due b.settings c.reserve.ensures.forest c.reserve.ensures.records c.args.item c.args.id c.self.invariant.bench found c.push_reserved.new.self.items items
    ∙ ap (λ (x : Core). with_staged x (record_staged c.args.item)) c.self.view_is)

pub returns-clause-grows : goal.returns-clause-grows
returns-clause-grows c =
    let b = c.self.inside in
    let items : c.push_reserved.new.self.items ≡ b.staged.items ++ c.args.item ∷ [] = c.push_reserved.ensures.items ∙ ap (λ (l : List Staged). l ++ c.args.item ∷ []) c.reserve-2.ensures.items in
    let total : c.in-Some.nodes ≡ b.nodes_due + nodes_made c.args.item = search rules in
    let found = subst (λ (x : Core). HasRow (λ row. (row.kept ≡ false) × IsFoundUnder x.state row.lease (record_staged c.args.item)) x.state c.args.id) (sym c.self.view_is) c.requires.found in
    let prepared = subst (λ (x : Core). IsPrepared x.state c.args.item) (sym c.self.view_is) c.requires.prepared in
    let nodes : b.nodes_due + nodes_made c.args.item ≤ c.reserve.new.self.nodes = omega (arith, total, c.in_ok-reserve.ensures.enough.0) in
    let long : c.len.result ≡ length b.staged.items = search rules in
    let count : b.work + (length b.staged.items + 1) < 2 ^ 64 = search rules in
    let room : length b.staged.items + 1 ≤ c.reserve.new.self.room = omega (arith, long, c.in_ok-reserve.ensures.enough.1) in
    applies_all c.reserve.new.self (record b.leases { rows = marked c.args.id true b.leases.rows }) c.push_reserved.new.self.items b.given b.work (b.nodes_due + nodes_made c.args.item) b.settings
    (bench_worked b.grown c.reserve.new.self b.leases b.staged.items b.given b.work b.nodes_due b.settings c.reserve.ensures.forest c.reserve.ensures.records c.args.item c.args.id c.self.invariant.bench found c.push_reserved.new.self.items items c.requires.kept prepared nodes room count)

pub returns-clause-short : goal.returns-clause-short
returns-clause-short c =
    let b = c.self.inside in
    subst (λ (x : Core). IsShortText (named_in [] (x.records ++ x.staged)) (record_staged c.args.item) c.in_ok-text.text.items) c.self.view_is
    (short_text_of b.grown.records (map record_staged b.staged.items) (record_staged c.args.item) c.args.kind c.args.sheet.now c.in_ok-text.text.items b.names c.stage.new.self
    c.self.invariant.names c.requires.kind c.requires.sheet c.in_ok-text.ensures.text c.in_ok-text.ensures.names c.in_ok-text.ensures.few)
