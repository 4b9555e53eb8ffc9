use Rattle.std.proofs.Common.{◌≡◌, ◌++◌, [], refl, ap, sym, ◌∙◌, subst}
use Rattle.std.specs.Prelude.{Contains, IfOk}
use Rattle.bench_records.specs.Texts.{IsShortText, short_kind, record_sheet, named_in}
use Rattle.bench_records.specs.declared.records.BenchRecord.{BenchRecord}
use Rattle.bench_core.specs.Cores.{Core, record_of}
use Rattle.bench_core.specs.States.{IsFoundUnder}
use Rattle.bench_core.specs.Answers.{unkept}
use Rattle.bench_core.specs.Benches.{seen, record_staged, IsPrepared}
use Rattle.bench_core.specs.Results.{outcome_of, staged_of}
use Rattle.bench_core.specs.declared.staged.Staged.{Staged}
use Rattle.bench_core.proofs.FoundLemmas.{row, result_found, result_prepared, staged_is, may_stage}
use Rattle.bench_core.proofs.bench.Bench.stage_found.Goals as goal

pub stage_work-requires-clause-found : goal.stage_work-requires-clause-found
stage_work-requires-clause-found c =
    let b = c.self.inside in
    let l = c.args.lease.now in
    let there = subst (λ (x : Core). Contains x.state.leases.rows (unkept l)) (sym c.self.view_is) c.requires.live in
    let found = result_found b.grown.records (seen b.grown b.leases b.staged.items b.given b.work b.settings).state l c.self.invariant.bench.core.state there c.args.found c.requires.outcome c.requires.told in
    let staged : c.into_staged-item.result ≡ staged_of l l.node c.args.found = c.into_staged-item.ensures ∙ ap (λ n. staged_of l n c.args.found) c.in-Some.ensures.value in
    record {
      row = unkept l;
      there = c.requires.live;
      number = refl;
      holds = (
        refl,
        subst (λ (r : BenchRecord). IsFoundUnder c.args.self.now.state l r) (sym (ap record_staged staged ∙ staged_is l c.args.found))
            (subst (λ (x : Core). IsFoundUnder x.state l (record_of l (outcome_of c.args.found))) c.self.view_is found),
      );
    }

pub stage_work-requires-clause-prepared : goal.stage_work-requires-clause-prepared
stage_work-requires-clause-prepared c =
    let b = c.self.inside in
    let l = c.args.lease.now in
    let there = subst (λ (x : Core). Contains x.state.leases.rows (unkept l)) (sym c.self.view_is) c.requires.live in
    let table = c.self.invariant.bench.table in
    let prepared = result_prepared b.grown.records (seen b.grown b.leases b.staged.items b.given b.work b.settings).state l c.self.invariant.bench.core.state there table.0 table.1 c.args.found c.requires.outcome c.requires.told in
    let staged : c.into_staged-item.result ≡ staged_of l l.node c.args.found = c.into_staged-item.ensures ∙ ap (λ n. staged_of l n c.args.found) c.in-Some.ensures.value in
    subst (λ (item : Staged). IsPrepared c.args.self.now.state item) (sym staged)
    (subst (λ (x : Core). IsPrepared x.state (staged_of l l.node c.args.found)) c.self.view_is prepared)

pub returns-clause-may : goal.returns-clause-may
returns-clause-may c =
    let b = c.self.inside in
    let l = c.args.lease.now in
    let there = subst (λ (x : Core). Contains x.state.leases.rows (unkept l)) (sym c.self.view_is) c.requires.live in
    let found = result_found b.grown.records (seen b.grown b.leases b.staged.items b.given b.work b.settings).state l c.self.invariant.bench.core.state there c.args.found c.requires.outcome c.requires.told in
    may_stage c.args.self.now l c.args.found (record {
      row = unkept l;
      there = c.requires.live;
      unkept = refl;
      found = subst (λ (x : Core). IsFoundUnder x.state l (record_of l (outcome_of c.args.found))) c.self.view_is found;
    })

pub returns-clause-tables : goal.returns-clause-tables
returns-clause-tables c =
    let b = c.self.inside in
    let l = c.args.lease.now in
    let there = subst (λ (x : Core). Contains x.state.leases.rows (unkept l)) (sym c.self.view_is) c.requires.live in
    (row b.grown.records (seen b.grown b.leases b.staged.items b.given b.work b.settings).state l c.self.invariant.bench.core.state there).pieces ∙ ap (λ (x : Core). x.state.settings.pieces) c.self.view_is

pub stage_work-requires-clause-kind : goal.stage_work-requires-clause-kind
stage_work-requires-clause-kind c =
    let l = c.args.lease.now in
    let staged : c.into_staged-item.result ≡ staged_of l l.node c.args.found = c.into_staged-item.ensures ∙ ap (λ n. staged_of l n c.args.found) c.in-Some.ensures.value in
    c.requires.kind ∙ ap short_kind (sym (ap record_staged staged ∙ staged_is l c.args.found))

pub stage_work-requires-clause-sheet : goal.stage_work-requires-clause-sheet
stage_work-requires-clause-sheet c =
    let l = c.args.lease.now in
    let staged : c.into_staged-item.result ≡ staged_of l l.node c.args.found = c.into_staged-item.ensures ∙ ap (λ n. staged_of l n c.args.found) c.in-Some.ensures.value in
    c.requires.sheet ∙ ap record_sheet (sym (ap record_staged staged ∙ staged_is l c.args.found))

pub returns-clause-short : goal.returns-clause-short
returns-clause-short c =
    let l = c.args.lease.now in
    let staged : c.into_staged-item.result ≡ staged_of l l.node c.args.found = c.into_staged-item.ensures ∙ ap (λ n. staged_of l n c.args.found) c.in-Some.ensures.value in
    subst (λ (r : BenchRecord). IfOk c.stage_work.result (λ text. IsShortText (named_in [] (c.args.self.now.records ++ c.args.self.now.staged)) r text.items)) (ap record_staged staged ∙ staged_is l c.args.found)
    c.stage_work.ensures.short
