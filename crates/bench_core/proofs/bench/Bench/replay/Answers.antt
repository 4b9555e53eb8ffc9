use Rattle.std.proofs.lemmas.Result.{err_from_is_err_and}
use Rattle.std.proofs.Common.{◌≡◌, ◌∙◌, ◌++◌, ◌∷◌, [], ℕ, List, map, refl, ap, sym, subst}
use Rattle.draughts_board.specs.Board.{Board}
use Rattle.proof_tree.specs.Forest.{Forest}
use Rattle.bench_records.specs.Texts.{IsText, named_in}
use Rattle.bench_records.specs.declared.records.BenchRecord.{BenchRecord}
use Rattle.bench_core.specs.Growing.{GrowsWith}
use Rattle.bench_core.specs.Cores.{Core, with_record}
use Rattle.bench_core.specs.Benches.{seen, record_staged}
use Rattle.bench_core.specs.Answers.{RefusesReplay}
use Rattle.bench_core.proofs.ReplayedBench.{bench_kept}
use Rattle.bench_core.proofs.ReadLemmas.{list_of, text_read, text_refused, record_refused, names_read}
use Rattle.bench_core.proofs.bench.Bench.replay.Goals as goal

pub returns-in_err-r-clause-refused : goal.returns-in_err-r-clause-refused
returns-in_err-r-clause-refused g c =
    let b = c.self.inside in
    let core : Core = c.args.self.now in
    let none : map record_staged b.staged.items ≡ [] = ap (λ (x : Core). x.staged) c.self.view_is ∙ c.requires.staged in
    let list : c.named.result.now ≡ named_in [] core.records =
    c.named.ensures ∙ (list_of b.grown.records (map record_staged b.staged.items) b.names c.self.invariant.names none ∙ ap (λ (x : Core). named_in [] x.records) c.self.view_is) in
    let pieces : b.settings.pieces ≡ core.state.settings.pieces = ap (λ (x : Core). x.state.settings.pieces) c.self.view_is in
    let p = err_from_is_err_and c.from_residual.result c.from_residual.ensures.1 in
    rw (p.1, p.2) (text_refused core b.settings.pieces c.named.result.now c.args.payload.now pieces list c.in_err-r.field-0.0 c.in_err-r.ensures.fault)

pub returns-in-Err-clause-refused : goal.returns-in-Err-clause-refused
returns-in-Err-clause-refused g c =
    let b = c.self.inside in
    let core : Core = c.args.self.now in
    let none : map record_staged b.staged.items ≡ [] = ap (λ (x : Core). x.staged) c.self.view_is ∙ c.requires.staged in
    let list : c.named.result.now ≡ named_in [] core.records =
    c.named.ensures ∙ (list_of b.grown.records (map record_staged b.staged.items) b.names c.self.invariant.names none ∙ ap (λ (x : Core). named_in [] x.records) c.self.view_is) in
    let pieces : b.settings.pieces ≡ core.state.settings.pieces = ap (λ (x : Core). x.state.settings.pieces) c.self.view_is in
    let text = text_read core b.settings.pieces c.named.result.now c.args.payload.now pieces list c.in_ok-r.r c.in_ok-r.ensures.good in
    subst (RefusesReplay core c.args.payload.now) (sym c.into.ensures)
    (record_refused core (g.O.Oracle.piece_limit c.args.oracle.now) b.grown c.in_ok-r.r c.args.payload.now c.in-Err.refusal c.requires.tables (ap (λ (x : Core). x.state.forest) c.self.view_is) text c.in-Err.ensures.refused)

pub invariant_of-self-2 : goal.invariant_of-self-2
invariant_of-self-2 g c =
    let b = c.self.inside in
    let none : map record_staged b.staged.items ≡ [] = ap (λ (x : Core). x.staged) c.self.view_is ∙ c.requires.staged in
    record {
      bench = bench_kept b.grown c.replay_record.new.grown b.leases b.given b.work b.nodes_due b.settings (g.O.Oracle.piece_limit c.args.oracle.now) c.in_ok-r.r c.replay_record.result b.staged.items
          (c.requires.tables ∙ ap (λ (x : Core). x.state.settings.pieces) (sym c.self.view_is)) c.self.invariant.bench none (ap (λ (x : Core). x.state.leases.rows) c.self.view_is ∙ c.requires.leased)
          c.replay_record.ensures.ok c.replay_record.ensures.forest c.replay_record.ensures.records;
      names = names_read b.grown.records c.replay_record.new.grown.records (map record_staged b.staged.items) (map record_staged b.staged.items) c.in_ok-r.r b.names c.add.new.self c.apply_all.new.self c.self.invariant.names none refl
          c.in_default.ensures.ok.added c.in_ok-add.ensures.names c.apply_all.ensures;
    }

pub returns-clause-replayed : goal.returns-clause-replayed
returns-clause-replayed g c =
    let b = c.self.inside in
    let core : Core = c.args.self.now in
    let r : BenchRecord = c.in_ok-r.r in
    let new = c.replay_record.new.grown in
    let none : map record_staged b.staged.items ≡ [] = ap (λ (x : Core). x.staged) c.self.view_is ∙ c.requires.staged in
    let list : c.named.result.now ≡ named_in [] core.records =
    c.named.ensures ∙ (list_of b.grown.records (map record_staged b.staged.items) b.names c.self.invariant.names none ∙ ap (λ (x : Core). named_in [] x.records) c.self.view_is) in
    let pieces : b.settings.pieces ≡ core.state.settings.pieces = ap (λ (x : Core). x.state.settings.pieces) c.self.view_is in
    let forest : b.grown.forest ≡ core.state.forest = ap (λ (x : Core). x.state.forest) c.self.view_is in
    let old : Core = seen b.grown b.leases b.staged.items b.given b.work b.settings in
    record {
      last = r;
      text = text_read core b.settings.pieces c.named.result.now c.args.payload.now pieces list r c.in_ok-r.ensures.good;
      grown = subst (λ (f : Forest). GrowsWith core.state.settings.pieces f r new.forest) forest (subst (λ n. GrowsWith n b.grown.forest r new.forest) c.requires.tables c.in_default.ensures.ok.grown);
      rest = ap (λ (rs : List BenchRecord). record old { state = record old.state { forest = new.forest }; records = rs }) c.in_default.ensures.ok.added ∙ ap (λ (x : Core). with_record x r new.forest) c.self.view_is;
    }
