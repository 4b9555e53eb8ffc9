use Rattle.std.proofs.Common.{rules, ◌≡◌, ◌<◌, ◌+◌, ◌++◌, ◌∷◌, [], ◌∙◌, ℕ, List, ap, length, sym, subst, take}
use Rattle.disk_journal.specs.declared.payload.Payload.{Payload}
use Rattle.bench_records.specs.declared.records.BenchRecord.{BenchRecord}
use Rattle.bench_records.specs.Texts.{IsText}
use Rattle.bench_core.specs.Cores.{Core, with_record}
use Rattle.bench_core.specs.Answers.{HasReplayed, RefusesReplay}
use Rattle.tree_manager.specs.Replaying.{RefusesPayloads, payload_texts}
use Rattle.tree_manager.proofs.ReplayLemmas.{map_more_read, payload_refused, replayed_more, spell_more}
use Rattle.tree_manager.proofs.replaying.replay_payloads.Goals as goal

pub loop-payload-preserved : goal.loop-payload-preserved
loop-payload-preserved g c =
    let invariant = c.loop-payload.invariant in
    let payloads : List Payload = c.args.payloads.now in
    let at : ℕ = c.loop-payload.payload-index in
    let payload : Payload = c.payload-item.result in
    let old : Core = c.loop-payload.bench in
    let new : Core = c.replay.new.self in
    let has : HasReplayed old payload.bytes.items new = subst (λ (t : List ℕ). HasReplayed old t new) c.deref.ensures.value c.in_default.ensures.replayed in
    let r : BenchRecord = has.last in
    let within : at < length payloads = search rules in
    let text : IsText c.args.s.pieces old.records r payload.bytes.items = subst (λ k. IsText k old.records r payload.bytes.items) invariant.4 has.text in
    let records : new.records ≡ old.records ++ r ∷ [] = ap (λ (x : Core). x.records) has.rest in
    let texts : payload_texts (take (at + 1) payloads) ≡ payload_texts (take at payloads) ++ payload.bytes.items ∷ [] =
    map_more_read (λ (p : Payload). p.bytes.items) payloads at payload within c.payload-item.is in (
      replayed_more c.args.s old new r invariant.0 has.grown has.rest,
      spell_more c.args.s.pieces old.records new.records (payload_texts (take at payloads)) (payload_texts (take (at + 1) payloads)) r payload.bytes.items invariant.1 text records texts,
      ap (λ (x : Core). x.state.leases.rows) has.rest ∙ invariant.2,
      ap (λ (x : Core). x.staged) has.rest ∙ invariant.3,
      ap (λ (x : Core). x.state.settings.pieces) has.rest ∙ invariant.4,
    )

pub returns-in-Err-clause-refused : goal.returns-in-Err-clause-refused
returns-in-Err-clause-refused g c =
    let invariant = c.loop-payload.invariant in
    let within : c.loop-payload.payload-index < length c.args.payloads.now = search rules in
    let core : Core = c.loop-payload.bench in
    let payload : Payload = c.payload-item.result in
    let refused : RefusesReplay core payload.bytes.items c.in-Err.refusal = subst (λ (t : List ℕ). RefusesReplay core t c.in-Err.refusal) c.deref.ensures.value c.in-Err.ensures.refused in
    subst (RefusesPayloads c.args.s.pieces c.args.payloads.now) (sym c.refusal_at.ensures)
    (payload_refused c.args.s c.args.payloads.now c.loop-payload.payload-index payload core c.in-Err.refusal invariant.0 invariant.1 within c.payload-item.is invariant.4 refused)
