use Rattle.std.specs.Prelude.{refl}
use Rattle.std.proofs.Common.{rules, ◌≡◌, ◌++◌, [], ◌∷◌, sym, subst, ap, ◌∙◌, arith, reverse, ◌+◌}
use Rattle.memory_file.specs.Changes.{AreEnded, IsImage, bytes_after}
use Rattle.memory_file.specs.declared.changes.Change.TheVariants.{Synced}
use Rattle.memory_file.proofs.FileLemmas.{ended_later, file_not_synced, file_synced, synced_ended, synced_lasting, synced_replayed}
use Rattle.memory_file.proofs.held.MemoryFileFileHandle.sync.Goals as goal

pub returns-then-not-self-clause-syncs : goal.returns-then-not-self-clause-syncs
returns-then-not-self-clause-syncs c = λ _. file_not_synced _ _ refl refl refl (λ e. e) refl

pub returns-then-is_err-clause-syncs : goal.returns-then-is_err-clause-syncs
returns-then-is_err-clause-syncs c = λ _. let e : c.push.new.self.items ≡ c.args.self.now.steps.items = search rules in file_not_synced _ _ refl e refl (λ h. h) refl

pub returns-clause-syncs : goal.returns-clause-syncs
returns-clause-syncs c = λ _.
    let e : c.push.new.self.items ≡ c.args.self.now.steps.items ++ (record { moment = c.args.self.now.moment; change = Synced }) ∷ [] = search rules in
    file_synced _ _ refl e refl refl (λ h. h)

pub invariant_of-self-2 : goal.invariant_of-self-2
invariant_of-self-2 c =
    let old = c.args.self.now in
    let e : c.push.new.self.items ≡ c.args.self.now.steps.items ++ (record { moment = c.args.self.now.moment; change = Synced }) ∷ [] = search rules in
    record {
      replayed = synced_replayed old.start.items old.bytes.items old.moment old.steps.items c.push.new.self.items e old.replayed;
      ended = synced_ended old.start.items old.bytes.items old.moment old.steps.items c.push.new.self.items e old.ended;
      some = old.some;
      lasting = λ _. synced_lasting old.start.items old.bytes.items old.moment old.steps.items c.push.new.self.items e old.replayed;
    }
