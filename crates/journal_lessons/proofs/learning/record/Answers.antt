use Rattle.std.proofs.Common.{◌≡◌, ℕ, List, Vec, Global, map, subst}
use Rattle.journal_lessons.proofs.DiskLemmas.{commit_leaves}
use Rattle.journal_lessons.proofs.learning.record.Goals as goal

pub returns-in-Ok-clause-leaves : goal.returns-in-Ok-clause-leaves
returns-in-Ok-clause-leaves g c honest pending payloads has =
    let texts = map (λ (t : Vec ℕ Global). t.items) c.args.taught.now.texts.items in
    let is : c.stage_all.new.journal ≡ record c.args.journal { staged = texts } =
    subst (λ (xs : List (Vec ℕ Global)). c.stage_all.new.journal ≡ record c.args.journal { staged = map (λ (t : Vec ℕ Global). t.items) xs }) c.deref.ensures.value c.in_default.ensures.staged in
    commit_leaves g.D.Disk c.args.journal c.stage_all.new.journal texts is c.commit.new.self.disk c.into_disk-in-Ok.result c.into_disk-in-Ok.ensures (c.commit.ensures.atomic honest) payloads has

pub returns-in-Err-commit-clause-leaves : goal.returns-in-Err-commit-clause-leaves
returns-in-Err-commit-clause-leaves g c honest pending payloads has =
    let texts = map (λ (t : Vec ℕ Global). t.items) c.args.taught.now.texts.items in
    let is : c.stage_all.new.journal ≡ record c.args.journal { staged = texts } =
    subst (λ (xs : List (Vec ℕ Global)). c.stage_all.new.journal ≡ record c.args.journal { staged = map (λ (t : Vec ℕ Global). t.items) xs }) c.deref.ensures.value c.in_default.ensures.staged in
    commit_leaves g.D.Disk c.args.journal c.stage_all.new.journal texts is c.commit.new.self.disk c.into_disk-in-Err-commit.result c.into_disk-in-Err-commit.ensures (c.commit.ensures.atomic honest) payloads has
