use Rattle.std.proofs.Common.{ap, refl}
use Rattle.tree_manager.specs.Sessions.{SessionState}
use Rattle.journal_runs.proofs.FirstStaging.{applies_by}
use Rattle.journal_runs.proofs.first_pass.commit.Goals as goal

pub returns-in-Ok-clause-applies : goal.returns-in-Ok-clause-applies
returns-in-Ok-clause-applies g c =
    applies_by c.args.session.now.core c.commit.new.self.core c.args.session.now.core.staged refl
    (λ none. ap (λ (s : SessionState g.row.D.Denot). s.core) (c.in-Ok.ensures.idle c.in-Ok.ensures.unfailed none)) (λ some. (c.in-Ok.ensures.appends some).enters)
