use Rattle.std.specs.Prelude.{Contains}
use Rattle.strategy_certificate.specs.declared.entries.WinEntry.{WinEntry}
use Rattle.certificate_checker.proofs.LeastLemmas.{Knows-map}
use Rattle.certificate_checker.proofs.shown.kept_rank.Goals as goal

pub returns-in-Some : goal.returns-in-Some
returns-in-Some c = Knows-map (λ (e : WinEntry). e.rank) (λ e. Contains c.args.part.now.entries (c.args.q.now, e)) c.in-Some.entry c.in-Some.ensures.found
