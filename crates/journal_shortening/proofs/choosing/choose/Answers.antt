use Rattle.std.proofs.Common.{◌≡◌, ◌∙◌, ◌≤◌, ℕ, List, [], map, sym, subst, ap, arith}
use Rattle.std.specs.Prelude.{Err}
use Rattle.std.specs.Bool.{OnFalse}
use Rattle.disk_journal.proofs.LooksLemmas.{reads_so}
use Rattle.journal_shortening.specs.Refusals.{ExplainsNoChoice, says_nothing}
use Rattle.journal_shortening.specs.declared.choosing.Chosen.{Chosen}
use Rattle.journal_shortening.proofs.CauseLemmas.{chosen_causes, chosen_fault, not_chosen, read_or_unchosen}
use Rattle.journal_shortening.proofs.choosing.choose.Goals as goal

pub returns-in-Err-clause-into : goal.returns-in-Err-clause-into
returns-in-Err-clause-into g c =
    reads_so g.B.Disk _ _ _ _ c.in-Err.ensures.reads (λ is. ap (λ e. Err e) (chosen_fault c.in-Err.refusal c.into_refusal.result c.into_refusal.ensures is))

pub returns-in-Err-clause-refused : goal.returns-in-Err-clause-refused
returns-in-Err-clause-refused g c honest =
    let into : List ℕ = g.B.Disk.reads c.args.into.now in
    subst (ExplainsNoChoice into) (sym c.into_refusal.ensures) (not_chosen into c.in-Err.refusal (c.in-Err.ensures.exact honest).fault)

pub returns-in-Err-clause-causes : goal.returns-in-Err-clause-causes
returns-in-Err-clause-causes g c honest cause stands =
    chosen_causes Chosen (g.B.Disk.reads c.args.into.now) c.in-Err.refusal c.into_refusal.result c.into_refusal.ensures (c.in-Err.ensures.exact honest).fault cause stands

pub returns-then-is_empty-clause-causes : goal.returns-then-is_empty-clause-causes
returns-then-is_empty-clause-causes g c honest cause stands =
    absurd (read_or_unchosen c.in-Ok.read.0 (g.B.Disk.reads c.args.into.now) _ (c.in-Ok.ensures.exact honest).good.0.payloads cause stands)

pub returns-clause-causes : goal.returns-clause-causes
returns-clause-causes g c honest cause stands =
    absurd (read_or_unchosen c.in-Ok.read.0 (g.B.Disk.reads c.args.into.now) _ (c.in-Ok.ensures.exact honest).good.0.payloads cause stands)
