use Rattle.std.proofs.Common.{List, ℕ, subst, sym}
use Rattle.certificate_lines.specs.Lines.{Leads}
use Rattle.draughts_board.specs.Board.{Board}
use Rattle.journal_view.proofs.PageLemmas.{line_leads}
use Rattle.journal_view.proofs.pages.steps_by.Goals as goal

pub play_steps-requires : goal.play_steps-requires
play_steps-requires c =
    let proved = c.in_ok-proved.proved in
    let line = c.in_ok-line.line in
    let leads = line_leads proved.claim proved _ line.moves.items line.end line.rank c.in_ok-line.ensures.line in (
      line.end,
      subst (λ (l : List (List ℕ)). Leads line.start l line.end) (sym c.deref.ensures.value)
          (subst (λ (p : Board). Leads p line.moves.items line.end) (sym c.in_ok-line.ensures.start) leads),
    )
