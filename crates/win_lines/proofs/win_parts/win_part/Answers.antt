use Rattle.std.proofs.Common.{◌≡◌, ◌≤◌, sym, subst}
use Rattle.strategy_certificate.specs.declared.certificates.Part.TheVariants as parts
use Rattle.strategy_certificate.specs.Claims.{HasShortRanks}
use Rattle.draughts_board.specs.Board.{Board}
use Rattle.strategy_certificate.specs.declared.entries.TheConstants.{MOST_FOUND_RANK}
use Rattle.strategy_certificate.specs.declared.entries.WinEntry.{WinEntry}
use Rattle.strategy_certificate.specs.Parts.{WinList}
use Rattle.strategy_certificate.proofs.RowLemmas.{All-added}
use Rattle.win_lines.proofs.win_parts.win_part.Goals as goal

pub loop-preserved : goal.loop-preserved
loop-preserved g c =
    subst (λ (w : WinList). (w.side ≡ c.args.side) × HasShortRanks (parts.Win w)) (sym c.in_ok-add_new.ensures.entries)
    (c.loop.invariant.0, All-added (λ (row : Board × WinEntry). row.1.rank ≤ MOST_FOUND_RANK) _ _ c.in_ok-add_new.field-0 c.loop.invariant.1 (rw c.in-Some-2.is at c.in_ok-entry.ensures))
