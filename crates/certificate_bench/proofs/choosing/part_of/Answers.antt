use Rattle.std.proofs.Common.{◌≡◌, ◌≤◌, sym, subst}
use Rattle.draughts_board.specs.declared.pieces.Side.TheVariants.{White}
use Rattle.strategy_certificate.specs.declared.certificates.Part.TheVariants as parts
use Rattle.strategy_certificate.specs.Claims.{HasShortRanks}
use Rattle.draughts_board.specs.Board.{Board}
use Rattle.strategy_certificate.specs.declared.entries.TheConstants.{MOST_FOUND_RANK}
use Rattle.strategy_certificate.specs.declared.entries.WinEntry.{WinEntry}
use Rattle.strategy_certificate.specs.Parts.{WinList}
use Rattle.strategy_certificate.proofs.RowLemmas.{All-added}
use Rattle.certificate_bench.proofs.choosing.part_of.Goals as goal

pub loop-p-preserved : goal.loop-p-preserved
loop-p-preserved c =
    subst (λ (w : WinList). (w.side ≡ White) × HasShortRanks (parts.Win w)) (sym c.in_ok-add_new.ensures.entries)
    (c.loop-p.invariant.0, All-added (λ (row : Board × WinEntry). row.1.rank ≤ MOST_FOUND_RANK) _ _ c.in_ok-add_new.field-0 c.loop-p.invariant.1 c.win_entry.ensures)
