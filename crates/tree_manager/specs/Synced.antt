-- How a session and its journal say the same. Nobody has to believe it.
use Rattle.std.specs.Prelude.{◌≡◌, ◌≤◌, ℕ, false, cond, List, [], ◌++◌, take, length}
use Rattle.std.specs.List.{AllByRecursion as Each}
use Rattle.bench_disk.specs.declared.disk.Disk.{Ghosts}
use Rattle.bench_disk.specs.Disk.{NothingPending}
use Rattle.disk_journal.specs.Format.{HasPayloads}
use Rattle.disk_journal.specs.Log.{Log, StandsSince}
use Rattle.tree_manager.specs.declared.entries.Entry.{Entry}
use Rattle.tree_manager.specs.Lines.{applied_in, unapplied_in, is_failed}
use Rattle.tree_manager.specs.Receipts.{SpellsRecords, acknowledgements}

-- since that moment each crash leaves the low list of payloads or more, up to the high list
pub record LeavesPayloads {D : Type 0} (g : Ghosts D)
    (k : ℕ) (disk : D) (low high : List (List ℕ)) (t : ℕ) : Type 0 where
  pub not_later : t ≤ g.moment disk
  pub stands : StandsSince g.images_since disk t k low high

-- The journal has the texts of the line's records: as payloads those that are applied, and staged
-- those that are staged.
pub record IsSynced {D : Type 0} (g : Ghosts D) (line : List Entry)
    (log : Log D) : Type 0 where
  pub payloads : List (List ℕ)
  pub more : List (List ℕ)
  pub spelled : SpellsRecords log.pieces [] (applied_in line) payloads
  pub staged : SpellsRecords log.pieces (applied_in line) (unapplied_in line) more
  pub since : Each (λ ack. LeavesPayloads g log.pieces log.disk
      (take (length ack.records) payloads)
      (cond (is_failed line) (payloads ++ more) payloads) ack.moment) (acknowledgements line)
  pub at_rest : is_failed line ≡ false
      → HasPayloads log.pieces (g.reads log.disk) payloads
      × (NothingPending (g.reads log.disk) (g.images log.disk) × (log.staged ≡ more))
