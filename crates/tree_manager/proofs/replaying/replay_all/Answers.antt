use Rattle.std.proofs.Common.{◌∙◌, []}
use Rattle.tree_manager.specs.Replaying.{payload_texts}
use Rattle.tree_manager.proofs.ReceiptLemmas.{spell_length}
use Rattle.tree_manager.proofs.ReplayLemmas.{length_texts, puts_by_length}
use Rattle.tree_manager.proofs.replaying.replay_all.Goals as goal

pub returns-clause-marks : goal.returns-clause-marks
returns-clause-marks g c =
    let payloads = c.args.payloads.now in
    let rs = c.in_ok-bench.bench.records in
    c.puts_of.ensures ∙ puts_by_length payloads rs (spell_length c.args.s.pieces [] rs (payload_texts payloads) c.in_ok-bench.ensures.spelled ∙ length_texts payloads)
