use Rattle.std.proofs.Common.{◌≡◌, length, subst, arith}
use Rattle.pdn_text.specs.Grammar.{IsStop}
use Rattle.pdn_text.proofs.OneReading.{stop_at_end}
use Rattle.source_warnings.proofs.items.next_item.Goals as goal

pub returns-then-at-source-clause-stop : goal.returns-then-at-source-clause-stop
returns-then-at-source-clause-stop c =
    let source = c.args.source.now in
    let at_end : length source ≡ c.args.at = omega arith in
    subst (IsStop source) at_end (stop_at_end source)
