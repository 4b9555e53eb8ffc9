use Rattle.bench_records.specs.Refusals.{record_wants_memory}
use Rattle.std.proofs.Common.{ap}
use Rattle.record_reading.proofs.Readings.{not_refused}
use Rattle.record_reading.proofs.reading.decoded.Goals as goal

pub unreachable-requires : goal.unreachable-requires
unreachable-requires c =
    not_refused c.in-Err-BadKind.field-0 c.requires.0 (ap record_wants_memory c.in-Err-BadKind.field-0-is) (c.in-Err-BadKind.ensures.only_good c.requires.0 c.requires.1)

pub unreachable-requires-in-Err-BadField : goal.unreachable-requires-in-Err-BadField
unreachable-requires-in-Err-BadField c =
    not_refused c.in-Err-BadField.field-0 c.requires.0 (ap record_wants_memory c.in-Err-BadField.field-0-is) (c.in-Err-BadField.ensures.only_good c.requires.0 c.requires.1)

pub unreachable-requires-in-Err-Trailing : goal.unreachable-requires-in-Err-Trailing
unreachable-requires-in-Err-Trailing c =
    not_refused c.in-Err-Trailing.field-0 c.requires.0 (ap record_wants_memory c.in-Err-Trailing.field-0-is) (c.in-Err-Trailing.ensures.only_good c.requires.0 c.requires.1)
