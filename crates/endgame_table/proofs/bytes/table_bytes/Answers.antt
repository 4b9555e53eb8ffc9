use Rattle.std.proofs.Common.{◌∙◌, ◌++◌, ap, arith}
use Rattle.std.specs.Prelude.{slice_index}
use Rattle.std.specs.Int.{to_be_bytes, w32}
use Rattle.endgame_table.proofs.BytesLemmas.{bytes-more}
use Rattle.endgame_table.proofs.Filled.{count-small}
use Rattle.endgame_table.proofs.bytes.table_bytes.Goals as goal

pub overflow_mul-len : goal.overflow_mul-len
overflow_mul-len c =
    let small = count-small c.args.t.now.pieces c.len.ensures.table.size in
    let count = c.len.ensures.table.entries in
    omega (arith, c.len.ensures.value)

pub overflow_add-len : goal.overflow_add-len
overflow_add-len c =
    let small = count-small c.args.t.now.pieces c.len.ensures.table.size in
    let count = c.len.ensures.table.entries in
    omega (arith, c.len.ensures.value)

pub loop-number-preserved : goal.loop-number-preserved
loop-number-preserved c =
    let numbers = c.numbers-number-items.result.now in
    let bytes = c.loop-number.bytes.items in
    let i = c.loop-number.number-index in
    let k = c.args.t.now.pieces in
    c.in_ok-extend_from_slice-2.ensures.items
    ∙ (ap (λ field. bytes ++ field) c.to_be_bytes.ensures
    ∙ (ap (λ front. front ++ to_be_bytes w32 (slice_index numbers i)) c.loop-number.invariant ∙ bytes-more k numbers i c.loop-number-test.true))
