use Rattle.std.proofs.Common.{◌≡◌, ◌∙◌, ◌+◌, ◌*◌, ◌^◌, length, sym, ap, subst, arith}
use Rattle.std.specs.Vec.{with_items}
use Rattle.std.proofs.lemmas.List.{with_items_is}
use Rattle.table_index.specs.Order.{entry_count}
use Rattle.endgame_table.specs.Numbers.{AreBelow}
use Rattle.endgame_table.specs.Entries.{Entries, IsTable}
use Rattle.endgame_table.specs.Rounds.{IsBegun, IsFilled}
use Rattle.endgame_table.specs.Rows.{moves_of}
use Rattle.endgame_table.proofs.Known.{below-more}
use Rattle.endgame_table.proofs.Filled.{count-small, count-below, table-from_filled}
use Rattle.endgame_table.proofs.ListedMoves.{lists-moves}
use Rattle.endgame_table.proofs.filling.fill.Goals as goal

pub run_rounds-requires : goal.run_rounds-requires
run_rounds-requires c =
    let m = c.in_ok-moves.moves in
    let begun = c.in_ok-moves.ensures in
    let heads : length m.origins.heads.items ≡ entry_count c.args.pieces = begun.origins.heads ∙ (lists-moves (entry_count c.args.pieces)).rows_count in
    let size = (lists-moves (length m.origins.heads.items)).rows_count in (
      subst (λ n. IsBegun (moves_of n).rows (moves_of n).first m.origins c.deref_mut.result.now c.deref_mut-2.result.now m.lost.items) (sym heads)
          (rw (c.deref_mut.ensures.value, c.deref_mut-2.ensures.value) begun),
      omega (arith, count-small c.args.pieces c.requires, heads, size),
    )

pub of_sound-requires : goal.of_sound-requires
of_sound-requires c =
    let k = c.args.pieces in
    let m = c.in_ok-moves.moves in
    let first = m.numbers in
    let begun = c.in_ok-moves.ensures in
    let listing = lists-moves (entry_count k) in
    let heads : length m.origins.heads.items ≡ entry_count k = begun.origins.heads ∙ listing.rows_count in
    let numbers = c.run_rounds.new.numbers in
    let filled : IsFilled (moves_of (entry_count k)).rows (moves_of (entry_count k)).first numbers = subst (λ n. IsFilled (moves_of n).rows (moves_of n).first numbers) heads c.in_ok-run_rounds.ensures.filled in
    let same : length numbers ≡ length first.items = c.run_rounds.auto.numbers ∙ ap length c.deref_mut-2.ensures.value in
    let kept : (with_items first numbers).items ≡ numbers = with_items_is first numbers (same ∙ sym first.ok.0) in
    let long : length numbers ≡ length (moves_of (entry_count k)).first = same ∙ begun.each ∙ listing.rows_count ∙ sym listing.numbers_count in
    subst (IsTable k) (sym kept) (table-from_filled k (moves_of (entry_count k)).rows (moves_of (entry_count k)).first numbers c.requires listing filled long)

pub returns-clause-small : goal.returns-clause-small
returns-clause-small c =
    let k = c.args.pieces in
    let m = c.in_ok-moves.moves in
    let first = m.numbers in
    let begun = c.in_ok-moves.ensures in
    let heads : length m.origins.heads.items ≡ entry_count k = begun.origins.heads ∙ (lists-moves (entry_count k)).rows_count in
    let size = (lists-moves (length m.origins.heads.items)).rows_count in
    let numbers = c.run_rounds.new.numbers in
    let same : length numbers ≡ length first.items = c.run_rounds.auto.numbers ∙ ap length c.deref_mut-2.ensures.value in
    let kept : (with_items first numbers).items ≡ numbers = with_items_is first numbers (same ∙ sym first.ok.0) in
    let most = count-below k c.requires in
    subst (λ (t : Entries). AreBelow (2 ^ 24) t.numbers) (sym c.of_sound.ensures)
    (subst (AreBelow (2 ^ 24)) (sym kept) (below-more (4 * length (moves_of (length m.origins.heads.items)).rows + 4) (2 ^ 24) numbers (omega (arith, most, heads, size)) c.in_ok-run_rounds.ensures.small))
