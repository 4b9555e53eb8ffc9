use Rattle.std.proofs.Common.{◌∙◌, sym, subst, length, List}
use Rattle.std.specs.List.{flat_map}
use Rattle.draughts_board.specs.Board.{Board}
use Rattle.bench_records.specs.Positions.{short_text}
use Rattle.bench_records.specs.Texts.{hold_sheet}
use Rattle.bench_records.specs.Woven.{GoesOn}
use Rattle.bench_records.proofs.Growing.{noted_row, hold_named}
use Rattle.bench_records.proofs.Sheets.{named_marks}
use Rattle.bench_records.proofs.Numbering.{goes_on_name, goes_on_same, goes_on_then}
use Rattle.bench_records.proofs.adding.note_holds.Goals as goal

pub loop-i-init : goal.loop-i-init
loop-i-init c =
    let entries = c.args.part.now.entries in
    record {
      names = sym (named_marks c.args.named.now (short_text (length entries)) (flat_map hold_sheet entries));
      front = goes_on_same c.args.named.now;
    }

pub loop-i-preserved : goal.loop-i-preserved
loop-i-preserved c =
    let row = c.entry-p.result in
    let front = subst (λ (l : List Board). GoesOn c.loop-i.named l) (sym c.in_ok-note.ensures.names) (goes_on_name c.loop-i.named row.0) in
    record {
      names = noted_row hold_sheet c.args.part.now.entries c.loop-i.i row c.loop-i.named c.note.new.self _ c.entry-p.ensures.value
          (c.in_ok-note.ensures.names ∙ sym (hold_named c.loop-i.named row)) c.loop-i.invariant.names;
      front = goes_on_then c.args.named.now c.loop-i.named c.note.new.self c.loop-i.invariant.front front;
    }
