use Rattle.std.proofs.Common.{◌≡◌, ◌≤◌, ◌+◌, ◌++◌, ◌∷◌, [], List, length, map, arith, ap, sym, ◌∙◌, subst, false}
use Rattle.draughts_board.specs.Board.{Board}
use Rattle.proof_tree.specs.Forest.{Forest}
use Rattle.proof_tree.specs.Sound.{root_positions}
use Rattle.disk_journal.specs.Log.{Log}
use Rattle.shared_words.specs.Counts.{Rose}
use Rattle.tree_manager.specs.declared.entries.Entry.TheVariants as entry
use Rattle.tree_manager.specs.declared.marks.Mark.{Mark}
use Rattle.tree_manager.specs.declared.marks.Mark.TheVariants as mark
use Rattle.tree_manager.specs.Lines.{is_failed}
use Rattle.tree_manager.specs.Sessions.{SessionState, BeginsRoots, HasBegun, with_roots}
use Rattle.tree_manager.proofs.BeginLemmas.{are_beginning, begin_refused, begun_stands, has_begun, kept_roots, rows_alive}
use Rattle.tree_manager.specs.Keeping.{most_entries, parts_of, state_of}
use Rattle.tree_manager.proofs.HistoryLaws.{history_stands}
use Rattle.tree_manager.proofs.session.Session.begin.Goals as goal

pub stage_roots-requires-clause-live : goal.stage_roots-requires-clause-live
stage_roots-requires-clause-live g c = rows_alive _ c.self.inside.bench c.self.invariant.within.history

pub commit_parts-requires-clause-within : goal.commit_parts-requires-clause-within
commit_parts-requires-clause-within g c =
    let unfailed : c.self.inside.journal.failed ≡ false = cc (c.if-is_failed.false, c.is_failed.ensures) in
    let added : List Board = c.as_slice.result.now in
    let again : c.as_slice-2.result.now ≡ added = c.as_slice-2.ensures ∙ sym c.as_slice.ensures in
    let marks : c.push_puts.new.marks ≡ c.self.inside.marks ++ map (λ (p : Board). mark.Put) added =
    c.push_puts.ensures ∙ ap (λ (ps : List Board). c.self.inside.marks ++ map (λ (p : Board). mark.Put) ps) again in
    let count : c.len-count.result ≡ length added = c.len-count.ensures ∙ sym (ap length c.as_slice.ensures) in
    let room : length c.self.inside.marks + (c.self.inside.due + length added + length added) ≤ most_entries =
    omega (arith, c.in_ok-reserve.ensures.ok, count) in
    kept_roots g.D.Disk
    c.self.inside.marks c.push_puts.new.marks most_entries most_entries c.self.inside.due (c.self.inside.due + c.len-count.result) c.self.inside.bench c.stage_roots.new.bench c.self.inside.journal c.stage_roots.new.journal added
    c.self.invariant.within unfailed marks c.in_ok-stage_roots.ensures.bench c.in_ok-stage_roots.ensures.may c.stage_roots.ensures.grows c.in_ok-stage_roots.ensures.journal (ap (λ n. c.self.inside.due + n) count) room

pub returns-in-Ok-clause-begun : goal.returns-in-Ok-clause-begun
returns-in-Ok-clause-begun g c =
    let unfailed : c.self.inside.journal.failed ≡ false = cc (c.if-is_failed.false, c.is_failed.ensures) in
    let added : List Board = c.as_slice.result.now in
    let again : c.as_slice-2.result.now ≡ added = c.as_slice-2.ensures ∙ sym c.as_slice.ensures in
    let marks : c.push_puts.new.marks ≡ c.self.inside.marks ++ map (λ (p : Board). mark.Put) added =
    c.push_puts.ensures ∙ ap (λ (ps : List Board). c.self.inside.marks ++ map (λ (p : Board). mark.Put) ps) again in
    let all : root_positions c.self.inside.bench.state.forest ++ added ≡ with_roots (root_positions c.self.inside.bench.state.forest) c.args.positions.now =
    subst (λ (ps : List Board). root_positions c.self.inside.bench.state.forest ++ ps ≡ with_roots (root_positions c.self.inside.bench.state.forest) c.args.positions.now) (sym c.as_slice.ensures)
    (subst (λ (f : Forest). root_positions f ++ c.in_ok-added.added ≡ with_roots (root_positions f) c.args.positions.now) c.tree.ensures.forest c.in_ok-added.ensures.all) in
    let mid = are_beginning c.self.inside.marks c.push_puts.new.marks c.self.inside.bench c.stage_roots.new.bench c.self.inside.journal c.stage_roots.new.journal c.args.positions.now added
    c.self.invariant.within.filled marks c.in_ok-stage_roots.ensures.bench (ap (λ (l : Log g.row.D.Denot). l.disk) c.in_ok-stage_roots.ensures.journal.2) (sym c.self.invariant.within.failed ∙ unfailed) all in
    subst (λ (s : SessionState g.row.D.Denot). HasBegun s c.args.positions.now c.in-Ok.receipt.moment (state_of (parts_of c.commit_parts.new.marks c.commit_parts.new.due c.commit_parts.new.bench c.commit_parts.new.journal))) c.self.view_is
    (has_begun _ _ (state_of (parts_of c.commit_parts.new.marks c.commit_parts.new.due c.commit_parts.new.bench c.commit_parts.new.journal)) c.args.positions.now added c.in-Ok.receipt.moment mid (λ whole. c.in-Ok.ensures.idle) c.in-Ok.ensures.appends c.in-Ok.ensures.none_staged)

pub returns-in-Ok-clause-stands : goal.returns-in-Ok-clause-stands
returns-in-Ok-clause-stands g c = (history_stands _ _ c.commit_parts.ensures.within.history).0

pub returns-clause-refused : goal.returns-clause-refused
returns-clause-refused g c =
    let unfailed : c.self.inside.journal.failed ≡ false = cc (c.if-is_failed.false, c.is_failed.ensures) in
    let added : List Board = c.as_slice.result.now in
    let again : c.as_slice-2.result.now ≡ added = c.as_slice-2.ensures ∙ sym c.as_slice.ensures in
    let marks : c.push_puts.new.marks ≡ c.self.inside.marks ++ map (λ (p : Board). mark.Put) added =
    c.push_puts.ensures ∙ ap (λ (ps : List Board). c.self.inside.marks ++ map (λ (p : Board). mark.Put) ps) again in
    let all : root_positions c.self.inside.bench.state.forest ++ added ≡ with_roots (root_positions c.self.inside.bench.state.forest) c.args.positions.now =
    subst (λ (ps : List Board). root_positions c.self.inside.bench.state.forest ++ ps ≡ with_roots (root_positions c.self.inside.bench.state.forest) c.args.positions.now) (sym c.as_slice.ensures)
    (subst (λ (f : Forest). root_positions f ++ c.in_ok-added.added ≡ with_roots (root_positions f) c.args.positions.now) c.tree.ensures.forest c.in_ok-added.ensures.all) in
    let mid = are_beginning c.self.inside.marks c.push_puts.new.marks c.self.inside.bench c.stage_roots.new.bench c.self.inside.journal c.stage_roots.new.journal c.args.positions.now added
    c.self.invariant.within.filled marks c.in_ok-stage_roots.ensures.bench (ap (λ (l : Log g.row.D.Denot). l.disk) c.in_ok-stage_roots.ensures.journal.2) (sym c.self.invariant.within.failed ∙ unfailed) all in
    subst (λ (s : SessionState g.row.D.Denot). (is_failed s.line ≡ false) × (BeginsRoots s c.args.positions.now (entry.Broken (g.D.Disk.faults (state_of (parts_of c.commit_parts.new.marks c.commit_parts.new.due c.commit_parts.new.bench c.commit_parts.new.journal)).disk) ∷ []) (state_of (parts_of c.commit_parts.new.marks c.commit_parts.new.due c.commit_parts.new.bench c.commit_parts.new.journal)) × (((state_of (parts_of c.commit_parts.new.marks c.commit_parts.new.due c.commit_parts.new.bench c.commit_parts.new.journal)).core.state.forest ≡ s.core.state.forest) × Rose (g.D.Disk.faults s.disk) (g.D.Disk.faults (state_of (parts_of c.commit_parts.new.marks c.commit_parts.new.due c.commit_parts.new.bench c.commit_parts.new.journal)).disk)))) c.self.view_is
    (begin_refused g.D.Disk.faults _ _ (state_of (parts_of c.commit_parts.new.marks c.commit_parts.new.due c.commit_parts.new.bench c.commit_parts.new.journal)) c.args.positions.now added c.in-Err.field-0 mid c.in-Err.ensures.refused)
