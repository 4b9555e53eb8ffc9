use Rattle.std.proofs.Common.{rules, ◌≡◌, ◌<◌, ◌+◌, ◌-◌, ◌++◌, ◌∷◌, [], take, drop, length, arith, ap, sym, ◌∙◌, subst, false}
use Rattle.std.specs.List.{AllByRecursion as Each}
use Rattle.std.proofs.lemmas.List.{take_more}
use Rattle.draughts_board.specs.Board.{Board}
use Rattle.disk_journal.specs.Log.{Log}
use Rattle.bench_core.specs.Records.{is_work}
use Rattle.bench_core.specs.Cores.{Core}
use Rattle.tree_manager.proofs.RootLemmas.{begins_last, journal_back, next_has_room, next_is_new, none_yet, one_staged, texts_staged}
use Rattle.tree_manager.proofs.roots.stage_roots.Goals as goal

pub loop-count-init : goal.loop-count-init
loop-count-init g c = none_yet c.args.bench.now c.args.journal.now c.requires.grows

pub stage_root-requires-clause-absent : goal.stage_root-requires-clause-absent
stage_root-requires-clause-absent g c =
    let within : c.loop-count.count < length c.args.added.now = search rules in
    next_is_new c.args.bench.now c.loop-count.bench c.args.added.now c.loop-count.count c.index-added-count.result c.loop-count.invariant.core_is c.requires.new within c.index-added-count.is

pub stage_root-requires-clause-room : goal.stage_root-requires-clause-room
stage_root-requires-clause-room g c =
    let within : c.loop-count.count < length c.args.added.now = search rules in
    next_has_room c.args.bench.now c.loop-count.bench c.args.added.now c.loop-count.count c.loop-count.invariant.core_is c.requires.room within

pub forget_roots-requires-clause-texts : goal.forget_roots-requires-clause-texts
forget_roots-requires-clause-texts g c =
    let within : c.loop-count.count < length c.args.added.now = search rules in
    let count = (texts_staged c.args.bench.now c.loop-count.bench c.args.journal.now c.loop-count.journal c.args.added.now c.loop-count.count c.loop-count.invariant within).0 in
    omega (arith, ap (λ (l : Log g.row.D.Denot). length l.staged) c.in-Err.ensures.journal_stays, count)

pub forget_roots-requires-clause-roots : goal.forget_roots-requires-clause-roots
forget_roots-requires-clause-roots g c =
    let within : c.loop-count.count < length c.args.added.now = search rules in
    subst (λ (x : Core). Each (λ r. is_work r ≡ false) (drop (length x.staged - c.loop-count.count) x.staged)) (sym c.in-Err.ensures.bench_stays)
    (begins_last c.args.bench.now c.loop-count.bench c.args.journal.now c.loop-count.journal c.args.added.now c.loop-count.count c.loop-count.invariant within)

pub returns-in-Err-clause-journal_stays : goal.returns-in-Err-clause-journal_stays
returns-in-Err-clause-journal_stays g c =
    let within : c.loop-count.count < length c.args.added.now = search rules in
    journal_back c.args.bench.now c.loop-count.bench c.args.journal.now c.loop-count.journal c.forget_roots.new.journal c.args.added.now c.loop-count.count c.loop-count.invariant within
    (c.forget_roots.ensures.journal ∙ ap (λ (l : Log g.row.D.Denot). record l { staged = take (length l.staged - c.loop-count.count) l.staged }) c.in-Err.ensures.journal_stays)

pub loop-count-preserved : goal.loop-count-preserved
loop-count-preserved g c =
    let within : c.loop-count.count < length c.args.added.now = search rules in
    let p : Board = c.index-added-count.result in
    let more : take (c.loop-count.count + 1) c.args.added.now ≡ take c.loop-count.count c.args.added.now ++ p ∷ [] =
    take_more c.args.added.now c.loop-count.count p within ∙ ap (λ (q : Board). take c.loop-count.count c.args.added.now ++ q ∷ []) (sym c.index-added-count.is) in
    one_staged c.args.bench.now c.loop-count.bench c.stage_root.new.bench c.args.journal.now c.loop-count.journal c.stage_root.new.journal (take c.loop-count.count c.args.added.now) (take (c.loop-count.count + 1) c.args.added.now) p
    c.loop-count.invariant more c.in_default.ensures.bench c.in_default.ensures.may c.in_default.ensures.grows c.in_default.ensures.journal
