use Rattle.std.proofs.Common.{◌≡◌, ◌<◌, ◌≤◌, length, drop, subst, sym}
use Rattle.pdn_text.specs.Grammar.{IsItemOfText, IsStop, form_at}
use Rattle.pdn_text.specs.declared.items.Item.{Item}
use Rattle.source_warnings.specs.Games.{first_game}
use Rattle.source_warnings.specs.Items.{kind_of}
use Rattle.source_warnings.proofs.Steps.{IsRead, Keeps, kept_only, none_holds, read_all, read_nothing, read_on, read_run, some_holds, told_inside}
use Rattle.source_warnings.proofs.scan.warnings_of.Goals as goal

pub loop-found-init : goal.loop-found-init
loop-found-init c =
    subst (λ game. IsRead c.args.source.now c.args.asked c.behind_skipped-at.result game c.new-found.result) (sym c.first_game-game.ensures)
    (read_run c.args.source.now c.args.asked c.beginning-first.result c.behind_skipped-at.result first_game c.new-found.result c.behind_skipped-at.ensures.value
    (read_nothing c.args.source.now c.args.asked c.beginning-first.result c.new-found.result c.beginning-first.ensures.value c.beginning-first.ensures.inside c.new-found.ensures))

pub loop-found-preserved : goal.loop-found-preserved
loop-found-preserved c =
    let source = c.args.source.now in
    let at = c.loop-found.at in
    let found = c.in_ok-end.field-0 in
    let item : Item = c.in-Some.field-0 in
    let kind : c.sign_kind-kind.result ≡ kind_of source at item = cc in
    read_run source c.args.asked item.end c.behind_skipped-next.result c.after-game.result c.keep-in-Some.new.self c.behind_skipped-next.ensures.value (
    read_on source c.args.asked at c.loop-found.game c.after-game.result c.loop-found.found c.keep.new.self c.keep-in-Some.new.self item c.sign_kind-kind.result c.on_ending.result c.on_item.result c.loop-found.invariant
    (some_holds (IsItemOfText (form_at source at) at (drop at source)) found item c.in-Some.is c.in_ok-end.ensures.stands)
    (some_holds (λ i. at < i.end) found item c.in-Some.is c.in_ok-end.ensures.onward)
    (some_holds (λ i. i.end ≤ length source) found item c.in-Some.is c.in_ok-end.ensures.inside)
    kind c.on_ending.ensures c.on_item.ensures c.after-game.ensures c.in_ok-keep.ensures c.in_ok-keep-2.ensures)

pub returns-clause-exact : goal.returns-clause-exact
returns-clause-exact c =
    let source = c.args.source.now in
    let at = c.loop-found.at in
    let last = subst (λ w. Keeps c.loop-found.found w c.keep-2.new.self) c.on_end.ensures c.in_ok-keep-3.ensures in
    let stop = none_holds (IsStop source at) c.in_ok-end.field-0 c.in_default.not-Some c.in_ok-end.ensures.stop in
    read_all source c.args.asked at c.loop-found.game c.loop-found.found c.keep-2.new.self c.loop-found.invariant stop last

pub returns-clause-only : goal.returns-clause-only
returns-clause-only c =
    let source = c.args.source.now in
    let at = c.loop-found.at in
    let last = subst (λ w. Keeps c.loop-found.found w c.keep-2.new.self) c.on_end.ensures c.in_ok-keep-3.ensures in
    let stop = none_holds (IsStop source at) c.in_ok-end.field-0 c.in_default.not-Some c.in_ok-end.ensures.stop in
    kept_only source c.args.asked c.keep-2.new.self (read_all source c.args.asked at c.loop-found.game c.loop-found.found c.keep-2.new.self c.loop-found.invariant stop last)

pub returns-clause-inside : goal.returns-clause-inside
returns-clause-inside c =
    let last = subst (λ w. Keeps c.loop-found.found w c.keep-2.new.self) c.on_end.ensures c.in_ok-keep-3.ensures in
    told_inside c.args.source.now c.args.asked c.loop-found.at c.loop-found.game c.loop-found.found c.keep-2.new.self c.loop-found.invariant last
