use Rattle.std.proofs.Common.{rules}
use Rattle.bench_edges.specs.Words.{texts}
use Rattle.view_words.specs.Words.{IsRefusedAt}
use Rattle.view_words.proofs.Readings.{line_more, line_plies, line_rootless, line_said}
use Rattle.view_words.proofs.commands.read_line.Goals as goal

pub returns-in_err-root-clause-refused : goal.returns-in_err-root-clause-refused
returns-in_err-root-clause-refused c =
    let words = texts c.args.words.now in
    let refused : IsRefusedAt words c.in_err-root.field-0.0.at =
    line_rootless words c.requires c.in_err-root.ensures.other c.in_err-root.field-0.0.at c.in_err-root.ensures.place in
    search (rules, refused)

pub returns-in_err-plies-clause-refused : goal.returns-in_err-plies-clause-refused
returns-in_err-plies-clause-refused c =
    let words = texts c.args.words.now in
    let refused : IsRefusedAt words c.in_err-plies.field-0.0.at =
    line_plies words c.requires c.in_ok-root.root c.in_ok-root.ensures.read c.in_err-plies.ensures.other c.in_err-plies.field-0.0.at c.in_err-plies.ensures.place in
    search (rules, refused)

pub returns-in_err-end_at-clause-refused : goal.returns-in_err-end_at-clause-refused
returns-in_err-end_at-clause-refused c =
    let words = texts c.args.words.now in
    let refused : IsRefusedAt words c.in_err-end_at.field-0.0.at =
    line_more words c.requires c.in_ok-root.root c.in_ok-root.ensures.read
    c.in_ok-plies.plies c.behind_option-after_plies.result c.in_ok-plies.ensures.read c.behind_option-after_plies.ensures.some c.behind_option-after_plies.ensures.none
    c.in_err-end_at.ensures.more c.in_err-end_at.field-0.0.at c.in_err-end_at.ensures.place in
    search (rules, refused)

pub returns-clause-request : goal.returns-clause-request
returns-clause-request c =
    line_said (texts c.args.words.now) c.requires c.in_ok-root.root c.in_ok-root.ensures.read
    c.in_ok-plies.plies c.behind_option-after_plies.result c.in_ok-plies.ensures.read c.behind_option-after_plies.ensures.some c.behind_option-after_plies.ensures.none
    c.in_ok-end_at.ensures.end
