use Rattle.std.proofs.Common.{rules}
use Rattle.bench_edges.specs.Words.{texts}
use Rattle.view_words.specs.Words.{IsRefusedAt}
use Rattle.view_words.proofs.Readings.{page_more, page_nodes, page_said}
use Rattle.view_words.proofs.commands.read_page.Goals as goal

pub returns-in_err-nodes-clause-refused : goal.returns-in_err-nodes-clause-refused
returns-in_err-nodes-clause-refused c =
    let words = texts c.args.words.now in
    let refused : IsRefusedAt words c.in_err-nodes.field-0.0.at =
    page_nodes words c.requires
    c.found_at-root.result c.behind_number-after_root.result c.found_at-root.ensures c.behind_number-after_root.ensures.some c.behind_number-after_root.ensures.none
    c.in_err-nodes.ensures.other c.in_err-nodes.field-0.0.at c.in_err-nodes.ensures.place in
    search (rules, refused)

pub returns-in_err-end_at-clause-refused : goal.returns-in_err-end_at-clause-refused
returns-in_err-end_at-clause-refused c =
    let words = texts c.args.words.now in
    let refused : IsRefusedAt words c.in_err-end_at.field-0.0.at =
    page_more words c.requires
    c.found_at-root.result c.behind_number-after_root.result c.found_at-root.ensures c.behind_number-after_root.ensures.some c.behind_number-after_root.ensures.none
    c.in_ok-nodes.nodes c.behind_option-after_nodes.result c.in_ok-nodes.ensures.read c.behind_option-after_nodes.ensures.some c.behind_option-after_nodes.ensures.none
    c.in_err-end_at.ensures.more c.in_err-end_at.field-0.0.at c.in_err-end_at.ensures.place in
    search (rules, refused)

pub returns-clause-request : goal.returns-clause-request
returns-clause-request c =
    page_said (texts c.args.words.now) c.requires
    c.found_at-root.result c.behind_number-after_root.result c.found_at-root.ensures c.behind_number-after_root.ensures.some c.behind_number-after_root.ensures.none
    c.in_ok-nodes.nodes c.behind_option-after_nodes.result c.in_ok-nodes.ensures.read c.behind_option-after_nodes.ensures.some c.behind_option-after_nodes.ensures.none
    c.in_ok-end_at.ensures.end
