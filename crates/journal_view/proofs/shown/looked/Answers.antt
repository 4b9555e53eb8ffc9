use Rattle.journal_view.proofs.ShownLemmas.{line_asked, page_asked, records_asked, roots_asked, tree_asked}
use Rattle.journal_view.proofs.shown.looked.Goals as goal

pub returns-in-Roots : goal.returns-in-Roots
returns-in-Roots g c =
    rw c.in-Roots.is (record {
      shows = roots_asked g.D.Disk c.args.games.now c.args.disk.now c.in-Roots.asked c.roots.result c.roots.ensures.shows c.roots.ensures.values;
      refused = c.roots.ensures.refused;
      causes = c.roots.ensures.causes;
      accepted = λ honest good. c.roots.ensures.accepted honest good.0 good.1.0 good.1.1;
      reads = c.roots.ensures.reads;
    })

pub returns-in-Line : goal.returns-in-Line
returns-in-Line g c =
    rw c.in-Line.is (record {
      shows = line_asked g.D.Disk c.args.games.now c.args.disk.now c.in-Line.asked c.line.result c.line.ensures.shows c.line.ensures.settled;
      refused = c.line.ensures.refused;
      causes = c.line.ensures.causes;
      accepted = c.line.ensures.accepted;
      reads = c.line.ensures.reads;
    })

pub returns-in-Tree : goal.returns-in-Tree
returns-in-Tree g c =
    rw c.in-Tree.is (record {
      shows = tree_asked g.D.Disk c.args.games.now c.args.disk.now c.in-Tree.asked c.tree.result c.tree.ensures.shows c.tree.ensures.values c.tree.ensures.settled;
      refused = c.tree.ensures.refused;
      causes = c.tree.ensures.causes;
      accepted = c.tree.ensures.accepted;
      reads = c.tree.ensures.reads;
    })

pub returns-in-Records : goal.returns-in-Records
returns-in-Records g c =
    rw c.in-Records.is (record {
      shows = records_asked g.D.Disk c.args.games.now c.args.disk.now c.in-Records.asked c.records.result c.records.ensures.shows c.records.ensures.values c.records.ensures.settled;
      refused = c.records.ensures.refused;
      causes = c.records.ensures.causes;
      accepted = λ honest good. c.records.ensures.accepted honest good.0 good.1.0 good.1.1;
      reads = c.records.ensures.reads;
    })

pub returns-in-Page : goal.returns-in-Page
returns-in-Page g c =
    rw c.in-Page.is (record {
      shows = page_asked g.D.Disk c.args.games.now c.args.disk.now c.in-Page.asked c.page.result c.page.ensures.shows c.page.ensures.values;
      refused = c.page.ensures.refused;
      causes = c.page.ensures.causes;
      accepted = c.page.ensures.accepted;
      reads = c.page.ensures.reads;
    })
