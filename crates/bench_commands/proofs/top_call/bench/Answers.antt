use Rattle.bench_edges.specs.Words.{texts}
use Rattle.bench_commands.proofs.top_call.bench.Goals as goal

pub returns : goal.returns
returns g c =
    let ran = c.run-ended.ensures.runs (texts c.args.words.now) (record {
      says = c.read_words-said.ensures.command;
      each_command = c.read_words-said.ensures.each_command;
      refused = c.read_words-said.ensures.refused;
    }) in
    record {
      values = ran.values;
      openings = ran.openings;
      does = ran.does;
      refused = ran.refused;
      leaves = ran.leaves;
      unused = ran.unused;
      words = ran.words;
      accepted = ran.accepted;
      ample = ran.ample;
      reached = ran.reached;
      accepted_generated = ran.accepted_generated;
      ample_generated = ran.ample_generated;
      settled_generated = ran.settled_generated;
      accepted_certificates = ran.accepted_certificates;
      accepted_tables = ran.accepted_tables;
      accepted_reports = ran.accepted_reports;
      accepted_roots = ran.accepted_roots;
      accepted_pieces = ran.accepted_pieces;
      looked = ran.looked;
      accepted_lessons = ran.accepted_lessons;
      taught = ran.taught;
      read = ran.read;
      write = ran.write;
      fault = ran.fault;
      all_read = ran.all_read;
      front = ran.front;
      unread = ran.unread;
      unread_by_words = ran.unread_by_words;
    }
