use Rattle.disk_journal.proofs.LooksLemmas.{reads_so}
use Rattle.journal_looks.proofs.reading.read_bench.Goals as goal

pub returns-clause-forest : goal.returns-clause-forest
returns-clause-forest g c honest = record {
  records = c.in_ok-read.read.bench.records;
  read = c.in_ok-read.ensures.read honest;
  forest = c.in_ok-read.ensures.forest;
}

pub returns-clause-reads : goal.returns-clause-reads
returns-clause-reads g c = reads_so g.D.Disk _ _ _ _ c.in_ok-read.ensures.reads (λ is. absurd cc)
