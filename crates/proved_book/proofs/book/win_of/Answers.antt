use Rattle.std.proofs.Common.{inl, refl}
use Rattle.proved_book.proofs.BookLemmas.{legal_wins}
use Rattle.proved_book.proofs.TrimLaws.{trimmed_wins_are_good}
use Rattle.proved_book.proofs.book.win_of.Goals as goal

pub trim_wins-requires : goal.trim_wins-requires
trim_wins-requires g c = legal_wins (g.O.Oracle.answer_at c.args.oracle.now) c.args.part.now c.requires.good

pub prove_part-requires : goal.prove_part-requires
prove_part-requires g c =
    let both = trimmed_wins_are_good (g.O.Oracle.answer_at c.args.oracle.now) c.args.part.now c.in_ok-kept.kept c.args.p.now c.in_ok-kept.ensures c.requires.good in
    let entry = c.requires.entry in
    record { good = (both.0, (entry.0.rank, inl (both.1 entry.0.rank (entry.0, (entry.1, refl))))) }
