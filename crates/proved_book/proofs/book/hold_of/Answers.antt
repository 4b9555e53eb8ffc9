use Rattle.std.proofs.Common.{inl}
use Rattle.proved_book.proofs.BookLemmas.{legal_holds}
use Rattle.proved_book.proofs.TrimLaws.{trimmed_holds_are_good}
use Rattle.proved_book.proofs.book.hold_of.Goals as goal

pub trim_holds-requires : goal.trim_holds-requires
trim_holds-requires g c = legal_holds (g.O.Oracle.answer_at c.args.oracle.now) c.args.part.now c.requires.good

pub prove_part-requires : goal.prove_part-requires
prove_part-requires g c =
    let both = trimmed_holds_are_good (g.O.Oracle.answer_at c.args.oracle.now) c.args.part.now c.in_ok-kept.kept c.args.p.now c.in_ok-kept.ensures c.requires.good in
    record { good = (both.0, inl (both.1 c.requires.entry)) }
