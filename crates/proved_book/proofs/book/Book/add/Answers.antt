use Rattle.std.proofs.Common.{arith}
use Rattle.proved_book.proofs.Adding.{due_parts, map_ok, part_good, takes_two_of}
use Rattle.proved_book.proofs.book.Book.add.Goals as goal

pub take-requires-clause-good : goal.take-requires-clause-good
take-requires-clause-good c =
    part_good c.args.proved c.into_certificate-certificate.result c.into_certificate-certificate.ensures.value c.into_certificate-certificate.ensures.good
    c.args.self.now.pieces c.requires c.as_slice-parts.result.now c.as_slice-parts.ensures 0 c.index-parts-0.result (let one = c.if-parts-eq1.true in omega arith) c.index-parts-0.is

pub take_both-requires-clause-good : goal.take_both-requires-clause-good
take_both-requires-clause-good c =
    let due = due_parts c.args.proved c.into_certificate-certificate.result c.into_certificate-certificate.ensures.value c.into_certificate-certificate.ensures.good c.args.self.now.pieces c.requires c.as_slice-parts.result.now c.as_slice-parts.ensures in
    let two = due.more c.if-parts-eq1.false in
    part_good c.args.proved c.into_certificate-certificate.result c.into_certificate-certificate.ensures.value c.into_certificate-certificate.ensures.good
    c.args.self.now.pieces c.requires c.as_slice-parts.result.now c.as_slice-parts.ensures 0 c.index-parts-0-2.result (omega (arith, two)) c.index-parts-0-2.is

pub take_both-requires-clause-good_too : goal.take_both-requires-clause-good_too
take_both-requires-clause-good_too c =
    let due = due_parts c.args.proved c.into_certificate-certificate.result c.into_certificate-certificate.ensures.value c.into_certificate-certificate.ensures.good c.args.self.now.pieces c.requires c.as_slice-parts.result.now c.as_slice-parts.ensures in
    let two = due.more c.if-parts-eq1.false in
    part_good c.args.proved c.into_certificate-certificate.result c.into_certificate-certificate.ensures.value c.into_certificate-certificate.ensures.good
    c.args.self.now.pieces c.requires c.as_slice-parts.result.now c.as_slice-parts.ensures 1 c.index-parts-1.result (omega (arith, two)) c.index-parts-1.is

pub returns-clause-added : goal.returns-clause-added
returns-clause-added c =
    map_ok c.take_both.result
    (takes_two_of c.args.proved c.into_certificate-certificate.result c.into_certificate-certificate.ensures.value c.into_certificate-certificate.ensures.good
    c.args.self.now.pieces c.requires c.as_slice-parts.result.now c.as_slice-parts.ensures c.index-parts-0-2.result c.index-parts-1.result c.args.self.now c.take_both.new.self
    c.if-parts-eq1.false c.index-parts-0-2.is c.index-parts-1.is)
    c.take_both.ensures.added
