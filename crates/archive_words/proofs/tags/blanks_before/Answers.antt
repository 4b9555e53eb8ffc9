use Rattle.std.proofs.Common.{◌≡◌, rules}
use Rattle.archive_words.specs.Tags.{is_ink}
use Rattle.std.specs.List.{position}
use Rattle.std.proofs.lemmas.Iterator.{YieldsList-from_slice}
use Rattle.std.proofs.lemmas.Iterator.Search.{position_from_yields_List}
use borrow.Author.Tests.{tests}
use Rattle.archive_words.proofs.FirstPlaces.{place_or_end}
use Rattle.archive_words.proofs.tags.blanks_before.Goals as goal

pub returns-clause-value : goal.returns-clause-value
returns-clause-value c =
    let found : c.position.result ≡ position is_ink c.args.text.now =
    position_from_yields_List is_ink _ _ c.position.result c.position.ensures.ran (YieldsList-from_slice c.args.text.now cc) (λ x b q k. search (rules, tests)) in
    let place = place_or_end is_ink c.args.text.now in
    cc
