use Rattle.std.proofs.Common.{◌≡◌, length, reverse, rules}
use Rattle.archive_words.specs.Tags.{is_ink}
use Rattle.std.specs.List.{position}
use Rattle.std.proofs.lemmas.List.{length-reverse}
use Rattle.std.proofs.lemmas.Iterator.Adapters.{YieldsList-from_rev_slice}
use Rattle.std.proofs.lemmas.Iterator.Search.{position_from_yields_List}
use borrow.Author.Tests.{tests}
use Rattle.archive_words.proofs.FirstPlaces.{place_or_end}
use Rattle.archive_words.proofs.tags.blanks_at_end.Goals as goal

pub returns-clause-value : goal.returns-clause-value
returns-clause-value c =
    let found : c.position.result ≡ position is_ink (reverse c.args.text.now) =
    position_from_yields_List is_ink _ _ c.position.result c.position.ensures.ran (YieldsList-from_rev_slice c.args.text.now cc) (λ x b q k. search (rules, tests)) in
    let place = place_or_end is_ink (reverse c.args.text.now) in
    let long : length (reverse c.args.text.now) ≡ length c.args.text.now = length-reverse c.args.text.now in
    cc
