use Rattle.std.proofs.Common.{◌≡◌, not, rules}
use Rattle.archive_words.specs.Tags.{is_name_byte}
use Rattle.std.specs.List.{position}
use Rattle.std.proofs.lemmas.Iterator.{YieldsList-from_slice}
use Rattle.std.proofs.lemmas.Iterator.Search.{position_from_yields_List}
use borrow.Author.Tests.{tests}
use Rattle.archive_words.proofs.FirstPlaces.{place_or_end}
use Rattle.archive_words.proofs.tags.name_len.Goals as goal

pub returns-clause-value : goal.returns-clause-value
returns-clause-value c =
    let found : c.position.result ≡ position (λ b. not (is_name_byte b)) c.args.text.now =
    position_from_yields_List (λ b. not (is_name_byte b)) _ _ c.position.result c.position.ensures.ran (YieldsList-from_slice c.args.text.now cc) (λ x b q k. search (rules, tests)) in
    let place = place_or_end (λ b. not (is_name_byte b)) c.args.text.now in
    cc
