use Rattle.std.proofs.Common.{rules}
use Rattle.std.proofs.lemmas.Iterator.{YieldsList-from_slice}
use Rattle.std.proofs.lemmas.Iterator.Search.{find_from_yields_List}
use Rattle.std.specs.Str.{bytes_eq}
use borrow.Author.Tests.{tests}
use Rattle.archive_records.specs.declared.game.ArchiveTag.{ArchiveTag}
use Rattle.game_reader.proofs.telling.tag_named.Goals as goal

pub returns : goal.returns
returns c =
    find_from_yields_List (λ (tag : ArchiveTag). bytes_eq tag.name.items c.args.name.now) _ _ c.find.result c.find.ensures.ran (YieldsList-from_slice c.args.game.now.tags.items cc) (λ x b q k. search (rules, tests))
