use Rattle.std.proofs.Common.{◌≡◌, ◌++◌, drop}
use Rattle.archive_words.specs.Tags.{unescaped, unescaped_from}
use Rattle.archive_words.proofs.tags.unescaped.Given as goal

-- the text so far, and what is made of the bytes that are left
abbrev pub invariant-loop-b : goal.invariant-loop-b
invariant-loop-b l =
    l.text.items ++ unescaped_from l.is_escaped (drop l.b-index l.value) ≡ unescaped l.value
