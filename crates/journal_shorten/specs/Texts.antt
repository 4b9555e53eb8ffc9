-- The line that a run writes.
use Rattle.std.specs.Prelude.{ℕ, List, [], ◌∷◌, ◌++◌, codes, decimal}
use Rattle.journal_shortening.specs.declared.choosing.Chosen.{Chosen}
use Rattle.journal_shortening.specs.declared.choosing.Chosen.TheVariants.{Old, New}
use Rattle.journal_shortening.specs.declared.sizes.Sizes.{Sizes}
use Rattle.journal_shorten.specs.declared.ended.Answer.{Answer}
use Rattle.journal_shorten.specs.declared.ended.Answer.TheVariants as answer

-- the numbers of the roots of both journals, of the records of the old one, and of those of the new one
abbrev pub sizes_line : Sizes → List ℕ
sizes_line sizes = codes "roots " ++ (decimal sizes.roots ++ (codes " records " ++ (decimal sizes.before
    ++ (codes " to " ++ (decimal sizes.after ++ 10 ∷ [])))))

-- the journal that counts
abbrev pub chosen_line : Chosen → List ℕ
chosen_line Old = codes "old\n"
chosen_line New = codes "new\n"

abbrev pub answer_line : Answer → List ℕ
answer_line (answer.Shorter sizes) = sizes_line sizes
answer_line (answer.Chosen chosen) = chosen_line chosen
