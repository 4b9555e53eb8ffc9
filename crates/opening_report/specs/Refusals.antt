-- The one line that a refused run writes.
use Rattle.std.specs.Prelude.{ℕ, List, [], ◌∷◌, ◌++◌, codes, decimal}
use Rattle.draughts_board.specs.declared.pieces.Side.TheVariants.{Black, White}
use Rattle.fen_text.specs.declared.refusal.FenRefusal.{FenRefusal}
use Rattle.fen_text.specs.declared.refusal.FenRefusal.TheVariants.{BadLetter, BadSquare, Twice, TooMany, ManOnLastRow, Truncated}
use Rattle.opening_report.specs.declared.refusals.Refusal.{Refusal}
use Rattle.opening_report.specs.declared.refusals.Refusal.TheVariants as refusal

-- a label, a number and the line end
abbrev pub numbered : List ℕ → ℕ → List ℕ
numbered label n = label ++ (decimal n ++ 10 ∷ [])

-- a label and a number, twice, and the line end
abbrev pub numbered_twice : List ℕ → ℕ → List ℕ → ℕ → List ℕ
numbered_twice first a second b = first ++ (decimal a ++ numbered second b)

-- `refused input game G` and what follows
abbrev pub of_game : ℕ → List ℕ → List ℕ
of_game game rest = codes "refused input game " ++ (decimal game ++ rest)

-- why the FEN of a game is none
abbrev pub fen_words : FenRefusal → List ℕ
fen_words (BadLetter at) = numbered (codes " fen bad-letter ") at
fen_words (BadSquare at) = numbered (codes " fen bad-square ") at
fen_words (Twice square) = numbered (codes " fen twice ") square
fen_words (TooMany Black) = codes " fen too-many black\n"
fen_words (TooMany White) = codes " fen too-many white\n"
fen_words (ManOnLastRow square) = numbered (codes " fen man-on-last-row ") square
fen_words Truncated = codes " fen truncated\n"

-- `ply P byte A` and what is wrong with the move
abbrev pub move_words : ℕ → ℕ → List ℕ → List ℕ
move_words ply at wrong =
    codes " ply " ++ (decimal ply ++ (codes " byte " ++ (decimal at ++ wrong)))

-- `refused input check part P` and what follows
abbrev pub of_part : ℕ → List ℕ → List ℕ
of_part part rest = codes "refused input check part " ++ (decimal part ++ rest)

-- `refused input check part P entry E` and what is wrong with the entry
abbrev pub of_entry : ℕ → ℕ → List ℕ → List ℕ
of_entry part entry wrong = of_part part (codes " entry " ++ (decimal entry ++ wrong))

abbrev pub refusal_text : Refusal → List ℕ
refusal_text (refusal.Words at) = numbered (codes "refused words at ") at
refusal_text refusal.TooLong = codes "refused input too-long\n"
refusal_text (refusal.PdnBadByte at) = numbered (codes "refused input pdn bad-byte ") at
refusal_text (refusal.PdnOpenTag at) = numbered (codes "refused input pdn open-tag ") at
refusal_text (refusal.PdnOpenComment at) = numbered (codes "refused input pdn open-comment ") at
refusal_text (refusal.PdnOpenVariation at) = numbered (codes "refused input pdn open-variation ") at
refusal_text (refusal.PdnBadMove at) = numbered (codes "refused input pdn bad-move ") at
refusal_text refusal.PdnTooManyGames = codes "refused input pdn too-many-games\n"
refusal_text (refusal.OtherGame game) = of_game game (codes " other-game\n")
refusal_text (refusal.Fen game fault) = of_game game (fen_words fault)
refusal_text (refusal.Illegal game ply at) = of_game game (move_words ply at (codes " illegal\n"))
refusal_text (refusal.Ambiguous game ply at) =
    of_game game (move_words ply at (codes " ambiguous\n"))
refusal_text (refusal.TextBadLine n) = numbered (codes "refused input certificate bad-line ") n
refusal_text (refusal.TextBadFen n) = numbered (codes "refused input certificate bad-fen ") n
refusal_text (refusal.TextDoubled n) = numbered (codes "refused input certificate doubled ") n
refusal_text (refusal.TextAfterEnd n) = numbered (codes "refused input certificate after-end ") n
refusal_text refusal.TextTruncated = codes "refused input certificate truncated\n"
refusal_text refusal.ClaimNotMet = codes "refused input check claim-not-met\n"
refusal_text (refusal.BadRank part entry) = of_entry part entry (codes " bad-rank\n")
refusal_text (refusal.BadMove part entry) = of_entry part entry (codes " bad-move\n")
refusal_text (refusal.Missing part entry) = of_entry part entry (codes " missing\n")
refusal_text (refusal.StuckHolder part entry) = of_entry part entry (codes " stuck-holder\n")
refusal_text (refusal.CheckNoRoot part) = of_part part (codes " no-root\n")
refusal_text refusal.TableBadHead = codes "refused input table bad-head\n"
refusal_text (refusal.TableWrongLength found due) =
    numbered_twice (codes "refused input table wrong-length found ") found (codes " due ") due
refusal_text (refusal.TableBadEntry index kept) =
    numbered_twice (codes "refused input table bad-entry ") index (codes " kept ") kept
refusal_text refusal.TooManyRoots = codes "refused input too-many-roots\n"
refusal_text (refusal.NoRoot n) = numbered (codes "refused input no-root ") n
refusal_text (refusal.UnsettledRoot n) = numbered (codes "refused input unsettled-root ") n
refusal_text (refusal.RootExpanded n) = numbered (codes "refused input root-expanded ") n
refusal_text refusal.Disk = codes "refused disk\n"
refusal_text refusal.NotAJournal = codes "refused journal not-a-journal\n"
refusal_text (refusal.OtherTable found asked) =
    numbered_twice (codes "refused journal other-table found ") found (codes " asked ") asked
refusal_text (refusal.Damaged at) = numbered (codes "refused journal damaged byte ") at
refusal_text refusal.Memory = codes "refused memory\n"
refusal_text refusal.Read = codes "refused read\n"
