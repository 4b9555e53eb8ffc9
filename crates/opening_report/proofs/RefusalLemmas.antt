-- The lines of refusals are lines.
use Rattle.std.proofs.Common.{◌≡◌, ℕ, ◌<◌, ◌^◌, List, [], ◌∷◌, ◌++◌, refl, ◌∙◌, ap, append_assoc, lit<}
use Rattle.std.specs.Prelude.{codes, decimal}
use Rattle.shared_words.specs.Bytes.{Lacks}
use Rattle.opening_report.specs.Lines.{IsLine}
use Rattle.opening_report.specs.Refusals.{numbered, numbered_twice, of_game, move_words, of_part, of_entry}
use Rattle.shared_words.proofs.LackingBytes.{Lacks-append}
use Rattle.shared_words.proofs.Numerals.{Lacks-decimal}
use Rattle.opening_report.proofs.LineLemmas.{IsLine-append}

number_line : (n : ℕ) (line : List ℕ) → n < 2 ^ 64 → IsLine line → IsLine (decimal n ++ line)
number_line n line small one = IsLine-append (decimal n) line (Lacks-decimal 10 n refl small) one

pub end_is_line : IsLine (10 ∷ [])
end_is_line = ([], (refl, refl))

pub numbered_is_line : (label : List ℕ) (n : ℕ) → Lacks 10 label → n < 2 ^ 64 → IsLine (numbered label n)
numbered_is_line label n bare small = IsLine-append label (decimal n ++ 10 ∷ []) bare (number_line n (10 ∷ []) small end_is_line)

pub numbered_twice_is_line : (first : List ℕ) (a : ℕ) (second : List ℕ) (b : ℕ) → Lacks 10 first → a < 2 ^ 64 → Lacks 10 second → b < 2 ^ 64 → IsLine (numbered_twice first a second b)
numbered_twice_is_line first a second b bare small bare_too small_too =
    IsLine-append first (decimal a ++ numbered second b) bare (number_line a (numbered second b) small (numbered_is_line second b bare_too small_too))

pub game_is_bare : (game : ℕ) → game < 2 ^ 64 → Lacks 10 (codes "refused input game " ++ decimal game)
game_is_bare game small = Lacks-append 10 (codes "refused input game ") (decimal game) refl (Lacks-decimal 10 game refl small)

pub of_game_is_line : (game : ℕ) (rest : List ℕ) → game < 2 ^ 64 → IsLine rest → IsLine (of_game game rest)
of_game_is_line game rest small one = IsLine-append (codes "refused input game ") (decimal game ++ rest) refl (number_line game rest small one)

pub move_is_line : (ply place : ℕ) (wrong : List ℕ) → ply < 2 ^ 64 → place < 2 ^ 64 → IsLine wrong → IsLine (move_words ply place wrong)
move_is_line ply place wrong small_ply small_place one =
    IsLine-append (codes " ply ") (decimal ply ++ (codes " byte " ++ (decimal place ++ wrong))) refl
    (number_line ply (codes " byte " ++ (decimal place ++ wrong)) small_ply
    (IsLine-append (codes " byte ") (decimal place ++ wrong) refl (number_line place wrong small_place one)))

pub move_parts : (game ply place : ℕ) (wrong : List ℕ)
    → ((codes "refused input game " ++ decimal game) ++ (codes " ply " ++ decimal ply)) ++ (codes " byte " ++ decimal place) ++ wrong ≡ of_game game (move_words ply place wrong)
move_parts game ply place wrong =
    let front : List ℕ = codes "refused input game " ++ decimal game in
    let first : List ℕ = codes " ply " ++ decimal ply in
    let second : List ℕ = codes " byte " ++ decimal place in
    append_assoc (front ++ first) second wrong
    ∙ append_assoc front first (second ++ wrong)
    ∙ ap (λ t. front ++ t) (append_assoc (codes " ply ") (decimal ply) (second ++ wrong) ∙ ap (λ t. codes " ply " ++ (decimal ply ++ t)) (append_assoc (codes " byte ") (decimal place) wrong))
    ∙ append_assoc (codes "refused input game ") (decimal game) (move_words ply place wrong)

pub of_part_is_line : (part : ℕ) (rest : List ℕ) → part < 2 ^ 64 → IsLine rest → IsLine (of_part part rest)
of_part_is_line part rest small one = IsLine-append (codes "refused input check part ") (decimal part ++ rest) refl (number_line part rest small one)

pub of_entry_is_line : (part entry : ℕ) (wrong : List ℕ) → part < 2 ^ 64 → entry < 2 ^ 64 → IsLine wrong → IsLine (of_entry part entry wrong)
of_entry_is_line part entry wrong small small_entry one =
    of_part_is_line part (codes " entry " ++ (decimal entry ++ wrong)) small
    (IsLine-append (codes " entry ") (decimal entry ++ wrong) refl (number_line entry wrong small_entry one))

pub entry_parts : (part entry : ℕ) (wrong : List ℕ)
    → ((codes "refused input check part " ++ decimal part) ++ (codes " entry " ++ decimal entry)) ++ wrong ≡ of_entry part entry wrong
entry_parts part entry wrong =
    let front : List ℕ = codes "refused input check part " ++ decimal part in
    append_assoc front (codes " entry " ++ decimal entry) wrong
    ∙ ap (λ t. front ++ t) (append_assoc (codes " entry ") (decimal entry) wrong)
    ∙ append_assoc (codes "refused input check part ") (decimal part) (codes " entry " ++ (decimal entry ++ wrong))
