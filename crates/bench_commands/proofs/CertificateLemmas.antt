-- In the text of a certificate no `o` follows an `r`, so that it says no root.
use Rattle.std.proofs.Common.{◌≡◌, ◌≢◌, ℕ, ◌<◌, ◌^◌, Bool, true, false, not, ◌&&◌, ◌==◌, List, [], ◌∷◌, ◌++◌, Option, None, Some, refl, sym, ◌∙◌, ap, subst, arith, append_assoc, append-nil, cond}
use Rattle.std.specs.Prelude.{codes, decimal, All, IfSome, IfOk, Result, Ok, Err, map}
use Rattle.std.specs.List.{flat_map}
use Rattle.std.proofs.lemmas.Bool.{and_parts, false≢true}
use Rattle.std.proofs.lemmas.Grind.{common_steps}
use Rattle.std.proofs.lemmas.List.Elements.{All-head, All-tail}
use Rattle.shared_words.specs.Bytes.{Lacks}
use Rattle.shared_words.proofs.LackingBytes.{Lacks-first, Lacks-rest, Lacks-append, Lacks-cons}
use Rattle.shared_words.proofs.Numerals.{Lacks-decimal}
use Rattle.draughts_board.specs.Board.{Board}
use Rattle.draughts_board.specs.Geometry.{IsSquare}
use Rattle.draughts_board.specs.declared.pieces.Side.{Side}
use Rattle.draughts_board.specs.declared.pieces.Side.TheVariants.{Black, White}
use Rattle.fen_text.specs.Printed.{fen_of}
use Rattle.fen_text.proofs.Plain.{Lacks-fen}
use Rattle.strategy_certificate.specs.declared.entries.WinEntry.{WinEntry}
use Rattle.strategy_certificate.specs.declared.claims.Claim.{Claim}
use Rattle.strategy_certificate.specs.declared.claims.Claim.TheVariants as claims
use Rattle.strategy_certificate.specs.declared.certificates.Part.{Part}
use Rattle.strategy_certificate.specs.declared.certificates.Part.TheVariants as parts
use Rattle.strategy_certificate.specs.declared.certificates.Certificate.{Certificate}
use Rattle.strategy_certificate.specs.Parts.{IsPath, IsWinRow, IsHoldRow}
use Rattle.certificate_text.specs.Lines.{Line, end, line_text, text_of_lines, side_word, claim_word, choice_text, move_text, squares_text, further_squares, separator}
use Rattle.certificate_text.specs.Text.{win_line, hold_line, part_lines, lines_of, open_lines, head_lines, text_of_certificate, IsPrinted, IsPrintedPart, ReadsAs}
use Rattle.opening_report.proofs.ReportLemmas.{no_root-is_true, text_without_roots_says_none}
use Rattle.bench_commands.specs.Steps.{SaysTrue}

-- ---- texts in which no `o` (111) follows an `r` (114)

begins_o : List ℕ → Bool
begins_o [] = false
begins_o (y ∷ rest) = y == 111

no_ro : List ℕ → Bool
no_ro [] = true
no_ro (x ∷ rest) = not (x == 114 && begins_o rest) && no_ro rest

no_root : (before after : List ℕ) → no_ro (before ++ (codes "root " ++ after)) ≡ true → ⊥
unfolding no_ro begins_o
no_root [] after h = false≢true h
no_root (x ∷ before) after h = no_root before after (and_parts (not (x == 114 && begins_o (before ++ (codes "root " ++ after)))) (no_ro (before ++ (codes "root " ++ after))) h).1

-- a line that has none, with its end, and a text that has none
behind_line : (line text : List ℕ) → no_ro (line ++ 10 ∷ []) ≡ true → no_ro text ≡ true → no_ro (line ++ 10 ∷ text) ≡ true
unfolding no_ro begins_o
behind_line [] text h k = k
behind_line (x ∷ []) text h k = grind (arith, common_steps)
behind_line (x ∷ y ∷ line) text h k =
    let two = and_parts (not (x == 114 && y == 111)) (no_ro ((y ∷ line) ++ 10 ∷ [])) h in
    let rest = behind_line (y ∷ line) text two.1 k in
    ap (λ b. b && no_ro ((y ∷ line) ++ 10 ∷ text)) two.0 ∙ rest

-- a line without `r`
without_r : (line : List ℕ) → Lacks 114 line → no_ro (line ++ 10 ∷ []) ≡ true
unfolding no_ro begins_o
without_r [] h = refl
without_r (x ∷ line) h =
    let other : (x == 114) ≡ false = not_eq x 114 (Lacks-first 114 x line h) in
    ap (λ b. not (b && begins_o (line ++ 10 ∷ [])) && no_ro (line ++ 10 ∷ [])) other ∙ without_r line (Lacks-rest 114 x line h)
  where
    not_eq : (a b : ℕ) → a ≢ b → (a == b) ≡ false
    not_eq a b apart = grind (arith, common_steps)

-- ---- the lines of a certificate

decimal_lacks_r : (n : ℕ) → n < 2 ^ 64 → Lacks 114 (decimal n)
decimal_lacks_r n few = Lacks-decimal 114 n refl few

side_lacks : (side : Side) → Lacks 114 (side_word side)
side_lacks Black = refl
side_lacks White = refl

further_lacks : (sep : ℕ) (squares : List ℕ) → sep ≢ 114 → All IsSquare squares → Lacks 114 (further_squares sep squares)
further_lacks sep [] apart all = refl
further_lacks sep (n ∷ squares) apart all =
    let one = All-head IsSquare n squares all in
    Lacks-append 114 (sep ∷ decimal n) (further_squares sep squares) (Lacks-cons 114 sep (decimal n) apart (decimal_lacks_r n (omega arith))) (further_lacks sep squares apart (All-tail IsSquare n squares all))

sep_is_no_r : (path : List ℕ) → separator path ≢ 114
sep_is_no_r [] e = omega (arith, e)
sep_is_no_r (a ∷ []) e = omega (arith, e)
sep_is_no_r (a ∷ b ∷ path) e = by _ e
  where
    by : (same : Bool) → ◌≢◌ {A = ℕ} (cond same 120 45) 114
    by true e = omega (arith, e)
    by false e = omega (arith, e)

squares_lack : (sep : ℕ) (path : List ℕ) → sep ≢ 114 → All IsSquare path → Lacks 114 (squares_text sep path)
squares_lack sep [] apart all = refl
squares_lack sep (a ∷ squares) apart all =
    let one = All-head IsSquare a squares all in
    Lacks-append 114 (decimal a) (further_squares sep squares) (decimal_lacks_r a (omega arith)) (further_lacks sep squares apart (All-tail IsSquare a squares all))

choice_lacks : (chosen : Option (List ℕ)) → IfSome chosen IsPath → Lacks 114 (choice_text chosen)
choice_lacks None path = refl
choice_lacks (Some path) is = Lacks-cons 114 32 (move_text path) (λ e. omega (arith, e)) (squares_lack (separator path) path (sep_is_no_r path) is.2)

-- lines one after the other
abbrev Safe : List Line → Type 0
Safe [] = Unit {0}
Safe (l ∷ lines) = (no_ro (line_text l ++ 10 ∷ []) ≡ true) × Safe lines

safe_text : (lines : List Line) (text : List ℕ) → Safe lines → no_ro text ≡ true → no_ro (text_of_lines lines ++ text) ≡ true
safe_text [] text safe h = h
safe_text (l ∷ lines) text safe h =
    subst (λ t. no_ro t ≡ true) (sym (append_assoc (line_text l ++ 10 ∷ []) (text_of_lines lines) text ∙ append_assoc (line_text l) (10 ∷ []) (text_of_lines lines ++ text)))
    (behind_line (line_text l) (text_of_lines lines ++ text) safe.0 (safe_text lines text safe.1 h))

safe_append : (front back : List Line) → Safe front → Safe back → Safe (front ++ back)
safe_append [] back one two = two
safe_append (l ∷ front) back one two = (one.0, safe_append front back one.1 two)

count_line_safe : (word : List ℕ) (side : Side) (count : ℕ) → Lacks 114 word → count < 2 ^ 32 → no_ro ((word ++ (side_word side ++ 32 ∷ decimal count)) ++ 10 ∷ []) ≡ true
count_line_safe word side count lacks few =
    without_r (word ++ (side_word side ++ 32 ∷ decimal count))
    (Lacks-append 114 word (side_word side ++ 32 ∷ decimal count) lacks
    (Lacks-append 114 (side_word side) (32 ∷ decimal count) (side_lacks side) (Lacks-cons 114 32 (decimal count) (λ e. omega (arith, e)) (decimal_lacks_r count (omega (arith, few))))))

win_rows : (rows : List (Board × WinEntry)) → All IsWinRow rows → Safe (map win_line rows)
win_rows [] all = tt
win_rows (row ∷ rows) all =
    let one = All-head IsWinRow row rows all in (
      without_r (line_text (win_line row))
          (Lacks-append 114 (fen_of row.0) (32 ∷ (decimal row.1.rank ++ choice_text row.1.chosen)) (Lacks-fen 114 row.0 refl one.0)
          (Lacks-cons 114 32 (decimal row.1.rank ++ choice_text row.1.chosen) (λ e. omega (arith, e))
          (Lacks-append 114 (decimal row.1.rank) (choice_text row.1.chosen) (decimal_lacks_r row.1.rank (let r = one.1.0 in omega (arith, r))) (choice_lacks row.1.chosen one.1.1)))),
      win_rows rows (All-tail IsWinRow row rows all),
    )

hold_rows : (rows : List (Board × Option (List ℕ))) → All IsHoldRow rows → Safe (map hold_line rows)
hold_rows [] all = tt
hold_rows (row ∷ rows) all =
    let one = All-head IsHoldRow row rows all in (
      without_r (line_text (hold_line row)) (Lacks-append 114 (fen_of row.0) (choice_text row.1) (Lacks-fen 114 row.0 refl one.0) (choice_lacks row.1 one.1)),
      hold_rows rows (All-tail IsHoldRow row rows all),
    )

part_safe : (part : Part) → IsPrintedPart part → Safe (part_lines part)
part_safe (parts.Win part) is = (count_line_safe (codes "win ") part.side _ refl is.1, win_rows part.entries is.0.rows)
part_safe (parts.Hold part) is = (count_line_safe (codes "hold ") part.side _ refl is.1, hold_rows part.entries is.0.rows)

parts_safe : (all : List Part) → All IsPrintedPart all → Safe (flat_map part_lines all)
parts_safe [] is = tt
parts_safe (part ∷ all) is = safe_append (part_lines part) (flat_map part_lines all) (part_safe part (All-head IsPrintedPart part all is)) (parts_safe all (All-tail IsPrintedPart part all is))

claim_safe : (c : Claim) → no_ro ((codes "claim " ++ claim_word c) ++ 10 ∷ []) ≡ true
unfolding no_ro begins_o
claim_safe (claims.Win Black) = refl
claim_safe (claims.Win White) = refl
claim_safe (claims.Hold Black) = refl
claim_safe (claims.Hold White) = refl
claim_safe claims.Draw = refl

title_safe : no_ro (codes "certificate 1" ++ 10 ∷ []) ≡ true
unfolding no_ro begins_o
title_safe = refl

end_safe : no_ro (codes "end" ++ 10 ∷ []) ≡ true
unfolding no_ro begins_o
end_safe = refl

nothing_safe : no_ro [] ≡ true
unfolding no_ro
nothing_safe = refl

lines_safe : (c : Certificate) → IsPrinted c → Safe (lines_of c)
lines_safe c is =
    safe_append (open_lines c) (end ∷ []) (safe_append (head_lines c) (flat_map part_lines c.parts) head (parts_safe c.parts is.parts)) (end_safe, tt)
  where
    head : Safe (head_lines c)
    head = (
      title_safe,
      (
        without_r (codes "table " ++ decimal c.pieces) (Lacks-append 114 (codes "table ") (decimal c.pieces) refl (decimal_lacks_r c.pieces (let some = is.pieces in omega arith))),
        (without_r (codes "position " ++ fen_of c.position) (Lacks-append 114 (codes "position ") (fen_of c.position) refl (Lacks-fen 114 c.position refl is.lawful)), (claim_safe c.claim, tt)),
      ),
    )

-- the text of a certificate says no root, and no front of it does
pub certificate_says : (c : Certificate) (text : List ℕ) → ReadsAs text c → SaysTrue text
certificate_says c text reads front back whole = no_root-is_true front (text_without_roots_says_none front without)
  where
    safe : no_ro (text_of_certificate c ++ []) ≡ true
    safe = safe_text (lines_of c) [] (lines_safe c reads.0) nothing_safe

    without : (before after : List ℕ) → front ≢ before ++ (codes "root " ++ after)
    without before after e =
        let all : text_of_certificate c ++ [] ≡ before ++ (codes "root " ++ (after ++ back)) =
        append-nil (text_of_certificate c) ∙ sym reads.1 ∙ whole ∙ ap (λ t. t ++ back) e ∙ append_assoc before (codes "root " ++ after) back ∙ ap (λ t. before ++ t) (append_assoc (codes "root ") after back) in
        no_root before (after ++ back) (subst (λ t. no_ro t ≡ true) all safe)

-- the same of what is written, if it is
pub certified_says : {X E : Type 0} (c : Certificate) (r : Result X E) (text : X → List ℕ) → IfOk r (λ x. ReadsAs (text x) c) → IfOk r (λ x. SaysTrue (text x))
certified_says c (Ok x) text h = certificate_says c (text x) h
certified_says c (Err e) text h = tt
