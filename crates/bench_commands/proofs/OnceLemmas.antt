-- In a report each root's position stands in exactly one line.
use Rattle.std.proofs.Common.{◌≡◌, ◌≢◌, ◌⊎◌, inl, inr, ⊎_elim, ℕ, ◌+◌, ◌<◌, ◌^◌, Bool, true, false, cond, ◌||◌, List, [], ◌∷◌, ◌++◌, Option, None, Some, refl, sym, ◌∙◌, ap, subst, arith, length, get_or, drop, append_assoc, ◌==◌}
use Rattle.std.specs.Prelude.{Contains, decimal, codes}
use Rattle.std.specs.List.{flat_map, list_any, AllByRecursion}
use Rattle.std.proofs.lemmas.List.{append-nil}
use Rattle.std.proofs.lemmas.List.Elements.{Contains-push_cases}
use Rattle.shared_words.specs.Bytes.{Lacks}
use Rattle.shared_words.proofs.LackingBytes.{Lacks-append, halves_agree}
use Rattle.shared_words.proofs.Numerals.{Lacks-decimal}
use Rattle.draughts_board.specs.declared.pieces.Value.{Value}
use Rattle.draughts_board.specs.declared.pieces.Value.TheVariants.{BlackWins, WhiteWins, Draw}
use Rattle.draughts_board.specs.Board.{Board, IsLawful}
use Rattle.draughts_board.proofs.Members.{Contains-nil, Contains-cons_cases, Contains-head, Contains-tail, bool_cases}
use Rattle.fen_text.specs.Printed.{fen_of}
use Rattle.fen_text.proofs.Plain.{Lacks-fen, printed_tells_apart}
use Rattle.opening_report.specs.declared.roots.Root.{Root}
use Rattle.opening_report.specs.Lines.{IsLine, EndsLine, HasLine}
use Rattle.opening_report.specs.Report.{value_word, root_line, root_lines, summary_line, report_lines, report_of, AreTrueRoots, AreApart}
use Rattle.opening_report.proofs.ReportLemmas.{AllLawful, report_lines-are_lines, roots_stand_once}
use Rattle.bench_commands.specs.Lines.{StandsInOneLine, line_with}

-- ---- where a line stands in a text of lines

abbrev text_of : List (List ℕ) → List ℕ
text_of lines = flat_map (λ line. line) lines

-- the line is one of the lines, and before it stand those before it
record IsAmong (lines : List (List ℕ)) (before line : List ℕ) : Type 0 where
  pub earlier : List (List ℕ)
  pub later : List (List ℕ)
  pub split : lines ≡ earlier ++ line ∷ later
  pub place : before ≡ text_of earlier

record FirstLine (text : List ℕ) : Type 0 where
  pub body : List ℕ
  pub rest : List ℕ
  pub bare : Lacks 10 body
  pub ends : EndsLine rest
  pub split : text ≡ body ++ 10 ∷ rest

first_line : (front : List ℕ) → FirstLine (front ++ 10 ∷ [])
first_line [] = record { body = []; rest = []; bare = refl; ends = inl refl; split = refl }
first_line (c ∷ front) = elim (bool_cases (c == 10)) [ inl t ↦ here t | inr f ↦ further f (first_line front) ]
  where
    here : (c == 10) ≡ true → FirstLine (c ∷ (front ++ 10 ∷ []))
    here t = let e : c ≡ 10 = grind arith in record { body = []; rest = front ++ 10 ∷ []; bare = refl; ends = inr (front, refl); split = ap (λ n. n ∷ (front ++ 10 ∷ [])) e }

    further : (c == 10) ≡ false → FirstLine (front ++ 10 ∷ []) → FirstLine (c ∷ (front ++ 10 ∷ []))
    further f l = record { body = c ∷ l.body; rest = l.rest; bare = ap (λ b. b || list_any (λ n. n == 10) l.body) f ∙ l.bare; ends = l.ends; split = ap (λ t. c ∷ t) l.split }

no_line : (before line after : List ℕ) → IsLine line → before ++ (line ++ after) ≡ [] → ⊥
no_line [] line after one e = nothing one.0 after (ap (λ t. t ++ after) (sym one.1.1) ∙ e)
  where
    nothing : (body after : List ℕ) → (body ++ 10 ∷ []) ++ after ≡ [] → ⊥
    nothing [] after e = cc
    nothing (x ∷ body) after e = cc
no_line (x ∷ before) line after one e = cc

line_at : (lines : List (List ℕ)) (before line after : List ℕ) → AllByRecursion IsLine lines → IsLine line → EndsLine before
    → before ++ (line ++ after) ≡ text_of lines → IsAmong lines before line
line_at [] before line after each one ends e = absurd (no_line before line after one e)
line_at (l ∷ lines) before line after each one (inl nothing) e =
    let lined : (one.0 ++ 10 ∷ []) ++ after ≡ (each.0.0 ++ 10 ∷ []) ++ text_of lines =
    ap (λ t. t ++ after) (sym one.1.1) ∙ ap (λ b. b ++ (line ++ after)) (sym nothing) ∙ e ∙ ap (λ t. t ++ text_of lines) each.0.1.1 in
    let bodies = halves_agree 10 one.0 each.0.0 after (text_of lines) one.1.0 each.0.1.0
    (sym (append_assoc one.0 (10 ∷ []) after) ∙ lined ∙ append_assoc each.0.0 (10 ∷ []) (text_of lines)) in
    let same : l ≡ line = each.0.1.1 ∙ ap (λ b. b ++ 10 ∷ []) (sym bodies.0) ∙ sym one.1.1 in
    record { earlier = []; later = lines; split = ap (λ (x : List ℕ). x ∷ lines) same; place = nothing }
line_at (l ∷ lines) before line after each one (inr ended) e =
    let first = first_line ended.0 in
    let opened : before ≡ first.body ++ 10 ∷ first.rest = ended.1 ∙ first.split in
    let lined : first.body ++ 10 ∷ (first.rest ++ (line ++ after)) ≡ each.0.0 ++ 10 ∷ text_of lines =
    sym (append_assoc first.body (10 ∷ first.rest) (line ++ after))
    ∙ ap (λ t. t ++ (line ++ after)) (sym opened) ∙ e
    ∙ ap (λ t. t ++ text_of lines) each.0.1.1 ∙ append_assoc each.0.0 (10 ∷ []) (text_of lines) in
    let halves = halves_agree 10 first.body each.0.0 (first.rest ++ (line ++ after)) (text_of lines) first.bare each.0.1.0 lined in
    let among = line_at lines first.rest line after each.1 one first.ends halves.1 in
    record {
      earlier = l ∷ among.earlier;
      later = among.later;
      split = ap (λ (ls : List (List ℕ)). l ∷ ls) among.split;
      place = opened
          ∙ (ap (λ b. b ++ 10 ∷ first.rest) halves.0
          ∙ (ap (λ t. each.0.0 ++ 10 ∷ t) among.place
          ∙ (sym (append_assoc each.0.0 (10 ∷ []) (text_of among.earlier)) ∙ ap (λ t. t ++ text_of among.earlier) (sym each.0.1.1))));
    }

-- ---- what a line on a position says

abbrev letter_value : ℕ → Option Value
letter_value n = cond (n == 98) (Some BlackWins) (cond (n == 119) (Some WhiteWins) (cond (n == 100) (Some Draw) None))

read_back : (v : Option Value) → letter_value (get_or (value_word v ++ 10 ∷ []) 0 0) ≡ v
read_back None = refl
read_back (Some BlackWins) = refl
read_back (Some WhiteWins) = refl
read_back (Some Draw) = refl

bare_word : (v : Option Value) → Lacks 10 (value_word v)
bare_word None = refl
bare_word (Some BlackWins) = refl
bare_word (Some WhiteWins) = refl
bare_word (Some Draw) = refl

record SaysSame (digits others : List ℕ) (p q : Board) (v w : Option Value) : Type 0 where
  pub number : digits ≡ others
  pub position : p ≡ q
  pub value : v ≡ w

line_tells : (digits others : List ℕ) (p q : Board) (v w : Option Value) → Lacks 32 digits → Lacks 32 others → IsLawful p → IsLawful q
    → line_with digits p v ≡ line_with others q w → SaysSame digits others p q v w
line_tells digits others p q v w ld lo lp lq e =
    let numbers = halves_agree 32 digits others (fen_of p ++ 32 ∷ (value_word v ++ 10 ∷ [])) (fen_of q ++ 32 ∷ (value_word w ++ 10 ∷ [])) ld lo (ap (drop 5) e) in
    let fens = halves_agree 32 (fen_of p) (fen_of q) (value_word v ++ 10 ∷ []) (value_word w ++ 10 ∷ []) (Lacks-fen 32 p refl lp) (Lacks-fen 32 q refl lq) numbers.1 in
    record {
      number = numbers.0;
      position = printed_tells_apart p q lp lq fens.0;
      value = sym (read_back v) ∙ (ap (λ (t : List ℕ). letter_value (get_or t 0 0)) fens.1 ∙ read_back w);
    }

no_summary : (digits : List ℕ) (p : Board) (v : Option Value) (roots : List Root) → line_with digits p v ≡ summary_line roots → ⊥
no_summary digits p v roots e = let h : ◌≡◌ {A = ℕ} 32 115 = ap (λ t. get_or t 4 0) e in omega (arith, h)

line_body : List ℕ → Board → Option Value → List ℕ
line_body digits p v = codes "root " ++ (digits ++ 32 ∷ (fen_of p ++ 32 ∷ value_word v))

with_blank : (text : List ℕ) → Lacks 10 text → Lacks 10 (32 ∷ text)
with_blank text h = h

bare_line : (digits : List ℕ) (p : Board) (v : Option Value) → Lacks 10 digits → IsLawful p → Lacks 10 (line_body digits p v)
unfolding line_body
bare_line digits p v bare lawful =
    let word : List ℕ = 32 ∷ value_word v in
    let position : List ℕ = 32 ∷ (fen_of p ++ word) in
    let with_position : Lacks 10 position = with_blank (fen_of p ++ word) (Lacks-append 10 (fen_of p) word (Lacks-fen 10 p refl lawful) (with_blank (value_word v) (bare_word v))) in
    Lacks-append 10 (codes "root ") (digits ++ position) refl (Lacks-append 10 digits position bare with_position)

one_line : (digits : List ℕ) (p : Board) (v : Option Value) → Lacks 10 digits → IsLawful p → IsLine (line_with digits p v)
unfolding line_body
one_line digits p v bare lawful = (
  line_body digits p v,
  (
    bare_line digits p v bare lawful,
    sym (append_assoc (codes "root ") (digits ++ 32 ∷ (fen_of p ++ 32 ∷ value_word v)) (10 ∷ [])
        ∙ ap (λ t. codes "root " ++ t) (append_assoc digits (32 ∷ (fen_of p ++ 32 ∷ value_word v)) (10 ∷ [])
        ∙ ap (λ t. digits ++ 32 ∷ t) (append_assoc (fen_of p) (32 ∷ value_word v) (10 ∷ [])))),
  ),
)

-- ---- one place among the lines of roots

module _ (p : Board) (lawful : IsLawful p) (tail : List (List ℕ)) (silent : (digits : List ℕ) (v : Option Value) → Contains tail (line_with digits p v) → ⊥) where
  -- a line on the position is that of a root there
  of_root : (m : ℕ) (roots : List Root) (digits : List ℕ) (v : Option Value) → m + length roots < 2 ^ 64 → AllLawful roots → Lacks 32 digits
      → Contains (root_lines m roots ++ tail) (line_with digits p v) → (r : Root) × (Contains roots r × (r.position ≡ p))
  of_root m [] digits v few all blank there = absurd (silent digits v there)
  of_root m (r ∷ roots) digits v few all blank there =
      elim (Contains-cons_cases (root_line m r.position r.value) (root_lines (m + 1) roots ++ tail) (line_with digits p v) there) [
        | inl same ↦ (r, (Contains-head r roots, (line_tells (decimal m) digits r.position p r.value v (Lacks-decimal 32 m refl (omega arith)) blank (all r (Contains-head r roots)) lawful same).position))
        | inr rest ↦ (let found = of_root (m + 1) roots digits v (omega arith) (λ x k. all x (Contains-tail r x roots k)) blank rest in
            (found.0, (Contains-tail r found.0 roots found.1.0, found.1.1)))
      ]

  -- the lines from there on, of which this is the first, and of which it is one
  heads_agree : (x y : List ℕ) (xs ys : List (List ℕ)) → x ∷ xs ≡ y ∷ ys → (x ≡ y) × (xs ≡ ys)
  heads_agree x y xs ys e = (cc, cc)

  among : (lines earlier : List (List ℕ)) (line : List ℕ) (later : List (List ℕ)) → lines ≡ earlier ++ line ∷ later → Contains lines line
  among lines earlier line later e = subst (λ (ls : List (List ℕ)). Contains ls line) (sym e) (behind earlier)
    where
      behind : (earlier : List (List ℕ)) → Contains (earlier ++ line ∷ later) line
      behind [] = Contains-head line later
      behind (x ∷ earlier) = Contains-tail x line (earlier ++ line ∷ later) (behind earlier)

  record OnePlace (earlier others : List (List ℕ)) (digits numeral : List ℕ) (v w : Option Value) : Type 0 where
    pub place : earlier ≡ others
    pub number : digits ≡ numeral
    pub value : v ≡ w

  one_place : (m : ℕ) (roots : List Root) (earlier later others rest : List (List ℕ)) (digits numeral : List ℕ) (v w : Option Value)
      → m + length roots < 2 ^ 64 → AllLawful roots → AreApart roots → Lacks 32 digits → Lacks 32 numeral
      → root_lines m roots ++ tail ≡ earlier ++ line_with digits p v ∷ later → root_lines m roots ++ tail ≡ others ++ line_with numeral p w ∷ rest
      → OnePlace earlier others digits numeral v w
  one_place m [] earlier later others rest digits numeral v w few all apart blank clear e f = absurd (silent digits v (among tail earlier (line_with digits p v) later e))
  one_place m (r ∷ roots) [] later [] rest digits numeral v w few all apart blank clear e f =
      let said = line_tells digits numeral p p v w blank clear lawful lawful (sym (heads_agree _ _ _ _ e).0 ∙ (heads_agree _ _ _ _ f).0) in
      record { place = refl; number = said.number; value = said.value }
  one_place m (r ∷ roots) [] later (x ∷ others) rest digits numeral v w few all apart blank clear e f =
      let here = line_tells (decimal m) digits r.position p r.value v (Lacks-decimal 32 m refl (omega arith)) blank (all r (Contains-head r roots)) lawful (heads_agree _ _ _ _ e).0 in
      let there = of_root (m + 1) roots numeral w (omega arith) (λ q k. all q (Contains-tail r q roots k)) clear (among _ others (line_with numeral p w) rest (heads_agree _ _ _ _ f).1) in
      absurd (apart.0 there.0 there.1.0 (here.position ∙ sym there.1.1))
  one_place m (r ∷ roots) (x ∷ earlier) later [] rest digits numeral v w few all apart blank clear e f =
      let here = line_tells (decimal m) numeral r.position p r.value w (Lacks-decimal 32 m refl (omega arith)) clear (all r (Contains-head r roots)) lawful (heads_agree _ _ _ _ f).0 in
      let there = of_root (m + 1) roots digits v (omega arith) (λ q k. all q (Contains-tail r q roots k)) blank (among _ earlier (line_with digits p v) later (heads_agree _ _ _ _ e).1) in
      absurd (apart.0 there.0 there.1.0 (here.position ∙ sym there.1.1))
  one_place m (r ∷ roots) (x ∷ earlier) later (y ∷ others) rest digits numeral v w few all apart blank clear e f =
      let one = one_place (m + 1) roots earlier later others rest digits numeral v w (omega arith) (λ q k. all q (Contains-tail r q roots k)) apart.1 blank clear (heads_agree _ _ _ _ e).1 (heads_agree _ _ _ _ f).1 in
      let heads : x ≡ y = sym (heads_agree _ _ _ _ e).0 ∙ (heads_agree _ _ _ _ f).0 in
      record { place = ap (λ (l : List ℕ). l ∷ earlier) heads ∙ ap (λ (ls : List (List ℕ)). y ∷ ls) one.place; number = one.number; value = one.value }

-- ---- the report

summary_silent : (roots : List Root) (p : Board) (digits : List ℕ) (v : Option Value) → Contains (summary_line roots ∷ []) (line_with digits p v) → ⊥
summary_silent roots p digits v there =
    elim (Contains-cons_cases (summary_line roots) [] (line_with digits p v) there) [ inl same ↦ no_summary digits p v roots (sym same) | inr none ↦ Contains-nil (line_with digits p v) none ]

pub roots_stand_in_one_line : (roots : List Root) (r : Root) → 1 + length roots < 2 ^ 64 → AreTrueRoots roots → AreApart roots → Contains roots r → StandsInOneLine (report_of roots) r.position
roots_stand_in_one_line roots r few right apart there =
    let all : AllLawful roots = λ q k. (right q k).lawful in
    let lawful = all r there in
    let lines = report_lines-are_lines roots few all in
    let found = roots_stand_once roots r few right apart there in
    let first = line_at (report_lines roots) found.stands.before (root_line found.number r.position found.value) found.stands.after lines
    (one_line (decimal found.number) r.position found.value (Lacks-decimal 10 found.number refl found.small) lawful) found.stands.begins (sym found.stands.split) in
    record {
      number = found.number;
      value = found.value;
      stands = found.stands;
      once = λ digits v blank bare other.
          let second = line_at (report_lines roots) other.before (line_with digits r.position v) other.after lines (one_line digits r.position v bare lawful) other.begins (sym other.split) in
          let one = one_place r.position lawful (summary_line roots ∷ []) (summary_silent roots r.position) 1 roots second.earlier second.later first.earlier first.later digits (decimal found.number) v found.value
          few all apart blank (Lacks-decimal 32 found.number refl found.small) second.split first.split in
          (second.place ∙ (ap text_of one.place ∙ sym first.place), (one.number, one.value));
    }
