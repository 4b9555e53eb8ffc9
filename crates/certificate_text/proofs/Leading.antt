-- What stands before the next line, line by line.
use Rattle.std.proofs.Common.{◌≡◌, ℕ, zero, suc, ◌+◌, ◌-◌, ◌<◌, ◌^◌, List, [], ◌∷◌, ◌++◌, length, refl, sym, ◌∙◌, ap, subst, arith, append_assoc, append-nil, map, Option}
use Rattle.draughts_board.specs.declared.pieces.Side.{Side}
use Rattle.std.specs.Bool.{OnFalse}
use Rattle.std.specs.List.{flat_map}
use Rattle.std.proofs.lemmas.Grind.{flat_map-append}
use Rattle.std.proofs.lemmas.List.{map-append, length-append}
use Rattle.std.proofs.lemmas.List.Elements.{All-push}
use Rattle.std.proofs.lemmas.Map.Made.{IsDistinct-from_count}
use Rattle.draughts_board.specs.Same.{same_board-equivalence}
use Rattle.strategy_certificate.specs.declared.certificates.Part.{Part}
use Rattle.strategy_certificate.specs.declared.certificates.Part.TheVariants.{Win, Hold}
use Rattle.strategy_certificate.specs.declared.certificates.Certificate.{Certificate}
use Rattle.fen_text.specs.Printed.{fen_of}
use Rattle.certificate_text.specs.Lines.{Line, title, table, position, claim, win, hold, win_entry, hold_entry, end, line_text, text_of_lines}
use Rattle.shared_words.specs.Bytes.{Lacks}
use Rattle.certificate_text.specs.Text.{part_length, win_line, hold_line, part_line, entry_lines, part_lines, head_lines, open_lines, lines_of, IsPart, IsPrinted, IsPrintedPart, before, IsSoundPlace, IsOpenPlace}
use Rattle.certificate_text.specs.Steps.{AddsLine, AddsWin, AddsHold, settled, Leads, Advances, RefusesLine}
use Rattle.certificate_text.specs.Refusals.{text_wants_memory, IsLineAt, IsTextRefusal, IsAfterEnd, IsTruncatedText}
use Rattle.certificate_text.specs.Places.{Place, at_title, at_table, at_position, at_claim, at_part, at_entry, at_end}
use Rattle.certificate_text.specs.declared.refusal.TextRefusal.{TextRefusal}
use Rattle.certificate_text.specs.declared.refusal.TextRefusal.TheVariants as refusal
use Rattle.certificate_text.proofs.Printed.{lines_append}

-- sound, and with these lines before it
pub record Has (d : Place) (lines : List Line) : Type 0 where
  pub sound : IsSoundPlace d
  pub lines_are : before d ≡ lines

pub settled_has : (c : Certificate) (part : Part) (left : ℕ) → IsPrinted c → IsPart part → part_length part + left < 2 ^ 32
    → Has (settled c part left) (open_lines c ++ (part_line part (part_length part + left) ∷ entry_lines part))
settled_has c part zero printed valid small = record {
  sound = record { pieces = printed.pieces; lawful = printed.lawful; parts = All-push IsPrintedPart c.parts part printed.parts (valid, omega arith) };
  lines_are =
      ap (λ ls. head_lines c ++ ls) (flat_map-append part_lines c.parts (part ∷ []) ∙ ap (λ ls. flat_map part_lines c.parts ++ ls) (append-nil (part_lines part)))
      ∙ sym (append_assoc (head_lines c) (flat_map part_lines c.parts) (part_lines part))
      ∙ ap (λ n. open_lines c ++ (part_line part n ∷ entry_lines part)) (let e : part_length part ≡ part_length part + 0 = omega arith in e);
}
settled_has c part (suc n) printed valid small = record { sound = (printed, (valid, (omega arith, small))); lines_are = refl }

-- a part of which the line adds an entry
record Longer (part : Part) (said : Line) (longer : Part) : Type 0 where
  valid : IsPart longer
  longer_by : part_length longer ≡ part_length part + 1
  begins : (n : ℕ) → part_line longer n ≡ part_line part n
  entries : entry_lines longer ≡ entry_lines part ++ said ∷ []

longer_win : (old new : _) (field : List ℕ) (rank : ℕ) (chosen : Option (List ℕ)) → AddsWin old field (record { rank = rank; chosen = chosen }) new → Longer (Win old) (win_entry field rank chosen) (Win new)
longer_win old new field rank chosen a = record {
  valid = a.valid;
  longer_by = ap (λ l. length l.entries) a.behind ∙ length-append old.entries _;
  begins = λ n. ap (λ l. win l.side n) a.behind;
  entries = ap (λ l. map win_line l.entries) a.behind ∙ map-append win_line old.entries _ ∙ ap (λ f. map win_line old.entries ++ (win_entry f rank chosen ∷ [])) (sym a.fen);
}

longer_hold : (old new : _) (field : List ℕ) (chosen : Option (List ℕ)) → AddsHold old field chosen new → Longer (Hold old) (hold_entry field chosen) (Hold new)
longer_hold old new field chosen a = record {
  valid = a.valid;
  longer_by = ap (λ l. length l.entries) a.behind ∙ length-append old.entries _;
  begins = λ n. ap (λ l. hold l.side n) a.behind;
  entries = ap (λ l. map hold_line l.entries) a.behind ∙ map-append hold_line old.entries _ ∙ ap (λ f. map hold_line old.entries ++ (hold_entry f chosen ∷ [])) (sym a.fen);
}

adds_longer : (part : Part) (said : Line) (longer : Part) → AddsLine part said longer → Longer part said longer
adds_longer (Win old) (win_entry field rank chosen) (Win new) a = longer_win old new field rank chosen a
adds_longer (Hold old) (hold_entry field chosen) (Hold new) a = longer_hold old new field chosen a
adds_longer part said longer a = absurd a

-- the line of a part that begins, and nothing behind it
begun : (c : Certificate) (part : Part) (n : ℕ) (said : Line) → IsPrinted c → IsPart part → part_length part ≡ 0 → entry_lines part ≡ [] → part_line part n ≡ said → n < 2 ^ 32
    → Has (settled c part n) (open_lines c ++ said ∷ [])
begun c part n said printed valid none bare same small =
    let has = settled_has c part n printed valid (omega arith) in
    let count : part_length part + n ≡ n = omega arith in
    record {
      sound = has.sound;
      lines_are = has.lines_are ∙ (λ i. open_lines c ++ (part_line part (count i) ∷ bare i)) ∙ ap (λ l. open_lines c ++ l ∷ []) same;
    }

empty_win : (side : Side) → IsPart (Win (record { side = side; entries = [] }))
empty_win side = record { distinct = IsDistinct-from_count same_board-equivalence [] refl; rows = λ k d lt. absurd (let h : k < 0 = lt in omega arith) }

empty_hold : (side : Side) → IsPart (Hold (record { side = side; entries = [] }))
empty_hold side = record { distinct = IsDistinct-from_count same_board-equivalence [] refl; rows = λ k d lt. absurd (let h : k < 0 = lt in omega arith) }

pub leads_has : (d : Place) (said : Line) (next : Place) → IsSoundPlace d → Leads d said next → Has next (before d ++ said ∷ [])
leads_has at_title title next sound e = subst (λ n. Has n (title ∷ [])) (sym e) (record { sound = tt; lines_are = refl })
leads_has at_table (table pieces) next sound (few, e) = subst (λ n. Has n (title ∷ table pieces ∷ [])) (sym e) (record { sound = few; lines_are = refl })
leads_has (at_position pieces) (position field) next sound says =
    subst (λ n. Has n (title ∷ table pieces ∷ position field ∷ [])) (sym says.leads)
    (record { sound = (sound, says.lawful); lines_are = ap (λ f. title ∷ table pieces ∷ position f ∷ []) (sym says.fen) })
leads_has (at_claim pieces p) (claim c) next sound e =
    subst (λ n. Has n (title ∷ table pieces ∷ position (fen_of p) ∷ claim c ∷ [])) (sym e)
    (record { sound = record { pieces = sound.0; lawful = sound.1; parts = λ k d lt. absurd (let h : k < 0 = lt in omega arith) }; lines_are = refl })
leads_has (at_part c) (win side count) next sound (small, e) =
    subst (λ n. Has n (open_lines c ++ win side count ∷ [])) (sym e) (begun c (Win (record { side = side; entries = [] })) count (win side count) sound (empty_win side) refl refl refl small)
leads_has (at_part c) (hold side count) next sound (small, e) =
    subst (λ n. Has n (open_lines c ++ hold side count ∷ [])) (sym e) (begun c (Hold (record { side = side; entries = [] })) count (hold side count) sound (empty_hold side) refl refl refl small)
leads_has (at_part c) end next sound e = subst (λ n. Has n (lines_of c)) (sym e) (record { sound = sound; lines_are = refl })
leads_has (at_entry c part left) said next (printed, (valid, (some, small))) (longer, (adds, e)) =
    let more = adds_longer part said longer adds in
    let same : part_length longer + (left - 1) ≡ part_length part + left = omega (arith, more.longer_by) in
    let has = settled_has c longer (left - 1) printed more.valid (omega arith) in
    subst (λ n. Has n ((open_lines c ++ (part_line part (part_length part + left) ∷ entry_lines part)) ++ said ∷ [])) (sym e)
    (record {
      sound = has.sound;
      lines_are = has.lines_are ∙ (λ i. open_lines c ++ (part_line longer (same i) ∷ more.entries i)) ∙ ap (λ l. open_lines c ++ (l ∷ (entry_lines part ++ said ∷ []))) (more.begins (part_length part + left))
          ∙ sym (append_assoc (open_lines c) (part_line part (part_length part + left) ∷ entry_lines part) (said ∷ []));
    })
leads_has d said next sound e = absurd e

-- behind a line that leads on, the text up to it is the text before what is due next
pub record Went (text : List ℕ) (lines : ℕ) (next : Place) (rest : List ℕ) : Type 0 where
  pub sound : IsSoundPlace next
  pub spelled : text ≡ text_of_lines (before next) ++ rest
  pub counted : lines ≡ length (before next)

pub went_on : (text : List ℕ) (lines : ℕ) (d : Place) (line behind rest : List ℕ) (next : Place) → Went text lines d rest → rest ≡ line ++ 10 ∷ behind → Advances d line next → Went text (lines + 1) next behind
went_on text lines d line behind rest next so_far cut (said, (same, leads)) =
    let has = leads_has d said next so_far.sound leads in
    record {
      sound = has.sound;
      spelled = so_far.spelled ∙ ap (λ t. text_of_lines (before d) ++ t) (cut ∙ (λ i. same i ++ 10 ∷ behind) ∙ sym (append_assoc (line_text said) (10 ∷ []) behind))
          ∙ sym (append_assoc (text_of_lines (before d)) (line_text said ++ 10 ∷ []) behind)
          ∙ ap (λ t. t ++ behind) (ap (λ t. text_of_lines (before d) ++ t) (sym (append-nil (line_text said ++ 10 ∷ []))) ∙ sym (lines_append (before d) (said ∷ [])) ∙ ap text_of_lines (sym has.lines_are));
      counted = let n : length (before next) ≡ length (before d) + 1 = ap length has.lines_are ∙ length-append (before d) (said ∷ []) in omega (arith, so_far.counted);
    }

-- a line that is refused refuses the text
pub refused_text : (text : List ℕ) (lines : ℕ) (d : Place) (line behind rest : List ℕ) (r : TextRefusal) → Went text lines d rest → IsOpenPlace d → Lacks 10 line → rest ≡ line ++ 10 ∷ behind
    → RefusesLine d line (lines + 1) r → OnFalse (text_wants_memory r) (IsTextRefusal text r)
refused_text text lines d line behind rest r so_far op whole cut refuses = at r refuses
  where
    stands : (n : ℕ) → n ≡ lines + 1 → IsLineAt text n d line
    stands n e = record {
      rest = behind;
      stands = record { sound = so_far.sound; spelled = so_far.spelled ∙ ap (λ t. text_of_lines (before d) ++ t) cut; counted = e ∙ ap (λ k. k + 1) so_far.counted };
      whole = whole;
      due = op;
    }

    at : (r : TextRefusal) → RefusesLine d line (lines + 1) r → OnFalse (text_wants_memory r) (IsTextRefusal text r)
    at (refusal.BadLine n) (e, fault) = (d, (line, (stands n e, fault)))
    at (refusal.BadFen n) (e, fault) = (d, (line, (stands n e, fault)))
    at (refusal.Doubled n) (e, fault) = (d, (line, (stands n e, fault)))
    at (refusal.Memory e) u = tt
    at refusal.Truncated none = absurd none
    at (refusal.AfterEnd n) none = absurd none

-- ---- where no line is due

closed : (d : Place) → ¬ IsOpenPlace d → (c : Certificate) × (d ≡ at_end c)
closed (at_end c) shut = (c, refl)
closed at_title shut = absurd (shut tt)
closed at_table shut = absurd (shut tt)
closed (at_position k) shut = absurd (shut tt)
closed (at_claim k p) shut = absurd (shut tt)
closed (at_part c) shut = absurd (shut tt)
closed (at_entry c part left) shut = absurd (shut tt)

pub after_end : (text : List ℕ) (lines : ℕ) (d : Place) (rest : List ℕ) → Went text lines d rest → ¬ IsOpenPlace d → 0 < length rest → IsAfterEnd text (lines + 1)
after_end text lines d [] so_far shut some = absurd (let h : 0 < 0 = some in omega arith)
after_end text lines d (b ∷ rest) so_far shut some =
    let whole = closed d shut in
    let at = subst (λ e. Went text lines e (b ∷ rest)) whole.1 so_far in
    (whole.0, (b, (rest, record { sound = at.sound; spelled = at.spelled; counted = ap (λ n. n + 1) at.counted })))

pub truncated : (text : List ℕ) (lines : ℕ) (d : Place) (rest : List ℕ) → Went text lines d rest → IsOpenPlace d → Lacks 10 rest → IsTruncatedText text
truncated text lines d rest so_far op lacks = record {
  number = lines + 1;
  place = d;
  rest = rest;
  stands = record { sound = so_far.sound; spelled = so_far.spelled; counted = ap (λ n. n + 1) so_far.counted };
  due = op;
  endless = lacks;
}
