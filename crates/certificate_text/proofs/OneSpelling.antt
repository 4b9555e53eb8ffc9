-- A line is said in one way and leads in one way.
use Rattle.std.proofs.Common.{◌≡◌, ℕ, ◌-◌, ◌<◌, ◌≤◌, ◌^◌, List, [], ◌∷◌, ◌++◌, get_or, drop, refl, sym, ◌∙◌, ap, subst, arith, decimal, codes, Option, Some, inl, inr}
use Rattle.std.specs.Option.{IfSome}
use Rattle.std.proofs.lemmas.Fmt.{decimal_injective}
use Rattle.std.proofs.lemmas.Option.{same_Some}
use Rattle.draughts_board.specs.Board.{Board, IsLawful}
use Rattle.draughts_board.specs.declared.pieces.Side.{Side}
use Rattle.strategy_certificate.specs.declared.entries.WinEntry.{WinEntry}
use Rattle.strategy_certificate.specs.declared.certificates.Part.{Part}
use Rattle.strategy_certificate.specs.declared.certificates.Part.TheVariants.{Win, Hold}
use Rattle.strategy_certificate.specs.declared.certificates.Certificate.{Certificate}
use Rattle.strategy_certificate.specs.Parts.{WinList, HoldList, HasEntry, IsPath}
use Rattle.fen_text.specs.Printed.{fen_of}
use Rattle.fen_text.proofs.Plain.{printed_tells_apart}
use Rattle.certificate_text.specs.Lines.{Line, title, table, position, claim, win, hold, win_entry, hold_entry, end, line_text, field_of, side_word, claim_word, choice_text}
use Rattle.shared_words.specs.Bytes.{Lacks}
use Rattle.strategy_certificate.specs.declared.entries.TheConstants.{MOST_RANK}
use Rattle.strategy_certificate.specs.Tables.{IsTableSize}
use Rattle.certificate_text.specs.Text.{IsSoundPlace}
use Rattle.certificate_text.specs.Steps.{AddsLine, AddsWin, AddsHold, settled, Leads}
use Rattle.certificate_text.specs.Refusals.{BeginsPart, IsEntryOf, MayStand, IsFen, IsTaken, IsNoLine, HasBadFen, IsDoubled}
use Rattle.certificate_text.specs.Places.{Place, at_title, at_table, at_position, at_claim, at_part, at_entry, at_end}
use Rattle.shared_words.proofs.LackingBytes.{halves_agree, Lacks-append}
use Rattle.shared_words.proofs.Numerals.{Lacks-decimal}
use Rattle.certificate_text.proofs.Fields.{choice_behind, field_cut}
use Rattle.certificate_text.proofs.Spellings.{Lacks-field, Lacks-side, Lacks-claim, Lacks-choice, one_claim_word, one_side_and_count, one_choice}

-- ---- of the lines that may stand at one place no two have one text

table_small : (pieces : ℕ) → IsTableSize pieces → pieces < 2 ^ 64
table_small pieces (inl e) = omega arith
table_small pieces (inr e) = omega arith

one_table : (l m : Line) → MayStand at_table l → MayStand at_table m → line_text l ≡ line_text m → l ≡ m
one_table (table p) (table q) one two e = ap table (decimal_injective p q (table_small p one) (table_small q two) (ap (drop 6) e))
one_table (table p) m one two e = absurd two
one_table l m one two e = absurd one

one_position : (pieces : ℕ) (l m : Line) → MayStand (at_position pieces) l → MayStand (at_position pieces) m → line_text l ≡ line_text m → l ≡ m
one_position pieces (position f) (position g) one two e = ap position (ap (drop 9) e)
one_position pieces (position f) m one two e = absurd two
one_position pieces l m one two e = absurd one

one_claim : (pieces : ℕ) (p : Board) (l m : Line) → MayStand (at_claim pieces p) l → MayStand (at_claim pieces p) m → line_text l ≡ line_text m → l ≡ m
one_claim pieces p (claim c) (claim d) one two e = ap claim (one_claim_word c d (ap (drop 6) e))
one_claim pieces p (claim c) m one two e = absurd two
one_claim pieces p l m one two e = absurd one

one_heading : (l m : Line) → BeginsPart l → BeginsPart m → line_text l ≡ line_text m → l ≡ m
one_heading (win s n) (win t k) one two e = let both = one_side_and_count s t n k one two (ap (drop 4) e) in λ i. win (both.0 i) (both.1 i)
one_heading (hold s n) (hold t k) one two e = let both = one_side_and_count s t n k one two (ap (drop 5) e) in λ i. hold (both.0 i) (both.1 i)
one_heading end end one two e = refl
one_heading (win s n) (hold t k) one two e = absurd (let h : ◌≡◌ {A = ℕ} 119 104 = ap (λ text. get_or text 0 0) e in omega (arith, h))
one_heading (win s n) end one two e = absurd (let h : ◌≡◌ {A = ℕ} 119 101 = ap (λ text. get_or text 0 0) e in omega (arith, h))
one_heading (hold s n) (win t k) one two e = absurd (let h : ◌≡◌ {A = ℕ} 104 119 = ap (λ text. get_or text 0 0) e in omega (arith, h))
one_heading (hold s n) end one two e = absurd (let h : ◌≡◌ {A = ℕ} 104 101 = ap (λ text. get_or text 0 0) e in omega (arith, h))
one_heading end (win t k) one two e = absurd (let h : ◌≡◌ {A = ℕ} 101 119 = ap (λ text. get_or text 0 0) e in omega (arith, h))
one_heading end (hold t k) one two e = absurd (let h : ◌≡◌ {A = ℕ} 101 104 = ap (λ text. get_or text 0 0) e in omega (arith, h))
one_heading (win s n) m one two e = absurd two
one_heading (hold s n) m one two e = absurd two
one_heading end m one two e = absurd two
one_heading l m one two e = absurd one

-- a field, and a choice behind it
one_field_and_choice : (f g : List ℕ) (chosen other : Option (List ℕ)) → Lacks 32 f → Lacks 32 g → IfSome chosen IsPath → IfSome other IsPath
    → f ++ choice_text chosen ≡ g ++ choice_text other → (f ≡ g) × (chosen ≡ other)
one_field_and_choice f g chosen other bare plain one two e =
    let left = choice_behind chosen in
    let right = choice_behind other in
    let both = field_cut f g left.0 right.0 bare plain (ap (λ t. f ++ t) (sym left.1) ∙ e ∙ ap (λ t. g ++ t) right.1) in
    (both.0, one_choice chosen other one two (left.1 ∙ both.1 ∙ sym right.1))

one_win_entry : (old : WinList) (l m : Line) → IsEntryOf (Win old) l → IsEntryOf (Win old) m → line_text l ≡ line_text m → l ≡ m
one_win_entry old (win_entry f rank chosen) (win_entry g other_rank other) (bare, (low, path)) (plain, (small, way)) e =
    let fields = halves_agree 32 f g (decimal rank ++ choice_text chosen) (decimal other_rank ++ choice_text other) bare plain e in
    let rest = one_field_and_choice (decimal rank) (decimal other_rank) chosen other
    (Lacks-decimal 32 rank refl (omega arith)) (Lacks-decimal 32 other_rank refl (omega arith)) path way fields.1 in
    let ranks = decimal_injective rank other_rank (omega arith) (omega arith) rest.0 in
    λ i. win_entry (fields.0 i) (ranks i) (rest.1 i)
one_win_entry old (win_entry f rank chosen) m one two e = absurd two
one_win_entry old l m one two e = absurd one

one_hold_entry : (old : HoldList) (l m : Line) → IsEntryOf (Hold old) l → IsEntryOf (Hold old) m → line_text l ≡ line_text m → l ≡ m
one_hold_entry old (hold_entry f chosen) (hold_entry g other) (bare, path) (plain, way) e =
    let both = one_field_and_choice f g chosen other bare plain path way e in
    λ i. hold_entry (both.0 i) (both.1 i)
one_hold_entry old (hold_entry f chosen) m one two e = absurd two
one_hold_entry old l m one two e = absurd one

pub one_line : (d : Place) (l m : Line) → MayStand d l → MayStand d m → line_text l ≡ line_text m → l ≡ m
one_line at_title l m one two e = one ∙ sym two
one_line at_table l m one two e = one_table l m one two e
one_line (at_position pieces) l m one two e = one_position pieces l m one two e
one_line (at_claim pieces p) l m one two e = one_claim pieces p l m one two e
one_line (at_part c) l m one two e = one_heading l m one two e
one_line (at_entry c (Win old) left) l m one two e = one_win_entry old l m one two e
one_line (at_entry c (Hold old) left) l m one two e = one_hold_entry old l m one two e
one_line (at_end c) l m one two e = absurd one

-- ---- a line that leads on may stand there

adds_may : (part : Part) (l : Line) (longer : Part) → AddsLine part l longer → IsEntryOf part l
adds_may (Win old) (win_entry field rank chosen) (Win new) a = (Lacks-field 32 a.p field refl a.lawful a.fen, a.range)
adds_may (Hold old) (hold_entry field chosen) (Hold new) a = (Lacks-field 32 a.p field refl a.lawful a.fen, a.path)
adds_may part l longer a = absurd a

pub leads_may : (d : Place) (l : Line) (next : Place) → IsSoundPlace d → Leads d l next → MayStand d l
leads_may at_title title next sound e = refl
leads_may at_table (table pieces) next sound (few, e) = few
leads_may (at_position pieces) (position field) next sound says = Lacks-field 32 says.p field refl says.lawful says.fen
leads_may (at_claim pieces p) (claim c) next sound e = tt
leads_may (at_part c) (win side count) next sound (small, e) = small
leads_may (at_part c) (hold side count) next sound (small, e) = small
leads_may (at_part c) end next sound e = tt
leads_may (at_entry c part left) l next sound (longer, (adds, e)) = adds_may part l longer adds
leads_may d l next sound none = absurd none

-- ---- it leads to one place

one_win : (old new other : WinList) (field : List ℕ) (e : WinEntry) → AddsWin old field e new → AddsWin old field e other → new ≡ other
one_win old new other field e a b =
    let same : a.p ≡ b.p = printed_tells_apart a.p b.p a.lawful b.lawful (sym a.fen ∙ b.fen) in
    a.behind ∙ (λ i. record old { entries = old.entries ++ (same i, e) ∷ [] }) ∙ sym b.behind

one_hold : (old new other : HoldList) (field : List ℕ) (chosen : Option (List ℕ)) → AddsHold old field chosen new → AddsHold old field chosen other → new ≡ other
one_hold old new other field chosen a b =
    let same : a.p ≡ b.p = printed_tells_apart a.p b.p a.lawful b.lawful (sym a.fen ∙ b.fen) in
    a.behind ∙ (λ i. record old { entries = old.entries ++ (same i, chosen) ∷ [] }) ∙ sym b.behind

adds_one : (part : Part) (l : Line) (longer other : Part) → AddsLine part l longer → AddsLine part l other → longer ≡ other
adds_one (Win old) (win_entry field rank chosen) (Win new) (Win other) a b = ap Win (one_win old new other field _ a b)
adds_one (Win old) (win_entry field rank chosen) (Win new) other a b = absurd b
adds_one (Hold old) (hold_entry field chosen) (Hold new) (Hold other) a b = ap Hold (one_hold old new other field chosen a b)
adds_one (Hold old) (hold_entry field chosen) (Hold new) other a b = absurd b
adds_one part l longer other a b = absurd a

pub leads_one : (d : Place) (l : Line) (n m : Place) → Leads d l n → Leads d l m → n ≡ m
leads_one at_title title n m one two = one ∙ sym two
leads_one at_table (table pieces) n m (few, one) (small, two) = one ∙ sym two
leads_one (at_position pieces) (position field) n m one two =
    one.leads ∙ ap (λ p. at_claim pieces p) (printed_tells_apart one.p two.p one.lawful two.lawful (sym one.fen ∙ two.fen)) ∙ sym two.leads
leads_one (at_claim pieces p) (claim c) n m one two = one ∙ sym two
leads_one (at_part c) (win side count) n m (small, one) (low, two) = one ∙ sym two
leads_one (at_part c) (hold side count) n m (small, one) (low, two) = one ∙ sym two
leads_one (at_part c) end n m one two = one ∙ sym two
leads_one (at_entry c part left) l n m (longer, (adds, one)) (other, (also, two)) =
    one ∙ ap (λ more. settled c more (left - 1)) (adds_one part l longer other adds also) ∙ sym two
leads_one d l n m one two = absurd one

-- ---- no byte that ends a line stands in it

Lacks-heading : (side : Side) (count : ℕ) → count < 2 ^ 32 → Lacks 10 (side_word side ++ 32 ∷ decimal count)
Lacks-heading side count small =
    Lacks-append 10 (side_word side) (32 ∷ decimal count) (Lacks-side side) (Lacks-decimal 10 count refl (omega arith))

adds_bare : (part : Part) (l : Line) (longer : Part) → AddsLine part l longer → Lacks 10 (line_text l)
adds_bare (Win old) (win_entry field rank chosen) (Win new) a =
    let low : rank ≤ MOST_RANK = a.range.0 in
    let spelled = Lacks-append 10 (decimal rank) (choice_text chosen) (Lacks-decimal 10 rank refl (omega arith)) (Lacks-choice chosen a.range.1) in
    Lacks-append 10 field (32 ∷ (decimal rank ++ choice_text chosen)) (Lacks-field 10 a.p field refl a.lawful a.fen) spelled
adds_bare (Hold old) (hold_entry field chosen) (Hold new) a =
    Lacks-append 10 field (choice_text chosen) (Lacks-field 10 a.p field refl a.lawful a.fen) (Lacks-choice chosen a.path)
adds_bare part l longer a = absurd a

pub leads_bare : (d : Place) (l : Line) (next : Place) → IsSoundPlace d → Leads d l next → Lacks 10 (line_text l)
leads_bare at_title title next sound e = refl
leads_bare at_table (table pieces) next sound (few, e) =
    Lacks-append 10 (codes "table ") (decimal pieces) refl (Lacks-decimal 10 pieces refl (table_small pieces few))
leads_bare (at_position pieces) (position field) next sound says =
    Lacks-append 10 (codes "position ") field refl (Lacks-field 10 says.p field refl says.lawful says.fen)
leads_bare (at_claim pieces p) (claim c) next sound e = Lacks-append 10 (codes "claim ") (claim_word c) refl (Lacks-claim c)
leads_bare (at_part c) (win side count) next sound (small, e) =
    Lacks-append 10 (codes "win ") (side_word side ++ 32 ∷ decimal count) refl (Lacks-heading side count small)
leads_bare (at_part c) (hold side count) next sound (small, e) =
    Lacks-append 10 (codes "hold ") (side_word side ++ 32 ∷ decimal count) refl (Lacks-heading side count small)
leads_bare (at_part c) end next sound e = refl
leads_bare (at_entry c part left) l next sound (longer, (adds, e)) = adds_bare part l longer adds
leads_bare d l next sound none = absurd none

-- ---- a line that is refused does not lead on

-- what a line says that leads on, if it says a position: a FEN, of a position that is not taken
record IsNew (d : Place) (field : List ℕ) : Type 0 where
  fen : IsFen field
  free : (p : Board) → IsLawful p → field ≡ fen_of p → ¬ IsTaken d p

-- the entries have the position that the field says, and no other
still_absent : {E : Type 0} (rows : List (Board × E)) (p q : Board) (field : List ℕ) → IsLawful p → IsLawful q → field ≡ fen_of p → field ≡ fen_of q → ¬ HasEntry rows p → ¬ HasEntry rows q
still_absent rows p q field lp lq e f absent taken = absent (subst (HasEntry rows) (printed_tells_apart q p lq lp (sym f ∙ e)) taken)

adds_new : (c : Certificate) (part : Part) (left : ℕ) (l : Line) (longer : Part) → AddsLine part l longer → IfSome (field_of l) (IsNew (at_entry c part left))
adds_new c (Win old) left (win_entry field rank chosen) (Win new) a = record {
  fen = (a.p, (a.lawful, a.fen));
  free = λ q lawful e. still_absent old.entries a.p q field a.lawful lawful a.fen e a.absent;
}
adds_new c (Hold old) left (hold_entry field chosen) (Hold new) a = record {
  fen = (a.p, (a.lawful, a.fen));
  free = λ q lawful e. still_absent old.entries a.p q field a.lawful lawful a.fen e a.absent;
}
adds_new c part left l longer a = absurd a

leads_new : (d : Place) (l : Line) (next : Place) → Leads d l next → IfSome (field_of l) (IsNew d)
leads_new at_title title next e = tt
leads_new at_table (table pieces) next leads = tt
leads_new (at_position pieces) (position field) next says = record { fen = (says.p, (says.lawful, says.fen)); free = λ q lawful e taken. taken }
leads_new (at_claim pieces p) (claim c) next e = tt
leads_new (at_part c) (win side count) next leads = tt
leads_new (at_part c) (hold side count) next leads = tt
leads_new (at_part c) end next e = tt
leads_new (at_entry c part left) l next (longer, (adds, e)) = adds_new c part left l longer adds
leads_new d l next none = absurd none

-- the field of a line that leads on and is spelled as this line, which may stand there too
field_new : (d : Place) (said l : Line) (next : Place) (field : List ℕ) → IsSoundPlace d → Leads d l next → MayStand d said → line_text said ≡ line_text l → field_of said ≡ Some field → IsNew d field
field_new d said l next field sound leads may same has =
    subst (λ o. IfSome o (IsNew d)) (ap field_of (sym (one_line d said l may (leads_may d l next sound leads) same)) ∙ has) (leads_new d l next leads)

pub no_line_leads_not : (d : Place) (line : List ℕ) (l : Line) (next : Place) → IsSoundPlace d → IsNoLine d line → line ≡ line_text l → Leads d l next → ⊥
no_line_leads_not d line l next sound fault same leads = fault l (leads_may d l next sound leads) same

pub bad_fen_leads_not : (d : Place) (line : List ℕ) (l : Line) (next : Place) → IsSoundPlace d → HasBadFen d line → line ≡ line_text l → Leads d l next → ⊥
bad_fen_leads_not d line l next sound fault same leads =
    let new = field_new d fault.said l next fault.field sound leads fault.may (sym fault.spelled ∙ same) fault.has in
    fault.wrong new.fen

pub doubled_leads_not : (d : Place) (line : List ℕ) (l : Line) (next : Place) → IsSoundPlace d → IsDoubled d line → line ≡ line_text l → Leads d l next → ⊥
doubled_leads_not d line l next sound fault same leads =
    let new = field_new d fault.said l next (fen_of fault.p) sound leads fault.may (sym fault.spelled ∙ same) fault.has in
    new.free fault.p fault.lawful refl fault.taken

-- ---- a line is refused in one way

pub no_line_bad_fen : (d : Place) (line : List ℕ) → IsNoLine d line → HasBadFen d line → ⊥
no_line_bad_fen d line none fault = none fault.said fault.may fault.spelled

pub no_line_doubled : (d : Place) (line : List ℕ) → IsNoLine d line → IsDoubled d line → ⊥
no_line_doubled d line none fault = none fault.said fault.may fault.spelled

pub bad_fen_doubled : (d : Place) (line : List ℕ) → HasBadFen d line → IsDoubled d line → ⊥
bad_fen_doubled d line fault twice =
    let same = one_line d twice.said fault.said twice.may fault.may (sym twice.spelled ∙ fault.spelled) in
    let fields : Some (fen_of twice.p) ≡ Some fault.field = sym twice.has ∙ ap field_of same ∙ fault.has in
    fault.wrong (twice.p, (twice.lawful, sym (same_Some (fen_of twice.p) fault.field fields)))
