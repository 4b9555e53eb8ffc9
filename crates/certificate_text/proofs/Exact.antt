-- A text fixes its answer: there is one place where a reading of it stops.
use Rattle.std.proofs.Common.{◌≡◌, ℕ, ◌+◌, ◌<◌, List, [], ◌∷◌, ◌++◌, length, refl, sym, ◌∙◌, ap, subst, append-nil, arith, inl, inr, ◌⊎◌}
use Rattle.strategy_certificate.specs.declared.certificates.Certificate.{Certificate}
use Rattle.certificate_text.specs.Lines.{Line, line_text, text_of_lines}
use Rattle.shared_words.specs.Bytes.{Lacks}
use Rattle.certificate_text.specs.Text.{text_of_certificate, IsPrinted, before, IsSoundPlace, IsOpenPlace, ReadsAs}
use Rattle.certificate_text.specs.Steps.{Leads}
use Rattle.certificate_text.specs.Refusals.{IsNoLine, HasBadFen, IsDoubled, IsBadLineAt, IsTextRefusal}
use Rattle.certificate_text.specs.Laws.{TextsTellApart, PrintedIsNotRefused, OneTextRefusal}
use Rattle.certificate_text.specs.Places.{Place, at_title, at_end}
use Rattle.certificate_text.specs.declared.refusal.TextRefusal.{TextRefusal}
use Rattle.certificate_text.specs.declared.refusal.TextRefusal.TheVariants as refusal
use Rattle.shared_words.proofs.LackingBytes.{halves_agree, Lacks-split}
use Rattle.certificate_text.proofs.Leading.{Went}
use Rattle.certificate_text.proofs.OneSpelling.{leads_bare, no_line_leads_not, bad_fen_leads_not, doubled_leads_not, no_line_bad_fen, no_line_doubled, bad_fen_doubled}
use Rattle.certificate_text.proofs.Runs.{reached}
use Rattle.certificate_text.proofs.Places.{GoesOn, Meet, places}

-- a reading of the text stops where this is due, before this rest, of both of which the fact holds
record Stops (text : List ℕ) (Fact : Place → List ℕ → Type 0) : Type 0 where
  place : Place
  rest : List ℕ
  sound : IsSoundPlace place
  spelled : text ≡ text_of_lines (before place) ++ rest
  stays : GoesOn place rest → ⊥
  fact : Fact place rest

-- two readings stop at one place
stop_together : (text : List ℕ) (Fact Other : Place → List ℕ → Type 0) → Stops text Fact → Stops text Other → (d : Place) × ((rest : List ℕ) × (Fact d rest × Other d rest))
stop_together text Fact Other a b =
    by (places at_title (before a.place) (before b.place) a.place b.place a.rest b.rest tt (reached a.place a.sound) (reached b.place b.sound) (sym a.spelled ∙ b.spelled))
  where
    by : Meet a.place b.place (before a.place) (before b.place) a.rest b.rest → (d : Place) × ((rest : List ℕ) × (Fact d rest × Other d rest))
    by (inl same) = (b.place, (b.rest, (subst (λ d. Fact d b.rest) same.one_due (subst (Fact a.place) same.one_rest a.fact), b.fact)))
    by (inr (inl on)) = absurd (a.stays on)
    by (inr (inr on)) = absurd (b.stays on)

-- ---- the text of a certificate

-- no line is due behind the certificate, and this is left
abbrev IsWhole : Certificate → List ℕ → Place → List ℕ → Type 0
IsWhole c left d rest = (d ≡ at_end c) × (rest ≡ left)

whole_stops : (text : List ℕ) (c : Certificate) (left : List ℕ) → IsPrinted c → text ≡ text_of_certificate c ++ left → Stops text (IsWhole c left)
whole_stops text c left printed e = record { place = at_end c; rest = left; sound = printed; spelled = e; stays = λ on. on.leads; fact = (refl, refl) }

one_certificate : (c d : Certificate) → at_end c ≡ at_end d → c ≡ d
one_certificate c d e = cc

pub texts_tell_apart : TextsTellApart
texts_tell_apart c d rest c_printed d_printed e =
    let both = stop_together (text_of_certificate c) (IsWhole c []) (IsWhole d rest) (whole_stops (text_of_certificate c) c [] c_printed (sym (append-nil (text_of_certificate c)))) (whole_stops (text_of_certificate c) d rest d_printed e) in
    let facts = both.1.1 in
    (one_certificate c d (sym facts.0.0 ∙ facts.1.0), sym facts.1.1 ∙ facts.0.1)

-- a text is that of one certificate
pub one_certificate_read : (text : List ℕ) (c d : Certificate) → ReadsAs text c → ReadsAs text d → c ≡ d
one_certificate_read text c d one another = (texts_tell_apart c d [] one.0 another.0 (sym one.1 ∙ another.1 ∙ sym (append-nil (text_of_certificate d)))).0

-- a reading that has come to a whole certificate and to the text's end has read the text
pub whole_reads : (text : List ℕ) (lines : ℕ) (d : Place) (rest : List ℕ) (found : Certificate) → Went text lines d rest → d ≡ at_end found → rest ≡ [] → ReadsAs text found
whole_reads text lines d rest found so_far whole over =
    let at = subst (λ x. Went text lines x rest) whole so_far in
    (at.sound, at.spelled ∙ ap (λ r. text_of_certificate found ++ r) over ∙ append-nil (text_of_certificate found))

-- ---- refusals

-- the first line of the rest is wrong, and is line `number` of the text
record HasWrongLine (Fault : Place → List ℕ → Type 0) (number : ℕ) (d : Place) (rest : List ℕ) : Type 0 where
  counted : number ≡ length (before d) + 1
  line : List ℕ
  behind : List ℕ
  spelled : rest ≡ line ++ 10 ∷ behind
  whole : Lacks 10 line
  due : IsOpenPlace d
  wrong : Fault d line

-- the refusal of a text whose reading stops where this is due, before this rest
abbrev IsRefusedAt : TextRefusal → Place → List ℕ → Type 0
IsRefusedAt (refusal.BadLine n) d rest = HasWrongLine IsNoLine n d rest
IsRefusedAt (refusal.BadFen n) d rest = HasWrongLine HasBadFen n d rest
IsRefusedAt (refusal.Doubled n) d rest = HasWrongLine IsDoubled n d rest
IsRefusedAt refusal.Truncated d rest = IsOpenPlace d × Lacks 10 rest
IsRefusedAt (refusal.AfterEnd n) d rest = (n ≡ length (before d) + 1) × ((IsOpenPlace d → ⊥) × (0 < length rest))
IsRefusedAt (refusal.Memory e) d rest = ⊥

wrong_line_stops : (Fault : Place → List ℕ → Type 0) (text : List ℕ) (n : ℕ)
    → ((d : Place) (line : List ℕ) (l : Line) (next : Place) → IsSoundPlace d → Fault d line → line ≡ line_text l → Leads d l next → ⊥)
    → IsBadLineAt Fault text n → Stops text (HasWrongLine Fault n)
wrong_line_stops Fault text n never (d, (line, (at, wrong))) = record {
  place = d;
  rest = line ++ 10 ∷ at.rest;
  sound = at.stands.sound;
  spelled = at.stands.spelled;
  stays = λ on.
      let cut = halves_agree 10 line (line_text on.line) at.rest on.behind at.whole (leads_bare d on.line on.next at.stands.sound on.leads) on.spelled in
      never d line on.line on.next at.stands.sound wrong cut.0 on.leads;
  fact = record { counted = at.stands.counted; line = line; behind = at.rest; spelled = refl; whole = at.whole; due = at.due; wrong = wrong };
}

refusal_stops : (text : List ℕ) (r : TextRefusal) → IsTextRefusal text r → Stops text (IsRefusedAt r)
refusal_stops text (refusal.BadLine n) refused = wrong_line_stops IsNoLine text n no_line_leads_not refused
refusal_stops text (refusal.BadFen n) refused = wrong_line_stops HasBadFen text n bad_fen_leads_not refused
refusal_stops text (refusal.Doubled n) refused = wrong_line_stops IsDoubled text n doubled_leads_not refused
refusal_stops text refusal.Truncated refused = record {
  place = refused.place;
  rest = refused.rest;
  sound = refused.stands.sound;
  spelled = refused.stands.spelled;
  stays = λ on. Lacks-split 10 (line_text on.line) on.behind (subst (Lacks 10) on.spelled refused.endless);
  fact = (refused.due, refused.endless);
}
refusal_stops text (refusal.AfterEnd n) (c, (b, (rest, stands))) = record {
  place = at_end c;
  rest = b ∷ rest;
  sound = stands.sound;
  spelled = stands.spelled;
  stays = λ on. on.leads;
  fact = (stands.counted, (λ op. op, omega arith));
}
refusal_stops text (refusal.Memory e) refused = absurd refused

-- ---- the text of a certificate is not refused

not_refused_there : (r : TextRefusal) (c : Certificate) → IsRefusedAt r (at_end c) [] → ⊥
not_refused_there (refusal.BadLine n) c at = at.due
not_refused_there (refusal.BadFen n) c at = at.due
not_refused_there (refusal.Doubled n) c at = at.due
not_refused_there refusal.Truncated c at = at.0
not_refused_there (refusal.AfterEnd n) c at = let none : 0 < 0 = at.1.1 in omega arith
not_refused_there (refusal.Memory e) c at = at

pub printed_is_not_refused : PrintedIsNotRefused
printed_is_not_refused text c r reads refused =
    let both = stop_together text (IsRefusedAt r) (IsWhole c []) (refusal_stops text r refused) (whole_stops text c [] reads.0 (reads.1 ∙ sym (append-nil (text_of_certificate c)))) in
    let facts = both.1.1 in
    not_refused_there r c (subst (IsRefusedAt r (at_end c)) facts.1.1 (subst (λ d. IsRefusedAt r d both.1.0) facts.1.0 facts.0))

-- ---- one refusal

module _ (d : Place) (rest : List ℕ) where
  -- faults that no line has both of
  clash : (Fault Other : Place → List ℕ → Type 0) → ((line : List ℕ) → Fault d line → Other d line → ⊥) → (n m : ℕ) → HasWrongLine Fault n d rest → HasWrongLine Other m d rest → ⊥
  clash Fault Other never n m a b =
      let cut = halves_agree 10 a.line b.line a.behind b.behind a.whole b.whole (sym a.spelled ∙ b.spelled) in
      never b.line (subst (Fault d) cut.0 a.wrong) b.wrong

  not_truncated : (Fault : Place → List ℕ → Type 0) (n : ℕ) → HasWrongLine Fault n d rest → Lacks 10 rest → ⊥
  not_truncated Fault n a endless = Lacks-split 10 a.line a.behind (subst (Lacks 10) a.spelled endless)

  one_there : (one another : TextRefusal) → IsRefusedAt one d rest → IsRefusedAt another d rest → one ≡ another
  one_there (refusal.BadLine n) (refusal.BadLine m) a b = ap refusal.BadLine (a.counted ∙ sym b.counted)
  one_there (refusal.BadLine n) (refusal.BadFen m) a b = absurd (clash IsNoLine HasBadFen (no_line_bad_fen d) n m a b)
  one_there (refusal.BadLine n) (refusal.Doubled m) a b = absurd (clash IsNoLine IsDoubled (no_line_doubled d) n m a b)
  one_there (refusal.BadLine n) refusal.Truncated a b = absurd (not_truncated IsNoLine n a b.1)
  one_there (refusal.BadLine n) (refusal.AfterEnd m) a b = absurd (b.1.0 a.due)
  one_there (refusal.BadFen n) (refusal.BadLine m) a b = absurd (clash IsNoLine HasBadFen (no_line_bad_fen d) m n b a)
  one_there (refusal.BadFen n) (refusal.BadFen m) a b = ap refusal.BadFen (a.counted ∙ sym b.counted)
  one_there (refusal.BadFen n) (refusal.Doubled m) a b = absurd (clash HasBadFen IsDoubled (bad_fen_doubled d) n m a b)
  one_there (refusal.BadFen n) refusal.Truncated a b = absurd (not_truncated HasBadFen n a b.1)
  one_there (refusal.BadFen n) (refusal.AfterEnd m) a b = absurd (b.1.0 a.due)
  one_there (refusal.Doubled n) (refusal.BadLine m) a b = absurd (clash IsNoLine IsDoubled (no_line_doubled d) m n b a)
  one_there (refusal.Doubled n) (refusal.BadFen m) a b = absurd (clash HasBadFen IsDoubled (bad_fen_doubled d) m n b a)
  one_there (refusal.Doubled n) (refusal.Doubled m) a b = ap refusal.Doubled (a.counted ∙ sym b.counted)
  one_there (refusal.Doubled n) refusal.Truncated a b = absurd (not_truncated IsDoubled n a b.1)
  one_there (refusal.Doubled n) (refusal.AfterEnd m) a b = absurd (b.1.0 a.due)
  one_there refusal.Truncated (refusal.BadLine m) a b = absurd (not_truncated IsNoLine m b a.1)
  one_there refusal.Truncated (refusal.BadFen m) a b = absurd (not_truncated HasBadFen m b a.1)
  one_there refusal.Truncated (refusal.Doubled m) a b = absurd (not_truncated IsDoubled m b a.1)
  one_there refusal.Truncated refusal.Truncated a b = refl
  one_there refusal.Truncated (refusal.AfterEnd m) a b = absurd (b.1.0 a.0)
  one_there (refusal.AfterEnd n) (refusal.BadLine m) a b = absurd (a.1.0 b.due)
  one_there (refusal.AfterEnd n) (refusal.BadFen m) a b = absurd (a.1.0 b.due)
  one_there (refusal.AfterEnd n) (refusal.Doubled m) a b = absurd (a.1.0 b.due)
  one_there (refusal.AfterEnd n) refusal.Truncated a b = absurd (a.1.0 b.0)
  one_there (refusal.AfterEnd n) (refusal.AfterEnd m) a b = ap refusal.AfterEnd (a.0 ∙ sym b.0)
  one_there (refusal.Memory e) another a b = absurd a
  one_there one (refusal.Memory e) a b = absurd b

pub one_text_refusal : OneTextRefusal
one_text_refusal text one another a b =
    let both = stop_together text (IsRefusedAt one) (IsRefusedAt another) (refusal_stops text one a) (refusal_stops text another b) in
    one_there both.0 both.1.0 one another both.1.1.0 both.1.1.1
