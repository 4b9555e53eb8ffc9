-- What files stand for.
use Rattle.std.specs.Prelude.{◌≡◌, ℕ, ◌+◌, List, [], ◌∷◌, ◌++◌, length, take, drop, get_or, refl}
use Rattle.std.specs.List.{flat_map}
use Rattle.std.proofs.Common.{sym, ◌∙◌, ap, inl, inr, arith, append_assoc, length-append, take-append-drop}
use Rattle.std.proofs.lemmas.Bool.{cases_lt}
use Rattle.std.proofs.lemmas.List.{take_at, drop_more, get_or_at, flat_map_more, append-nil}
use Rattle.std.proofs.lemmas.List.Elements.{All-push}
use Rattle.disk_journal.specs.Format.{journal_front, frame, file_head, behind_gate, IsFrame, IsJournal, HasPayloads, IsPrefixOf, StandsBetween}
use Rattle.disk_journal.specs.Gate.{IsClosedAt, StaysClosed, IsOpened}

abbrev Frames : Type 0
Frames = List (List (List ℕ))

-- the closed gate of a journal
pub closed_gate : (pieces : ℕ) (frames : Frames) (file : List ℕ) (gate : ℕ) → gate ≡ length (journal_front pieces frames) → IsJournal pieces frames file → IsClosedAt gate file
closed_gate pieces frames file gate place journal = record {
  within = omega (arith, ap length journal.text, length-append (journal_front pieces frames) (journal.gate ∷ journal.rest));
  closed = λ is. journal.closed (sym (get_or_at (journal_front pieces frames) journal.gate journal.rest 0 gate (sym place)) ∙ (ap (λ (l : List ℕ). get_or l gate 0) (sym journal.text) ∙ is));
}

-- what stands before the gate
pub front_of : (pieces : ℕ) (frames : Frames) (file : List ℕ) (gate : ℕ) → gate ≡ length (journal_front pieces frames) → IsJournal pieces frames file → take gate file ≡ journal_front pieces frames
front_of pieces frames file gate place journal =
    ap (λ (l : List ℕ). take gate l) journal.text ∙ take_at (journal_front pieces frames) (journal.gate ∷ journal.rest) gate (sym place)

-- an image with the same front and a closed gate is a journal of the same frames
pub stays_journal : (pieces : ℕ) (frames : Frames) (file image : List ℕ) (gate : ℕ) → gate ≡ length (journal_front pieces frames) → IsJournal pieces frames file → StaysClosed gate file image → IsJournal pieces frames image
stays_journal pieces frames file image gate place journal stays = record {
  gate = get_or image gate 0;
  rest = drop (gate + 1) image;
  text = sym (take-append-drop gate image) ∙ ap (λ (l : List ℕ). l ++ drop gate image) (stays.front ∙ front_of pieces frames file gate place journal)
      ∙ ap (λ (l : List ℕ). journal_front pieces frames ++ l) (drop_more image gate 0 stays.still_closed.within);
  closed = stays.still_closed.closed;
  each = journal.each;
  table = journal.table;
}

-- one with an open gate, a frame behind it and a closed gate has the frame too
pub becomes_journal : (pieces : ℕ) (frames : Frames) (payloads : List (List ℕ)) (file image : List ℕ) (gate : ℕ) → gate ≡ length (journal_front pieces frames) → IsJournal pieces frames file → IsFrame payloads
    → IsOpened gate (behind_gate payloads ++ 0 ∷ []) file image → IsJournal pieces (frames ++ payloads ∷ []) image
becomes_journal pieces frames payloads file image gate place journal is_frame opened =
    let text = behind_gate payloads ++ 0 ∷ [] in
    let n = gate + 1 + length text in
    let regrouped : journal_front pieces frames ++ 1 ∷ text ≡ journal_front pieces (frames ++ payloads ∷ []) ++ 0 ∷ [] =
    sym (append_assoc (journal_front pieces frames) (frame payloads) (0 ∷ [])) ∙ ap (λ (l : List ℕ). l ++ 0 ∷ []) (flat_map_more frame (file_head pieces) frames payloads) in
    let begins : take n image ≡ journal_front pieces (frames ++ payloads ∷ []) ++ 0 ∷ [] =
    opened ∙ ap (λ (l : List ℕ). l ++ 1 ∷ text) (front_of pieces frames file gate place journal) ∙ regrouped in
    record {
      gate = 0;
      rest = drop n image;
      text = sym (take-append-drop n image) ∙ ap (λ (l : List ℕ). l ++ drop n image) begins ∙ append_assoc (journal_front pieces (frames ++ payloads ∷ [])) (0 ∷ []) (drop n image);
      closed = λ is. omega (arith, is);
      each = All-push IsFrame frames payloads journal.each is_frame;
      table = journal.table;
    }

-- a journal has the payloads of its frames
pub has_payloads : (pieces : ℕ) (frames : Frames) (file : List ℕ) → IsJournal pieces frames file → HasPayloads pieces file (flat_map (λ f. f) frames)
has_payloads pieces [] file journal = elim (cases_lt 9 (length file)) [
  | inl long ↦ inr (long, [], journal, refl)
  | inr short ↦ inl (short, refl)
]
has_payloads pieces (f ∷ frames) file journal =
    inr (omega (arith, ap length journal.text, length-append (journal_front pieces (f ∷ frames)) (journal.gate ∷ journal.rest), length-append (behind_gate f) (flat_map frame frames)), f ∷ frames, journal, refl)

-- the payloads with one frame more
pub all_more : (frames : Frames) (payloads : List (List ℕ)) → flat_map (λ f. f) (frames ++ payloads ∷ []) ≡ flat_map (λ f. f) frames ++ payloads
all_more frames payloads = sym (flat_map_more (λ (f : List (List ℕ)). f) [] frames payloads)

pub prefix_same : {A : Type 0} (xs : List A) → IsPrefixOf xs xs
prefix_same xs = ([], sym (append-nil xs))

pub prefix_append : {A : Type 0} (xs ys : List A) → IsPrefixOf xs (xs ++ ys)
prefix_append xs ys = (ys, refl)

pub prefix_then : {A : Type 0} (xs ys zs : List A) → IsPrefixOf xs ys → IsPrefixOf ys zs → IsPrefixOf xs zs
prefix_then xs ys zs p q = (p.0 ++ q.0, q.1 ∙ ap (λ l. l ++ q.0) p.1 ∙ append_assoc xs p.0 q.0)

pub between_wider : (pieces : ℕ) (low low' high high' : List (List ℕ)) → IsPrefixOf low' low → IsPrefixOf high high' → (image : List ℕ) → StandsBetween pieces low high image → StandsBetween pieces low' high' image
between_wider pieces low low' high high' p q image h = (h.0, h.1, prefix_then low' low h.0 p h.2, prefix_then h.0 high high' h.3 q)
