-- Laws of the format: a file says one thing alone, or it is refused for one cause alone.
use Rattle.std.specs.Prelude.{◌≡◌, ◌≢◌, ℕ, ◌^◌, ◌<◌, List, [], ◌∷◌, ◌++◌, All, get_or, length, take, drop, refl}
use Rattle.std.specs.List.{flat_map}
use Rattle.std.specs.Int.{from_be_bytes, w32, w64}
use Rattle.std.proofs.Common.{sym, ◌∙◌, ap, subst, inl, inr, arith, append_assoc, length-append}
use Rattle.std.proofs.lemmas.List.{take_at, drop_at}
use Rattle.std.proofs.lemmas.List.Elements.{All-head, All-tail}
use Rattle.std.proofs.lemmas.Nat.{from_be_bytes-to_be_bytes_4, from_be_bytes-to_be_bytes_8}
use Rattle.disk_journal.specs.Format.{behind_gate, body, body_length, frame, journal_front, file_head, payload_length, payload_text, places_in_frames, HasPayloads, HasPlaces, IsFresh, IsFrame, IsJournal, IsPayload}
use Rattle.disk_journal.specs.Refusals.{Explains, ExplainsAny, HasHead, IsBroken, IsDamagedAt}
use Rattle.disk_journal.specs.declared.refusal.JournalRefusal.{JournalRefusal}
use Rattle.disk_journal.specs.declared.refusal.JournalRefusal.TheVariants.{DiskFault, NotAJournal, OtherTable, Damaged, Memory}

-- two equal lists, cut at fronts of one length
pub cut : {A : Type 0} (xs ys us vs : List A) → length xs ≡ length ys → xs ++ us ≡ ys ++ vs
    → (xs ≡ ys) × (us ≡ vs)
cut xs ys us vs n e = (
  sym (take_at xs us (length ys) n) ∙ ap (take (length ys)) e ∙ take_at ys vs (length ys) refl,
  sym (drop_at xs us (length ys) n) ∙ ap (drop (length ys)) e ∙ drop_at ys vs (length ys) refl,
)

pub length-payload_length : (n : ℕ) → length (payload_length n) ≡ 4
unfolding payload_length
length-payload_length n = refl

pub length-body_length : (n : ℕ) → length (body_length n) ≡ 8
unfolding body_length
length-body_length n = refl

payload_length_once : (m n : ℕ) → m < 2 ^ 32 → n < 2 ^ 32 → payload_length m ≡ payload_length n
    → m ≡ n
unfolding payload_length
payload_length_once m n p q e = sym (from_be_bytes-to_be_bytes_4 m p) ∙ ap (from_be_bytes w32) e
    ∙ from_be_bytes-to_be_bytes_4 n q

pub body_length_once : (m n : ℕ) → m < 2 ^ 64 → n < 2 ^ 64 → body_length m ≡ body_length n → m ≡ n
unfolding body_length
body_length_once m n p q e = sym (from_be_bytes-to_be_bytes_8 m p) ∙ ap (from_be_bytes w64) e
    ∙ from_be_bytes-to_be_bytes_8 n q

-- a payload with its length comes first in one way
pub payload_once : (p q us vs : List ℕ) → IsPayload p → IsPayload q
    → payload_text p ++ us ≡ payload_text q ++ vs → (p ≡ q) × (us ≡ vs)
payload_once p q us vs is_p is_q e =
    let parts = cut (payload_length (length p)) (payload_length (length q)) (p ++ us) (q ++ vs)
    (length-payload_length (length p) ∙ sym (length-payload_length (length q)))
    (sym (append_assoc (payload_length (length p)) p us) ∙ e
    ∙ append_assoc (payload_length (length q)) q vs) in
    cut p q us vs (payload_length_once (length p) (length q) is_p.fits is_q.fits parts.0) parts.1

-- a body is that of one list of payloads
pub body_once : (xs ys : List (List ℕ)) → All IsPayload xs → All IsPayload ys → body xs ≡ body ys
    → xs ≡ ys
body_once [] [] a b e = refl
body_once [] (q ∷ ys) a b e = absurd (omega (
  arith,
  ap length e,
  length-append (payload_text q) (body ys),
  length-append (payload_length (length q)) q,
  length-payload_length (length q),
))
body_once (p ∷ xs) [] a b e = absurd (omega (
  arith,
  ap length e,
  length-append (payload_text p) (body xs),
  length-append (payload_length (length p)) p,
  length-payload_length (length p),
))
body_once (p ∷ xs) (q ∷ ys) a b e =
    let parts = payload_once p q (body xs) (body ys) (All-head IsPayload p xs a)
    (All-head IsPayload q ys b) e in
    let rest : xs ≡ ys =
    body_once xs ys (All-tail IsPayload p xs a) (All-tail IsPayload q ys b) parts.1 in
    ap (λ x. x ∷ xs) parts.0 ∙ ap (λ (l : List (List ℕ)). q ∷ l) rest

-- a frame comes first in one way
behind_once : (x y : List (List ℕ)) (us vs : List ℕ) → IsFrame x → IsFrame y
    → behind_gate x ++ us ≡ behind_gate y ++ vs → (x ≡ y) × (us ≡ vs)
behind_once x y us vs is_x is_y e =
    let parts = cut (body_length (length (body x))) (body_length (length (body y))) (body x ++ us)
    (body y ++ vs) (length-body_length (length (body x))
    ∙ sym (length-body_length (length (body y))))
    (sym (append_assoc (body_length (length (body x))) (body x) us) ∙ e
    ∙ append_assoc (body_length (length (body y))) (body y) vs) in
    let bodies = cut (body x) (body y) us vs
    (body_length_once (length (body x)) (length
    (body y)) is_x.fits is_y.fits parts.0) parts.1 in
    (body_once x y is_x.each is_y.each bodies.0, bodies.1)

-- no frame begins here, with its gate
abbrev BeginsNoFrame : List ℕ → Type 0
BeginsNoFrame rest = (payloads : List (List ℕ)) (more : List ℕ) → IsFrame payloads
    → rest ≡ frame payloads ++ more → ⊥

closed_begins_none : (gate : ℕ) (rest : List ℕ) → gate ≢ 1 → BeginsNoFrame (gate ∷ rest)
closed_begins_none gate rest closed payloads more is e = closed (cc)

broken_begins_none : (rest : List ℕ) → IsBroken rest → BeginsNoFrame rest
broken_begins_none [] broken payloads more is e =
    omega (arith, ap length e, length-append (frame payloads) more)
broken_begins_none (gate ∷ rest) broken payloads more is e =
    let tails : rest ≡ behind_gate payloads ++ more = cc in
    broken.1 payloads more is tails

-- frames, up to where none begins, are read in one way
frames_once : (fs gs : List (List (List ℕ))) (r s : List ℕ) → All IsFrame fs → All IsFrame gs
    → BeginsNoFrame r → BeginsNoFrame s → flat_map frame fs ++ r ≡ flat_map frame gs ++ s
    → (fs ≡ gs) × (r ≡ s)
frames_once [] [] r s a b p q e = (refl, e)
frames_once [] (y ∷ gs) r s a b p q e = absurd
    (p y (flat_map frame gs ++ s) (All-head IsFrame y gs b)
    (e ∙ append_assoc (frame y) (flat_map frame gs) s))
frames_once (x ∷ fs) [] r s a b p q e = absurd
    (q x (flat_map frame fs ++ r) (All-head IsFrame x fs a)
    (sym e ∙ append_assoc (frame x) (flat_map frame fs) r))
frames_once (x ∷ fs) (y ∷ gs) r s a b p q e =
    let tails : (behind_gate x ++ flat_map frame fs) ++ r ≡ (behind_gate y ++ flat_map frame gs)
    ++ s = cc in
    let parts = behind_once x y (flat_map frame fs ++ r) (flat_map frame gs ++ s)
    (All-head IsFrame x fs a) (All-head IsFrame y gs b)
    (sym (append_assoc (behind_gate x) (flat_map frame fs) r) ∙ tails
    ∙ append_assoc (behind_gate y) (flat_map frame gs) s) in
    let more =
    frames_once fs gs r s (All-tail IsFrame x fs a) (All-tail IsFrame y gs b) p q parts.1 in
    (ap (λ f. f ∷ fs) parts.0 ∙ ap (λ (l : List (List (List ℕ))). y ∷ l) more.0, more.1)

-- a head and frames, up to where none begins, are read in one way
front_once : (p q : ℕ) (fs gs : List (List (List ℕ))) (r s : List ℕ) → All IsFrame fs
    → All IsFrame gs → BeginsNoFrame r → BeginsNoFrame s
    → journal_front p fs ++ r ≡ journal_front q gs ++ s → (fs ≡ gs) × (r ≡ s)
front_once p q fs gs r s a b x y e =
    let parts =
    cut (file_head p) (file_head q) (flat_map frame fs ++ r) (flat_map frame gs ++ s) refl
    (sym (append_assoc (file_head p) (flat_map frame fs) r) ∙ e
    ∙ append_assoc (file_head q) (flat_map frame gs) s) in
    frames_once fs gs r s a b x y parts.1

-- a file is a journal of one list of frames
pub journal_once : (p q : ℕ) (fs gs : List (List (List ℕ))) (file : List ℕ) → IsJournal p fs file
    → IsJournal q gs file → fs ≡ gs
journal_once p q fs gs file x y =
    (front_once p q fs gs (x.gate ∷ x.rest) (y.gate ∷ y.rest) x.each y.each
    (closed_begins_none x.gate x.rest x.closed) (closed_begins_none y.gate y.rest y.closed)
    (sym x.text ∙ y.text)).0

-- a file has the payloads of one list alone
pub payloads_once : (p q : ℕ) (file : List ℕ) (ps qs : List (List ℕ)) → HasPayloads p file ps
    → HasPayloads q file qs → ps ≡ qs
payloads_once p q file ps qs (inl a) (inl b) = a.1 ∙ sym b.1
payloads_once p q file ps qs (inl a) (inr b) = absurd (omega (arith, a.0, b.0))
payloads_once p q file ps qs (inr a) (inl b) = absurd (omega (arith, a.0, b.0))
payloads_once p q file ps qs (inr a) (inr b) =
    a.3 ∙ ap (flat_map (λ f. f)) (journal_once p q a.1 b.1 file a.2 b.2) ∙ sym b.3

-- a file has its payloads at one list of places alone
pub places_once : (p q : ℕ) (file : List ℕ) (xs ys : List ℕ) → HasPlaces p file xs
    → HasPlaces q file ys → xs ≡ ys
places_once p q file xs ys (inl a) (inl b) = a.1 ∙ sym b.1
places_once p q file xs ys (inl a) (inr b) = absurd (omega (arith, a.0, b.0))
places_once p q file xs ys (inr a) (inl b) = absurd (omega (arith, a.0, b.0))
places_once p q file xs ys (inr a) (inr b) =
    a.3 ∙ ap (places_in_frames 8) (journal_once p q a.1 b.1 file a.2 b.2) ∙ sym b.3

-- heads

head_of_text : (pieces : ℕ) (frames : List (List (List ℕ))) (rest file : List ℕ)
    → file ≡ journal_front pieces frames ++ rest → take 8 file ≡ file_head pieces
head_of_text pieces frames rest file e =
    ap (take 8) (e ∙ append_assoc (file_head pieces) (flat_map frame frames) rest)
    ∙ take_at (file_head pieces) (flat_map frame frames ++ rest) 8 refl

pub head_once : (p q : ℕ) (file : List ℕ) → take 8 file ≡ file_head p → take 8 file ≡ file_head q
    → p ≡ q
head_once p q file x y = ap (λ (l : List ℕ). get_or l 7 0) (sym x ∙ y)

pub journal_head : (pieces : ℕ) (frames : List (List (List ℕ))) (file : List ℕ)
    → IsJournal pieces frames file → HasHead pieces file
journal_head pieces frames file journal =
    (journal.table, head_of_text pieces frames (journal.gate ∷ journal.rest) file journal.text)

pub damaged_head : (pieces at : ℕ) (file : List ℕ) → IsDamagedAt pieces at file
    → HasHead pieces file
damaged_head pieces at file damaged =
    (damaged.table, head_of_text pieces damaged.frames damaged.rest file damaged.text)

-- a file is damaged at one place
damaged_once : (pieces at other : ℕ) (file : List ℕ) → IsDamagedAt pieces at file
    → IsDamagedAt pieces other file → at ≡ other
damaged_once pieces at other file x y =
    let same = front_once pieces pieces x.frames y.frames x.rest y.rest x.each y.each
    (broken_begins_none x.rest x.broken) (broken_begins_none y.rest y.broken)
    (sym x.text ∙ y.text) in
    x.place ∙ ap (λ frames. length (journal_front pieces frames)) same.0 ∙ sym y.place

not_broken : (gate : ℕ) (rest : List ℕ) → gate ≢ 1 → IsBroken (gate ∷ rest) → ⊥
not_broken gate rest closed broken = closed broken.0

-- a journal is not damaged
pub journal_undamaged : (p q at : ℕ) (frames : List (List (List ℕ))) (file : List ℕ)
    → IsJournal p frames file → IsDamagedAt q at file → ⊥
journal_undamaged p q at frames file x y =
    let same = front_once p q frames y.frames (x.gate ∷ x.rest) y.rest x.each y.each
    (closed_begins_none x.gate x.rest x.closed) (broken_begins_none y.rest y.broken)
    (sym x.text ∙ y.text) in
    not_broken x.gate x.rest x.closed (subst IsBroken (sym same.1) y.broken)

-- a journal that is not fresh is for tables of one number of pieces
pub pieces_once : (p q : ℕ) (file : List ℕ) (ps qs : List (List ℕ)) → (IsFresh file → p ≡ q)
    → HasPayloads p file ps → HasPayloads q file qs → p ≡ q
pieces_once p q file ps qs fresh (inl a) b = fresh a.0
pieces_once p q file ps qs fresh (inr a) (inl b) = fresh b.0
pieces_once p q file ps qs fresh (inr a) (inr b) =
    head_once p q file (journal_head p a.1 file a.2).1 (journal_head q b.1 file b.2).1

-- a file that is read has no refusal
pub read_or_refused : (file : List ℕ) (asked : ℕ) (payloads : List (List ℕ)) (e : JournalRefusal)
    → HasPayloads asked file payloads → Explains file asked e → ⊥
read_or_refused file asked payloads NotAJournal (inl fresh) why = omega (arith, fresh.0, why.long)
read_or_refused file asked payloads NotAJournal (inr read) why =
    why.headless asked (journal_head asked read.1 file read.2)
read_or_refused file asked payloads (OtherTable found wanted) (inl fresh) why =
    omega (arith, fresh.0, why.0)
read_or_refused file asked payloads (OtherTable found wanted) (inr read) why =
    why.2 (head_once found asked file why.1.1 (journal_head asked read.1 file read.2).1)
read_or_refused file asked payloads (Damaged at) (inl fresh) why = omega (arith, fresh.0, why.long)
read_or_refused file asked payloads (Damaged at) (inr read) why =
    journal_undamaged asked asked at read.1 file read.2 why
read_or_refused file asked payloads DiskFault has why = why
read_or_refused file asked payloads (Memory error) has why = why

-- a file has one refusal
pub refused_once : (file : List ℕ) (asked : ℕ) (e f : JournalRefusal) → Explains file asked e
    → Explains file asked f → e ≡ f
refused_once file asked NotAJournal NotAJournal x y = refl
refused_once file asked NotAJournal (OtherTable found wanted) x y = absurd (x.headless found y.1)
refused_once file asked NotAJournal (Damaged at) x y =
    absurd (x.headless asked (damaged_head asked at file y))
refused_once file asked (OtherTable found wanted) NotAJournal x y = absurd (y.headless found x.1)
refused_once file asked (OtherTable found wanted) (OtherTable found' wanted') x y =
    ap (λ n. OtherTable n wanted) (head_once found found' file x.1.1 y.1.1)
    ∙ ap (λ n. OtherTable found' n) (x.3 ∙ sym y.3)
refused_once file asked (OtherTable found wanted) (Damaged at) x y =
    absurd (x.2 (head_once found asked file x.1.1 (damaged_head asked at file y).1))
refused_once file asked (Damaged at) NotAJournal x y =
    absurd (y.headless asked (damaged_head asked at file x))
refused_once file asked (Damaged at) (OtherTable found wanted) x y =
    absurd (y.2 (head_once found asked file y.1.1 (damaged_head asked at file x).1))
refused_once file asked (Damaged at) (Damaged at') x y =
    ap Damaged (damaged_once asked at at' file x y)
refused_once file asked e DiskFault x y = absurd y
refused_once file asked e (Memory error) x y = absurd y
refused_once file asked DiskFault f x y = absurd x
refused_once file asked (Memory error) f x y = absurd x

-- The same where a journal for any table is asked for.

pub read_or_refused_any : (file : List ℕ) (pieces : ℕ) (payloads : List (List ℕ))
    (e : JournalRefusal) → HasPayloads pieces file payloads → ExplainsAny file e → ⊥
read_or_refused_any file pieces payloads NotAJournal has why =
    read_or_refused file pieces payloads NotAJournal has why
read_or_refused_any file pieces payloads (Damaged at) (inl fresh) why =
    omega (arith, fresh.0, why.1.long)
read_or_refused_any file pieces payloads (Damaged at) (inr read) why =
    journal_undamaged pieces why.0 at read.1 file read.2 why.1
read_or_refused_any file pieces payloads DiskFault has why = why
read_or_refused_any file pieces payloads (OtherTable found wanted) has why = why
read_or_refused_any file pieces payloads (Memory error) has why = why

pub refused_once_any : (file : List ℕ) (e f : JournalRefusal) → ExplainsAny file e
    → ExplainsAny file f → e ≡ f
refused_once_any file NotAJournal NotAJournal x y = refl
refused_once_any file NotAJournal (Damaged at) x y =
    absurd (x.headless y.0 (damaged_head y.0 at file y.1))
refused_once_any file (Damaged at) NotAJournal x y =
    absurd (y.headless x.0 (damaged_head x.0 at file x.1))
refused_once_any file (Damaged at) (Damaged at') x y =
    let same =
    head_once y.0 x.0 file (damaged_head y.0 at' file y.1).1 (damaged_head x.0 at file x.1).1 in
    ap Damaged (damaged_once x.0 at at' file x.1
    (subst (λ pieces. IsDamagedAt pieces at' file) same y.1))
refused_once_any file e DiskFault x y = absurd y
refused_once_any file e (OtherTable found wanted) x y = absurd y
refused_once_any file e (Memory error) x y = absurd y
refused_once_any file DiskFault f x y = absurd x
refused_once_any file (OtherTable found wanted) f x y = absurd x
refused_once_any file (Memory error) f x y = absurd x
