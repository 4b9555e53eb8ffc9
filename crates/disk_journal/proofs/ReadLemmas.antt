-- One frame after another is read.
use Rattle.std.specs.Prelude.{◌≡◌, ℕ, ◌+◌, ◌^◌, ◌<◌, List, [], ◌∷◌, ◌++◌, All, length, map, take, drop, refl}
use Rattle.std.specs.List.{flat_map}
use Rattle.std.proofs.Common.{sym, ◌∙◌, ap, subst, arith, append_assoc, length-append, take-append-drop}
use Rattle.std.proofs.lemmas.List.{append-nil, drop-drop, flat_map_more}
use Rattle.std.proofs.lemmas.List.Elements.{All-push}
use Rattle.disk_journal.specs.Format.{body, body_length, frame, journal_front, file_head, places_in_body, places_in_frames, IsFrame, IsPayload}
use Rattle.disk_journal.specs.Refusals.{IsBroken, IsNoBody}
use Rattle.disk_journal.specs.Rest.{AddsFrame, HasReadFrames, IsOpen}
use Rattle.disk_journal.specs.declared.payload.Payload.{Payload}
use Rattle.disk_journal.specs.FormatLaws.{length-body_length}
use Rattle.disk_journal.proofs.FrameLemmas.{no_frame}

-- what stands at an open gate: its byte, the length of the body, the body, and what is behind it
split_open : (gate size : ℕ) (file text : List ℕ) → IsOpen size (drop gate file) → text ≡ take size (drop (gate + 9) file) → drop gate file ≡ 1 ∷ body_length size ++ (text ++ drop (gate + 9 + size) file)
split_open gate size file text at_gate is =
    let behind : drop 9 (drop gate file) ≡ drop (gate + 9) file = drop-drop 9 gate file in
    let after : drop size (drop (gate + 9) file) ≡ drop (gate + 9 + size) file = drop-drop size (gate + 9) file in
    sym (take-append-drop 9 (drop gate file))
    ∙ ap (λ (l : List ℕ). l ++ drop 9 (drop gate file)) at_gate.is
    ∙ ap (λ (l : List ℕ). (1 ∷ body_length size) ++ l)
    (behind ∙ sym (take-append-drop size (drop (gate + 9) file)) ∙ ap (λ (l : List ℕ). l ++ drop size (drop (gate + 9) file)) (sym is) ∙ ap (λ (l : List ℕ). text ++ l) after)

-- the body is no payloads
pub bad_body : (gate size : ℕ) (file text : List ℕ) → IsOpen size (drop gate file) → size < 2 ^ 64 → text ≡ take size (drop (gate + 9) file) → length text ≡ size → IsNoBody text → IsBroken (drop gate file)
bad_body gate size file text at_gate small is long none =
    let e : drop gate file ≡ 1 ∷ body_length (length text) ++ (text ++ drop (gate + 9 + size) file) =
    subst (λ n. drop gate file ≡ 1 ∷ body_length n ++ (text ++ drop (gate + 9 + size) file)) (sym long) (split_open gate size file text at_gate is) in
    subst IsBroken (sym e) (refl, no_frame text (drop (gate + 9 + size) file) _ (omega (arith, small, long)) refl none)

-- the body is payloads
pub good_body : (gate size : ℕ) (file text : List ℕ) (old new : List Payload) → IsOpen size (drop gate file) → size < 2 ^ 64 → text ≡ take size (drop (gate + 9) file) → length text ≡ size
    → (payloads : List (List ℕ)) → All IsPayload payloads → text ≡ body payloads
    → map (λ p. p.bytes.items) new ≡ map (λ p. p.bytes.items) old ++ payloads → map (λ p. p.at) new ≡ map (λ p. p.at) old ++ places_in_body (gate + 9) payloads
    → AddsFrame gate (gate + 9 + size) file old new
good_body gate size file text old new at_gate small is long payloads each spelled bytes places =
    let number : length (body payloads) ≡ size = omega (arith, ap length spelled, long) in
    let e : drop gate file ≡ 1 ∷ body_length (length (body payloads)) ++ (body payloads ++ drop (gate + 9 + size) file) =
    subst (λ (l : List ℕ). drop gate file ≡ 1 ∷ body_length (length (body payloads)) ++ (l ++ drop (gate + 9 + size) file)) spelled
    (subst (λ n. drop gate file ≡ 1 ∷ body_length n ++ (text ++ drop (gate + 9 + size) file)) (sym number) (split_open gate size file text at_gate is)) in
    record {
      payloads = payloads;
      is_frame = record { some = λ none. omega (arith, at_gate.some, number, ap (λ l. length (body l)) none); each = each; fits = omega (arith, number, small) };
      text = e ∙ ap (λ (l : List ℕ). 1 ∷ l) (sym (append_assoc (body_length (length (body payloads))) (body payloads) (drop (gate + 9 + size) file)));
      size = omega (arith, number, length-append (body_length (length (body payloads))) (body payloads), length-body_length (length (body payloads)));
      bytes = bytes;
      places = places;
    }

places_more_frames : (gate : ℕ) (frames : List (List (List ℕ))) (payloads : List (List ℕ)) → places_in_frames gate (frames ++ payloads ∷ []) ≡ places_in_frames gate frames ++ places_in_body (gate + length (flat_map frame frames) + 9) payloads
places_more_frames gate [] payloads = append-nil (places_in_body (gate + 9) payloads) ∙ ap (λ n. places_in_body n payloads) (omega arith)
places_more_frames gate (f ∷ frames) payloads =
    ap (λ (l : List ℕ). places_in_body (gate + 9) f ++ l)
    (places_more_frames (gate + length (frame f)) frames payloads
    ∙ ap (λ n. places_in_frames (gate + length (frame f)) frames ++ places_in_body n payloads) (omega (arith, length-append (frame f) (flat_map frame frames))))
    ∙ sym (append_assoc (places_in_body (gate + 9) f) (places_in_frames (gate + length (frame f)) frames) _)

-- one frame more
pub read_more : (pieces gate next : ℕ) (file : List ℕ) (old new : List Payload) → HasReadFrames pieces file gate old → AddsFrame gate next file old new → HasReadFrames pieces file next new
read_more pieces gate next file old new read adds =
    let whole : journal_front pieces read.frames ++ frame adds.payloads ≡ journal_front pieces (read.frames ++ adds.payloads ∷ []) = flat_map_more frame (file_head pieces) read.frames adds.payloads in
    record {
      frames = read.frames ++ adds.payloads ∷ [];
      each = All-push IsFrame read.frames adds.payloads read.each adds.is_frame;
      text = read.text ∙ ap (λ (l : List ℕ). journal_front pieces read.frames ++ l) adds.text ∙ sym (append_assoc (journal_front pieces read.frames) (frame adds.payloads) (drop next file)) ∙ ap (λ (l : List ℕ). l ++ drop next file) whole;
      place = adds.size ∙ omega (arith, read.place, length-append (journal_front pieces read.frames) (frame adds.payloads), ap length whole);
      bytes = adds.bytes ∙ ap (λ (l : List (List ℕ)). l ++ adds.payloads) read.bytes ∙ flat_map_more (λ (f : List (List ℕ)). f) [] read.frames adds.payloads;
      places = adds.places ∙ ap (λ (l : List ℕ). l ++ places_in_body (gate + 9) adds.payloads) read.places
          ∙ ap (λ n. places_in_frames 8 read.frames ++ places_in_body (n + 9) adds.payloads) (read.place ∙ length-append (file_head pieces) (flat_map frame read.frames))
          ∙ sym (places_more_frames 8 read.frames adds.payloads);
    }
