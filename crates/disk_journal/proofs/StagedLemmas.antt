-- What is staged, and what is to be written for it.
use Rattle.std.specs.Prelude.{◌≡◌, ℕ, ◌+◌, ◌-◌, ◌≤◌, List, [], ◌∷◌, ◌++◌, All, Some, length, map, take, drop, refl}
use Rattle.std.proofs.Common.{sym, ◌∙◌, ap, subst, arith, append_assoc, length-append, length-drop}
use Rattle.std.proofs.lemmas.List.{take_at, drop_at, append-nil, map-append}
use Rattle.std.proofs.lemmas.List.Elements.{All-pop, All-push}
use Rattle.std.proofs.lemmas.Grind.{flat_map-append}
use Rattle.disk_journal.specs.Format.{behind_gate, body, body_length, payload_length, payload_text, IsPayload}
use Rattle.disk_journal.specs.FormatLaws.{length-body_length, length-payload_length}
use Rattle.disk_journal.specs.Frame.{IsReady, payloads_in, staged_in}
use Rattle.disk_journal.specs.Gate.{gate_text}

-- a body is read back by the lengths of its payloads
payloads_in-body : (payloads : List (List ℕ)) (more : List ℕ) → payloads_in (map length payloads) (body payloads ++ more) ≡ payloads
payloads_in-body [] more = refl
payloads_in-body (p ∷ ps) more =
    let field = payload_length (length p) in
    let text : body (p ∷ ps) ++ more ≡ field ++ (p ++ (body ps ++ more)) = append_assoc (payload_text p) (body ps) more ∙ append_assoc field p (body ps ++ more) in
    let behind : drop 4 (body (p ∷ ps) ++ more) ≡ p ++ (body ps ++ more) = ap (drop 4) text ∙ drop_at field (p ++ (body ps ++ more)) 4 (length-payload_length (length p)) in
    let first : take (length p) (drop 4 (body (p ∷ ps) ++ more)) ≡ p = ap (take (length p)) behind ∙ take_at p (body ps ++ more) (length p) refl in
    let rest : drop (4 + length p) (body (p ∷ ps) ++ more) ≡ body ps ++ more =
    ap (drop (4 + length p)) (append_assoc (payload_text p) (body ps) more)
    ∙ drop_at (payload_text p) (body ps ++ more) (4 + length p) (omega (arith, length-append field p, length-payload_length (length p))) in
    ap (λ (q : List ℕ). q ∷ payloads_in (map length ps) (drop (4 + length p) (body (p ∷ ps) ++ more))) first
    ∙ ap (λ (l : List ℕ). p ∷ payloads_in (map length ps) l) rest
    ∙ ap (λ (l : List (List ℕ)). p ∷ l) (payloads_in-body ps more)

-- the text of payloads, cut at its length field
text_of_parts : (payloads : List (List ℕ)) → gate_text payloads ≡ body_length (length (body payloads)) ++ (body payloads ++ 0 ∷ [])
text_of_parts payloads = append_assoc (body_length (length (body payloads))) (body payloads) (0 ∷ [])

pub drop-text_of : (payloads : List (List ℕ)) → drop 8 (gate_text payloads) ≡ body payloads ++ 0 ∷ []
drop-text_of payloads =
    ap (drop 8) (text_of_parts payloads) ∙ drop_at (body_length (length (body payloads))) (body payloads ++ 0 ∷ []) 8 (length-body_length (length (body payloads)))

pub length-text_of : (payloads : List (List ℕ)) → length (gate_text payloads) ≡ 9 + length (body payloads)
length-text_of payloads =
    omega (arith, length-append (behind_gate payloads) (0 ∷ []), length-append (body_length (length (body payloads))) (body payloads), length-body_length (length (body payloads)))

-- what is staged is read back
pub staged_in-text_of : (payloads : List (List ℕ)) (lengths text : List ℕ) → lengths ≡ map length payloads → text ≡ gate_text payloads → staged_in lengths text ≡ payloads
staged_in-text_of payloads lengths text measured written =
    ap (λ (l : List ℕ). payloads_in l (drop 8 text)) measured
    ∙ ap (λ (l : List ℕ). payloads_in (map length payloads) l) (ap (drop 8) written ∙ drop-text_of payloads)
    ∙ payloads_in-body payloads (0 ∷ [])

pub ready : (payloads : List (List ℕ)) (lengths text : List ℕ) → lengths ≡ map length payloads → text ≡ gate_text payloads → All IsPayload payloads → IsReady lengths text
ready payloads lengths text measured written each =
    let same = sym (staged_in-text_of payloads lengths text measured written) in record {
      measured = measured ∙ ap (map length) same;
      written = written ∙ ap gate_text same;
      each = subst (All IsPayload) same each;
    }

-- the body of one payload more
body_more : (payloads : List (List ℕ)) (payload : List ℕ) → body (payloads ++ payload ∷ []) ≡ body payloads ++ payload_text payload
body_more payloads payload = flat_map-append payload_text payloads (payload ∷ []) ∙ ap (λ (l : List ℕ). body payloads ++ l) (append-nil (payload_text payload))

-- a body that is sealed is the text of its payloads
pub sealed : (payloads : List (List ℕ)) (open_text : List ℕ) → 8 ≤ length open_text → drop 8 open_text ≡ body payloads → body_length (length open_text - 8) ++ drop 8 open_text ++ 0 ∷ [] ≡ gate_text payloads
sealed payloads open_text field is =
    let number : length open_text - 8 ≡ length (body payloads) = omega (arith, length-drop 8 open_text, ap length is) in
    ap (λ n. body_length n ++ drop 8 open_text ++ 0 ∷ []) number ∙ ap (λ (l : List ℕ). body_length (length (body payloads)) ++ l ++ 0 ∷ []) is

-- the body behind which a payload was put in place of the gate
pub appended : (payloads : List (List ℕ)) (payload old open_text : List ℕ) → old ≡ gate_text payloads → open_text ≡ (take (length old - 1) old ++ payload_length (length payload)) ++ payload
    → drop 8 open_text ≡ body (payloads ++ payload ∷ [])
appended payloads payload old open_text e is =
    let number = body_length (length (body payloads)) in
    let field = payload_length (length payload) in
    let front : take (length old - 1) old ≡ behind_gate payloads =
    ap (λ (l : List ℕ). take (length l - 1) l) e ∙ take_at (behind_gate payloads) (0 ∷ []) (length (gate_text payloads) - 1) (omega (arith, length-append (behind_gate payloads) (0 ∷ []))) in
    let parts : open_text ≡ number ++ (body payloads ++ payload_text payload) =
    is ∙ ap (λ (l : List ℕ). (l ++ field) ++ payload) front ∙ append_assoc (behind_gate payloads) field payload ∙ append_assoc number (body payloads) (payload_text payload) in
    ap (drop 8) parts ∙ drop_at number (body payloads ++ payload_text payload) 8 (length-body_length (length (body payloads))) ∙ sym (body_more payloads payload)

-- the body of which the last payload was cut off
pub trimmed : (payloads : List (List ℕ)) (last old open_text : List ℕ) (n : ℕ) → old ≡ gate_text (payloads ++ last ∷ []) → n + 5 + length last ≡ length old → open_text ≡ take n old
    → drop 8 open_text ≡ body payloads
trimmed payloads last old open_text n e size is =
    let number = body_length (length (body (payloads ++ last ∷ []))) in
    let parts : old ≡ (number ++ body payloads) ++ (payload_text last ++ 0 ∷ []) =
    e ∙ text_of_parts (payloads ++ last ∷ [])
    ∙ ap (λ (l : List ℕ). number ++ (l ++ 0 ∷ [])) (body_more payloads last)
    ∙ ap (λ (l : List ℕ). number ++ l) (append_assoc (body payloads) (payload_text last) (0 ∷ []))
    ∙ sym (append_assoc number (body payloads) (payload_text last ++ 0 ∷ [])) in
    let eight = length-body_length (length (body (payloads ++ last ∷ []))) in
    let front : length (number ++ body payloads) ≡ n =
    omega (
      arith,
      size,
      ap length parts,
      length-append (number ++ body payloads) (payload_text last ++ 0 ∷ []),
      length-append (payload_text last) (0 ∷ []),
      length-append (payload_length (length last)) last,
      length-payload_length (length last),
    ) in
    ap (drop 8) (is ∙ ap (take n) parts ∙ take_at (number ++ body payloads) (payload_text last ++ 0 ∷ []) n front) ∙ drop_at number (body payloads) 8 eight

-- one payload more is ready, and read back
pub pushed : (payload lengths text new_lengths new_text : List ℕ) → IsReady lengths text → IsPayload payload → new_lengths ≡ lengths ++ length payload ∷ []
    → ((payloads : List (List ℕ)) → text ≡ gate_text payloads → new_text ≡ gate_text (payloads ++ payload ∷ []))
    → IsReady new_lengths new_text × (staged_in new_lengths new_text ≡ staged_in lengths text ++ payload ∷ [])
pushed payload lengths text new_lengths new_text old is more written =
    let payloads = staged_in lengths text in
    let measured : new_lengths ≡ map length (payloads ++ payload ∷ []) = more ∙ ap (λ (l : List ℕ). l ++ length payload ∷ []) old.measured ∙ sym (map-append length payloads (payload ∷ [])) in
    let now = written payloads old.written in (
      ready (payloads ++ payload ∷ []) new_lengths new_text measured now (All-push IsPayload payloads payload old.each is),
      staged_in-text_of (payloads ++ payload ∷ []) new_lengths new_text measured now,
    )

-- payloads whose lengths end with one more
record EndsWith (payloads : List (List ℕ)) (lengths : List ℕ) (size : ℕ) : Type 0 where
  pub others : List (List ℕ)
  pub last : List ℕ
  pub all : payloads ≡ others ++ last ∷ []
  pub measured : lengths ≡ map length others
  pub sized : size ≡ length last

ends_with : (payloads : List (List ℕ)) (lengths : List ℕ) (size : ℕ) → map length payloads ≡ lengths ++ size ∷ [] → EndsWith payloads lengths size
ends_with [] [] size e = absurd (cc)
ends_with [] (n ∷ lengths) size e = absurd (cc)
ends_with (p ∷ []) [] size e = record { others = []; last = p; all = refl; measured = refl; sized = cc }
ends_with (p ∷ q ∷ ps) [] size e = absurd (cc)
ends_with (p ∷ ps) (n ∷ lengths) size e =
    let rest : map length ps ≡ lengths ++ size ∷ [] = cc in
    let first : n ≡ length p = cc in
    let ends = ends_with ps lengths size rest in
    record {
      others = p ∷ ends.others;
      last = ends.last;
      all = ap (λ (l : List (List ℕ)). p ∷ l) ends.all;
      measured = ap (λ (l : List ℕ). n ∷ l) ends.measured ∙ ap (λ m. m ∷ map length ends.others) first;
      sized = ends.sized;
    }

-- there is as much text as the last payload needs
pub long_enough : (lengths text new_lengths : List ℕ) (size : ℕ) → IsReady lengths text → lengths ≡ new_lengths ++ size ∷ [] → 13 + size ≤ length text
long_enough lengths text new_lengths size old more =
    let ends = ends_with (staged_in lengths text) new_lengths size (sym old.measured ∙ more) in
    let spelled : text ≡ gate_text (ends.others ++ ends.last ∷ []) = old.written ∙ ap gate_text ends.all in
    omega (
      arith,
      ends.sized,
      ap length spelled,
      length-text_of (ends.others ++ ends.last ∷ []),
      ap length (body_more ends.others ends.last),
      length-append (body ends.others) (payload_text ends.last),
      length-append (payload_length (length ends.last)) ends.last,
      length-payload_length (length ends.last),
    )

-- without the last payload the others are ready, and read back
pub popped : (lengths text new_lengths new_text : List ℕ) (size : ℕ) → IsReady lengths text → lengths ≡ new_lengths ++ size ∷ []
    → ((payloads : List (List ℕ)) (last : List ℕ) → size ≡ length last → text ≡ gate_text (payloads ++ last ∷ []) → new_text ≡ gate_text payloads)
    → IsReady new_lengths new_text × ((last : List ℕ) × (staged_in lengths text ≡ staged_in new_lengths new_text ++ last ∷ []))
popped lengths text new_lengths new_text size old more written =
    let ends = ends_with (staged_in lengths text) new_lengths size (sym old.measured ∙ more) in
    let now = written ends.others ends.last ends.sized (old.written ∙ ap gate_text ends.all) in (
      ready ends.others new_lengths new_text ends.measured now (All-pop IsPayload (staged_in lengths text) ends.others (Some ends.last) ends.all old.each).0,
      (ends.last, ends.all ∙ ap (λ (l : List (List ℕ)). l ++ ends.last ∷ []) (sym (staged_in-text_of ends.others new_lengths new_text ends.measured now))),
    )
