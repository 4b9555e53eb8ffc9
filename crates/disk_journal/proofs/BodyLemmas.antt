-- What is no body, and one payload more.
use Rattle.std.specs.Prelude.{◌≡◌, ◌⊎◌, ℕ, ◌+◌, ◌^◌, ◌<◌, List, [], ◌∷◌, ◌++◌, All, length, refl}
use Rattle.std.specs.Int.{from_be_bytes, to_be_bytes, w32}
use Rattle.std.proofs.Common.{sym, ◌∙◌, ap, ⊎_elim, arith, append_assoc, length-append}
use Rattle.std.proofs.lemmas.List.{nil_from_length, append-nil}
use Rattle.std.proofs.lemmas.List.Elements.{All-head, All-tail}
use Rattle.std.proofs.lemmas.Nat.{from_be_bytes-to_be_bytes_4}
use Rattle.std.proofs.lemmas.Grind.{flat_map-append}
use Rattle.disk_journal.specs.Refusals.{IsNoBody}
use Rattle.disk_journal.specs.Format.{body, payload_length, payload_text, places_in_body, IsPayload}
use Rattle.disk_journal.specs.FormatLaws.{cut, length-payload_length, payload_once}

-- behind payloads that were read, what is no body leaves no body
pub none_behind : (found : List (List ℕ)) (rest bytes : List ℕ) → All IsPayload found → bytes ≡ body found ++ rest → IsNoBody rest → IsNoBody bytes
none_behind [] rest bytes all e none ps each h = none ps each (sym e ∙ h)
none_behind (p ∷ found) rest bytes all e none [] each h =
    omega (arith, ap length (sym e ∙ h), length-append (body (p ∷ found)) rest, length-append (payload_text p) (body found), length-append (payload_length (length p)) p, length-payload_length (length p))
none_behind (p ∷ found) rest bytes all e none (q ∷ qs) each h =
    let parts = payload_once p q (body found ++ rest) (body qs) (All-head IsPayload p found all) (All-head IsPayload q qs each) (sym (append_assoc (payload_text p) (body found) rest) ∙ sym e ∙ h) in
    none_behind found rest (body found ++ rest) (All-tail IsPayload p found all) refl none qs (All-tail IsPayload q qs each) parts.1

pub short_rest : (rest : List ℕ) → 0 < length rest → length rest < 4 → IsNoBody rest
short_rest rest some short [] each h = omega (arith, ap length h)
short_rest rest some short (q ∷ qs) each h =
    omega (arith, ap length h, length-append (payload_text q) (body qs), length-append (payload_length (length q)) q, length-payload_length (length q))

number_of : (n : ℕ) → n < 2 ^ 32 → from_be_bytes w32 (payload_length n) ≡ n
unfolding payload_length
number_of n l = from_be_bytes-to_be_bytes_4 n l

-- payload_length, as a text that is split behind a number has it
pub length_split : (rest behind : List ℕ) (n : ℕ) → rest ≡ to_be_bytes w32 n ++ behind → rest ≡ payload_length n ++ behind
unfolding payload_length
length_split rest behind n e = e

pub bad_length : (n : ℕ) (behind rest : List ℕ) → n < 2 ^ 32 → rest ≡ payload_length n ++ behind → (n ≡ 0) ⊎ (length behind < n) → IsNoBody rest
bad_length n behind rest fits e bad [] each h = omega (arith, ap length (sym e ∙ h), length-append (payload_length n) behind, length-payload_length n)
bad_length n behind rest fits e bad (q ∷ qs) each h =
    let is = All-head IsPayload q qs each in
    let parts = cut (payload_length n) (payload_length (length q)) behind (q ++ body qs) (length-payload_length n ∙ sym (length-payload_length (length q))) (sym e ∙ h ∙ append_assoc (payload_length (length q)) q (body qs)) in
    let number : n ≡ length q = sym (number_of n fits) ∙ ap (from_be_bytes w32) parts.0 ∙ number_of (length q) is.fits in
    ⊎_elim (λ zero. is.some (nil_from_length q (sym number ∙ zero))) (λ long. omega (arith, long, number, ap length parts.1, length-append q (body qs))) bad

-- one payload more
pub body_more : (found : List (List ℕ)) (payload more bytes rest : List ℕ) → rest ≡ payload_length (length payload) ++ (payload ++ more) → bytes ≡ body found ++ rest
    → bytes ≡ body (found ++ payload ∷ []) ++ more
body_more found payload more bytes rest e h =
    h ∙ ap (λ (l : List ℕ). body found ++ l) (e ∙ sym (append_assoc (payload_length (length payload)) payload more))
    ∙ sym (append_assoc (body found) (payload_text payload) more)
    ∙ ap (λ (l : List ℕ). l ++ more) (ap (λ (l : List ℕ). body found ++ l) (sym (append-nil (payload_text payload))) ∙ sym (flat_map-append payload_text found (payload ∷ [])))

-- the place of one payload more
pub places_more : (at : ℕ) (found : List (List ℕ)) (payload : List ℕ) → places_in_body at (found ++ payload ∷ []) ≡ places_in_body at found ++ (at + length (body found)) ∷ []
places_more at [] payload = ap (λ (n : ℕ). n ∷ []) (omega arith)
places_more at (q ∷ found) payload =
    ap (λ (l : List ℕ). at ∷ l)
    (places_more (at + length (payload_text q)) found payload
    ∙ ap (λ (n : ℕ). places_in_body (at + length (payload_text q)) found ++ n ∷ []) (omega (arith, length-append (payload_text q) (body found))))
