-- What is no frame, and one frame more.
use Rattle.std.specs.Prelude.{◌≡◌, ◌≢◌, ◌⊎◌, ℕ, ◌^◌, ◌<◌, ◌≤◌, List, [], ◌∷◌, ◌++◌, get_or, length, refl}
use Rattle.std.specs.Int.{from_be_bytes, w64}
use Rattle.std.proofs.Common.{sym, ◌∙◌, ap, ⊎_elim, arith, append_assoc, length-append}
use Rattle.std.proofs.lemmas.Nat.{be_bytes_8, from_be_bytes-to_be_bytes_8}
use Rattle.disk_journal.specs.Refusals.{IsNoBody, IsNoFrame}
use Rattle.disk_journal.specs.Format.{behind_gate, body, body_length, payload_length, payload_text}
use Rattle.disk_journal.specs.FormatLaws.{cut, length-body_length, length-payload_length, body_length_once}

-- a body is at least as long as it has payloads
pub length_body : (payloads : List (List ℕ)) → length payloads ≤ length (body payloads)
length_body [] = omega arith
length_body (p ∷ ps) = omega (arith, length_body ps, length-append (payload_text p) (body ps), length-append (payload_length (length p)) p, length-payload_length (length p))

some_body : (payloads : List (List ℕ)) → payloads ≢ [] → 0 < length (body payloads)
some_body [] some = absurd (some refl)
some_body (p ∷ ps) some = omega (arith, length_body (p ∷ ps))

pub short_frame : (behind : List ℕ) → length behind < 8 → IsNoFrame behind
short_frame behind short ps more is h = omega (arith, ap length h, length-append (behind_gate ps) more, length-append (body_length (length (body ps))) (body ps), length-body_length (length (body ps)))

number_of : (n : ℕ) → n < 2 ^ 64 → from_be_bytes w64 (body_length n) ≡ n
unfolding body_length
number_of n l = from_be_bytes-to_be_bytes_8 n l

pub bad_frame : (field after behind : List ℕ) → length field ≡ 8 → behind ≡ field ++ after → (from_be_bytes w64 field ≡ 0) ⊎ (length after < from_be_bytes w64 field) → IsNoFrame behind
bad_frame field after behind eight e bad ps more is h =
    let parts = cut field (body_length (length (body ps))) after (body ps ++ more) (eight ∙ sym (length-body_length (length (body ps)))) (sym e ∙ h ∙ append_assoc (body_length (length (body ps))) (body ps) more) in
    let number : from_be_bytes w64 field ≡ length (body ps) = ap (from_be_bytes w64) parts.0 ∙ number_of (length (body ps)) is.fits in
    ⊎_elim (λ zero. omega (arith, some_body ps is.some, number, zero)) (λ long. omega (arith, long, number, ap length parts.1, length-append (body ps) more)) bad

-- a whole body that is no payloads is no frame
pub no_frame : (text more behind : List ℕ) → length text < 2 ^ 64 → behind ≡ body_length (length text) ++ (text ++ more) → IsNoBody text → IsNoFrame behind
no_frame text more behind small e none ps rest is h =
    let parts = cut (body_length (length text)) (body_length (length (body ps))) (text ++ more) (body ps ++ rest) (length-body_length (length text) ∙ sym (length-body_length (length (body ps)))) (sym e ∙ h ∙ append_assoc (body_length (length (body ps))) (body ps) rest) in
    let same : length text ≡ length (body ps) = body_length_once (length text) (length (body ps)) small is.fits parts.0 in
    none ps is.each (cut text (body ps) more rest same parts.1).0

pub field_is : (field : List ℕ) (n : ℕ) → length field ≡ 8 → ((i : ℕ) → get_or field i 0 < 256) → n ≡ from_be_bytes w64 field → body_length n ≡ field
unfolding body_length
field_is field n eight fits number = be_bytes_8 field n eight fits number
