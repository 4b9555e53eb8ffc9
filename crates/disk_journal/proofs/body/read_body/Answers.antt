use Rattle.std.specs.Prelude.{◌≡◌, ◌⊎◌, ◌+◌, ◌<◌, ◌++◌, [], ◌∷◌, ℕ, List, length, map, drop}
use Rattle.std.proofs.Common.{rules, sym, ◌∙◌, ap, inl, inr, arith, append_assoc, length-append, take-append-drop}
use Rattle.std.proofs.lemmas.Bool.Decides.{nat_tests}
use Rattle.std.proofs.lemmas.List.{map-append}
use Rattle.std.proofs.lemmas.List.Elements.{All-push}
use Rattle.disk_journal.specs.Format.{IsPayload, body, payload_length, places_in_body}
use Rattle.disk_journal.specs.FormatLaws.{length-payload_length}
use Rattle.disk_journal.proofs.BodyLemmas.{bad_length, body_more, length_split, none_behind, places_more, short_rest}
use Rattle.disk_journal.proofs.body.read_body.Goals as goal

pub returns-in_default : goal.returns-in_default
returns-in_default c =
    let parts = c.loop-rest.invariant.parts in
    let some : 0 < length c.loop-rest.rest.now = grind (arith, nat_tests) in
    none_behind parts.0 c.loop-rest.rest.now c.args.bytes.now parts.1 parts.2 (short_rest c.loop-rest.rest.now some c.in_default.ensures.none)

pub returns-then-len-eq0 : goal.returns-then-len-eq0
returns-then-len-eq0 c =
    let parts = c.loop-rest.invariant.parts in
    let behind = c.in-Some.behind.now in
    let n : ℕ = c.in-Some.len in
    let split : c.loop-rest.rest.now ≡ payload_length n ++ behind = length_split c.loop-rest.rest.now behind n c.in-Some.ensures.some.1 in
    let bad : (n ≡ 0) ⊎ (length behind < n) = elim c.then-len-eq0.either [ inl zero ↦ inl zero | inr long ↦ inr long.1 ] in
    none_behind parts.0 c.loop-rest.rest.now c.args.bytes.now parts.1 parts.2 (bad_length n behind c.loop-rest.rest.now c.in-Some.ensures.some.0 split bad)

pub loop-rest-preserved : goal.loop-rest-preserved
loop-rest-preserved c =
    let parts = c.loop-rest.invariant.parts in
    let behind = c.in-Some.behind.now in
    let payload = c.split_at.result.0.now in
    let more = c.split_at.result.1.now in
    let n : ℕ = c.in-Some.len in
    let split : c.loop-rest.rest.now ≡ payload_length n ++ behind = length_split c.loop-rest.rest.now behind n c.in-Some.ensures.some.1 in
    let split_more : behind ≡ payload ++ more = sym (take-append-drop n behind) ∙ ap (λ (l : List ℕ). l ++ drop n behind) (sym c.split_at.ensures.front) ∙ ap (λ (l : List ℕ). payload ++ l) (sym c.split_at.ensures.back) in
    let long : length payload ≡ n = omega (arith, c.split_at.ensures.front_len) in
    let is_payload : IsPayload payload = record { some = λ e. omega (arith, ap length e, long, c.if-len-eq0.false); fits = omega (arith, long, c.in-Some.ensures.some.0) } in
    let same : c.in_ok-bytes.bytes.items ≡ payload = search rules in
    let pushed = ap (map (λ p. p.bytes.items)) c.in_ok-push.ensures.items ∙ map-append (λ p. p.bytes.items) c.loop-rest.payloads.items _ ∙ ap (λ (l : List (List ℕ)). l ++ c.in_ok-bytes.bytes.items ∷ []) parts.3
    ∙ append_assoc (map (λ p. p.bytes.items) c.args.payloads.now.items) parts.0 (c.in_ok-bytes.bytes.items ∷ []) ∙ ap (λ (b : List ℕ). map (λ p. p.bytes.items) c.args.payloads.now.items ++ (parts.0 ++ b ∷ [])) same in
    let place_is : c.loop-rest.place ≡ c.args.at + length (body parts.0) = omega (arith, c.loop-rest.invariant.place, ap length parts.2, length-append (body parts.0) c.loop-rest.rest.now) in
    let placed = ap (map (λ p. p.at)) c.in_ok-push.ensures.items ∙ map-append (λ p. p.at) c.loop-rest.payloads.items _ ∙ ap (λ (l : List ℕ). l ++ c.loop-rest.place ∷ []) parts.4
    ∙ append_assoc (map (λ p. p.at) c.args.payloads.now.items) (places_in_body c.args.at parts.0) (c.loop-rest.place ∷ [])
    ∙ ap (λ (n : ℕ). map (λ p. p.at) c.args.payloads.now.items ++ (places_in_body c.args.at parts.0 ++ n ∷ [])) place_is
    ∙ ap (λ (l : List ℕ). map (λ p. p.at) c.args.payloads.now.items ++ l) (sym (places_more c.args.at parts.0 payload)) in
    let whole : c.loop-rest.rest.now ≡ payload_length (length payload) ++ (payload ++ more) = split ∙ (λ i. payload_length (sym long i) ++ split_more i) in
    record {
      place = omega (arith, c.loop-rest.invariant.place, ap length split, length-append (payload_length n) behind, length-payload_length n, c.split_at.ensures.back_len);
      parts = (parts.0 ++ payload ∷ [], All-push IsPayload parts.0 payload parts.1 is_payload, body_more parts.0 payload more c.args.bytes.now c.loop-rest.rest.now whole parts.2, pushed, placed);
    }
