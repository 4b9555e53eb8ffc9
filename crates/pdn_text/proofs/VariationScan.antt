-- Where a variation ends, against its grammar.
use Rattle.std.proofs.Common.{◌≡◌, ◌∙◌, ℕ, suc, ◌+◌, ◌-◌, Bool, true, false, not, cond, List, [], ◌∷◌, ◌++◌, length, slice_index, Option, Some, None, Result, Ok, Err, refl, sym, ap, arith, eqb, nat_le, append_assoc, append-nil, length-append}
use Rattle.std.specs.List.{list_all}
use Rattle.std.proofs.lemmas.List.Folds.{list_all-append}
use Rattle.std.proofs.lemmas.Bool.{eqb-true, eqb-false, ne_eqb, lt-leb}
use Rattle.pdn_text.proofs.FirstPlaces.{and_true, not_true}
use Rattle.pdn_text.specs.Scans.{variation_end}
use Rattle.pdn_text.specs.Variations.{Inside, spelled, IsInside, IsPlainByte, IsBody, variation, begun, AreInsides, NeverClosed, HoldsOpenComment, Empty, Byte, Comment, Nested}
use Rattle.pdn_text.specs.declared.variations.Unclosed.{Unclosed}
use Rattle.pdn_text.specs.declared.variations.Unclosed.TheVariants as unclosed

-- a variation of this length stands at the front of the text
pub record Closes (text : List ℕ) (n : ℕ) : Type 0 where
  pub inside : Inside
  pub behind : List ℕ
  pub sound : IsInside inside
  pub whole : text ≡ variation inside ++ behind
  pub len : n ≡ length (variation inside)

-- what an answer says of the whole text
abbrev pub Told : List ℕ → Result ℕ Unclosed → Type 0
Told text (Ok n) = Closes text n
Told text (Err unclosed.Variation) = NeverClosed text
Told text (Err (unclosed.Comment place)) = HoldsOpenComment text place

-- how a text goes on inside variations: between items of the innermost one, or within a comment there
data At : Type 0 where
  Between : Inside → List Inside → At
  Within : Inside → List Inside → List ℕ → At

abbrev front : At → List ℕ
front (Between inner outer) = begun (inner ∷ outer)
front (Within inner outer body) = begun (inner ∷ outer) ++ 123 ∷ body

abbrev depth : At → ℕ
depth (Between inner outer) = length (inner ∷ outer)
depth (Within inner outer body) = length (inner ∷ outer)

abbrev comment : At → Option ℕ
comment (Between inner outer) = None
comment (Within inner outer body) = Some (length (begun (inner ∷ outer)))

abbrev IsAt : At → Type 0
IsAt (Between inner outer) = AreInsides (inner ∷ outer)
IsAt (Within inner outer body) = AreInsides (inner ∷ outer) × IsBody body

-- one byte further
record Step (s t : At) (b : ℕ) : Type 0 where
  sound : IsAt t
  goes : front s ++ b ∷ [] ≡ front t

step_length : (s t : At) (b : ℕ) → Step s t b → length (front s) + 1 ≡ length (front t)
step_length s t b step = omega (arith, length-append (front s) (b ∷ []), ap length step.goes)

-- what the rest says from there, it says from here
moved : (s t : At) (b : ℕ) (text : List ℕ) (d : ℕ) (c : Option ℕ) → Step s t b → d ≡ depth t → c ≡ comment t
    → Told (front t ++ text) (variation_end (depth t) (comment t) (length (front t)) text) → Told (front s ++ b ∷ text) (variation_end d c (length (front s) + 1) text)
moved s t b text d c step ed ec told =
    rw (ed, ec, step_length s t b step) (rw (← append_assoc (front s) (b ∷ []) text) (rw step.goes told))

body_push : (body : List ℕ) (b : ℕ) → IsBody body → eqb b 125 ≡ false → IsBody (body ++ b ∷ [])
body_push body b h ne = list_all-append (λ x. not (eqb x 125)) body (b ∷ []) ∙ rw h (rw ne refl)

to_comment : (inner : Inside) (outer : List Inside) (b : ℕ) → b ≡ 123 → AreInsides (inner ∷ outer) → Step (Between inner outer) (Within inner outer []) b
to_comment inner outer b e h = record { sound = (h, refl); goes = rw e refl }

to_inner : (inner : Inside) (outer : List Inside) (b : ℕ) → b ≡ 40 → AreInsides (inner ∷ outer) → Step (Between inner outer) (Between Empty (inner ∷ outer)) b
to_inner inner outer b e h = record { sound = (tt, h); goes = rw e refl }

to_outer : (inner next : Inside) (outer : List Inside) (b : ℕ) → b ≡ 41 → AreInsides (inner ∷ next ∷ outer) → Step (Between inner (next ∷ outer)) (Between (Nested next inner) outer) b
to_outer inner next outer b e h = record { sound = ((h.1.0, h.0), h.1.1); goes = rw e (simp append_assoc) }

to_byte : (inner : Inside) (outer : List Inside) (b : ℕ) → IsPlainByte b → AreInsides (inner ∷ outer) → Step (Between inner outer) (Between (Byte inner b) outer) b
to_byte inner outer b plain h = record { sound = ((h.0, plain), h.1); goes = simp append_assoc }

to_end : (inner : Inside) (outer : List Inside) (body : List ℕ) (b : ℕ) → b ≡ 125 → AreInsides (inner ∷ outer) → IsBody body → Step (Within inner outer body) (Between (Comment inner body) outer) b
to_end inner outer body b e h is = record { sound = ((h.0, is), h.1); goes = rw e (simp append_assoc) }

to_body : (inner : Inside) (outer : List Inside) (body : List ℕ) (b : ℕ) → eqb b 125 ≡ false → AreInsides (inner ∷ outer) → IsBody body → Step (Within inner outer body) (Within inner outer (body ++ b ∷ [])) b
to_body inner outer body b ne h is = record { sound = (h, body_push body b is ne); goes = append_assoc (begun (inner ∷ outer)) (123 ∷ body) (b ∷ []) }

-- what the rest says, wherever it begins
abbrev Rest : List ℕ → Type 0
Rest text = (s : At) → IsAt s → Told (front s ++ text) (variation_end (depth s) (comment s) (length (front s)) text)

within : (text : List ℕ) → Rest text → (inner : Inside) (outer : List Inside) (body : List ℕ) (b : ℕ) → AreInsides (inner ∷ outer) → IsBody body → (v : Bool) → eqb b 125 ≡ v
    → Told (front (Within inner outer body) ++ b ∷ text)
    (variation_end (length (inner ∷ outer)) (cond v None (Some (length (begun (inner ∷ outer))))) (length (front (Within inner outer body)) + 1) text)
within text rest inner outer body b h is true e =
    let t = Between (Comment inner body) outer in
    let step = to_end inner outer body b (eqb-true b 125 e) h is in
    moved (Within inner outer body) t b text (length (inner ∷ outer)) None step refl refl (rest t step.sound)
within text rest inner outer body b h is false e =
    let t = Within inner outer (body ++ b ∷ []) in
    let step = to_body inner outer body b e h is in
    moved (Within inner outer body) t b text (length (inner ∷ outer)) (Some (length (begun (inner ∷ outer)))) step refl refl (rest t step.sound)

-- `)`
closing : (text : List ℕ) → Rest text → (inner : Inside) (outer : List Inside) (b : ℕ) → AreInsides (inner ∷ outer) → b ≡ 41
    → Told (begun (inner ∷ outer) ++ b ∷ text)
    (cond (nat_le (length (inner ∷ outer)) 1) (Ok (length (begun (inner ∷ outer)) + 1)) (variation_end (length (inner ∷ outer) - 1) None (length (begun (inner ∷ outer)) + 1) text))
closing text rest inner [] b h e = record {
  inside = inner;
  behind = text;
  sound = h.0;
  whole = rw e (sym (append_assoc (40 ∷ spelled inner) (41 ∷ []) text));
  len = omega (arith, length-append (spelled inner) (41 ∷ []));
}
closing text rest inner (next ∷ outer) b h e =
    let t = Between (Nested next inner) outer in
    let step = to_outer inner next outer b e h in
    let less : length (inner ∷ next ∷ outer) - 1 ≡ length (Nested next inner ∷ outer) = omega arith in
    rw (lt-leb (length (inner ∷ next ∷ outer)) 1 (omega arith)) (moved (Between inner (next ∷ outer)) t b text (length (inner ∷ next ∷ outer) - 1) None step less refl (rest t step.sound))

between : (text : List ℕ) → Rest text → (inner : Inside) (outer : List Inside) (b : ℕ) → AreInsides (inner ∷ outer) → (brace opening closes : Bool) → eqb b 123 ≡ brace → eqb b 40 ≡ opening → eqb b 41 ≡ closes
    → Told (begun (inner ∷ outer) ++ b ∷ text)
    (cond brace (variation_end (length (inner ∷ outer)) (Some (length (begun (inner ∷ outer)))) (length (begun (inner ∷ outer)) + 1) text)
    (cond opening (variation_end (length (inner ∷ outer) + 1) None (length (begun (inner ∷ outer)) + 1) text)
    (cond closes (cond (nat_le (length (inner ∷ outer)) 1) (Ok (length (begun (inner ∷ outer)) + 1)) (variation_end (length (inner ∷ outer) - 1) None (length (begun (inner ∷ outer)) + 1) text))
    (variation_end (length (inner ∷ outer)) None (length (begun (inner ∷ outer)) + 1) text))))
between text rest inner outer b h true opening closes e e1 e2 =
    let t = Within inner outer [] in
    let step = to_comment inner outer b (eqb-true b 123 e) h in
    moved (Between inner outer) t b text (length (inner ∷ outer)) (Some (length (begun (inner ∷ outer)))) step refl refl (rest t step.sound)
between text rest inner outer b h false true closes e e1 e2 =
    let t = Between Empty (inner ∷ outer) in
    let step = to_inner inner outer b (eqb-true b 40 e1) h in
    let more : length (inner ∷ outer) + 1 ≡ length (Empty ∷ inner ∷ outer) = omega arith in
    moved (Between inner outer) t b text (length (inner ∷ outer) + 1) None step more refl (rest t step.sound)
between text rest inner outer b h false false true e e1 e2 = closing text rest inner outer b h (eqb-true b 41 e2)
between text rest inner outer b h false false false e e1 e2 =
    let t = Between (Byte inner b) outer in
    let step = to_byte inner outer b (eqb-false b 123 e, eqb-false b 40 e1, eqb-false b 41 e2) h in
    moved (Between inner outer) t b text (length (inner ∷ outer)) None step refl refl (rest t step.sound)

told : (text : List ℕ) → Rest text
told [] (Between inner outer) h = record { inner = inner; outer = outer; insides = h; whole = append-nil (begun (inner ∷ outer)) }
told [] (Within inner outer body) h = record {
  inner = inner;
  outer = outer;
  body = body;
  insides = h.0;
  open_body = h.1;
  whole = append-nil (begun (inner ∷ outer) ++ 123 ∷ body);
  there = refl;
}
told (b ∷ text) (Between inner outer) h = between text (told text) inner outer b h (eqb b 123) (eqb b 40) (eqb b 41) refl refl refl
told (b ∷ text) (Within inner outer body) h = within text (told text) inner outer body b h.0 h.1 (eqb b 125) refl

pub variation_told : (rest : List ℕ) → slice_index rest 0 ≡ 40 → Told rest (variation_end 0 None 0 rest)
variation_told [] e = absurd (omega arith)
variation_told (b ∷ text) e = rw e (told text (Between Empty []) (tt, tt))

-- the way back: through what stands whole inside a variation
plain_step : (d p b : ℕ) (more : List ℕ) → IsPlainByte b → variation_end d None p (b ∷ more) ≡ variation_end d None (p + 1) more
plain_step d p b more plain = rw (ne_eqb b 123 plain.0) (rw (ne_eqb b 40 plain.1) (rw (ne_eqb b 41 plain.2) refl))

stays : (b o : ℕ) → eqb b 125 ≡ false → (cond (eqb b 125) None (Some o)) ≡ Some o
stays b o e = rw e refl

body_through : (body : List ℕ) → IsBody body → (d o p : ℕ) (more : List ℕ) → variation_end d (Some o) p (body ++ 125 ∷ more) ≡ variation_end d None (p + length body + 1) more
body_through [] is d o p more = ap (λ n. variation_end d None n more) (omega arith)
body_through (b ∷ body) is d o p more =
    let h = and_true (not (eqb b 125)) (list_all (λ x. not (eqb x 125)) body) is in
    ap (λ c. variation_end d c (p + 1) (body ++ 125 ∷ more)) (stays b o (not_true (eqb b 125) h.0)) ∙ (body_through body h.1 d o (p + 1) more ∙ ap (λ n. variation_end d None n more) (omega arith))

body_open : (body : List ℕ) → IsBody body → (d o p : ℕ) → variation_end d (Some o) p body ≡ Err (unclosed.Comment o)
body_open [] is d o p = refl
body_open (b ∷ body) is d o p =
    let h = and_true (not (eqb b 125)) (list_all (λ x. not (eqb x 125)) body) is in
    ap (λ c. variation_end d c (p + 1) body) (stays b o (not_true (eqb b 125) h.0)) ∙ body_open body h.1 d o (p + 1)

up : (d p : ℕ) (more : List ℕ) → variation_end d None p (40 ∷ more) ≡ variation_end (suc d) None (p + 1) more
up d p more = ap (λ n. variation_end n None (p + 1) more) (omega arith)

down : (d p : ℕ) (more : List ℕ) → variation_end (suc (suc d)) None p (41 ∷ more) ≡ variation_end (suc d) None (p + 1) more
down d p more = rw (lt-leb (suc (suc d)) 1 (omega arith)) (ap (λ n. variation_end n None (p + 1) more) (omega arith))

through : (i : Inside) → IsInside i → (d p : ℕ) (more : List ℕ) → variation_end (suc d) None p (spelled i ++ more) ≡ variation_end (suc d) None (p + length (spelled i)) more
through Empty h d p more = ap (λ n. variation_end (suc d) None n more) (omega arith)
through (Byte before b) h d p more =
    rw (append_assoc (spelled before) (b ∷ []) more)
    (through before h.0 d p (b ∷ more) ∙ plain_step (suc d) (p + length (spelled before)) b more h.1
    ∙ ap (λ n. variation_end (suc d) None n more) (omega (arith, length-append (spelled before) (b ∷ []))))
through (Comment before body) h d p more =
    rw (append_assoc (spelled before ++ 123 ∷ body) (125 ∷ []) more) (rw (append_assoc (spelled before) (123 ∷ body) (125 ∷ more))
    (through before h.0 d p (123 ∷ body ++ 125 ∷ more) ∙ body_through body h.1 (suc d) (p + length (spelled before)) (p + length (spelled before) + 1) more
    ∙ ap (λ n. variation_end (suc d) None n more) (omega (arith, length-append (spelled before) (123 ∷ body), length-append (spelled before ++ 123 ∷ body) (125 ∷ [])))))
through (Nested before inside) h d p more =
    rw (append_assoc (spelled before ++ 40 ∷ spelled inside) (41 ∷ []) more) (rw (append_assoc (spelled before) (40 ∷ spelled inside) (41 ∷ more))
    (through before h.0 d p (40 ∷ spelled inside ++ 41 ∷ more) ∙ up (suc d) (p + length (spelled before)) (spelled inside ++ 41 ∷ more)
    ∙ through inside h.1 (suc d) (p + length (spelled before) + 1) (41 ∷ more) ∙ down d (p + length (spelled before) + 1 + length (spelled inside)) more
    ∙ ap (λ n. variation_end (suc d) None n more) (omega (arith, length-append (spelled before) (40 ∷ spelled inside), length-append (spelled before ++ 40 ∷ spelled inside) (41 ∷ [])))))

pub variation_found : (inside : Inside) (behind : List ℕ) → IsInside inside → variation_end 0 None 0 (variation inside ++ behind) ≡ Ok (length (variation inside))
variation_found inside behind h =
    ap (λ x. variation_end 0 None 0 x) (append_assoc (40 ∷ spelled inside) (41 ∷ []) behind)
    ∙ through inside h 0 1 (41 ∷ behind) ∙ ap Ok (omega (arith, length-append (spelled inside) (41 ∷ [])))

begun_through : (levels : List Inside) → AreInsides levels → (more : List ℕ) → variation_end 0 None 0 (begun levels ++ more) ≡ variation_end (length levels) None (length (begun levels)) more
begun_through [] h more = refl
begun_through (i ∷ outer) h more =
    rw (append_assoc (begun outer) (40 ∷ spelled i) more)
    (begun_through outer h.1 (40 ∷ spelled i ++ more) ∙ up (length outer) (length (begun outer)) (spelled i ++ more)
    ∙ through i h.0 (length outer) (length (begun outer) + 1) more
    ∙ ap (λ n. variation_end (suc (length outer)) None n more) (omega (arith, length-append (begun outer) (40 ∷ spelled i))))

pub never_closed_told : (text : List ℕ) → NeverClosed text → variation_end 0 None 0 text ≡ Err unclosed.Variation
never_closed_told text h = rw h.whole (rw (← append-nil (begun (h.inner ∷ h.outer))) (begun_through (h.inner ∷ h.outer) h.insides []))

pub open_comment_told : (text : List ℕ) (place : ℕ) → HoldsOpenComment text place → variation_end 0 None 0 text ≡ Err (unclosed.Comment place)
open_comment_told text place h =
    rw (h.whole, h.there)
    (begun_through (h.inner ∷ h.outer) h.insides (123 ∷ h.body) ∙ body_open h.body h.open_body (length (h.inner ∷ h.outer)) (length (begun (h.inner ∷ h.outer))) (length (begun (h.inner ∷ h.outer)) + 1))
