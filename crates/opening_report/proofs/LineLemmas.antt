-- Where a line stands in a text of lines.
use Rattle.std.proofs.Common.{◌≡◌, ℕ, inl, inr, Bool, true, false, not, ◌||◌, List, [], ◌∷◌, ◌++◌, refl, sym, ◌∙◌, ap, subst, arith, append_assoc, ◌==◌}
use Rattle.std.specs.Prelude.{Contains}
use Rattle.std.specs.List.{list_any, flat_map, AllByRecursion}
use Rattle.std.proofs.lemmas.Bool.{true≢false}
use Rattle.std.proofs.lemmas.List.{append-nil}
use Rattle.draughts_board.proofs.Members.{Contains-nil, Contains-cons_cases, Contains-head, Contains-tail, bool_cases}
use Rattle.std.specs.Cmp.{first_so, second_so}
use Rattle.shared_words.specs.Bytes.{Lacks}
use Rattle.shared_words.proofs.LackingBytes.{Lacks-append, halves_agree}
use Rattle.opening_report.specs.Lines.{IsLine, is_line, EndsLine, HasLine}

-- the first line of a text that ends with a line end
pub record FirstLine (text : List ℕ) : Type 0 where
  pub body : List ℕ
  pub rest : List ℕ
  pub bare : Lacks 10 body
  pub ends : EndsLine rest
  pub split : text ≡ body ++ 10 ∷ rest

first_line_of : (front : List ℕ) → FirstLine (front ++ 10 ∷ [])
first_line_of [] = record { body = []; rest = []; bare = refl; ends = inl refl; split = refl }
first_line_of (c ∷ front) = elim (bool_cases (c == 10)) [ inl t ↦ here t | inr f ↦ further f (first_line_of front) ]
  where
    here : (c == 10) ≡ true → FirstLine (c ∷ (front ++ 10 ∷ []))
    here t = let e : c ≡ 10 = grind arith in record { body = []; rest = front ++ 10 ∷ []; bare = refl; ends = inr (front, refl); split = ap (λ n. n ∷ (front ++ 10 ∷ [])) e }

    further : (c == 10) ≡ false → FirstLine (front ++ 10 ∷ []) → FirstLine (c ∷ (front ++ 10 ∷ []))
    further f l = record { body = c ∷ l.body; rest = l.rest; bare = ap (λ b. b || list_any (λ n. n == 10) l.body) f ∙ l.bare; ends = l.ends; split = ap (λ t. c ∷ t) l.split }

empty_split : (a b c : List ℕ) → IsLine b → a ++ (b ++ c) ≡ [] → ⊥
empty_split [] b c line e = let f : (line.0 ++ 10 ∷ []) ++ c ≡ [] = ap (λ t. t ++ c) (sym line.1.1) ∙ e in nothing line.0 c f
  where
    nothing : (body c : List ℕ) → (body ++ 10 ∷ []) ++ c ≡ [] → ⊥
    nothing [] c e = cc
    nothing (x ∷ body) c e = cc
empty_split (x ∷ a) b c line e = cc

-- a whole line of a text of lines is one of them
pub line_among : (lines : List (List ℕ)) (before line after : List ℕ) → AllByRecursion IsLine lines → IsLine line → EndsLine before
    → before ++ (line ++ after) ≡ flat_map (λ l. l) lines → Contains lines line
line_among [] before line after each one ends e = absurd (empty_split before line after one e)
line_among (l ∷ lines) before line after each one (inl nothing) e =
    let lined : (one.0 ++ 10 ∷ []) ++ after ≡ (each.0.0 ++ 10 ∷ []) ++ flat_map (λ l. l) lines =
    ap (λ t. t ++ after) (sym one.1.1) ∙ ap (λ b. b ++ (line ++ after)) (sym nothing) ∙ e ∙ ap (λ t. t ++ flat_map (λ l. l) lines) each.0.1.1 in
    let bodies = halves_agree 10 one.0 each.0.0 after (flat_map (λ l. l) lines) one.1.0 each.0.1.0
    (sym (append_assoc one.0 (10 ∷ []) after) ∙ lined ∙ append_assoc each.0.0 (10 ∷ []) (flat_map (λ l. l) lines)) in
    let same : line ≡ l = one.1.1 ∙ ap (λ b. b ++ 10 ∷ []) bodies.0 ∙ sym each.0.1.1 in
    subst (λ x. Contains (l ∷ lines) x) (sym same) (Contains-head l lines)
line_among (l ∷ lines) before line after each one (inr ended) e =
    let first = first_line_of ended.0 in
    let lined : first.body ++ 10 ∷ (first.rest ++ (line ++ after)) ≡ each.0.0 ++ 10 ∷ flat_map (λ l. l) lines =
    sym (append_assoc first.body (10 ∷ first.rest) (line ++ after))
    ∙ ap (λ t. t ++ (line ++ after)) (sym first.split ∙ sym ended.1) ∙ e
    ∙ ap (λ t. t ++ flat_map (λ l. l) lines) each.0.1.1 ∙ append_assoc each.0.0 (10 ∷ []) (flat_map (λ l. l) lines) in
    let rest = halves_agree 10 first.body each.0.0 (first.rest ++ (line ++ after)) (flat_map (λ l. l) lines) first.bare each.0.1.0 lined in
    Contains-tail l line lines (line_among lines first.rest line after each.1 one first.ends rest.1)

-- ---- lines from their test, and lines of parts

not_first : (b : Bool) → not b ≡ true → b ≡ false
not_first true h = sym h
not_first false h = refl

pub line-from_test : (text : List ℕ) → is_line text ≡ true → IsLine text
line-from_test [] h = absurd (true≢false (sym h))
line-from_test (x ∷ []) h = let e : x ≡ 10 = grind arith in ([], (refl, ap (λ n. n ∷ []) e))
line-from_test (x ∷ y ∷ rest) h =
    let more = line-from_test (y ∷ rest) (second_so _ _ h) in
    (x ∷ more.0, (ap (λ b. b || list_any (λ n. n == 10) more.0) (not_first (x == 10) (first_so _ _ h)) ∙ more.1.0, ap (λ t. x ∷ t) more.1.1))

-- a text without line end before a line
pub IsLine-append : (front line : List ℕ) → Lacks 10 front → IsLine line → IsLine (front ++ line)
IsLine-append front line bare one =
    (front ++ one.0, (Lacks-append 10 front one.0 bare one.1.0, ap (λ t. front ++ t) one.1.1 ∙ sym (append_assoc front one.0 (10 ∷ []))))

-- a line of the lines stands whole in their text
pub line_stands : (lines : List (List ℕ)) (line : List ℕ) → AllByRecursion IsLine lines → Contains lines line → HasLine (flat_map (λ l. l) lines) line
line_stands [] line each h = absurd (Contains-nil line h)
line_stands (l ∷ lines) line each h =
    elim (Contains-cons_cases l lines line h) [
      | inl same ↦ record { before = []; after = flat_map (λ t. t) lines; begins = inl refl; split = ap (λ t. t ++ flat_map (λ t. t) lines) same }
      | inr further ↦ behind (line_stands lines line each.1 further)
    ]
  where
    ends : (before : List ℕ) → EndsLine before → EndsLine (l ++ before)
    ends before (inl nothing) = inr (each.0.0, ap (λ t. l ++ t) nothing ∙ append-nil l ∙ each.0.1.1)
    ends before (inr ended) = inr (l ++ ended.0, ap (λ t. l ++ t) ended.1 ∙ sym (append_assoc l ended.0 (10 ∷ [])))

    behind : HasLine (flat_map (λ t. t) lines) line → HasLine (l ++ flat_map (λ t. t) lines) line
    behind has = record {
      before = l ++ has.before;
      after = has.after;
      begins = ends has.before has.begins;
      split = ap (λ t. l ++ t) has.split ∙ sym (append_assoc l has.before (line ++ has.after));
    }
