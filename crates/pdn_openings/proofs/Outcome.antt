-- Where moves lead, as a function: moves lead to one position at most or stop at one place, and not both.
use Rattle.std.proofs.Common.{◌≡◌, ◌∙◌, ℕ, suc, ◌+◌, List, [], ◌∷◌, ◌++◌, length, Result, Ok, Err, sym, ap, subst, arith}
use Rattle.draughts_board.specs.Board.{Board}
use Rattle.draughts_board.specs.Rules.{after}
use Rattle.draughts_board.specs.declared.resolution.ResolveRefusal.{ResolveRefusal}
use Rattle.pdn_openings.specs.Playing.{meaning_of, LeadTo, StopAt}
use Rattle.pdn_text.specs.declared.game.MoveText.{MoveText}

-- how many moves stand before the refused one, its place, and why it is refused
pub record Stop : Type 0 where
  pub before : ℕ
  pub at : ℕ
  pub cause : ResolveRefusal

abbrev next_outcome : (List ℕ → Result Board Stop) → ℕ → ℕ → Result (List ℕ) ResolveRefusal → Result Board Stop
next_outcome next n at (Ok path) = next path
next_outcome next n at (Err cause) = Err (record { before = n; at = at; cause = cause })

abbrev pub outcome : Board → List MoveText → ℕ → Result Board Stop
outcome p [] n = Ok p
outcome p (written ∷ moves) n = next_outcome (λ path. outcome (after p path) moves (suc n)) n written.at (meaning_of p written)

outcome-led : (p q : Board) (moves : List MoveText) (n : ℕ) → LeadTo p moves q → outcome p moves n ≡ Ok q
outcome-led p q [] n led = ap Ok led
outcome-led p q (written ∷ moves) n led =
    ap (next_outcome (λ path. outcome (after p path) moves (suc n)) n written.at) led.1.0 ∙ outcome-led (after p led.0) q moves (suc n) led.1.1

outcome-behind : (p here : Board) (before : List MoveText) (written : MoveText) (behind : List MoveText) (cause : ResolveRefusal) (n : ℕ)
    → LeadTo p before here → meaning_of here written ≡ Err cause
    → outcome p (before ++ written ∷ behind) n ≡ Err (record { before = n + length before; at = written.at; cause = cause })
outcome-behind p here [] written behind cause n led refused =
    ap (next_outcome (λ path. outcome (after p path) behind (suc n)) n written.at) (ap (λ b. meaning_of b written) led ∙ refused)
    ∙ ap (λ k. Err (record { before = k; at = written.at; cause = cause })) (let e : n ≡ n + 0 = omega arith in e)
outcome-behind p here (w ∷ before) written behind cause n led refused =
    ap (next_outcome (λ path. outcome (after p path) (before ++ written ∷ behind) (suc n)) n w.at) led.1.0
    ∙ outcome-behind (after p led.0) here before written behind cause (suc n) led.1.1 refused
    ∙ ap (λ k. Err (record { before = k; at = written.at; cause = cause })) (let e : suc n + length before ≡ n + length (w ∷ before) = omega arith in e)

outcome-stop : (p : Board) (moves : List MoveText) (ply at : ℕ) (cause : ResolveRefusal) → (s : StopAt p moves ply at cause)
    → outcome p moves 0 ≡ Err (record { before = length s.before; at = at; cause = cause })
outcome-stop p moves ply at cause s =
    ap (λ ms. outcome p ms 0) s.all ∙ outcome-behind p s.here s.before s.written s.behind cause 0 s.led s.refused
    ∙ (let n : 0 + length s.before ≡ length s.before = omega arith in let place = sym s.place in λ i. Err (record { before = n i; at = place i; cause = cause }))

-- moves lead to one position
pub one_end : (p q r : Board) (moves : List MoveText) → LeadTo p moves q → LeadTo p moves r → q ≡ r
one_end p q r moves a b = let e : ◌≡◌ {A = Result Board Stop} (Ok q) (Ok r) = sym (outcome-led p q moves 0 a) ∙ outcome-led p r moves 0 b in cc

-- moves that lead on do not stop
pub no_stop : (p q : Board) (moves : List MoveText) (ply at : ℕ) (cause : ResolveRefusal) → LeadTo p moves q → StopAt p moves ply at cause → ⊥
no_stop p q moves ply at cause led s =
    let e : ◌≡◌ {A = Result Board Stop} (Ok q) (Err (record { before = length s.before; at = at; cause = cause })) = sym (outcome-led p q moves 0 led) ∙ outcome-stop p moves ply at cause s in
    absurd (cc)

pub record SameStop (ply at : ℕ) (cause : ResolveRefusal) (ply' at' : ℕ) (cause' : ResolveRefusal) : Type 0 where
  pub plies : ply ≡ ply'
  pub places : at ≡ at'
  pub causes : cause ≡ cause'

abbrev stop_or : Stop → Result Board Stop → Stop
stop_or s (Ok p) = s
stop_or s (Err t) = t

-- moves stop at one place
pub one_stop : (p : Board) (moves : List MoveText) (ply at : ℕ) (cause : ResolveRefusal) (ply' at' : ℕ) (cause' : ResolveRefusal)
    → StopAt p moves ply at cause → StopAt p moves ply' at' cause' → SameStop ply at cause ply' at' cause'
one_stop p moves ply at cause ply' at' cause' s t =
    let e = sym (outcome-stop p moves ply at cause s) ∙ outcome-stop p moves ply' at' cause' t in
    let same = ap (stop_or (record { before = 0; at = 0; cause = cause })) e in record {
      plies = s.counted ∙ ap (λ (x : Stop). suc x.before) same ∙ sym t.counted;
      places = ap (λ (x : Stop). x.at) same;
      causes = ap (λ (x : Stop). x.cause) same;
    }

-- ---- one more move

-- moves that lead somewhere, and one more from there
pub lead-push : (p here q : Board) (moves : List MoveText) (written : MoveText) → LeadTo p moves here → LeadTo here (written ∷ []) q
    → LeadTo p (moves ++ written ∷ []) q
lead-push p here q [] written led more = subst (λ b. LeadTo b (written ∷ []) q) (sym led) more
lead-push p here q (w ∷ moves) written led more = (led.0, (led.1.0, lead-push (after p led.0) here q moves written led.1.1 more))
