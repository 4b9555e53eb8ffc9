-- A step more of a line of play.
use Rattle.std.proofs.Common.{◌≡◌, ℕ, suc, ◌+◌, ◌<◌, ◌≤◌, List, [], ◌∷◌, ◌++◌, drop, map, length, get_or, refl, sym, ◌∙◌, ap, subst, arith, append_assoc, append-nil}
use Rattle.std.specs.Prelude.{codes}
use Rattle.std.proofs.lemmas.List.{drop_all, map-append}
use Rattle.std.proofs.Math.Seq.{drop-cons}
use Rattle.certificate_lines.specs.Lines.{Leads}
use Rattle.certificate_text.specs.Lines.{move_text}
use Rattle.draughts_board.specs.Board.{Board}
use Rattle.draughts_board.specs.Rules.{IsLegal, after}
use Rattle.page_text.specs.Plays.{StepWords, step_words}
use Rattle.page_text.specs.declared.plays.PageStep.{PageStep}
use Rattle.root_pages.specs.Steps.{line_steps, steps_behind}

-- Steps are made up to this position, and those behind the moves that are left make them whole; these moves are legal.
pub record IsUnderWay (start : Board) (moves : List (List ℕ)) (i : ℕ) (steps : List PageStep) (p : Board) : Type 0 where
  pub so_far : map step_words steps ++ steps_behind p (drop i moves) ≡ line_steps start moves
  pub leads : (end : Board) × Leads p (drop i moves) end

pub under_way : (start : Board) (moves : List (List ℕ)) (steps : List PageStep) (p : Board) (one : PageStep) → p ≡ start → steps ≡ one ∷ [] → step_words one ≡ record { position = start; words = codes "start" }
    → (end : Board) × Leads start moves end → IsUnderWay start moves 0 steps p
under_way start moves steps p one here is words leads = record {
  so_far = ap (λ (l : List PageStep). map step_words l ++ steps_behind p moves) is ∙ ((λ i. words i ∷ steps_behind (here i) moves));
  leads = subst (λ (q : Board). (end : Board) × Leads q moves end) (sym here) leads;
}

split : (moves : List (List ℕ)) (i : ℕ) (path : List ℕ) → i < length moves → path ≡ get_or moves i path → drop i moves ≡ path ∷ drop (i + 1) moves
split moves i path within is =
    let next : suc i ≡ i + 1 = omega arith in
    drop-cons moves i path within ∙ (ap (λ (x : List ℕ). x ∷ drop (suc i) moves) (sym is) ∙ ap (λ m. path ∷ drop m moves) next)

pub legal_now : (start : Board) (moves : List (List ℕ)) (i : ℕ) (steps : List PageStep) (p : Board) (path : List ℕ) → i < length moves → path ≡ get_or moves i path → IsUnderWay start moves i steps p → IsLegal p path
legal_now start moves i steps p path within is way =
    (subst (λ (l : List (List ℕ)). Leads p l way.leads.0) (split moves i path within is) way.leads.1).0

pub one_step : (start : Board) (moves : List (List ℕ)) (i : ℕ) (steps more : List PageStep) (p q : Board) (path : List ℕ) (one : PageStep) → i < length moves → path ≡ get_or moves i path → IsUnderWay start moves i steps p
    → q ≡ after p path → step_words one ≡ record { position = q; words = move_text path } → more ≡ steps ++ one ∷ [] → IsUnderWay start moves (i + 1) more q
one_step start moves i steps more p q path one within is way next words pushed =
    let rest = drop (i + 1) moves in
    let cut = split moves i path within is in
    let here : StepWords = record { position = after p path; words = move_text path } in
    let one_is : step_words one ≡ here = words ∙ ap (λ (b : Board). record { position = b; words = move_text path }) next in
    let made : map step_words more ≡ map step_words steps ++ here ∷ [] =
    ap (map step_words) pushed ∙ (map-append step_words steps (one ∷ []) ∙ ap (λ (w : StepWords). map step_words steps ++ w ∷ []) one_is) in
    record {
      so_far =
          (λ j. made j ++ steps_behind (next j) rest)
          ∙ (append_assoc (map step_words steps) (here ∷ []) (steps_behind (after p path) rest)
          ∙ (ap (λ (l : List (List ℕ)). map step_words steps ++ steps_behind p l) (sym cut) ∙ way.so_far));
      leads =
          (way.leads.0, subst (λ (b : Board). Leads b rest way.leads.0) (sym next) (subst (λ (l : List (List ℕ)). Leads p l way.leads.0) cut way.leads.1).1);
    }

pub at_end : (start : Board) (moves : List (List ℕ)) (i : ℕ) (steps : List PageStep) (p : Board) → length moves ≤ i → IsUnderWay start moves i steps p → map step_words steps ≡ line_steps start moves
at_end start moves i steps p past way =
    sym (ap (λ (l : List (List ℕ)). map step_words steps ++ steps_behind p l) (drop_all i moves past) ∙ append-nil (map step_words steps)) ∙ way.so_far
