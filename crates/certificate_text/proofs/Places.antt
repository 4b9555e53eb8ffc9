-- Where two readings of one text stand.
use Rattle.std.proofs.Common.{◌≡◌, ℕ, suc, List, [], ◌∷◌, ◌++◌, length, refl, sym, ◌∙◌, ap, subst, append_assoc, ◌⊎◌, inl, inr}
use Rattle.certificate_text.specs.Lines.{Line, line_text, text_of_lines}
use Rattle.certificate_text.specs.Text.{IsSoundPlace}
use Rattle.certificate_text.specs.Steps.{Leads}
use Rattle.certificate_text.specs.Places.{Place}
use Rattle.shared_words.proofs.LackingBytes.{halves_agree}
use Rattle.certificate_text.proofs.Leading.{leads_has}
use Rattle.certificate_text.proofs.OneSpelling.{one_line, leads_may, leads_one, leads_bare}
use Rattle.certificate_text.proofs.Runs.{Runs}

-- a line that leads on stands first in the rest
pub record GoesOn (d : Place) (rest : List ℕ) : Type 0 where
  pub line : Line
  pub next : Place
  pub behind : List ℕ
  pub leads : Leads d line next
  pub spelled : rest ≡ line_text line ++ 10 ∷ behind

-- two readings stand at one place
pub record IsSamePlace (d e : Place) (lines more : List Line) (rest left : List ℕ) : Type 0 where
  pub one_due : d ≡ e
  pub one_rest : rest ≡ left
  pub one_count : length lines ≡ length more

abbrev pub Meet : Place → Place → List Line → List Line → List ℕ → List ℕ → Type 0
Meet d e lines more rest left = IsSamePlace d e lines more rest left ⊎ (GoesOn d rest ⊎ GoesOn e left)

one_longer : (d e : Place) (l m : Line) (lines more : List Line) (rest left : List ℕ) → Meet d e lines more rest left → Meet d e (l ∷ lines) (m ∷ more) rest left
one_longer d e l m lines more rest left (inl same) = inl (record { one_due = same.one_due; one_rest = same.one_rest; one_count = ap suc same.one_count })
one_longer d e l m lines more rest left (inr on) = inr on

-- the text of lines is its first line, the byte 10, and the text of the others
line_first : (line : Line) (lines : List Line) (rest : List ℕ) → text_of_lines (line ∷ lines) ++ rest ≡ line_text line ++ 10 ∷ (text_of_lines lines ++ rest)
line_first line lines rest =
    append_assoc (line_text line ++ 10 ∷ []) (text_of_lines lines) rest ∙ append_assoc (line_text line) (10 ∷ []) (text_of_lines lines ++ rest)

-- two readings of one text from one place stand at one place, or a line leads one of them on
pub places : (d : Place) (lines more : List Line) (e f : Place) (rest left : List ℕ) → IsSoundPlace d → Runs d lines e → Runs d more f
    → text_of_lines lines ++ rest ≡ text_of_lines more ++ left → Meet e f lines more rest left
places d [] [] e f rest left sound here there text = inl (record { one_due = sym here ∙ there; one_rest = text; one_count = refl })
places d [] (m ∷ more) e f rest left sound here (next, (leads, runs)) text =
    inr (inl (record { line = m; next = next; behind = text_of_lines more ++ left; leads = subst (λ x. Leads x m next) here leads; spelled = text ∙ line_first m more left }))
places d (l ∷ lines) [] e f rest left sound (next, (leads, runs)) there text =
    inr (inr (record { line = l; next = next; behind = text_of_lines lines ++ rest; leads = subst (λ x. Leads x l next) there leads; spelled = sym text ∙ line_first l lines rest }))
places d (l ∷ lines) (m ∷ more) e f rest left sound (n, (to_n, on_n)) (k, (to_k, on_k)) text =
    let cut = halves_agree 10 (line_text l) (line_text m) (text_of_lines lines ++ rest) (text_of_lines more ++ left) (leads_bare d l n sound to_n) (leads_bare d m k sound to_k)
    (sym (line_first l lines rest) ∙ text ∙ line_first m more left) in
    let same_line = one_line d l m (leads_may d l n sound to_n) (leads_may d m k sound to_k) cut.0 in
    let same_next = leads_one d m n k (subst (λ x. Leads d x n) same_line to_n) to_k in
    one_longer e f l m lines more rest left
    (places n lines more e f rest left (leads_has d l n sound to_n).sound on_n (subst (λ x. Runs x more f) (sym same_next) on_k) cut.1)
