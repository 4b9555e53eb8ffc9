-- The fields of a line, and what their readers answer.
use Rattle.std.proofs.Common.{◌≡◌, ℕ, ◌<◌, List, ◌∷◌, ◌++◌, refl, sym, ◌∙◌, ap, subst, arith, append-nil, Option, Some, None, Result, Ok, Err, false, zero, suc, ◌==◌}
use Rattle.std.specs.Prelude.{IsNone, ◌↔◌, IfOk}
use Rattle.std.specs.Option.{IfNone}
use Rattle.std.proofs.lemmas.Bool.{false≢true}
use Rattle.draughts_board.specs.declared.pieces.Side.{Side}
use Rattle.draughts_board.specs.declared.pieces.Side.TheVariants.{Black, White}
use Rattle.certificate_text.specs.Lines.{side_word, choice_text, move_text}
use Rattle.shared_words.specs.Bytes.{Lacks}
use Rattle.certificate_text.specs.Steps.{behind_field}
use Rattle.shared_words.proofs.LackingBytes.{halves_agree, Lacks-split}

pub if_none : {X : Type 0} (r : Option X) (P : Type 0) → P → IfNone r P
if_none None P p = p
if_none (Some x) P p = tt

pub for_none : {X : Type 0} (r : Option X) (P : Type 0) → (IsNone r → P) → IfNone r P
for_none None P p = p refl
for_none (Some x) P p = tt

pub if_ok : {X E : Type 0} (r : Result X E) (P Q : X → Type 0) → ((x : X) → P x → Q x) → IfOk r P → IfOk r Q
if_ok (Ok x) P Q f p = f x p
if_ok (Err e) P Q f p = tt

pub side_bare : (side : Side) → Lacks 32 (side_word side)
side_bare Black = refl
side_bare White = refl

-- two lines agree in their first fields and behind them
pub field_cut : (f g : List ℕ) (o p : Option (List ℕ)) → Lacks 32 f → Lacks 32 g → f ++ behind_field o ≡ g ++ behind_field p → (f ≡ g) × (behind_field o ≡ behind_field p)
field_cut f g None None h k e = (sym (append-nil f) ∙ e ∙ append-nil g, refl)
field_cut f g None (Some t) h k e = absurd (Lacks-split 32 g t (subst (Lacks 32) (sym (append-nil f) ∙ e) h))
field_cut f g (Some t) None h k e = absurd (Lacks-split 32 f t (subst (Lacks 32) (sym (append-nil g) ∙ sym e) k))
field_cut f g (Some t) (Some u) h k e = let both = halves_agree 32 f g t u h k e in (both.0, ap (λ b. 32 ∷ b) both.1)

pub choice_behind : (chosen : Option (List ℕ)) → (o : Option (List ℕ)) × (choice_text chosen ≡ behind_field o)
choice_behind None = (None, refl)
choice_behind (Some path) = (Some (move_text path), refl)

pub choice_cut : (f g : List ℕ) (o chosen : Option (List ℕ)) → Lacks 32 f → Lacks 32 g → f ++ behind_field o ≡ g ++ choice_text chosen → (f ≡ g) × (behind_field o ≡ choice_text chosen)
choice_cut f g o chosen h k e =
    let other = choice_behind chosen in
    let both = field_cut f g o other.0 h k (e ∙ ap (λ t. g ++ t) other.1) in
    (both.0, both.1 ∙ sym other.1)

pub some_length : (n : ℕ) → false ≡ (n == 0) → 0 < n
some_length zero h = absurd (false≢true h)
some_length (suc n) h = omega arith
