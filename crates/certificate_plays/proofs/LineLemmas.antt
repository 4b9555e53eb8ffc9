-- The lines of a text, and which line is a move.
use Rattle.std.proofs.Common.{◌≡◌, ◌≢◌, ◌<◌, ◌==◌, ℕ, List, [], ◌∷◌, ◌++◌, Option, Some, None, Bool, true, false, refl, sym, ◌∙◌, ap, subst, length, drop, cond, arith}
use Rattle.std.specs.Prelude.{MatchOption, Result, Ok, Err}
use Rattle.std.proofs.lemmas.Grind.{common_steps}
use Rattle.std.proofs.lemmas.List.{nil_from_length}
use Rattle.std.specs.Bool.{OnFalse}
use Rattle.std.specs.List.{onto_first}
use Rattle.shared_words.specs.Answers.{IsExact}
use Rattle.shared_words.specs.Bytes.{Lacks}
use Rattle.shared_words.proofs.LackingBytes.{Lacks-first, Lacks-rest}
use Rattle.pdn_text.specs.Forms.{form_of}
use Rattle.pdn_text.specs.Grammar.{IsItemOfText, IsPdnFault, form_at}
use Rattle.pdn_text.specs.Signs.{pdn_wants_memory, saying}
use Rattle.pdn_text.specs.declared.game.MoveText.{MoveText}
use Rattle.pdn_text.specs.declared.items.Item.{Item}
use Rattle.pdn_text.specs.declared.items.Sign.TheVariants.{Moved}
use Rattle.pdn_text.specs.declared.refusal.PdnRefusal.{PdnRefusal}
use Rattle.certificate_plays.specs.Lines.{IsMoveLine, lines_of}

-- ---- lines

apart : (a b : ℕ) → a ≢ b → (a == b) ≡ false
apart a b h = grind arith

-- the byte begins the first line
onto : (b : ℕ) (rest : List ℕ) → b ≢ 10 → lines_of (b ∷ rest) ≡ onto_first b (lines_of rest)
onto b rest other = ap (λ t. cond t ([] ∷ lines_of rest) (onto_first b (lines_of rest))) (apart b 10 other)

pub split_there : (line behind : List ℕ) → Lacks 10 line → lines_of (line ++ 10 ∷ behind) ≡ line ∷ lines_of behind
split_there [] behind lacks = refl
split_there (b ∷ line) behind lacks =
    onto b (line ++ 10 ∷ behind) (Lacks-first 10 b line lacks) ∙ ap (onto_first b) (split_there line behind (Lacks-rest 10 b line lacks))

one_line : (b : ℕ) (line : List ℕ) → Lacks 10 (b ∷ line) → lines_of (b ∷ line) ≡ (b ∷ line) ∷ []
one_line b [] lacks = onto b [] (Lacks-first 10 b [] lacks)
one_line b (d ∷ line) lacks =
    onto b (d ∷ line) (Lacks-first 10 b (d ∷ line) lacks) ∙ ap (onto_first b) (one_line d line (Lacks-rest 10 b (d ∷ line) lacks))

pub whole_line : (text : List ℕ) → text ≢ [] → Lacks 10 text → lines_of text ≡ text ∷ lines_of []
whole_line [] some lacks = absurd (some refl)
whole_line (b ∷ line) some lacks = one_line b line lacks

-- what `text.is_empty()` shows
pub none_there : (text : List ℕ) (empty : Bool) → empty ≡ (length text == 0) → empty ≡ true → text ≡ []
none_there text empty test e =
    let short : length text ≡ 0 = grind (arith, common_steps) in
    nil_from_length text short

pub some_there : (text : List ℕ) (empty : Bool) → empty ≡ (length text == 0) → empty ≡ false → text ≢ []
some_there text empty test e same =
    let short : length text ≡ 0 = ap length same in
    grind (arith, common_steps)

-- ---- moves

-- an empty line is no move
pub empty_line : (written : MoveText) → IsMoveLine [] written → ⊥
unfolding form_of
empty_line written is = is

module _ (line : List ℕ) (answer : Result Item PdnRefusal)
    (exact : IsExact pdn_wants_memory (IsItemOfText (form_at line 0) 0 (drop 0 line)) (IsPdnFault (form_at line 0) 0 (drop 0 line)) answer) where
  along : {other : Result Item PdnRefusal} → answer ≡ other → IsExact pdn_wants_memory (IsItemOfText (form_at line 0) 0 (drop 0 line)) (IsPdnFault (form_at line 0) 0 (drop 0 line)) other
  along is = subst (λ (a : Result Item PdnRefusal). IsExact pdn_wants_memory (IsItemOfText (form_at line 0) 0 (drop 0 line)) (IsPdnFault (form_at line 0) 0 (drop 0 line)) a) is exact

  -- the item is this move, which is the whole line
  pub item_is_move : (item : Item) (written : MoveText) → answer ≡ Ok item → item.end ≡ length line → item.sign ≡ Some (Moved written) → IsMoveLine line written
  item_is_move item written is end sign =
      let good : IsItemOfText (form_at line 0) 0 (drop 0 line) item = (along is).good in
      let same : item ≡ saying (length line) (Moved written) = λ j. record { end = end j; sign = sign j } in
      subst (λ i. IsItemOfText (form_at line 0) 0 (drop 0 line) i) same good

  -- a move that is the whole line is the item
  pub move_is_item : (item : Item) (written : MoveText) → answer ≡ Ok item → IsMoveLine line written → (item.end ≡ length line) × (item.sign ≡ Some (Moved written))
  move_is_item item written is move =
      let only = (along is).only_good (saying (length line) (Moved written)) move in
      let same : item ≡ saying (length line) (Moved written) = cc in
      (ap (λ (i : Item). i.end) same, ap (λ (i : Item). i.sign) same)

  -- where a fault stands there is none
  pub fault_is_no_move : (fault : PdnRefusal) → answer ≡ Err fault → pdn_wants_memory fault ≡ false → (written : MoveText) → IsMoveLine line written → ⊥
  fault_is_no_move fault is named written move =
      let only = (along is).only_good (saying (length line) (Moved written)) move in
      let same = subst (λ (b : Bool). OnFalse b (Err fault ≡ Ok (saying (length line) (Moved written)))) named only in
      cc

-- ---- what was found

pub found_none : (found : Option MoveText) (No : Type 0) (P : MoveText → Type 0) → ((written : MoveText) → found ≡ Some written → ⊥) → MatchOption found No P → No
found_none None No P none matched = matched
found_none (Some written) No P none matched = absurd (none written refl)

pub found_some : (found : Option MoveText) (written : MoveText) (No : Type 0) (P : MoveText → Type 0) → found ≡ Some written → MatchOption found No P → P written
found_some found written No P is matched = subst (λ (o : Option MoveText). MatchOption o No P) is matched
