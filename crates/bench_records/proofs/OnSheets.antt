-- Formats on a sheet, one behind the other.
use Rattle.std.proofs.Common.{◌≡◌, [], ◌++◌, refl, sym, ◌∙◌, ap, subst, append_assoc, append-nil}
use Rattle.bench_records.specs.Formats.{Field, FieldValue, IsAllowed, Format, done, field, one, ◌>>=◌}
use Rattle.bench_records.specs.Names.{Sheet}
use Rattle.bench_records.proofs.Sheets.{field_sheet, SpellsSheet}

pub sheet_then : {A B : Type 0} (f : Format A) (g : A → Format B) (x y : Sheet) (a : A) (b : B) → SpellsSheet f x a → SpellsSheet (g a) y b → SpellsSheet (f >>= g) (x ++ y) b
sheet_then (done c) g x y a b (e, same) behind = subst (λ v. SpellsSheet (g v) (x ++ y) b) (sym same) (subst (λ t. SpellsSheet (g a) (t ++ y) b) (sym e) behind)
sheet_then (field f next) g x y a b (v, (rest, ((allowed, is), spells))) behind =
    (v, (rest ++ y, ((allowed, ap (λ t. t ++ y) is ∙ append_assoc (field_sheet f v) rest y), sheet_then (next v) g rest y a b spells behind)))

-- what the first spells of a sheet that both spell, and what the second spells of the rest
pub record SheetCut {A B : Type 0} (f : Format A) (g : A → Format B) (sheet : Sheet) (b : B) : Type 0 where
  pub value : A
  pub front : Sheet
  pub rest : Sheet
  pub first : SpellsSheet f front value
  pub second : SpellsSheet (g value) rest b
  pub is : sheet ≡ front ++ rest

pub sheet_cut : {A B : Type 0} (f : Format A) (g : A → Format B) (sheet : Sheet) (b : B) → SpellsSheet (f >>= g) sheet b → SheetCut f g sheet b
sheet_cut (done c) g sheet b spells = record { value = c; front = []; rest = sheet; first = (refl, refl); second = spells; is = refl }
sheet_cut (field f next) g sheet b (v, (rest, ((allowed, is), spells))) =
    let cut = sheet_cut (next v) g rest b spells in
    record {
      value = cut.value;
      front = field_sheet f v ++ cut.front;
      rest = cut.rest;
      first = (v, (cut.front, ((allowed, refl), cut.first)));
      second = cut.second;
      is = is ∙ ap (λ t. field_sheet f v ++ t) cut.is ∙ sym (append_assoc (field_sheet f v) cut.front cut.rest);
    }

pub one_sheet : (f : Field) (sheet : Sheet) (v : FieldValue f) → SpellsSheet (one f) sheet v → IsAllowed f v × (sheet ≡ field_sheet f v)
one_sheet f sheet v (u, (rest, ((allowed, is), (none, same)))) =
    (subst (IsAllowed f) same allowed, is ∙ ap (λ t. field_sheet f u ++ t) none ∙ append-nil (field_sheet f u) ∙ ap (field_sheet f) same)

pub one_on_sheet : (f : Field) (v : FieldValue f) → IsAllowed f v → SpellsSheet (one f) (field_sheet f v) v
one_on_sheet f v allowed = (v, ([], ((allowed, sym (append-nil (field_sheet f v))), (refl, refl))))
