-- The answers at one place are the items and the faults of the grammar.
use Rattle.std.proofs.Common.{◌≡◌, ◌∙◌, inl, inr, ℕ, ◌+◌, Bool, List, length, slice_index, Option, Some, None, Result, Ok, Err, refl, sym, ap, eqb}
use Rattle.std.specs.List.{position}
use Rattle.pdn_text.specs.Forms.{form_of}
use Rattle.pdn_text.specs.Grammar.{IsItemOfText, IsPdnFault, IsWordItem, IsComment, IsVariation, IsTag, word_len, word_at}
use Rattle.pdn_text.specs.Scans.{item_of, comment_item, variation_item, tag_item, word_item, variation_end, tag_at}
use Rattle.pdn_text.specs.Tags.{BeginsWithTag}
use Rattle.pdn_text.specs.Words.{word_of}
use Rattle.pdn_text.specs.declared.form.Form.{Form}
use Rattle.pdn_text.specs.declared.form.Form.TheVariants as form
use Rattle.pdn_text.specs.declared.game.Tag.{Tag}
use Rattle.pdn_text.specs.declared.items.Item.{Item}
use Rattle.pdn_text.specs.declared.refusal.PdnRefusal.{PdnRefusal}
use Rattle.pdn_text.specs.declared.refusal.PdnRefusal.TheVariants as refusal
use Rattle.pdn_text.specs.declared.variations.Unclosed.{Unclosed}
use Rattle.pdn_text.specs.declared.variations.Unclosed.TheVariants as unclosed
use Rattle.pdn_text.specs.declared.words.Word.{Word}
use Rattle.pdn_text.specs.declared.words.Word.TheVariants as word
use Rattle.pdn_text.proofs.FormChoice.{begins_variation, begins_tag}
use Rattle.pdn_text.proofs.VariationScan.{Told, variation_told, variation_found, never_closed_told, open_comment_told}
use Rattle.pdn_text.proofs.TagScan.{tag_found, tag_only}

-- comments
comment_sound : (at : ℕ) (rest : List ℕ) (item : Item) (o : Option ℕ) → position (λ b. eqb b 125) rest ≡ o → comment_item at o ≡ Ok item → IsComment at rest item
comment_sound at rest item None e h = cc
comment_sound at rest item (Some k) e h = record { closing = k; next = e; skips = cc }

comment_fault : (at : ℕ) (rest : List ℕ) (fault : PdnRefusal) (o : Option ℕ) → position (λ b. eqb b 125) rest ≡ o → comment_item at o ≡ Err fault → (position (λ b. eqb b 125) rest ≡ None) × (fault ≡ refusal.OpenComment at)
comment_fault at rest fault None e h = (e, cc)
comment_fault at rest fault (Some k) e h = cc

-- variations
variation_sound : (at : ℕ) (rest : List ℕ) (item : Item) (r : Result ℕ Unclosed) → Told rest r → variation_item at r ≡ Ok item → IsVariation at rest item
variation_sound at rest item (Ok n) t h = record { inside = t.inside; behind = t.behind; sound = t.sound; whole = t.whole; skips = (let len = t.len in cc) }
variation_sound at rest item (Err (unclosed.Comment k)) t h = cc
variation_sound at rest item (Err unclosed.Variation) t h = cc

variation_fault : (at : ℕ) (rest : List ℕ) (fault : PdnRefusal) (r : Result ℕ Unclosed) → Told rest r → variation_item at r ≡ Err fault → IsPdnFault form.Variation at rest fault
variation_fault at rest fault (Ok n) t h = cc
variation_fault at rest fault (Err (unclosed.Comment k)) t h = inr (k, t, cc)
variation_fault at rest fault (Err unclosed.Variation) t h = inl (t, cc)

-- tags
tag_sound : (at : ℕ) (rest : List ℕ) (item : Item) (o : Option (Tag × List ℕ)) → slice_index rest 0 ≡ 91 → tag_at rest ≡ o → tag_item at (length rest) o ≡ Ok item → IsTag at rest item
tag_sound at rest item None begins e h = cc
tag_sound at rest item (Some x) begins e h = record { tag = x.0; behind = x.1; begins = tag_found rest x.0 x.1 begins e; says = cc }

tag_fault : (at : ℕ) (rest : List ℕ) (fault : PdnRefusal) (o : Option (Tag × List ℕ)) → tag_at rest ≡ o → tag_item at (length rest) o ≡ Err fault → IsPdnFault form.Tag at rest fault
tag_fault at rest fault None e h = ((λ tag behind is. (let found = tag_only rest tag behind is in cc)), cc)
tag_fault at rest fault (Some x) e h = cc

-- words
word_sound : (at end : ℕ) (item : Item) (w : Word) → word_item at end w ≡ Ok item → IsWordItem w at end item
word_sound at end item word.Result h = cc
word_sound at end item word.Number h = cc
word_sound at end item (word.Move squares) h = cc
word_sound at end item word.Bad h = cc

word_fault : (at end : ℕ) (fault : PdnRefusal) (w : Word) → word_item at end w ≡ Err fault → (w ≡ word.Bad) × (fault ≡ refusal.BadMove at)
word_fault at end fault word.Result h = cc
word_fault at end fault word.Number h = cc
word_fault at end fault (word.Move squares) h = cc
word_fault at end fault word.Bad h = (refl, cc)

sound_at : (start : Bool) (at : ℕ) (rest : List ℕ) (item : Item) (f : Form) → form_of start rest ≡ f → item_of f at rest ≡ Ok item → IsItemOfText f at rest item
sound_at start at rest item form.Line e h = cc
sound_at start at rest item form.Blank e h = cc
sound_at start at rest item form.Comment e h = comment_sound at rest item (position (λ b. eqb b 125) rest) refl h
sound_at start at rest item form.Variation e h = variation_sound at rest item (variation_end 0 None 0 rest) (variation_told rest (begins_variation start rest e)) h
sound_at start at rest item form.Annotation e h = cc
sound_at start at rest item form.Tag e h = tag_sound at rest item (tag_at rest) (begins_tag start rest e) refl h
sound_at start at rest item form.Star e h = cc
sound_at start at rest item form.Word e h = word_sound at (at + word_len rest) item (word_of (word_at rest)) h
sound_at start at rest item form.Nothing e h = cc

fault_at : (start : Bool) (at : ℕ) (rest : List ℕ) (fault : PdnRefusal) (f : Form) → form_of start rest ≡ f → item_of f at rest ≡ Err fault → IsPdnFault f at rest fault
fault_at start at rest fault form.Line e h = cc
fault_at start at rest fault form.Blank e h = cc
fault_at start at rest fault form.Comment e h = comment_fault at rest fault (position (λ b. eqb b 125) rest) refl h
fault_at start at rest fault form.Variation e h = variation_fault at rest fault (variation_end 0 None 0 rest) (variation_told rest (begins_variation start rest e)) h
fault_at start at rest fault form.Annotation e h = cc
fault_at start at rest fault form.Tag e h = tag_fault at rest fault (tag_at rest) refl h
fault_at start at rest fault form.Star e h = cc
fault_at start at rest fault form.Word e h = word_fault at (at + word_len rest) fault (word_of (word_at rest)) h
fault_at start at rest fault form.Nothing e h = cc

-- an answer is an item, or a fault
pub item_sound : (start : Bool) (at : ℕ) (rest : List ℕ) (item : Item) → item_of (form_of start rest) at rest ≡ Ok item → IsItemOfText (form_of start rest) at rest item
item_sound start at rest item h = sound_at start at rest item (form_of start rest) refl h

pub fault_sound : (start : Bool) (at : ℕ) (rest : List ℕ) (fault : PdnRefusal) → item_of (form_of start rest) at rest ≡ Err fault → IsPdnFault (form_of start rest) at rest fault
fault_sound start at rest fault h = fault_at start at rest fault (form_of start rest) refl h

-- no single item is one game too many
pub never_too_many : (f : Form) (at : ℕ) (rest : List ℕ) → IsPdnFault f at rest refusal.TooManyGames → ⊥
never_too_many form.Line at rest h = h
never_too_many form.Blank at rest h = h
never_too_many form.Comment at rest h = let e = h.1 in cc
never_too_many form.Variation at rest h = elim h [ inl x ↦ (let e = x.1 in cc) | inr x ↦ (let e = x.2 in cc) ]
never_too_many form.Annotation at rest h = h
never_too_many form.Tag at rest h = let e = h.1 in cc
never_too_many form.Star at rest h = h
never_too_many form.Word at rest h = let e = h.1 in cc
never_too_many form.Nothing at rest h = cc

-- the way back: an item is answered, and so is a fault
word_again : (at end : ℕ) (item : Item) (w : Word) → IsWordItem w at end item → word_item at end w ≡ Ok item
word_again at end item word.Result h = ap Ok (sym h)
word_again at end item word.Number h = ap Ok (sym h)
word_again at end item (word.Move squares) h = ap Ok (sym h)
word_again at end item word.Bad h = absurd h

again_at : (at : ℕ) (rest : List ℕ) (item : Item) (f : Form) → IsItemOfText f at rest item → item_of f at rest ≡ Ok item
again_at at rest item form.Line h = ap Ok (sym h)
again_at at rest item form.Blank h = ap Ok (sym h)
again_at at rest item form.Comment h = ap (comment_item at) h.next ∙ ap Ok (sym h.skips)
again_at at rest item form.Variation h =
    ap (λ r. variation_item at (variation_end 0 None 0 r)) h.whole ∙ ap (variation_item at) (variation_found h.inside h.behind h.sound) ∙ ap Ok (sym h.skips)
again_at at rest item form.Annotation h = ap Ok (sym h)
again_at at rest item form.Tag h = ap (tag_item at (length rest)) (tag_only rest h.tag h.behind h.begins) ∙ ap Ok (sym h.says)
again_at at rest item form.Star h = ap Ok (sym h)
again_at at rest item form.Word h = word_again at (at + word_len rest) item (word_of (word_at rest)) h
again_at at rest item form.Nothing h = absurd h

pub item_again : (start : Bool) (at : ℕ) (rest : List ℕ) (item : Item) → IsItemOfText (form_of start rest) at rest item → item_of (form_of start rest) at rest ≡ Ok item
item_again start at rest item h = again_at at rest item (form_of start rest) h

no_tag : (rest : List ℕ) (o : Option (Tag × List ℕ)) → slice_index rest 0 ≡ 91 → tag_at rest ≡ o → ((tag : Tag) (behind : List ℕ) → ¬ BeginsWithTag rest tag behind) → o ≡ None
no_tag rest None begins e h = refl
no_tag rest (Some x) begins e h = absurd (h x.0 x.1 (tag_found rest x.0 x.1 begins e))

fault_again_at : (start : Bool) (at : ℕ) (rest : List ℕ) (fault : PdnRefusal) (f : Form) → form_of start rest ≡ f → IsPdnFault f at rest fault → item_of f at rest ≡ Err fault
fault_again_at start at rest fault form.Line e h = absurd h
fault_again_at start at rest fault form.Blank e h = absurd h
fault_again_at start at rest fault form.Comment e h = ap (comment_item at) h.0 ∙ ap Err (sym h.1)
fault_again_at start at rest fault form.Variation e (inl h) = ap (variation_item at) (never_closed_told rest h.0) ∙ ap Err (sym h.1)
fault_again_at start at rest fault form.Variation e (inr h) = ap (variation_item at) (open_comment_told rest h.0 h.1) ∙ ap Err (sym h.2)
fault_again_at start at rest fault form.Annotation e h = absurd h
fault_again_at start at rest fault form.Tag e h = ap (tag_item at (length rest)) (no_tag rest (tag_at rest) (begins_tag start rest e) refl h.0) ∙ ap Err (sym h.1)
fault_again_at start at rest fault form.Star e h = absurd h
fault_again_at start at rest fault form.Word e h = ap (word_item at (at + word_len rest)) h.0 ∙ ap Err (sym h.1)
fault_again_at start at rest fault form.Nothing e h = ap Err (sym h)

pub fault_again : (start : Bool) (at : ℕ) (rest : List ℕ) (fault : PdnRefusal) → IsPdnFault (form_of start rest) at rest fault → item_of (form_of start rest) at rest ≡ Err fault
fault_again start at rest fault h = fault_again_at start at rest fault (form_of start rest) refl h
