-- A text is read in one way, or refused in one way, and never both.
use Rattle.std.proofs.Common.{◌≡◌, ◌∙◌, ◌⊎◌, inl, inr, ℕ, suc, ◌≤◌, Bool, true, false, List, [], ◌∷◌, ◌++◌, length, drop, Result, Ok, Err, refl, sym, ap, subst, arith, append-nil}
use Rattle.std.specs.Prelude.{IfErr, IfOk, option_to_list}
use Rattle.std.specs.Bool.{OnFalse}
use Rattle.std.proofs.lemmas.List.{drop_all}
use Rattle.std.proofs.lemmas.List.Concat.{flat_map-append}
use Rattle.pdn_text.specs.Forms.{form_of}
use Rattle.pdn_text.specs.Gathering.{no_game, all_taken, games_of}
use Rattle.pdn_text.specs.Grammar.{IsItemOfText, IsPdnFault, IsStop, form_at, begins_line}
use Rattle.pdn_text.specs.Pdn.{beginning, AreItemsOfText, signs, ReadsTo, Reads, StandsFirst, BeginsOneMore, Refused}
use Rattle.pdn_text.specs.Scans.{item_of}
use Rattle.pdn_text.specs.Signs.{pdn_wants_memory}
use Rattle.shared_words.specs.Answers.{IsExact, Unless}
use Rattle.shared_words.proofs.Exactness.{exact_from_one, on_false}
use Rattle.pdn_text.specs.declared.form.Form.TheVariants as form
use Rattle.pdn_text.specs.declared.TheConstants.{MOST_GAMES}
use Rattle.pdn_text.specs.declared.game.Game.{Game}
use Rattle.pdn_text.specs.declared.items.Item.{Item}
use Rattle.pdn_text.specs.declared.refusal.PdnRefusal.{PdnRefusal}
use Rattle.pdn_text.specs.declared.refusal.PdnRefusal.TheVariants as refusal
use Rattle.pdn_text.proofs.GameFold.{made_is, games_more, all_taken-append}
use Rattle.pdn_text.proofs.ItemAnswers.{item_again, fault_again, item_sound, fault_sound}
use Rattle.pdn_text.proofs.Reached.{push_item}

-- one item at a place
item_same : (text : List ℕ) (at : ℕ) (x y : Item) → IsItemOfText (form_at text at) at (drop at text) x → IsItemOfText (form_at text at) at (drop at text) y → x ≡ y
item_same text at x y hx hy =
    let both = sym (item_again (begins_line text at) at (drop at text) x hx) ∙ item_again (begins_line text at) at (drop at text) y hy in
    cc

-- xs up to p begin ys up to q
abbrev Begins : List ℕ → List Item → ℕ → List Item → ℕ → Type 0
Begins text xs p ys q = (more : List Item) × (xs ++ more ≡ ys) × AreItemsOfText text p more q

begins_push : (text : List ℕ) (x y : Item) (xs ys : List Item) (p q : ℕ) → x ≡ y → Begins text xs p ys q → Begins text (x ∷ xs) p (y ∷ ys) q
begins_push text x y xs ys p q e b = (b.0, ap (λ z. x ∷ z) b.1 ∙ ap (λ z. z ∷ ys) e, b.2)

-- of two readings one begins the other
one_begins : (text : List ℕ) (at p q : ℕ) (xs ys : List Item) → AreItemsOfText text at xs p → AreItemsOfText text at ys q → Begins text xs p ys q ⊎ Begins text ys q xs p
one_begins text at p q [] ys a b = inl (ys, refl, subst (λ z. AreItemsOfText text z ys q) a b)
one_begins text at p q (x ∷ xs) [] a b = inr (x ∷ xs, refl, subst (λ z. AreItemsOfText text z (x ∷ xs) p) b a)
one_begins text at p q (x ∷ xs) (y ∷ ys) a b =
    let same = item_same text at x y a.0 b.0 in
    elim (one_begins text x.end p q xs ys a.1 (subst (λ z. AreItemsOfText text z ys q) (ap (λ (i : Item). i.end) (sym same)) b.1)) [
      | inl h ↦ inl (begins_push text x y xs ys p q same h)
      | inr h ↦ inr (begins_push text y x ys xs q p (sym same) h)
    ]

-- no item stands behind the end, and none at a fault
end_form : (start : Bool) → form_of start [] ≡ form.Nothing
unfolding form_of
end_form true = refl
end_form false = refl

pub stop_at_end : (text : List ℕ) → IsStop text (length text)
stop_at_end text item is =
    let none : drop (length text) text ≡ [] = drop_all (length text) text (omega arith) in
    let wrong = rw none at is in
    rw (end_form (begins_line text (length text))) at wrong

pub stop_at_fault : (text : List ℕ) (at : ℕ) (e : PdnRefusal) → IsPdnFault (form_at text at) at (drop at text) e → IsStop text at
stop_at_fault text at e h item is =
    let both = sym (item_again (begins_line text at) at (drop at text) item is) ∙ fault_again (begins_line text at) at (drop at text) e h in
    cc

stops_at : (text : List ℕ) (xs ys more : List Item) (p q : ℕ) → IsStop text p → xs ++ more ≡ ys → AreItemsOfText text p more q → (xs ≡ ys) × (p ≡ q)
stops_at text xs ys [] p q stop e a = (sym (append-nil xs) ∙ e, a)
stops_at text xs ys (x ∷ more) p q stop e a = absurd (stop x a.0)

stops : (text : List ℕ) (xs ys : List Item) (p q : ℕ) → IsStop text p → Begins text xs p ys q → (xs ≡ ys) × (p ≡ q)
stops text xs ys p q stop b = stops_at text xs ys b.0 p q stop b.1 b.2

-- two stops are one
pub one_stop : (text : List ℕ) (at p q : ℕ) (xs ys : List Item) → AreItemsOfText text at xs p → AreItemsOfText text at ys q → IsStop text p → IsStop text q → (xs ≡ ys) × (p ≡ q)
one_stop text at p q xs ys a b sp sq = elim (one_begins text at p q xs ys a b) [
  | inl h ↦ stops text xs ys p q sp h
  | inr h ↦ (let s = stops text ys xs q p sq h in (sym s.0, sym s.1))
]

-- how many games items make
abbrev count : List Item → ℕ
count items = length (games_of (all_taken no_game (signs items)))

count_more : (xs more ys : List Item) → xs ++ more ≡ ys → count xs ≤ count ys
count_more xs more ys e =
    let all : all_taken no_game (signs ys) ≡ all_taken (all_taken no_game (signs xs)) (signs more) =
    ap (λ z. all_taken no_game (signs z)) (sym e) ∙ ap (all_taken no_game) (flat_map-append (λ i. option_to_list i.sign) xs more) ∙ all_taken-append no_game (signs xs) (signs more) in
    rw all (games_more (all_taken no_game (signs xs)) (signs more))

reads_count : (text : List ℕ) (place : ℕ) (items : List Item) (games : List Game) → ReadsTo text place items games → count items ≤ MOST_GAMES
reads_count text place items games r = rw (← made_is (signs items) games r.make) r.few

-- where reading stops with games enough, no game too many has begun
not_too_many : (text : List ℕ) (place : ℕ) (items : List Item) (games : List Game) → ReadsTo text place items games → IsStop text place → BeginsOneMore text → ⊥
not_too_many text place items games r stop m =
    let longer = m.items ++ m.item ∷ [] in
    let b = push_item text (beginning text) m.place m.items m.item m.before.are_items m.next in
    let few = reads_count text place items games r in
    let many : count longer ≡ suc MOST_GAMES = ap length (sym (made_is (signs longer) m.more m.make_more)) ∙ m.too_many in
    elim (one_begins text (beginning text) place m.item.end items longer r.are_items b) [
      | inl h ↦ (let s = stops text items longer place m.item.end stop h in let same = ap count s.0 in omega arith)
      | inr h ↦ (let less = count_more longer h.0 items h.1 in omega arith)
    ]

-- one list of games
pub one_reading : (text : List ℕ) (games others : List Game) → Reads text games → Reads text others → games ≡ others
one_reading text games others g h =
    let s = one_stop text (beginning text) (length text) (length text) g.0 h.0 g.1.are_items h.1.are_items (stop_at_end text) (stop_at_end text) in
    made_is (signs g.0) games g.1.make ∙ ap (λ z. games_of (all_taken no_game (signs z))) s.0 ∙ sym (made_is (signs h.0) others h.1.make)

refused_cases : (text : List ℕ) (e : PdnRefusal) → Refused text e → StandsFirst text e ⊎ ((e ≡ refusal.TooManyGames) × BeginsOneMore text)
refused_cases text (refusal.BadByte n) h = inl h
refused_cases text (refusal.OpenTag n) h = inl h
refused_cases text (refusal.OpenComment n) h = inl h
refused_cases text (refusal.OpenVariation n) h = inl h
refused_cases text (refusal.BadMove n) h = inl h
refused_cases text refusal.TooManyGames h = inr (refl, h)
refused_cases text (refusal.Memory m) h = inl h

-- never both
pub not_both : (text : List ℕ) (games : List Game) (e : PdnRefusal) → Reads text games → Refused text e → ⊥
not_both text games e g h = elim (refused_cases text e h) [
  | inl f ↦ (let s = one_stop text (beginning text) (length text) f.place g.0 f.items g.1.are_items f.before.are_items (stop_at_end text) (stop_at_fault text f.place e f.stands) in
      let inside = f.inside in let same = s.1 in omega arith)
  | inr m ↦ not_too_many text (length text) g.0 games g.1 (stop_at_end text) m.1
]

fault_same : (text : List ℕ) (e f : PdnRefusal) → StandsFirst text e → StandsFirst text f → e ≡ f
fault_same text e f h k =
    let s = one_stop text (beginning text) h.place k.place h.items k.items h.before.are_items k.before.are_items (stop_at_fault text h.place e h.stands) (stop_at_fault text k.place f k.stands) in
    let at_h : item_of (form_at text h.place) h.place (drop h.place text) ≡ Err e = fault_again (begins_line text h.place) h.place (drop h.place text) e h.stands in
    let at_k : item_of (form_at text k.place) k.place (drop k.place text) ≡ Err f = fault_again (begins_line text k.place) k.place (drop k.place text) f k.stands in
    let both = sym at_h ∙ ap (λ z. item_of (form_at text z) z (drop z text)) s.1 ∙ at_k in
    cc

-- one refusal
pub one_refusal : (text : List ℕ) (e f : PdnRefusal) → Refused text e → Refused text f → e ≡ f
one_refusal text e f h k = elim (refused_cases text e h) [
  | inl a ↦ elim (refused_cases text f k) [
    | inl b ↦ fault_same text e f a b
    | inr b ↦ absurd (not_too_many text a.place a.items a.games a.before (stop_at_fault text a.place e a.stands) b.1)
  ]
  | inr a ↦ elim (refused_cases text f k) [
    | inl b ↦ absurd (not_too_many text b.place b.items b.games b.before (stop_at_fault text b.place f b.stands) a.1)
    | inr b ↦ a.0 ∙ sym b.0
  ]
]

-- ---- the answer at one place

-- one fault at a place
fault_same_at : (text : List ℕ) (at : ℕ) (e f : PdnRefusal) → IsPdnFault (form_at text at) at (drop at text) e → IsPdnFault (form_at text at) at (drop at text) f → e ≡ f
fault_same_at text at e f h k =
    let both = sym (fault_again (begins_line text at) at (drop at text) e h) ∙ fault_again (begins_line text at) at (drop at text) f k in
    cc

exact_here : (text : List ℕ) (at : ℕ) (answer : Result Item PdnRefusal) → IfOk answer (IsItemOfText (form_at text at) at (drop at text))
    → IfErr answer (λ e. OnFalse (pdn_wants_memory e) (IsPdnFault (form_at text at) at (drop at text) e))
    → IsExact pdn_wants_memory (IsItemOfText (form_at text at) at (drop at text)) (IsPdnFault (form_at text at) at (drop at text)) answer
exact_here text at answer good fault =
    exact_from_one pdn_wants_memory (IsItemOfText (form_at text at) at (drop at text)) (IsPdnFault (form_at text at) at (drop at text)) answer good fault
    (item_same text at) (λ item e is stands. stop_at_fault text at e stands item is) (fault_same_at text at)

-- what the bytes there answer is exact
pub exact_item : (text : List ℕ) (at : ℕ) (answer : Result Item PdnRefusal) → Unless pdn_wants_memory answer (answer ≡ item_of (form_at text at) at (drop at text))
    → IsExact pdn_wants_memory (IsItemOfText (form_at text at) at (drop at text)) (IsPdnFault (form_at text at) at (drop at text)) answer
exact_item text at (Ok item) e = exact_here text at (Ok item) (item_sound (begins_line text at) at (drop at text) item (sym e)) tt
exact_item text at (Err fault) e =
    exact_here text at (Err fault) tt
    (on_false (pdn_wants_memory fault) _ (IsPdnFault (form_at text at) at (drop at text) fault) (λ h. fault_sound (begins_line text at) at (drop at text) fault (sym h)) e)
