-- How far a text has been read.
use Rattle.std.proofs.Common.{◌≡◌, ◌∙◌, ℕ, suc, ◌+◌, ◌<◌, ◌≤◌, List, [], ◌∷◌, ◌++◌, length, drop, Some, None, refl, sym, ap, subst, arith, append-nil}
use Rattle.std.specs.Prelude.{option_to_list}
use Rattle.std.proofs.lemmas.List.Concat.{flat_map-append}
use Rattle.std.specs.Bool.{OnFalse}
use Rattle.pdn_text.specs.Gathering.{Progress, no_game, taken, all_taken, games_of, IsRefusedAs}
use Rattle.pdn_text.specs.Grammar.{IsItemOfText, IsPdnFault, form_at}
use Rattle.pdn_text.specs.Signs.{pdn_wants_memory, skipped}
use Rattle.pdn_text.specs.Pdn.{Refused, beginning, behind_skipped, AreItemsOfText, signs, ReadsTo, Reads, StandsFirst, BeginsOneMore}
use Rattle.pdn_text.specs.declared.TheConstants.{MOST_GAMES}
use Rattle.pdn_text.specs.declared.game.Game.{Game}
use Rattle.pdn_text.specs.declared.items.Item.{Item}
use Rattle.pdn_text.specs.declared.items.Sign.{Sign}
use Rattle.pdn_text.specs.declared.refusal.PdnRefusal.{PdnRefusal}
use Rattle.pdn_text.specs.declared.refusal.PdnRefusal.TheVariants as refusal
use Rattle.pdn_text.proofs.GameFold.{gathered_make, all_taken-append}
use Rattle.pdn_text.proofs.ItemAnswers.{never_too_many}
use Rattle.pdn_text.proofs.SkippedRuns.{along_run, blank_item, one_inside}

-- the text is items up to this place, and this is what they say of games
pub record Reached (text : List ℕ) (at : ℕ) (p : Progress) : Type 0 where
  pub items : List Item
  pub are_items : AreItemsOfText text (beginning text) items at
  pub so_far : p ≡ all_taken no_game (signs items)
  pub few : length (games_of p) ≤ MOST_GAMES
  pub inside : at ≤ length text

pub reached_beginning : (text : List ℕ) (p : Progress) → p ≡ no_game → beginning text ≤ length text → Reached text (beginning text) p
reached_beginning text p e inside = record {
  items = [];
  are_items = refl;
  so_far = e;
  few = rw e (omega arith);
  inside = inside;
}

pub push_item : (text : List ℕ) (from to : ℕ) (items : List Item) (item : Item) → AreItemsOfText text from items to → IsItemOfText (form_at text to) to (drop to text) item
    → AreItemsOfText text from (items ++ item ∷ []) item.end
push_item text from to [] item e is = (subst (λ x. IsItemOfText (form_at text x) x (drop x text) item) (sym e) is, refl)
push_item text from to (x ∷ items) item a is = (a.0, push_item text x.end to items item a.1 is)

pub signs_push : (items : List Item) (item : Item) → signs (items ++ item ∷ []) ≡ signs items ++ option_to_list item.sign
signs_push items item = flat_map-append (λ i. option_to_list i.sign) items (item ∷ []) ∙ ap (λ x. signs items ++ x) (append-nil (option_to_list item.sign))

-- an item that says nothing
pub reached_skip : (text : List ℕ) (at : ℕ) (p : Progress) (item : Item) → Reached text at p → IsItemOfText (form_at text at) at (drop at text) item → item.sign ≡ None
    → item.end ≤ length text → Reached text item.end p
reached_skip text at p item r is none inside = record {
  items = r.items ++ item ∷ [];
  are_items = push_item text (beginning text) at r.items item r.are_items is;
  so_far = r.so_far ∙ ap (all_taken no_game) (sym (signs_push r.items item ∙ ap (λ x. signs r.items ++ option_to_list x) none ∙ append-nil (signs r.items)));
  few = r.few;
  inside = inside;
}

-- an item that says something
pub reached_sign : (text : List ℕ) (at : ℕ) (p q : Progress) (item : Item) (sign : Sign) → Reached text at p → IsItemOfText (form_at text at) at (drop at text) item → item.sign ≡ Some sign
    → q ≡ taken p sign → length (games_of q) ≤ MOST_GAMES → item.end ≤ length text → Reached text item.end q
reached_sign text at p q item sign r is some e few inside = record {
  items = r.items ++ item ∷ [];
  are_items = push_item text (beginning text) at r.items item r.are_items is;
  so_far = e ∙ ap (λ x. taken x sign) r.so_far ∙ sym (ap (all_taken no_game) (signs_push r.items item ∙ ap (λ x. signs r.items ++ option_to_list x) some) ∙ all_taken-append no_game (signs r.items) (sign ∷ []));
  few = few;
  inside = inside;
}

-- what has been read makes the games that were gathered
pub reads_to : (text : List ℕ) (at : ℕ) (p : Progress) (r : Reached text at p) → ReadsTo text at r.items (games_of p)
reads_to text at p r = record {
  are_items = r.are_items;
  make = rw (r.so_far) (gathered_make (signs r.items));
  few = r.few;
}

pub reads_all : (text : List ℕ) (at : ℕ) (p : Progress) (games : List Game) → Reached text at p → length text ≤ at → games ≡ games_of p → Reads text games
reads_all text at p games r end e =
    let inside = r.inside in
    let last : at ≡ length text = omega arith in
    rw e (r.items, rw (← last) (reads_to text at p r))

pub fault_here : (text : List ℕ) (at : ℕ) (p : Progress) (e : PdnRefusal) → Reached text at p → at < length text → IsPdnFault (form_at text at) at (drop at text) e → StandsFirst text e
fault_here text at p e r inside fault = record {
  place = at;
  items = r.items;
  games = games_of p;
  before = reads_to text at p r;
  inside = omega arith;
  stands = fault;
}

pub one_more : (text : List ℕ) (at : ℕ) (p : Progress) (item : Item) (sign : Sign) → Reached text at p → IsItemOfText (form_at text at) at (drop at text) item → item.sign ≡ Some sign
    → length (games_of (taken p sign)) ≡ suc MOST_GAMES → BeginsOneMore text
one_more text at p item sign r is some many =
    let led : taken p sign ≡ all_taken no_game (signs (r.items ++ item ∷ [])) =
    ap (λ x. taken x sign) r.so_far ∙ sym (ap (all_taken no_game) (signs_push r.items item ∙ ap (λ x. signs r.items ++ option_to_list x) some) ∙ all_taken-append no_game (signs r.items) (sign ∷ [])) in
    record {
      place = at;
      items = r.items;
      games = games_of p;
      before = reads_to text at p r;
      item = item;
      next = is;
      more = games_of (taken p sign);
      make_more = rw led (gathered_make (signs (r.items ++ item ∷ [])));
      too_many = many;
    }

pub refused_here : (text : List ℕ) (at : ℕ) (p : Progress) (e : PdnRefusal) → Reached text at p → at < length text
    → OnFalse (pdn_wants_memory e) (IsPdnFault (form_at text at) at (drop at text) e) → OnFalse (pdn_wants_memory e) (Refused text e)
refused_here text at p (refusal.Memory m) r inside h = tt
refused_here text at p refusal.TooManyGames r inside h = absurd (never_too_many (form_at text at) at (drop at text) h)
refused_here text at p (refusal.BadByte n) r inside h = fault_here text at p (refusal.BadByte n) r inside h
refused_here text at p (refusal.OpenTag n) r inside h = fault_here text at p (refusal.OpenTag n) r inside h
refused_here text at p (refusal.OpenComment n) r inside h = fault_here text at p (refusal.OpenComment n) r inside h
refused_here text at p (refusal.OpenVariation n) r inside h = fault_here text at p (refusal.OpenVariation n) r inside h
refused_here text at p (refusal.BadMove n) r inside h = fault_here text at p (refusal.BadMove n) r inside h

pub refused_many : (text : List ℕ) (at : ℕ) (p : Progress) (item : Item) (sign : Sign) (e : PdnRefusal) → Reached text at p → IsItemOfText (form_at text at) at (drop at text) item
    → item.sign ≡ Some sign → IsRefusedAs p sign e → OnFalse (pdn_wants_memory e) (Refused text e)
refused_many text at p item sign refusal.TooManyGames r is some many = one_more text at p item sign r is some many
refused_many text at p item sign (refusal.Memory m) r is some many = tt
refused_many text at p item sign (refusal.BadByte n) r is some many = absurd many
refused_many text at p item sign (refusal.OpenTag n) r is some many = absurd many
refused_many text at p item sign (refusal.OpenComment n) r is some many = absurd many
refused_many text at p item sign (refusal.OpenVariation n) r is some many = absurd many
refused_many text at p item sign (refusal.BadMove n) r is some many = absurd many

-- bytes that are items by themselves and say nothing
pub reached_run : (text : List ℕ) (at to : ℕ) (p : Progress) → to ≡ behind_skipped text at → Reached text at p → Reached text to p
reached_run text at to p e r =
    subst (λ place. Reached text place p) (sym e)
    (along_run text (λ place. Reached text place p) (λ k b rest here s h. reached_skip text k p (skipped (k + 1)) h (blank_item text k b rest here s) refl (one_inside text k b rest here)) at (drop at text) refl r)
