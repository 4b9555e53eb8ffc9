-- How far a source has been read, and what was found there.
use Rattle.std.proofs.Common.{◌≡◌, ◌∙◌, ◌<◌, ◌≤◌, ℕ, ◌+◌, ◌-◌, true, false, cond, ◌&&◌, ◌||◌, arith, List, [], ◌∷◌, ◌++◌, length, drop, refl, sym, subst, ap, append-nil, append_assoc, length-append, get_or, take, Option, Some, None, Result, Ok, Err}
use Rattle.std.specs.Prelude.{All, IfNone, IfOk, IfSome, codes, option_to_list}
use Rattle.terminal_text.specs.Places.{place_text}
use Rattle.terminal_text.specs.Shown.{shown}
use Rattle.std.proofs.lemmas.List.Elements.{All-append, All-nil, All-take}
use Rattle.pdn_text.specs.Grammar.{IsItemOfText, IsStop, form_at}
use Rattle.pdn_text.specs.Bytes.{is_skipped}
use Rattle.pdn_text.specs.Pdn.{AreItemsOfText, beginning, behind_skipped}
use Rattle.pdn_text.specs.Signs.{skipped}
use Rattle.pdn_text.specs.declared.items.Item.{Item}
use Rattle.pdn_text.proofs.OneReading.{one_stop}
use Rattle.pdn_text.proofs.Reached.{push_item}
use Rattle.pdn_text.proofs.SkippedRuns.{along_run, blank_item, one_inside, quiet}
use Rattle.source_warnings.specs.Games.{after, first_game}
use Rattle.source_warnings.specs.Items.{kind_of, number_of, runs_on, skipped_kind}
use Rattle.source_warnings.specs.Told.{IsToldOf}
use Rattle.source_warnings.specs.Warnings.{AreFound, AreWarnings, IsInside, IsKept, on_end, on_ending, on_item, on_items}
use Rattle.source_warnings.specs.declared.found.TheConstants.{MOST_TOLD}
use Rattle.source_warnings.specs.declared.causes.Warning.{Warning}
use Rattle.source_warnings.specs.declared.found.Found.{Found}
use Rattle.source_warnings.specs.declared.games.Game.{Game}
use Rattle.source_warnings.specs.declared.items.Kind.{Kind}
use Rattle.source_warnings.specs.declared.items.Kind.TheVariants as kind
use Rattle.source_warnings.proofs.Inside.{after_begins, after_number, after_plies, end_inside, ending_inside, item_inside}

-- The source is items up to a place, this game stands there, and this was found.
pub record IsRead (source : List ℕ) (asked at : ℕ) (game : Game) (found : Found) : Type 0 where
  pub items : List Item
  pub all : List Warning
  pub are_items : AreItemsOfText source (beginning source) items at
  pub goes_on : (more : List Item) → on_items asked source first_game (beginning source) (items ++ more) ≡ all ++ on_items asked source game at more
  pub kept : IsKept found all
  pub few : length all ≤ at + at
  pub all_inside : All (IsInside source) all
  pub inside : at ≤ length source
  pub number : game.number ≤ at + 1
  pub plies : game.plies ≤ at
  pub begins : game.begins ≤ at

-- what a warning, if it is one, makes of what is kept
abbrev pub Keeps : Found → Option Warning → Found → Type 0
Keeps old found new = (all : List Warning) → IsKept old all → IsKept new (all ++ option_to_list found)

pub read_nothing : (source : List ℕ) (asked at : ℕ) (found : Found) → at ≡ beginning source → at ≤ length source → IsKept found []
    → IsRead source asked at first_game found
read_nothing source asked at found e inside kept = record {
  items = [];
  all = [];
  are_items = sym e;
  goes_on = λ more. ap (λ place. on_items asked source first_game place more) (sym e);
  kept = kept;
  few = omega arith;
  all_inside = All-nil (IsInside source);
  inside = inside;
  number = omega arith;
  plies = omega arith;
  begins = omega arith;
}

few_more : (all : List Warning) (found : Option Warning) → length (all ++ option_to_list found) ≤ length all + 1
few_more all None = omega (arith, length-append all [])
few_more all (Some w) = omega (arith, length-append all (w ∷ []))

regroup : (a b c d : List Warning) → a ++ (b ++ (c ++ d)) ≡ ((a ++ b) ++ c) ++ d
regroup a b c d = sym (append_assoc (a ++ b) c d ∙ append_assoc a b (c ++ d))

pub read_item : (source : List ℕ) (asked at : ℕ) (game : Game) (old between new : Found) (item : Item) → IsRead source asked at game old
    → IsItemOfText (form_at source at) at (drop at source) item → at < item.end → item.end ≤ length source
    → Keeps old (on_ending asked game at (kind_of source at item)) between
    → Keeps between (on_item game source at (kind_of source at item)) new
    → IsRead source asked item.end (after game at (kind_of source at item)) new
read_item source asked at game old between new item r is onward inside ending itself =
    let k : Kind = kind_of source at item in
    let ended = option_to_list (on_ending asked game at k) in
    let said = option_to_list (on_item game source at k) in
    let few = r.few in
    let at_end : at ≤ length source = r.inside in
    let number = r.number in
    let plies = r.plies in
    let begins = r.begins in
    record {
      items = r.items ++ item ∷ [];
      all = (r.all ++ ended) ++ said;
      are_items = push_item source (beginning source) at r.items item r.are_items is;
      goes_on = λ more. ap (on_items asked source first_game (beginning source)) (append_assoc r.items (item ∷ []) more)
          ∙ r.goes_on (item ∷ more)
          ∙ regroup r.all ended said (on_items asked source (after game at k) item.end more);
      kept = itself (r.all ++ ended) (ending r.all r.kept);
      few = omega (arith, few_more r.all (on_ending asked game at k), few_more (r.all ++ ended) (on_item game source at k));
      all_inside = All-append (IsInside source) (r.all ++ ended) said
          (All-append (IsInside source) r.all ended r.all_inside (ending_inside source asked game at k (omega arith) (omega arith)))
          (item_inside source game at k (omega arith) (omega arith));
      inside = inside;
      number = omega (arith, after_number game at k);
      plies = omega (arith, after_plies game at k);
      begins = omega (arith, after_begins game at k at begins (omega arith));
    }

-- where the source ends, or no item stands
pub read_all : (source : List ℕ) (asked at : ℕ) (game : Game) (old new : Found) → IsRead source asked at game old → IsStop source at
    → Keeps old (on_end asked game source at) new → AreFound source asked new
read_all source asked at game old new r stop last = (
  r.all ++ option_to_list (on_end asked game source at),
  record {
    items = r.items;
    place = at;
    are_items = r.are_items;
    stop = stop;
    are_all = sym (ap (on_items asked source first_game (beginning source)) (sym (append-nil r.items)) ∙ r.goes_on []);
  },
  last r.all r.kept,
)

pub told_inside : (source : List ℕ) (asked at : ℕ) (game : Game) (old new : Found) → IsRead source asked at game old
    → Keeps old (on_end asked game source at) new → All (IsInside source) new.told.items
told_inside source asked at game old new r last =
    let begins = r.begins in
    let inside = r.inside in
    let all = r.all ++ option_to_list (on_end asked game source at) in
    let are_inside : All (IsInside source) all = All-append (IsInside source) r.all (option_to_list (on_end asked game source at)) r.all_inside (end_inside source asked at game (omega arith)) in
    rw ((last r.all r.kept).0) (All-take (IsInside source) MOST_TOLD all are_inside)

-- ---- as the code goes

pub read_on : (source : List ℕ) (asked at : ℕ) (game next : Game) (old between new : Found) (item : Item) (k : Kind) (ending itself : Option Warning)
    → IsRead source asked at game old → IsItemOfText (form_at source at) at (drop at source) item → at < item.end → item.end ≤ length source
    → k ≡ kind_of source at item → ending ≡ on_ending asked game at k → itself ≡ on_item game source at k → next ≡ after game at k
    → Keeps old ending between → Keeps between itself new → IsRead source asked item.end next new
read_on source asked at game next old between new item k ending itself r is onward inside ek e1 e2 en k1 k2 =
    subst (λ (g : Game). IsRead source asked item.end g new) (sym (en ∙ ap (after game at) ek))
    (read_item source asked at game old between new item r is onward inside
    (subst (λ (w : Option Warning). Keeps old w between) (e1 ∙ ap (on_ending asked game at) ek) k1)
    (subst (λ (w : Option Warning). Keeps between w new) (e2 ∙ ap (on_item game source at) ek) k2))

pub some_holds : (P : Item → Type 0) (found : Option Item) (item : Item) → found ≡ Some item → IfSome found P → P item
some_holds P found item e h = subst (λ (o : Option Item). IfSome o P) e h

pub none_holds : (P : Type 0) (found : Option Item) → ((item : Item) → found ≡ Some item → ⊥) → IfNone found P → P
none_holds P None lacks h = h
none_holds P (Some item) lacks h = absurd (lacks item refl)

-- ---- bytes that are items by themselves and say nothing

quiet_kind : (source : List ℕ) (at b : ℕ) (rest : List ℕ) → drop at source ≡ b ∷ rest → is_skipped b ≡ true → kind_of source at (skipped (at + 1)) ≡ kind.Skipped
quiet_kind source at b rest here e =
    let one : at + 1 - at ≡ 1 = omega arith in
    let q = quiet b e in
    ap (λ bytes. skipped_kind (take (at + 1 - at) bytes)) here
    ∙ ap (λ n. skipped_kind (take n (b ∷ rest))) one
    ∙ (λ i. cond ((q.1 i || q.0 i) && runs_on false (b ∷ [])) kind.RunsOn (cond (q.2 i) (kind.Number (number_of 0 (b ∷ []))) kind.Skipped))

quiet_step : (source : List ℕ) (asked at : ℕ) (game : Game) (found : Found) (b : ℕ) (rest : List ℕ) → drop at source ≡ b ∷ rest → is_skipped b ≡ true
    → IsRead source asked at game found → IsRead source asked (at + 1) game found
quiet_step source asked at game found b rest here e r =
    let k : kind_of source at (skipped (at + 1)) ≡ kind.Skipped = quiet_kind source at b rest here e in
    read_on source asked at game game found found found (skipped (at + 1)) kind.Skipped None None r
    (blank_item source at b rest here e) (omega arith) (one_inside source at b rest here) (sym k) refl refl refl
    (λ all kept. subst (IsKept found) (sym (append-nil all)) kept) (λ all kept. subst (IsKept found) (sym (append-nil all)) kept)

pub read_run : (source : List ℕ) (asked at to : ℕ) (game : Game) (found : Found) → to ≡ behind_skipped source at → IsRead source asked at game found
    → IsRead source asked to game found
read_run source asked at to game found e r =
    subst (λ place. IsRead source asked place game found) (sym e)
    (along_run source (λ place. IsRead source asked place game found) (λ k b rest here s h. quiet_step source asked k game found b rest here s h) at (drop at source) refl r)

-- ---- there is one list of warnings

one_list : (source : List ℕ) (asked : ℕ) (a b : List Warning) → AreWarnings source asked a → AreWarnings source asked b → a ≡ b
one_list source asked a b h k =
    let s = one_stop source (beginning source) h.place k.place h.items k.items h.are_items k.are_items h.stop k.stop in
    h.are_all ∙ (ap (on_items asked source first_game (beginning source)) s.0 ∙ sym k.are_all)

pub kept_only : (source : List ℕ) (asked : ℕ) (found : Found) → AreFound source asked found → (all : List Warning) → AreWarnings source asked all → IsKept found all
kept_only source asked found h all are = subst (IsKept found) (one_list source asked h.0 all h.1 are) h.2

-- ---- what is told begins as what is told of all

told_of_all : (source : List ℕ) (all told : List Warning) (text : List ℕ) → told ≡ take MOST_TOLD all → IsToldOf source told text → IsToldOf source all text
told_of_all source [] told text e h = subst (λ (ws : List Warning). IsToldOf source ws text) e h
told_of_all source (w ∷ more) told text e h = subst (λ (ws : List Warning). IsToldOf source ws text) e h

pub told_result : {V E : Type 0} (items : V → List ℕ) (source : List ℕ) (asked : ℕ) (found : Found) (r : Result V E) → AreFound source asked found
    → IfOk r (λ text. IsToldOf source found.told.items (items text))
    → IfOk r (λ text. (all : List Warning) × AreWarnings source asked all × IsToldOf source all (items text))
told_result items source asked found (Ok text) h told = (h.0, h.1, told_of_all source h.0 found.told.items (items text) h.2.0 told)
told_result items source asked found (Err e) h told = tt

-- a text that begins with the place of the first of these
pub first_told : {V E : Type 0} (items : V → List ℕ) (source : List ℕ) (told : List Warning) (d : Warning) (raw rest : List ℕ) (r : Result V E) → 1 ≤ length told
    → raw ≡ codes "warning: " ++ (place_text source (get_or told 0 d).at ++ rest) → IfOk r (λ text. items text ≡ shown raw)
    → IfOk r (λ text. IsToldOf source told (items text))
first_told items source [] d raw rest r many e same = absurd (omega arith)
first_told items source (w ∷ more) d raw rest (Ok text) many e same = (rest, same ∙ ap shown e)
first_told items source (w ∷ more) d raw rest (Err error) many e same = tt
