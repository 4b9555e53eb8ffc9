-- Texts of games one behind the other are read as these games.
use Rattle.std.proofs.Common.{◌≡◌, ◌≢◌, ◌∙◌, ◌⊎◌, inl, inr, ℕ, zero, suc, ◌+◌, ◌<◌, ◌≤◌, true, List, [], ◌∷◌, ◌++◌, length, drop, get_or, Option, Some, None, refl, sym, ap, subst, arith, append_assoc, append-nil, length-append}
use Rattle.std.specs.Prelude.{map, option_to_list}
use Rattle.std.specs.List.{flat_map}
use Rattle.std.proofs.Math.Seq.{drop-append-add, get_or-append_seam}
use Rattle.std.proofs.lemmas.Bool.{cases_lt}
use Rattle.std.proofs.lemmas.Grind.{common_steps}
use Rattle.std.specs.Option.{option_map}
use Rattle.std.proofs.lemmas.List.{drop_all, drop-append-le, get_or-append-add, get_or_append_left, map-append}
use Rattle.std.proofs.lemmas.List.Concat.{flat_map-append}
use Rattle.pdn_text.specs.Forms.{form_of}
use Rattle.pdn_text.specs.Games.{AreGames, Played, kept_game, signs_of}
use Rattle.pdn_text.specs.Grammar.{IsItemOfText, begins_line, form_at}
use Rattle.pdn_text.specs.Pdn.{AreItemsOfText, beginning, signs}
use Rattle.pdn_text.specs.declared.game.Game.{Game}
use Rattle.pdn_text.specs.declared.game.MoveText.{MoveText}
use Rattle.pdn_text.specs.declared.game.Tag.{Tag}
use Rattle.pdn_text.specs.declared.items.Item.{Item}
use Rattle.pdn_text.specs.declared.items.Sign.{Sign}
use Rattle.pdn_text.specs.declared.items.Sign.TheVariants.{Tagged, Moved, Ended}
use Rattle.strict_games.specs.GameTexts.{AreGameTexts, GameTextsJoin, game_behind, games_behind, joined, move_behind}
use Rattle.strict_games.proofs.Longer.{item_behind, longer, none_at_end, sign_behind}

-- the text is empty or ends with byte 10
abbrev EndsLine : List ℕ → Type 0
EndsLine text = (text ≡ []) ⊎ ((front : List ℕ) × (text ≡ front ++ 10 ∷ []))

-- ---- an item of one text in the joined text

begins_line-behind : (pre front : List ℕ) (t more : List ℕ) (k : ℕ) → EndsLine pre → k < length t
    → begins_line (pre ++ (t ++ more)) (length pre + k) ≡ begins_line t k
begins_line-behind pre front t more zero (inl e) h = rw e refl
begins_line-behind pre front t more zero (inr (f, e)) h =
    let n : length pre ≡ suc (length f) = ap length e ∙ length-append f (10 ∷ []) ∙ (let a : length f + 1 ≡ suc (length f) = omega arith in a) in
    let last : get_or (pre ++ (t ++ more)) (length f) 0 ≡ 10 =
    get_or_append_left pre (t ++ more) 0 (length f) (omega (arith, n)) ∙ ap (λ p. get_or p (length f) 0) e ∙ seam f in
    grind (arith, common_steps, n, last)
  where
    seam : (f : List ℕ) → get_or (f ++ 10 ∷ []) (length f) 0 ≡ 10
    seam f = get_or-append_seam f 10 [] 0
begins_line-behind pre front t more (suc k) ends h =
    let here : get_or (pre ++ (t ++ more)) (length pre + k) 0 ≡ get_or t k 0 =
    get_or-append-add pre (t ++ more) k 0 ∙ get_or_append_left t more 0 k (omega arith) in
    grind (arith, common_steps, here)

drop-behind : (pre t more : List ℕ) (k : ℕ) → k ≤ length t → drop (length pre + k) (pre ++ (t ++ more)) ≡ drop k t ++ more
drop-behind pre t more k h = drop-append-add pre (t ++ more) k ∙ drop-append-le k t more h

-- an item stands before the end of the text
item_inside : (t : List ℕ) (k : ℕ) (item : Item) → IsItemOfText (form_at t k) k (drop k t) item → k < length t
item_inside t k item is = by_order (cases_lt k (length t))
  where
    by_order : (k < length t) ⊎ (length t ≤ k) → k < length t
    by_order (inl h) = h
    by_order (inr h) =
        let none : drop k t ≡ [] = drop_all k t h in
        absurd (none_at_end (begins_line t k) k item (subst (λ r. IsItemOfText (form_of (begins_line t k) r) k r item) none is))

item_in_joined : (pre t front more : List ℕ) (k : ℕ) (item : Item) → EndsLine pre → t ≡ front ++ 10 ∷ [] → IsItemOfText (form_at t k) k (drop k t) item
    → IsItemOfText (form_at (pre ++ (t ++ more)) (length pre + k)) (length pre + k) (drop (length pre + k) (pre ++ (t ++ more))) (item_behind (length pre) item)
item_in_joined pre t front more k item ends line is =
    let inside = item_inside t k item is in
    let long : length t ≡ length front + 1 = ap length line ∙ length-append front (10 ∷ []) in
    let short : k ≤ length front = omega arith in
    let rest : drop k t ≡ drop k front ++ 10 ∷ [] = ap (drop k) line ∙ drop-append-le k front (10 ∷ []) short in
    let there : drop (length pre + k) (pre ++ (t ++ more)) ≡ (drop k front ++ 10 ∷ []) ++ more = drop-behind pre t more k (omega arith) ∙ ap (λ r. r ++ more) rest in
    let begun = begins_line-behind pre front t more k ends inside in
    let here = longer (begins_line t k) (length pre) k (drop k front) more item (subst (λ r. IsItemOfText (form_of (begins_line t k) r) k r item) rest is) in
    let with_line = subst (λ b. IsItemOfText (form_of b ((drop k front ++ 10 ∷ []) ++ more)) (length pre + k) ((drop k front ++ 10 ∷ []) ++ more) (item_behind (length pre) item)) (sym begun) here in
    subst (λ r. IsItemOfText (form_of (begins_line (pre ++ (t ++ more)) (length pre + k)) r) (length pre + k) r (item_behind (length pre) item)) (sym there) with_line

items_in_joined : (pre t front more : List ℕ) (k : ℕ) (items : List Item) → EndsLine pre → t ≡ front ++ 10 ∷ [] → AreItemsOfText t k items (length t)
    → AreItemsOfText (pre ++ (t ++ more)) (length pre + k) (map (item_behind (length pre)) items) (length pre + length t)
items_in_joined pre t front more k [] ends line are = ap (λ n. length pre + n) are
items_in_joined pre t front more k (item ∷ items) ends line are =
    (item_in_joined pre t front more k item ends line are.0, items_in_joined pre t front more item.end items ends line are.1)

are_items-append : (text : List ℕ) (a b c : ℕ) (xs ys : List Item) → AreItemsOfText text a xs b → AreItemsOfText text b ys c → AreItemsOfText text a (xs ++ ys) c
are_items-append text a b c [] ys e are = subst (λ n. AreItemsOfText text n ys c) (sym e) are
are_items-append text a b c (x ∷ xs) ys first are = (first.0, are_items-append text x.end b c xs ys first.1 are)

-- ---- what they say

signs-behind : (n : ℕ) (items : List Item) → signs (map (item_behind n) items) ≡ map (sign_behind n) (signs items)
signs-behind n [] = refl
signs-behind n (item ∷ items) =
    ap (λ s. option_to_list (option_map (sign_behind n) item.sign) ++ s) (signs-behind n items) ∙ one item.sign (signs items)
  where
    one : (s : Option Sign) (more : List Sign) → option_to_list (option_map (sign_behind n) s) ++ map (sign_behind n) more ≡ map (sign_behind n) (option_to_list s ++ more)
    one None more = refl
    one (Some s) more = refl

tags-behind : (n : ℕ) (tags : List Tag) → map (sign_behind n) (map Tagged tags) ≡ map Tagged tags
tags-behind n [] = refl
tags-behind n (tag ∷ tags) = ap (λ s. Tagged tag ∷ s) (tags-behind n tags)

moves-behind : (n : ℕ) (moves : List MoveText) → map (sign_behind n) (map Moved moves) ≡ map Moved (map (move_behind n) moves)
moves-behind n [] = refl
moves-behind n (m ∷ moves) = ap (λ s. Moved (move_behind n m) ∷ s) (moves-behind n moves)

-- the game as it stands in a text that ends it with a result
abbrev ended : Game → Played
ended game = record { tags = game.tags; moves = game.moves; ended = true }

signs_of-behind : (n : ℕ) (game : Game) → map (sign_behind n) (signs_of (ended game)) ≡ signs_of (ended (game_behind n game))
signs_of-behind n game =
    map-append (sign_behind n) (map Tagged game.tags ++ map Moved game.moves) (Ended ∷ [])
    ∙ ap (λ s. s ++ Ended ∷ []) (map-append (sign_behind n) (map Tagged game.tags) (map Moved game.moves)
    ∙ ap (λ s. s ++ map (sign_behind n) (map Moved game.moves)) (tags-behind n game.tags)
    ∙ ap (λ s. map Tagged game.tags ++ s) (moves-behind n game.moves))

-- ---- games whose texts stand one behind the other

record ItemsBehind (pre : List ℕ) (texts : List (List ℕ)) (games : List Game) : Type 0 where
  items : List Item
  are_items : AreItemsOfText (pre ++ joined texts) (length pre) items (length (pre ++ joined texts))
  say : signs items ≡ flat_map signs_of (map ended (games_behind (length pre) texts games))

items_behind : (pre : List ℕ) (texts : List (List ℕ)) (games : List Game) → EndsLine pre → AreGameTexts texts games → ItemsBehind pre texts games
items_behind pre [] [] ends are = record {
  items = [];
  are_items = ap length (sym (append-nil pre));
  say = refl;
}
items_behind pre [] (game ∷ games) ends are = absurd are
items_behind pre (text ∷ texts) [] ends are = absurd are
items_behind pre (text ∷ texts) (game ∷ games) ends are =
    let is = are.0 in
    let whole = pre ++ (text ++ joined texts) in
    let on = items_behind (pre ++ text) texts games (inr (pre ++ is.front, ap (λ t. pre ++ t) is.ends_line ∙ sym (append_assoc pre is.front (10 ∷ [])))) are.1 in
    let same : (pre ++ text) ++ joined texts ≡ whole = append_assoc pre text (joined texts) in
    let n : length (pre ++ text) ≡ length pre + length text = length-append pre text in
    let zeroth : length pre + 0 ≡ length pre = omega arith in
    let first = subst (λ k. AreItemsOfText whole k (map (item_behind (length pre)) is.items) (length pre + length text)) zeroth
    (items_in_joined pre text is.front (joined texts) 0 is.items ends is.ends_line is.are_items) in
    let second = subst (λ k. AreItemsOfText whole k on.items (length whole)) n (subst (λ w. AreItemsOfText w (length (pre ++ text)) on.items (length w)) same on.are_items) in
    record {
      items = map (item_behind (length pre)) is.items ++ on.items;
      are_items = are_items-append whole (length pre) (length pre + length text) (length whole) (map (item_behind (length pre)) is.items) on.items first second;
      say = flat_map-append (λ i. option_to_list i.sign) (map (item_behind (length pre)) is.items) on.items
          ∙ ap (λ s. s ++ signs on.items) (signs-behind (length pre) is.items ∙ ap (map (sign_behind (length pre))) is.says ∙ signs_of-behind (length pre) game)
          ∙ ap (λ s. signs_of (ended (game_behind (length pre) game)) ++ s) (on.say ∙ ap (λ k. flat_map signs_of (map ended (games_behind k texts games))) n);
    }

-- ---- what is read

some_sign : (game : Game) → signs_of (ended game) ≢ []
some_sign game e =
    let n : length (signs_of (ended game)) ≡ 0 = ap length e in
    let m = length-append (map Tagged game.tags ++ map Moved game.moves) (Ended ∷ []) in
    omega (arith, n, m)

are_games : (games : List Game) → AreGames (map ended games)
are_games [] = tt
are_games (game ∷ []) = some_sign game
are_games (game ∷ next ∷ more) = (some_sign game, inl refl, are_games (next ∷ more))

kept-ended : (games : List Game) → games ≡ map kept_game (map ended games)
kept-ended [] = refl
kept-ended (game ∷ games) = ap (λ gs. game ∷ gs) (kept-ended games)

length-games_behind : (n : ℕ) (texts : List (List ℕ)) (games : List Game) → length (games_behind n texts games) ≤ length games
length-games_behind n [] games = omega arith
length-games_behind n (text ∷ texts) [] = omega arith
length-games_behind n (text ∷ texts) (game ∷ games) = let rest = length-games_behind (n + length text) texts games in omega (arith, rest)

-- what is no byte order mark is none where more follows behind a line's end
unmarked-line : (front more : List ℕ) → beginning (front ++ 10 ∷ []) ≡ 0 → beginning ((front ++ 10 ∷ []) ++ more) ≡ 0
unmarked-line [] more e = refl
unmarked-line (a ∷ []) more e = grind (arith, common_steps)
unmarked-line (a ∷ b ∷ []) more e = grind (arith, common_steps)
unmarked-line (a ∷ b ∷ c ∷ front) more e = e

unmarked-append : (text more front : List ℕ) → text ≡ front ++ 10 ∷ [] → beginning text ≡ 0 → beginning (text ++ more) ≡ 0
unmarked-append text more front line e =
    subst (λ t. beginning (t ++ more) ≡ 0) (sym line) (unmarked-line front more (subst (λ t. beginning t ≡ 0) line e))

-- a byte order mark would stand in the first text
unmarked : (texts : List (List ℕ)) (games : List Game) → AreGameTexts texts games → beginning (joined texts) ≡ 0
unmarked [] games are = refl
unmarked (text ∷ texts) [] are = absurd are
unmarked (text ∷ texts) (game ∷ games) are = unmarked-append text (joined texts) are.0.front are.0.ends_line are.0.unmarked

pub game_texts_join : GameTextsJoin
game_texts_join texts games are few =
    let found = items_behind [] texts games (inl refl) are in
    let read = games_behind 0 texts games in (
      found.items,
      record {
        are_items = subst (λ k. AreItemsOfText (joined texts) k found.items (length (joined texts))) (sym (unmarked texts games are)) found.are_items;
        make = record {
          played = map ended read;
          sound = are_games read;
          all = found.say;
          are_kept = kept-ended read;
        };
        few = (let h = length-games_behind 0 texts games in omega (arith, h));
      },
    )
