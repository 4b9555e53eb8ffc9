-- The games that are gathered sign by sign are those that the signs make, and no others.
use Rattle.std.proofs.Common.{◌≡◌, ◌≢◌, ◌∙◌, ◌⊎◌, inl, inr, ◌+◌, ◌≤◌, Bool, true, false, cond, not, ◌||◌, List, [], ◌∷◌, ◌++◌, map, length, refl, sym, ap, subst, arith, append-nil, append_assoc, length-append, eqb}
use Rattle.std.specs.List.{flat_map}
use Rattle.std.proofs.lemmas.Bool.{ne_eqb}
use Rattle.std.proofs.lemmas.List.{map-append}
use Rattle.std.proofs.lemmas.List.Concat.{flat_map-append}
use Rattle.pdn_text.specs.Games.{Played, signs_of, kept_game, EndsBefore, AreGames, Make}
use Rattle.pdn_text.specs.Gathering.{Progress, no_game, closed, taken, all_taken, is_open, games_of}
use Rattle.pdn_text.specs.declared.game.Game.{Game}
use Rattle.pdn_text.specs.declared.game.MoveText.{MoveText}
use Rattle.pdn_text.specs.declared.game.Tag.{Tag}
use Rattle.pdn_text.specs.declared.items.Sign.{Sign}
use Rattle.pdn_text.specs.declared.items.Sign.TheVariants.{Tagged, Moved, Ended}

-- a game ends where these tags begin the next
abbrev Ends : Played → List Tag → Type 0
Ends p next = (p.ended ≡ true) ⊎ ((p.moves ≢ []) × (next ≢ []))

-- these are games, and the last of them ends where these tags begin the next
abbrev Ready : List Played → List Tag → Type 0
Ready [] next = Unit {0}
Ready (p ∷ []) next = (signs_of p ≢ []) × Ends p next
Ready (p ∷ q ∷ more) next = (signs_of p ≢ []) × EndsBefore p q × Ready (q ∷ more) next

ready_push : (done : List Played) (q : Played) (next : List Tag) → Ready done q.tags → signs_of q ≢ [] → Ends q next → Ready (done ++ q ∷ []) next
ready_push [] q next r some e = (some, e)
ready_push (p ∷ []) q next r some e = (r.0, r.1, (some, e))
ready_push (p ∷ p' ∷ more) q next r some e = (r.0, r.1, ready_push (p' ∷ more) q next r.2 some e)

ready_games : (done : List Played) (q : Played) → Ready done q.tags → signs_of q ≢ [] → AreGames (done ++ q ∷ [])
ready_games [] q r some = some
ready_games (p ∷ []) q r some = (r.0, r.1, some)
ready_games (p ∷ p' ∷ more) q r some = (r.0, r.1, ready_games (p' ∷ more) q r.2 some)

are_ready : (done : List Played) (next : List Tag) → Ready done next → AreGames done
are_ready [] next r = tt
are_ready (p ∷ []) next r = r.0
are_ready (p ∷ q ∷ more) next r = (r.0, r.1, are_ready (q ∷ more) next r.2)

push_some : {A : Type 0} (xs : List A) (x : A) → xs ++ x ∷ [] ≢ []
push_some [] x e = cc
push_some (y ∷ ys) x e = cc

-- more tags in front of the next game change nothing
ready_tag : (done : List Played) (next : List Tag) (tag : Tag) → Ready done next → Ready done (next ++ tag ∷ [])
ready_tag [] next tag r = tt
ready_tag (p ∷ []) next tag r = (r.0, elim r.1 [ inl ended ↦ inl ended | inr moved ↦ inr (moved.0, push_some next tag) ])
ready_tag (p ∷ q ∷ more) next tag r = (r.0, r.1, ready_tag (q ∷ more) next tag r.2)

-- where the signs so far have led
pub record Gathers (p : Progress) (signs : List Sign) : Type 0 where
  pub done : List Played
  pub ready : Ready done p.tags
  pub games : p.games ≡ map kept_game done
  pub all : signs ≡ flat_map signs_of done ++ (map Tagged p.tags ++ map Moved p.moves)

pub gathers_none : Gathers no_game []
gathers_none = record { done = []; ready = tt; games = refl; all = refl }

-- the open game, as played so far
abbrev open_game : Progress → Bool → Played
open_game p ended = record { tags = p.tags; moves = p.moves; ended = ended }

some_moves : (tags : List Tag) (moves : List MoveText) (ended : Bool) → moves ≢ [] → signs_of (record { tags = tags; moves = moves; ended = ended }) ≢ []
some_moves [] [] ended some e = some refl
some_moves [] (m ∷ ms) ended some e = cc
some_moves (t ∷ ts) moves ended some e = cc

some_tags : (tags : List Tag) (moves : List MoveText) (ended : Bool) → tags ≢ [] → signs_of (record { tags = tags; moves = moves; ended = ended }) ≢ []
some_tags [] moves ended some e = some refl
some_tags (t ∷ ts) moves ended some e = cc

some_end : (tags : List Tag) (moves : List MoveText) → signs_of (record { tags = tags; moves = moves; ended = true }) ≢ []
some_end [] [] e = cc
some_end [] (m ∷ ms) e = cc
some_end (t ∷ ts) moves e = cc

-- a game that is closed goes to the others
gathers_games : (p : Progress) (signs : List Sign) (ended : Bool) (g : Gathers p signs) → (closed p).games ≡ map kept_game (g.done ++ open_game p ended ∷ [])
gathers_games p signs ended g = ap (λ x. x ++ record { tags = p.tags; moves = p.moves } ∷ []) g.games ∙ sym (map-append kept_game g.done (open_game p ended ∷ []))

gathers_whole : (p : Progress) (signs : List Sign) (ended : Bool) (g : Gathers p signs) → signs ++ cond ended (Ended ∷ []) [] ≡ flat_map signs_of (g.done ++ open_game p ended ∷ [])
gathers_whole p signs ended g =
    let q = open_game p ended in
    let last : flat_map signs_of (g.done ++ q ∷ []) ≡ flat_map signs_of g.done ++ signs_of q = flat_map-append signs_of g.done (q ∷ []) ∙ ap (λ x. flat_map signs_of g.done ++ x) (append-nil (signs_of q)) in
    ap (λ x. x ++ cond ended (Ended ∷ []) []) g.all ∙ append_assoc (flat_map signs_of g.done) (map Tagged p.tags ++ map Moved p.moves) (cond ended (Ended ∷ []) []) ∙ sym last

-- a tag where no move stands before it in its game
tag_first : (p : Progress) (signs : List Sign) (tag : Tag) (q : Progress) → Gathers p signs → p.moves ≡ [] → q ≡ record { games = p.games; tags = p.tags ++ tag ∷ []; moves = [] }
    → Gathers q (signs ++ Tagged tag ∷ [])
tag_first p signs tag q g none e = record {
  done = g.done;
  ready = rw e (ready_tag g.done p.tags tag g.ready);
  games = rw e g.games;
  all = rw e (ap (λ x. x ++ Tagged tag ∷ []) (g.all ∙ ap (λ x. flat_map signs_of g.done ++ (map Tagged p.tags ++ map Moved x)) none ∙ ap (λ x. flat_map signs_of g.done ++ x) (append-nil (map Tagged p.tags)))
      ∙ append_assoc (flat_map signs_of g.done) (map Tagged p.tags) (Tagged tag ∷ [])
      ∙ ap (λ x. flat_map signs_of g.done ++ x) (sym (map-append Tagged p.tags (tag ∷ [])) ∙ sym (append-nil (map Tagged (p.tags ++ tag ∷ [])))));
}

-- a tag behind a move
tag_next : (p : Progress) (signs : List Sign) (tag : Tag) (q : Progress) → Gathers p signs → p.moves ≢ [] → q ≡ record { games = (closed p).games; tags = tag ∷ []; moves = [] }
    → Gathers q (signs ++ Tagged tag ∷ [])
tag_next p signs tag q g some e =
    let one : tag ∷ [] ≢ [] = λ h. cc in
    record {
      done = g.done ++ open_game p false ∷ [];
      ready = rw e (ready_push g.done (open_game p false) (tag ∷ []) g.ready (some_moves p.tags p.moves false some) (inr (some, one)));
      games = rw e (gathers_games p signs false g);
      all = rw e (ap (λ x. x ++ Tagged tag ∷ []) (sym (append-nil signs) ∙ gathers_whole p signs false g));
    }

not_zero : {A : Type 0} (x : A) (xs : List A) → eqb (length (x ∷ xs)) 0 ≡ false
not_zero x xs = ne_eqb (length (x ∷ xs)) 0 (λ e. absurd (omega arith))

gathers_tag_at : (p : Progress) (signs : List Sign) (tag : Tag) → Gathers p signs → (moves : List MoveText) → p.moves ≡ moves → Gathers (taken p (Tagged tag)) (signs ++ Tagged tag ∷ [])
gathers_tag_at p signs tag g [] e = tag_first p signs tag (taken p (Tagged tag)) g e (rw e refl)
gathers_tag_at p signs tag g (m ∷ ms) e =
    let some : p.moves ≢ [] = λ h. cc in
    let zero : eqb (length p.moves) 0 ≡ false = rw e (not_zero m ms) in
    tag_next p signs tag (taken p (Tagged tag)) g some (rw zero refl)

pub gathers_tag : (p : Progress) (signs : List Sign) (tag : Tag) → Gathers p signs → Gathers (taken p (Tagged tag)) (signs ++ Tagged tag ∷ [])
gathers_tag p signs tag g = gathers_tag_at p signs tag g p.moves refl

pub gathers_move : (p : Progress) (signs : List Sign) (text : MoveText) → Gathers p signs → Gathers (taken p (Moved text)) (signs ++ Moved text ∷ [])
gathers_move p signs text g = record {
  done = g.done;
  ready = g.ready;
  games = g.games;
  all = ap (λ x. x ++ Moved text ∷ []) g.all ∙ append_assoc (flat_map signs_of g.done) (map Tagged p.tags ++ map Moved p.moves) (Moved text ∷ [])
      ∙ ap (λ x. flat_map signs_of g.done ++ x) (append_assoc (map Tagged p.tags) (map Moved p.moves) (Moved text ∷ []) ∙ ap (λ x. map Tagged p.tags ++ x) (sym (map-append Moved p.moves (text ∷ []))));
}

pub gathers_end : (p : Progress) (signs : List Sign) → Gathers p signs → Gathers (taken p Ended) (signs ++ Ended ∷ [])
gathers_end p signs g =
    record {
      done = g.done ++ open_game p true ∷ [];
      ready = ready_push g.done (open_game p true) [] g.ready (some_end p.tags p.moves) (inl refl);
      games = gathers_games p signs true g;
      all = gathers_whole p signs true g ∙ sym (append-nil (flat_map signs_of (g.done ++ open_game p true ∷ [])));
    }

pub gathers_sign : (p : Progress) (signs : List Sign) (sign : Sign) → Gathers p signs → Gathers (taken p sign) (signs ++ sign ∷ [])
gathers_sign p signs (Tagged tag) g = gathers_tag p signs tag g
gathers_sign p signs (Moved text) g = gathers_move p signs text g
gathers_sign p signs Ended g = gathers_end p signs g

gathers_all : (p : Progress) (before signs : List Sign) → Gathers p before → Gathers (all_taken p signs) (before ++ signs)
gathers_all p before [] g = rw append-nil g
gathers_all p before (sign ∷ signs) g = rw (← append_assoc before (sign ∷ []) signs) (gathers_all (taken p sign) (before ++ sign ∷ []) signs (gathers_sign p before sign g))

-- what was gathered is what the signs make, the open game with them
make_open : (p : Progress) (signs : List Sign) → Gathers p signs → is_open p ≡ true → signs_of (open_game p false) ≢ [] → Make signs (games_of p)
make_open p signs g is_so some =
    record {
      played = g.done ++ open_game p false ∷ [];
      sound = ready_games g.done (open_game p false) g.ready some;
      all = sym (append-nil signs) ∙ gathers_whole p signs false g;
      are_kept = rw is_so (gathers_games p signs false g);
    }

make_closed : (p : Progress) (signs : List Sign) → Gathers p signs → p.tags ≡ [] → p.moves ≡ [] → Make signs (games_of p)
make_closed p signs g no_tag no_move =
    let shut : is_open p ≡ false = rw (no_tag, no_move) refl in
    record {
      played = g.done;
      sound = are_ready g.done p.tags g.ready;
      all = g.all ∙ ap (λ x. flat_map signs_of g.done ++ (map Tagged x ++ map Moved p.moves)) no_tag ∙ ap (λ x. flat_map signs_of g.done ++ map Moved x) no_move ∙ append-nil (flat_map signs_of g.done);
      are_kept = rw shut g.games;
    }

make_at : (p : Progress) (signs : List Sign) → Gathers p signs → (tags : List Tag) (moves : List MoveText) → p.tags ≡ tags → p.moves ≡ moves → Make signs (games_of p)
make_at p signs g [] [] no_tag no_move = make_closed p signs g no_tag no_move
make_at p signs g [] (m ∷ ms) no_tag moves =
    let zero : eqb (length p.moves) 0 ≡ false = rw moves (not_zero m ms) in
    let some : p.moves ≢ [] = λ h. cc in
    make_open p signs g (rw (no_tag, zero) refl) (some_moves p.tags p.moves false some)
make_at p signs g (t ∷ ts) ms tags moves =
    let zero : eqb (length p.tags) 0 ≡ false = rw tags (not_zero t ts) in
    let some : p.tags ≢ [] = λ h. cc in
    make_open p signs g (rw zero refl) (some_tags p.tags p.moves false some)

make_gathered : (p : Progress) (signs : List Sign) → Gathers p signs → Make signs (games_of p)
make_gathered p signs g = make_at p signs g p.tags p.moves refl refl

pub gathered_make : (signs : List Sign) → Make signs (games_of (all_taken no_game signs))
gathered_make signs = make_gathered (all_taken no_game signs) signs (gathers_all no_game [] signs gathers_none)

-- the way back: signs that make games lead to these games
abbrev state : List Game → List Tag → List MoveText → Progress
state games tags moves = record { games = games; tags = tags; moves = moves }

pub all_taken-append : (p : Progress) (xs ys : List Sign) → all_taken p (xs ++ ys) ≡ all_taken (all_taken p xs) ys
all_taken-append p [] ys = refl
all_taken-append p (x ∷ xs) ys = all_taken-append (taken p x) xs ys

tags_taken : (games : List Game) (before tags : List Tag) → all_taken (state games before []) (map Tagged tags) ≡ state games (before ++ tags) []
tags_taken games before [] = ap (λ x. state games x []) (sym (append-nil before))
tags_taken games before (t ∷ tags) = tags_taken games (before ++ t ∷ []) tags ∙ ap (λ x. state games x []) (append_assoc before (t ∷ []) tags)

moves_taken : (games : List Game) (tags : List Tag) (before moves : List MoveText) → all_taken (state games tags before) (map Moved moves) ≡ state games tags (before ++ moves)
moves_taken games tags before [] = ap (λ x. state games tags x) (sym (append-nil before))
moves_taken games tags before (m ∷ moves) = moves_taken games tags (before ++ m ∷ []) moves ∙ ap (λ x. state games tags x) (append_assoc before (m ∷ []) moves)

-- where a game leads from a state with no open game
abbrev led : List Game → Played → Bool → Progress
led games g true = state (games ++ kept_game g ∷ []) [] []
led games g false = state games g.tags g.moves

end_taken : (games : List Game) (g : Played) (ended : Bool) → all_taken (state games g.tags g.moves) (cond ended (Ended ∷ []) []) ≡ led games g ended
end_taken games g true = refl
end_taken games g false = refl

game_taken : (games : List Game) (g : Played) → all_taken (state games [] []) (signs_of g) ≡ led games g g.ended
game_taken games g =
    let ending = cond g.ended (Ended ∷ []) [] in
    all_taken-append (state games [] []) (map Tagged g.tags ++ map Moved g.moves) ending
    ∙ ap (λ p. all_taken p ending) (all_taken-append (state games [] []) (map Tagged g.tags) (map Moved g.moves) ∙ ap (λ p. all_taken p (map Moved g.moves)) (tags_taken games [] g.tags) ∙ moves_taken games g.tags [] g.moves)
    ∙ end_taken games g g.ended

-- an open game is among the games
open_games : (games : List Game) (tags : List Tag) (moves : List MoveText) → signs_of (record { tags = tags; moves = moves; ended = false }) ≢ []
    → games_of (state games tags moves) ≡ games ++ record { tags = tags; moves = moves } ∷ []
open_games games [] [] some = absurd (some refl)
open_games games [] (m ∷ ms) some = rw (not_zero m ms) refl
open_games games (t ∷ ts) moves some = rw (not_zero t ts) refl

-- a game begins where none is open, or with a tag behind a move
abbrev Waits : Progress → List Played → Type 0
Waits p [] = Unit {0}
Waits p (g ∷ more) = (p ≡ state (games_of p) [] []) ⊎ ((p.moves ≢ []) × (g.tags ≢ []))

or_true : (b : Bool) → (b || true) ≡ true
or_true true = refl
or_true false = refl

tag_begins : (p : Progress) (tag : Tag) (moves : List MoveText) → p.moves ≡ moves → moves ≢ [] → taken p (Tagged tag) ≡ taken (state (games_of p) [] []) (Tagged tag)
tag_begins p tag [] e some = absurd (some refl)
tag_begins p tag (m ∷ ms) e some =
    let zero : eqb (length p.moves) 0 ≡ false = rw e (not_zero m ms) in
    rw (zero, or_true (not (eqb (length p.tags) 0))) refl

begins_alike : (p : Progress) (g : Played) (tags : List Tag) → g.tags ≡ tags → (p ≡ state (games_of p) [] []) ⊎ ((p.moves ≢ []) × (g.tags ≢ [])) → all_taken p (signs_of g) ≡ all_taken (state (games_of p) [] []) (signs_of g)
begins_alike p g tags e (inl same) = ap (λ x. all_taken x (signs_of g)) same
begins_alike p g [] e (inr h) = absurd (h.1 e)
begins_alike p g (t ∷ ts) e (inr h) = rw e (ap (λ x. all_taken x (map Tagged ts ++ map Moved g.moves ++ cond g.ended (Ended ∷ []) [])) (tag_begins p t p.moves refl h.0))

are_rest : (g : Played) (more : List Played) → AreGames (g ∷ more) → AreGames more
are_rest g [] h = tt
are_rest g (next ∷ more) h = h.2

is_some : (g : Played) (more : List Played) → AreGames (g ∷ more) → signs_of g ≢ []
is_some g [] h = h
is_some g (next ∷ more) h = h.0

-- where the game leads, it is among the games, and the next one waits there
led_games : (games : List Game) (g : Played) (ended : Bool) → g.ended ≡ ended → signs_of g ≢ [] → games_of (led games g ended) ≡ games ++ kept_game g ∷ []
led_games games g true e some = refl
led_games games g false e some = open_games games g.tags g.moves (rw e at some)

led_waits : (games : List Game) (g : Played) (more : List Played) (ended : Bool) → g.ended ≡ ended → AreGames (g ∷ more) → Waits (led games g ended) more
led_waits games g [] ended e h = tt
led_waits games g (next ∷ more) true e h = inl refl
led_waits games g (next ∷ more) false e h = elim h.1 [ inl is ↦ (let wrong = sym e ∙ is in cc) | inr is ↦ inr is ]

played_taken : (played : List Played) (p : Progress) → AreGames played → Waits p played → games_of (all_taken p (flat_map signs_of played)) ≡ games_of p ++ map kept_game played
played_taken [] p h waits = sym (append-nil (games_of p))
played_taken (g ∷ more) p h waits =
    let rest = flat_map signs_of more in
    let here : all_taken p (signs_of g) ≡ led (games_of p) g g.ended = begins_alike p g g.tags refl waits ∙ game_taken (games_of p) g in
    ap games_of (all_taken-append p (signs_of g) rest ∙ ap (λ x. all_taken x rest) here)
    ∙ played_taken more (led (games_of p) g g.ended) (are_rest g more h) (led_waits (games_of p) g more g.ended refl h)
    ∙ ap (λ x. x ++ map kept_game more) (led_games (games_of p) g g.ended refl (is_some g more h))
    ∙ append_assoc (games_of p) (kept_game g ∷ []) (map kept_game more)

no_game_waits : (played : List Played) → Waits no_game played
no_game_waits [] = tt
no_game_waits (g ∷ more) = inl refl

-- these games and no others
pub made_is : (signs : List Sign) (games : List Game) → Make signs games → games ≡ games_of (all_taken no_game signs)
made_is signs games m =
    m.are_kept ∙ sym (played_taken m.played no_game m.sound (no_game_waits m.played)) ∙ ap (λ x. games_of (all_taken no_game x)) (sym m.all)

-- more signs make no fewer games
games_len : (p : Progress) (o : Bool) → is_open p ≡ o → length (games_of p) ≡ length p.games + cond o 1 0
games_len p true e = rw e (length-append p.games (record { tags = p.tags; moves = p.moves } ∷ []))
games_len p false e = rw e (omega arith)

games_most : (p : Progress) (o : Bool) → is_open p ≡ o → length (games_of p) ≤ length p.games + 1
games_most p true e = omega (arith, games_len p true e)
games_most p false e = omega (arith, games_len p false e)

push_zero : {A : Type 0} (xs : List A) (x : A) → eqb (length (xs ++ x ∷ [])) 0 ≡ false
push_zero xs x = ne_eqb (length (xs ++ x ∷ [])) 0 (λ e. absurd (omega (arith, length-append xs (x ∷ []))))

tag_grow : (p : Progress) (tag : Tag) (none : Bool) → eqb (length p.moves) 0 ≡ none → length (games_of p) ≤ length (games_of (taken p (Tagged tag)))
tag_grow p tag true e =
    let q = state p.games (p.tags ++ tag ∷ []) p.moves in
    let is_so : is_open q ≡ true = rw (push_zero p.tags tag) refl in
    let led_to : taken p (Tagged tag) ≡ q = rw e refl in
    subst (λ z. length (games_of p) ≤ length (games_of z)) (sym led_to) (omega (arith, games_len q true is_so, games_most p (is_open p) refl))
tag_grow p tag false e =
    let q = state (closed p).games (tag ∷ []) [] in
    let led_to : taken p (Tagged tag) ≡ q = rw e refl in
    subst (λ z. length (games_of p) ≤ length (games_of z)) (sym led_to) (omega (arith, games_len q true refl, length-append p.games (record { tags = p.tags; moves = p.moves } ∷ []), games_most p (is_open p) refl))

games_grow : (p : Progress) (sign : Sign) → length (games_of p) ≤ length (games_of (taken p sign))
games_grow p (Moved text) =
    let q = taken p (Moved text) in
    let is_so : is_open q ≡ true = rw (push_zero p.moves text) (or_true (not (eqb (length p.tags) 0))) in
    omega (arith, games_len q true is_so, games_most p (is_open p) refl)
games_grow p Ended = omega (arith, length-append p.games (record { tags = p.tags; moves = p.moves } ∷ []), games_most p (is_open p) refl)
games_grow p (Tagged tag) = tag_grow p tag (eqb (length p.moves) 0) refl

pub games_more : (p : Progress) (signs : List Sign) → length (games_of p) ≤ length (games_of (all_taken p signs))
games_more p [] = omega arith
games_more p (sign ∷ signs) = omega (arith, games_grow p sign, games_more (taken p sign) signs)
