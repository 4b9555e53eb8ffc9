-- A page, and a whole text, as they are read.
use Rattle.std.proofs.Common.{◌≡◌, ◌∙◌, ℕ, ◌+◌, ◌^◌, ◌<◌, ◌≤◌, ◌==◌, Bool, false, true, cond, not, ◌&&◌, ◌||◌, List, [], ◌∷◌, ◌++◌, length, take, map, Option, Some, None, refl, sym, ap, subst, arith, append_assoc, append-nil, length-append, decimal, inl, inr}
use Rattle.std.specs.Prelude.{codes, slice_index, All, if◌then◌else◌}
use Rattle.std.specs.Char.{is_ascii_alphabetic, is_ascii_digit}
use Rattle.std.specs.List.{list_all, starts_with}
use Rattle.std.specs.Str.{bytes_eq}
use Rattle.std.specs.Cmp.Lexicographic.{pointwise, pointwise_decides}
use Rattle.std.proofs.lemmas.Bool.{and_from, or_cases}
use Rattle.std.proofs.lemmas.Bool.Decides.{Decides-eqb}
use Rattle.std.proofs.lemmas.Grind.{common_steps}
use Rattle.std.proofs.lemmas.List.{map-append}
use Rattle.std.proofs.lemmas.List.Elements.{All-head, All-push, All-tail}
use Rattle.std.proofs.lemmas.Slice.Eq.{bytes_eq-Decides}
use Rattle.draughts_board.specs.Board.{Board}
use Rattle.draughts_board.specs.Geometry.{IsSquare}
use Rattle.fen_text.specs.Laws.{is_printed_byte}
use Rattle.fen_text.specs.Printed.{fen_of}
use Rattle.fen_text.proofs.RoundTrip.{printed_spells}
use Rattle.pdn_openings.specs.Beginning.{first_value, is_english, is_other}
use Rattle.pdn_text.specs.Bytes.{is_line_end, is_name_byte}
use Rattle.pdn_text.specs.Forms.{form_of}
use Rattle.pdn_text.specs.Grammar.{IsItemOfText}
use Rattle.pdn_text.specs.Pdn.{AreItemsOfText, beginning}
use Rattle.pdn_text.specs.Tags.{IsName}
use Rattle.pdn_text.specs.Words.{word_of}
use Rattle.pdn_text.specs.declared.game.MoveText.{MoveText}
use Rattle.pdn_text.specs.declared.game.Tag.{Tag}
use Rattle.pdn_text.specs.declared.items.Item.{Item}
use Rattle.pdn_text.specs.declared.items.Sign.{Sign}
use Rattle.pdn_text.specs.declared.items.Sign.TheVariants.{Tagged, Moved, Ended}
use Rattle.strict_games.specs.Drafts.{Drafted, IsReadAs, IsTextOf, begins, squares_of}
use Rattle.strict_games.specs.Drafting.{IsDraft}
use Rattle.strict_games.specs.GameTexts.{IsGameText}
use Rattle.strict_games.specs.Pages.{AreTagsBefore, IsClosed, IsOpen, IsPrinted, PageSays, Says, SaysTo, signs_so_far}
use Rattle.strict_games.specs.Spelling.{move_text, number_text, score_text, tag_text}
use Rattle.strict_games.specs.Tags.{AreTaken, IsTaken, cleaned, is_name, tag_fault}
use Rattle.strict_games.specs.declared.printing.Page.{Page}
use Rattle.strict_games.specs.declared.printing.Score.{Score}
use Rattle.strict_games.specs.declared.printing.Score.TheVariants.{OneNil, NilOne, Halves, TwoNil, NilTwo, OneAll, NilAll, Unknown}
use Rattle.strict_games.specs.declared.tags.TagRefusal.TheVariants.{Name, SetUp, OtherGame}
use Rattle.strict_games.proofs.Leading.{is_text_of}
use Rattle.strict_games.proofs.Pages.{closes, move_says, number_says, opens, result_says, star_says, tag_says}
use Rattle.strict_games.proofs.Words.{move_is, number_is}

-- ---- a page

-- nothing
pub page_empty : (page : Page) → page.text.items ≡ [] → page.line ≡ 0 → PageSays page [] []
page_empty page none line = record {
  written = [];
  same = refl;
  inside = omega arith;
  opened = subst (λ t. IsOpen t []) (sym none) (opens [] [] empty);
  begins = λ e. subst (λ t. IsClosed t []) (sym none) empty;
}
  where
    empty : IsClosed [] []
    empty more = record { items = []; are_items = refl; says = refl }

-- a line ends
ended : (old : Page) (text : List ℕ) (tags : List Tag) (moves : List (List ℕ)) (s : PageSays old tags moves) → text ≡ old.text.items ++ 10 ∷ [] → IsClosed text (signs_so_far tags s.written)
ended old text tags moves s e = subst (λ t. IsClosed t (signs_so_far tags s.written)) (sym e) (closes old.text.items (signs_so_far tags s.written) 10 refl s.opened)

pub page_ends : (old new : Page) → new.text.items ≡ old.text.items ++ 10 ∷ [] → new.line ≡ length new.text.items → (tags : List Tag) (moves : List (List ℕ)) → PageSays old tags moves → PageSays new tags moves
page_ends old new text line tags moves s = record {
  written = s.written;
  same = s.same;
  inside = omega arith;
  opened = opens new.text.items (signs_so_far tags s.written) (ended old new.text.items tags moves s text);
  begins = λ e. ended old new.text.items tags moves s text;
}

pub page_ended : (old : Page) (text : List ℕ) → text ≡ old.text.items ++ 10 ∷ [] → (tags : List Tag) (moves : List (List ℕ)) → PageSays old tags moves → Says text tags moves
page_ended old text e tags moves s = record { written = s.written; same = s.same; closed = ended old text tags moves s e }

-- a blank
pub page_parts : (old : Page) (text : List ℕ) → text ≡ old.text.items ++ 32 ∷ [] → (tags : List Tag) (moves : List (List ℕ)) → PageSays old tags moves → Says text tags moves
page_parts old text e tags moves s = record {
  written = s.written;
  same = s.same;
  closed = subst (λ t. IsClosed t (signs_so_far tags s.written)) (sym e) (closes old.text.items (signs_so_far tags s.written) 32 refl s.opened);
}

-- the beginning of a line
pub page_begun : (page : Page) → page.line ≡ length page.text.items → (tags : List Tag) (moves : List (List ℕ)) → PageSays page tags moves → Says page.text.items tags moves
page_begun page line tags moves s = record { written = s.written; same = s.same; closed = s.begins line }

-- a tag
moves_none : (written : List MoveText) → map squares_of written ≡ [] → written ≡ []
moves_none [] e = refl
moves_none (m ∷ written) e = cc

tags_more : (tags : List Tag) (tag : Tag) → signs_so_far tags [] ++ Tagged tag ∷ [] ≡ signs_so_far (tags ++ tag ∷ []) []
tags_more tags tag = ap (λ s. s ++ Tagged tag ∷ []) (append-nil (map Tagged tags)) ∙ sym (map-append Tagged tags (tag ∷ [])) ∙ sym (append-nil (map Tagged (tags ++ tag ∷ [])))

halves : (a b : Bool) → (a && b) ≡ true → (a ≡ true) × (b ≡ true)
halves true b e = (refl, e)
halves false b e = cc

is_a_name : (name : List ℕ) → is_name name ≡ true → IsName name
is_a_name [] e = let none : false ≡ true = e in cc
is_a_name (b ∷ more) e =
    let parts = halves (is_ascii_alphabetic b) (list_all is_name_byte (b ∷ more)) e in
    (parts.0, (halves (is_name_byte b) (list_all is_name_byte more) parts.1).1)

pub page_tag : (old : List ℕ) (new : Page) (name value : List ℕ) → new.text.items ≡ old ++ tag_text name value → new.line ≤ length old → is_name name ≡ true
    → list_all (λ b. not (is_line_end b)) value ≡ true → (tags : List Tag) → Says old tags [] → PageSays new (tags ++ record { name = name; value = value } ∷ []) []
page_tag old new name value text line named one_line tags s =
    let tag : Tag = record { name = name; value = value } in
    let none = moves_none s.written s.same in
    let closed = subst (λ w. IsClosed old (signs_so_far tags w)) none s.closed in
    let said : IsClosed new.text.items (signs_so_far (tags ++ tag ∷ []) []) =
    subst (IsClosed new.text.items) (tags_more tags tag) (subst (λ t. IsClosed t (signs_so_far tags [] ++ Tagged tag ∷ [])) (sym text) (tag_says old name value (signs_so_far tags []) (is_a_name name named) one_line closed)) in
    record {
      written = [];
      same = refl;
      inside = omega (arith, ap length text, length-append old (tag_text name value));
      opened = opens new.text.items (signs_so_far (tags ++ tag ∷ []) []) said;
      begins = λ e. said;
    }

-- a move
moves_more : (tags : List Tag) (written : List MoveText) (m : MoveText) → signs_so_far tags written ++ Moved m ∷ [] ≡ signs_so_far tags (written ++ m ∷ [])
moves_more tags written m = append_assoc (map Tagged tags) (map Moved written) (Moved m ∷ []) ∙ ap (λ s. map Tagged tags ++ s) (sym (map-append Moved written (m ∷ [])))

-- a word that begins with a digit has a byte
word_some : (w : List ℕ) → is_ascii_digit (slice_index w 0) ≡ true → 0 < length w
word_some [] e = let none : is_ascii_digit 0 ≡ true = e in cc
word_some (b ∷ w) e = omega arith

pub page_move : (old : List ℕ) (new : Page) (squares : List ℕ) → new.text.items ≡ old ++ move_text squares → new.line ≤ length old → All IsSquare squares → 2 ≤ length squares → length squares ≤ 13
    → (tags : List Tag) (moves : List (List ℕ)) → Says old tags moves → PageSays new tags (moves ++ squares ∷ [])
page_move old new squares text line all least most tags moves s =
    let is = move_is squares all least most in
    let m : MoveText = record { at = length old; end = length old + length (move_text squares); squares = squares } in
    let said : IsOpen new.text.items (signs_so_far tags (s.written ++ m ∷ [])) =
    subst (IsOpen new.text.items) (moves_more tags s.written m)
    (subst (λ t. IsOpen t (signs_so_far tags s.written ++ Moved m ∷ [])) (sym text) (move_says old (move_text squares) squares (signs_so_far tags s.written) is.digit is.bytes is.is s.closed)) in
    let longer = length-append old (move_text squares) in
    let some = word_some (move_text squares) is.digit in
    record {
      written = s.written ++ m ∷ [];
      same = map-append squares_of s.written (m ∷ []) ∙ ap (λ ms. ms ++ squares ∷ []) s.same;
      inside = omega (arith, ap length text, longer);
      opened = said;
      begins = λ e. absurd (omega (arith, ap length text, longer, some));
    }

-- a number with its dots
dotted : (old w : List ℕ) (said : List Sign) (is_white : Bool) → IsOpen (old ++ w) said → IsClosed (old ++ (w ++ cond is_white (46 ∷ 46 ∷ 46 ∷ []) (46 ∷ []))) said
dotted old w said false opened = subst (λ t. IsClosed t said) (append_assoc old w (46 ∷ [])) (closes (old ++ w) said 46 refl opened)
dotted old w said true opened =
    let one = closes (old ++ w) said 46 refl opened in
    let two = closes ((old ++ w) ++ 46 ∷ []) said 46 refl (opens ((old ++ w) ++ 46 ∷ []) said one) in
    let three = closes (((old ++ w) ++ 46 ∷ []) ++ 46 ∷ []) said 46 refl (opens (((old ++ w) ++ 46 ∷ []) ++ 46 ∷ []) said two) in
    let same : (((old ++ w) ++ 46 ∷ []) ++ 46 ∷ []) ++ 46 ∷ [] ≡ old ++ (w ++ 46 ∷ 46 ∷ 46 ∷ []) = simp append_assoc in
    subst (λ t. IsClosed t said) same three

pub page_number : (old : List ℕ) (new : Page) (n : ℕ) (is_white : Bool) → n < 2 ^ 64 → new.text.items ≡ old ++ number_text n is_white → new.line ≤ length old
    → (tags : List Tag) (moves : List (List ℕ)) → Says old tags moves → PageSays new tags moves
page_number old new n is_white small text line tags moves s =
    let is = number_is n small in
    let said : List Sign = signs_so_far tags s.written in
    let closed : IsClosed new.text.items said = subst (λ t. IsClosed t said) (sym text) (dotted old (decimal n) said is_white (number_says old (decimal n) said is.digit is.bytes is.is s.closed)) in
    record {
      written = s.written;
      same = s.same;
      inside = omega (arith, ap length text, length-append old (number_text n is_white));
      opened = opens new.text.items said closed;
      begins = λ e. closed;
    }

-- a result, and the end of its line
score_says : (old : List ℕ) (said : List Sign) (score : Score) → IsClosed old said → IsOpen (old ++ score_text score) (said ++ Ended ∷ [])
unfolding word_of
score_says old said OneNil closed = result_says old (codes "1-0") said refl refl refl closed
score_says old said NilOne closed = result_says old (codes "0-1") said refl refl refl closed
score_says old said Halves closed = result_says old (codes "1/2-1/2") said refl refl refl closed
score_says old said TwoNil closed = result_says old (codes "2-0") said refl refl refl closed
score_says old said NilTwo closed = result_says old (codes "0-2") said refl refl refl closed
score_says old said OneAll closed = result_says old (codes "1-1") said refl refl refl closed
score_says old said NilAll closed = result_says old (codes "0-0") said refl refl refl closed
score_says old said Unknown closed = star_says old said closed

pub page_score : (old text : List ℕ) (score : Score) → text ≡ (old ++ score_text score) ++ 10 ∷ [] → (tags : List Tag) (moves : List (List ℕ)) → Says old tags moves → IsPrinted text tags moves
page_score old text score e tags moves s =
    let said : List Sign = signs_so_far tags s.written ++ Ended ∷ [] in
    let closed : IsClosed text said = subst (λ t. IsClosed t said) (sym e) (closes (old ++ score_text score) said 10 refl (score_says old (signs_so_far tags s.written) score s.closed)) in
    record {
      written = s.written;
      same = s.same;
      whole = subst (λ t. SaysTo t (length text) said) (append-nil text) (closed []);
      front = old ++ score_text score;
      ends_line = e;
    }

-- ---- a draft's tags

-- what is known of a tag that was taken
record Facts (tag : Tag) : Type 0 where
  named : is_name tag.name ≡ true
  other_name : bytes_eq tag.name (codes "FEN") ≡ false
  english : (bytes_eq tag.name (codes "GameType") && not (is_english tag.value)) ≡ false

none_of : (a b c : Bool) → cond (not a) (Some Name) (cond b (Some SetUp) (cond c (Some OtherGame) None)) ≡ None → (a ≡ true) × (b ≡ false) × (c ≡ false)
none_of false b c e = cc
none_of true true c e = cc
none_of true false true e = cc
none_of true false false e = (refl, refl, refl)

facts : (tag : Tag) → tag_fault tag.name tag.value ≡ None → Facts tag
facts tag e =
    let found = none_of (is_name tag.name) (bytes_eq tag.name (codes "FEN")) (bytes_eq tag.name (codes "GameType") && not (is_english tag.value)) e in
    record { named = found.0; other_name = found.1; english = found.2 }

pub taken_name : (tag : Tag) → IsTaken tag → is_name tag.name ≡ true
taken_name tag t = (facts tag t.taken).named

no_fen : (tags : List Tag) → AreTaken tags → first_value (codes "FEN") tags ≡ None
no_fen [] all = refl
no_fen (tag ∷ tags) all = rw ((facts tag (All-head IsTaken tag tags all).taken).other_name) (no_fen tags (All-tail IsTaken tag tags all))

no_other_more : (tag : Tag) (tags : List Tag) → Facts tag → is_other (first_value (codes "GameType") tags) ≡ false → is_other (first_value (codes "GameType") (tag ∷ tags)) ≡ false
no_other_more tag tags f rest = by (bytes_eq tag.name (codes "GameType")) refl
  where
    by : (c : Bool) → bytes_eq tag.name (codes "GameType") ≡ c → is_other (first_value (codes "GameType") (tag ∷ tags)) ≡ false
    by true e = rw e (rw e at f.english)
    by false e = rw e rest

no_other : (tags : List Tag) → AreTaken tags → is_other (first_value (codes "GameType") tags) ≡ false
no_other [] all = refl
no_other (tag ∷ tags) all = no_other_more tag tags (facts tag (All-head IsTaken tag tags all).taken) (no_other tags (All-tail IsTaken tag tags all))

-- ---- a tag is taken

take_three : (f : ℕ → ℕ) (xs : List ℕ) → take 3 (map f xs) ≡ map f (take 3 xs)
take_three f [] = refl
take_three f (a ∷ []) = refl
take_three f (a ∷ b ∷ []) = refl
take_three f (a ∷ b ∷ c ∷ xs) = refl

or_last : (a b : Bool) → b ≡ true → (a || b) ≡ true
or_last true b e = refl
or_last false b e = e

-- a value that says English draughts says it still when it is cleaned
english_cleaned : (value : List ℕ) → is_english value ≡ true → is_english (cleaned value) ≡ true
english_cleaned value e =
    elim (or_cases (bytes_eq value (codes "21")) (starts_with ◌==◌ value (codes "21,")) e) [
      | inl is ↦ subst (λ v. is_english (cleaned v) ≡ true) (sym ((bytes_eq-Decides value (codes "21")).0 is)) refl
      | inr begins ↦ (
          let same : codes "21," ≡ take 3 value = (pointwise_decides Decides-eqb (codes "21,") (take 3 value)).0 begins in
          let clean : take 3 (cleaned value) ≡ codes "21," = take_three (λ b. if is_line_end b then 32 else b) value ∙ ap (map (λ b. if is_line_end b then 32 else b)) (sym same) in
          or_last (bytes_eq (cleaned value) (codes "21")) (starts_with ◌==◌ (cleaned value) (codes "21,")) (ap (pointwise ◌==◌ (codes "21,")) clean))
    ]

clean_line : (value : List ℕ) → list_all (λ b. not (is_line_end b)) (cleaned value) ≡ true
clean_line [] = refl
clean_line (b ∷ value) = and_from _ _ (clean (is_line_end b) refl) (clean_line value)
  where
    clean : (c : Bool) → is_line_end b ≡ c → not (is_line_end (if is_line_end b then 32 else b)) ≡ true
    clean true e = rw e refl
    clean false e = rw e (rw e refl)

other_cleaned : (c : Bool) (value : List ℕ) → (c && not (is_english value)) ≡ false → (c && not (is_english (cleaned value))) ≡ false
other_cleaned true value e = rw (english_cleaned value (on (is_english value) e)) refl
  where
    on : (a : Bool) → not a ≡ false → a ≡ true
    on true e = refl
    on false e = sym e
other_cleaned false value e = refl

pub tag_taken : (name value : List ℕ) → tag_fault name value ≡ None → IsTaken (record { name = name; value = cleaned value })
tag_taken name value e =
    let f = facts (record { name = name; value = value }) e in
    record {
      taken = rw (f.named, f.other_name, other_cleaned (bytes_eq name (codes "GameType")) value f.english) refl;
      one_line = clean_line value;
    }

-- one tag more, or none for want of memory
pub taken_pushed : (b : Bool) (old new : List Tag) (tag : Tag) → new ≡ cond b (old ++ tag ∷ []) old → AreTaken old → IsTaken tag → AreTaken new
taken_pushed true old new tag e all one = subst AreTaken (sym e) (All-push IsTaken old tag all one)
taken_pushed false old new tag e all one = subst AreTaken (sym e) all

-- a printed FEN stands on one line
plain_byte : (b : ℕ) → is_printed_byte b ≡ true → not (is_line_end b) ≡ true
plain_byte b e = grind (arith, common_steps, e)

pub plain_line : (bytes : List ℕ) → All (λ b. is_printed_byte b ≡ true) bytes → list_all (λ b. not (is_line_end b)) bytes ≡ true
plain_line [] all = refl
plain_line (b ∷ bytes) all =
    rw (plain_byte b (All-head (λ b. is_printed_byte b ≡ true) b bytes all)) (plain_line bytes (All-tail (λ b. is_printed_byte b ≡ true) b bytes all))

-- a tag that was read from a draft's parts
pub same_tag : (tag : Tag) (name value : List ℕ) → name ≡ tag.name → value ≡ tag.value → record { name = name; value = value } ≡ tag
same_tag tag name value n v = λ i. record { name = n i; value = v i }

-- ---- the whole text

-- no item begins with the first byte of a byte order mark
nothing : (rest : List ℕ) (item : Item) → IsItemOfText (form_of true (239 ∷ rest)) 0 (239 ∷ rest) item → ⊥
unfolding form_of
nothing rest item h = h

first_byte : (b : ℕ) (more : List ℕ) → b ∷ more ≡ 239 ∷ 187 ∷ 191 ∷ [] → b ≡ 239
first_byte b more e = cc

unmarked : (text : List ℕ) (items : List Item) → AreItemsOfText text 0 items (length text) → beginning text ≡ 0
unmarked [] items are = refl
unmarked (b ∷ rest) [] are = absurd (omega arith)
unmarked (b ∷ rest) (item ∷ items) are = by (bytes_eq (take 3 (b ∷ rest)) (239 ∷ 187 ∷ 191 ∷ [])) refl
  where
    by : (c : Bool) → bytes_eq (take 3 (b ∷ rest)) (239 ∷ 187 ∷ 191 ∷ []) ≡ c → beginning (b ∷ rest) ≡ 0
    by false e = rw e refl
    by true e =
        let same : take 3 (b ∷ rest) ≡ 239 ∷ 187 ∷ 191 ∷ [] = (bytes_eq-Decides (take 3 (b ∷ rest)) (239 ∷ 187 ∷ 191 ∷ [])).0 e in
        let mark : b ≡ 239 = first_byte b (take 2 rest) same in
        absurd (nothing rest item (subst (λ k. IsItemOfText (form_of true (k ∷ rest)) 0 (k ∷ rest) item) mark are.0))

game_text : (text : List ℕ) (tags : List Tag) (moves : List (List ℕ)) (p : IsPrinted text tags moves) → IsGameText text (record { tags = tags; moves = p.written })
game_text text tags moves p = record {
  items = p.whole.items;
  are_items = p.whole.are_items;
  says = p.whole.says;
  unmarked = unmarked text p.whole.items p.whole.are_items;
  front = p.front;
  ends_line = p.ends_line;
}

read_as : (set_up : Option Board) (before tags : List Tag) (moves : List (List ℕ)) (text : List ℕ) → AreTaken tags → AreTagsBefore set_up before → IsPrinted text (before ++ tags) moves → IsReadAs set_up tags moves text
read_as None before tags moves text taken are p =
    let q : IsPrinted text tags moves = subst (λ b. IsPrinted text (b ++ tags) moves) are p in
    record {
      game = record { tags = tags; moves = q.written };
      is_text = game_text text tags moves q;
      english = no_other tags taken;
      same_tags = refl;
      begins_there = rw (no_fen tags taken) refl;
      same_moves = q.same;
    }
read_as (Some board) before tags moves text taken are p =
    let first : Tag = record { name = codes "FEN"; value = fen_of board } in
    let q : IsPrinted text (first ∷ tags) moves = subst (λ b. IsPrinted text (b ++ tags) moves) are.1 p in
    record {
      game = record { tags = first ∷ tags; moves = q.written };
      is_text = game_text text (first ∷ tags) moves q;
      english = no_other tags taken;
      same_tags = (first, (refl, refl));
      begins_there = printed_spells board are.0;
      same_moves = q.same;
    }

pub text_of_draft : (set_up : Option Board) (tags : List Tag) (moves : List (List ℕ)) (here : Board) (old : Drafted) (text : List ℕ) → record { set_up = set_up; tags = tags; moves = moves; here = here } ≡ old
    → IsDraft set_up tags moves here → (before : List Tag) × (AreTagsBefore set_up before × IsPrinted text (before ++ tags) moves) → IsTextOf old text
text_of_draft set_up tags moves here old text view draft found =
    is_text_of set_up tags moves here old text view draft.led (read_as set_up found.0 tags moves text draft.taken found.1.0 found.1.1)
