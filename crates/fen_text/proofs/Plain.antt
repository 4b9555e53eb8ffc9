-- Which bytes a printed FEN has, and that it tells positions apart.
use Rattle.std.proofs.Common.{◌≡◌, ℕ, ◌+◌, ◌≤◌, Bool, true, false, cond, List, [], ◌∷◌, ◌++◌, length, All, refl, sym, subst, arith, inl, inr}
use Rattle.std.specs.List.{flat_map, AllByRecursion}
use Rattle.std.proofs.lemmas.Bool.{cases_Bool, and_parts}
use Rattle.std.proofs.lemmas.List.Elements.{All-from_recursion}
use Rattle.draughts_board.specs.Board.{Board, IsLawful, belongs}
use Rattle.draughts_board.specs.declared.pieces.Side.{Side}
use Rattle.draughts_board.specs.declared.pieces.Side.TheVariants.{Black, White}
use Rattle.draughts_board.specs.declared.pieces.Cell.{Cell}
use Rattle.fen_text.specs.Grammar.{letter_of, Numeral, one, two, numeral_text, are_digits, mark, item_text, further_text, list_text, AreItems, IsItem}
use Rattle.std.specs.Char.{is_ascii_digit}
use Rattle.fen_text.specs.Spelled.{Spells}
use Rattle.fen_text.specs.Printed.{printed_item, printed_items, fen_of}
use Rattle.fen_text.specs.Laws.{is_printed_byte}
use Rattle.shared_words.specs.Bytes.{Lacks}
use Rattle.shared_words.proofs.LackingBytes.{Lacks-class}
use Rattle.fen_text.proofs.RoundTrip.{items_are, printed_spells}
use Rattle.fen_text.proofs.Verdict.{one_position}

abbrev pub IsPlain : List ℕ → Type 0
IsPlain text = AllByRecursion (λ b. is_printed_byte b ≡ true) text

plain_append : (a b : List ℕ) → IsPlain a → IsPlain b → IsPlain (a ++ b)
plain_append [] b ha hb = hb
plain_append (x ∷ a) b ha hb = (ha.0, plain_append a b ha.1 hb)

digit_is_plain : (b : ℕ) → is_ascii_digit b ≡ true → is_printed_byte b ≡ true
digit_is_plain b e = rw e refl

numeral_is_plain : (n : Numeral) → are_digits n ≡ true → IsPlain (numeral_text n)
numeral_is_plain (one a) d = (digit_is_plain a d, tt)
numeral_is_plain (two a b) d = (let p = and_parts (is_ascii_digit a) (is_ascii_digit b) d in (digit_is_plain a p.0, (digit_is_plain b p.1, tt)))

mark_is_plain : (king : Bool) → IsPlain (mark king)
mark_is_plain true = (refl, tt)
mark_is_plain false = tt

item_is_plain : (n : ℕ) (c : Cell) → IsItem (printed_item n c) → IsPlain (item_text (printed_item n c))
item_is_plain n c is = plain_append (mark (printed_item n c).king) (numeral_text (printed_item n c).first ++ []) (mark_is_plain (printed_item n c).king) (plain_append (numeral_text (printed_item n c).first) [] (numeral_is_plain (printed_item n c).first is.0.digits) tt)

-- each item is one that is printed
further_is_plain : (side : Side) (n : ℕ) (cells : List Cell) → 1 ≤ n → n + length cells ≤ 33 → IsPlain (flat_map further_text (printed_items side n cells))
further_is_plain side n [] low high = tt
further_is_plain side n (c ∷ cells) low high =
    let rest = further_is_plain side (n + 1) cells (omega arith) (omega arith) in
    elim (cases_Bool (belongs side c)) [
      | inl on ↦ (
          let all : AreItems (printed_item n c ∷ printed_items side (n + 1) cells) = subst (λ b. AreItems (cond b (printed_item n c ∷ printed_items side (n + 1) cells) (printed_items side (n + 1) cells))) on (items_are side n (c ∷ cells) low high) in
          subst (λ b. IsPlain (flat_map further_text (cond b (printed_item n c ∷ printed_items side (n + 1) cells) (printed_items side (n + 1) cells)))) (sym on)
          (plain_append (further_text (printed_item n c)) (flat_map further_text (printed_items side (n + 1) cells)) (refl, item_is_plain n c all.0) rest))
      | inr off ↦ subst (λ b. IsPlain (flat_map further_text (cond b (printed_item n c ∷ printed_items side (n + 1) cells) (printed_items side (n + 1) cells)))) (sym off) rest
    ]

list_is_plain : (side : Side) (n : ℕ) (cells : List Cell) → 1 ≤ n → n + length cells ≤ 33 → IsPlain (list_text (printed_items side n cells))
list_is_plain side n [] low high = tt
list_is_plain side n (c ∷ cells) low high =
    elim (cases_Bool (belongs side c)) [
      | inl on ↦ (
          let all : AreItems (printed_item n c ∷ printed_items side (n + 1) cells) = subst (λ b. AreItems (cond b (printed_item n c ∷ printed_items side (n + 1) cells) (printed_items side (n + 1) cells))) on (items_are side n (c ∷ cells) low high) in
          subst (λ b. IsPlain (list_text (cond b (printed_item n c ∷ printed_items side (n + 1) cells) (printed_items side (n + 1) cells)))) (sym on)
          (plain_append (item_text (printed_item n c)) (flat_map further_text (printed_items side (n + 1) cells)) (item_is_plain n c all.0) (further_is_plain side (n + 1) cells (omega arith) (omega arith))))
      | inr off ↦ subst (λ b. IsPlain (list_text (cond b (printed_item n c ∷ printed_items side (n + 1) cells) (printed_items side (n + 1) cells)))) (sym off) (list_is_plain side (n + 1) cells (omega arith) (omega arith))
    ]

letter_is_plain : (side : Side) → is_printed_byte (letter_of side) ≡ true
letter_is_plain Black = refl
letter_is_plain White = refl

text_is_plain : (p : Board) → IsLawful p → IsPlain (fen_of p)
unfolding fen_of
text_is_plain p lawful =
    let full = lawful.squares in
    let white = list_is_plain White 1 p.cells (omega arith) (omega arith) in
    let black = list_is_plain Black 1 p.cells (omega arith) (omega arith) in
    (letter_is_plain p.to_move, (refl, (refl, plain_append (list_text (printed_items White 1 p.cells)) _ white (refl, (refl, plain_append (list_text (printed_items Black 1 p.cells)) [] black tt)))))

pub printed_is_plain : (p : Board) → IsLawful p → All (λ b. is_printed_byte b ≡ true) (fen_of p)
printed_is_plain p lawful = All-from_recursion (λ b. is_printed_byte b ≡ true) (fen_of p) (text_is_plain p lawful)

-- a byte that is none of a printed FEN stands in none
pub Lacks-fen : (byte : ℕ) (p : Board) → is_printed_byte byte ≡ false → IsLawful p → Lacks byte (fen_of p)
Lacks-fen byte p other lawful = Lacks-class is_printed_byte byte (fen_of p) other (text_is_plain p lawful)

pub printed_tells_apart : (p q : Board) → IsLawful p → IsLawful q → fen_of p ≡ fen_of q → p ≡ q
printed_tells_apart p q lp lq e = one_position (fen_of p) p q (printed_spells p lp) (subst (λ t. Spells t q) (sym e) (printed_spells q lq))
