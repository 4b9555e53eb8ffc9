-- Reading from the front as functions that compute: each answers what it read and the bytes behind
-- it, or the first fault. Nobody has to believe them: that they keep to the grammar is proved.
use Rattle.std.specs.Option.{option_map_or}
use Rattle.std.specs.Prelude.{◌≡◌, ℕ, zero, suc, ◌+◌, ◌-◌, ◌*◌, List, [], ◌∷◌, ◌++◌, length, Option, Some, None, Result, Ok, Err, Bool, true, false, ◌&&◌, ◌||◌, ◌==◌, nat_le, if◌then◌else◌}
use Rattle.draughts_board.specs.Board.{other}
use Rattle.draughts_board.specs.declared.pieces.Side.{Side}
use Rattle.draughts_board.specs.declared.pieces.Side.TheVariants.{Black, White}
use Rattle.fen_text.specs.declared.fault.Fault.{Fault}
use Rattle.fen_text.specs.declared.fault.Fault.TheVariants.{Letter, Number, End}
use Rattle.fen_text.specs.Grammar.{letter_of}
use Rattle.std.specs.Char.{is_ascii_digit}
use Rattle.fen_text.specs.Spelled.{Group}

infixl 10 ◌>>=◌
abbrev pub ◌>>=◌ : {A B : Type 0} → Result A Fault → (A → Result B Fault) → Result B Fault
(Ok x) >>= f = f x
(Err e) >>= f = Err e

-- what a function returned, seen by view, is what reading gives
abbrev pub Gives : {X Y : Type 0} → (X → Y) → Result X Fault → Result Y Fault → Type 0
Gives view (Ok x) read = read ≡ Ok (view x)
Gives view (Err e) read = read ≡ Err e

-- this byte
unfoldable pub byte_at : ℕ → List ℕ → Result (List ℕ) Fault
byte_at due [] = Err End
byte_at due (b ∷ behind) = (if b == due then Ok behind else Err (Letter (suc (length behind))))

-- a letter of either side
unfoldable pub side_at : List ℕ → Result (Side × List ℕ) Fault
side_at [] = Err End
side_at (b ∷ behind) =
    (if b == 66 then Ok (Black, behind)
    else (if b == 87 then Ok (White, behind) else Err (Letter (suc (length behind)))))

-- a number of two digits where two stand, or else of one
abbrev pub second_digit : ℕ → List ℕ → ℕ × List ℕ
second_digit tens [] = (tens, [])
second_digit tens (b ∷ behind) =
    (if is_ascii_digit b then (10 * tens + (b - 48), behind) else (tens, b ∷ behind))

-- a square that is no less than `least`
unfoldable pub square_at : ℕ → List ℕ → Result (ℕ × List ℕ) Fault
square_at least [] = Err End
square_at least (b ∷ behind) =
    let n = second_digit (b - 48) behind in
    (if is_ascii_digit b && (nat_le least n.0 && nat_le n.0 32) then Ok n
    else Err (Number (suc (length behind))))

abbrev pub king_at : List ℕ → Bool × List ℕ
king_at [] = (false, [])
king_at (b ∷ behind) = (if b == 75 then (true, behind) else (false, b ∷ behind))

-- the last square of a range, or the one square
unfoldable pub last_at : ℕ → List ℕ → Result (ℕ × List ℕ) Fault
last_at first [] = Ok (first, [])
last_at first (b ∷ behind) = (if b == 45 then square_at first behind else Ok (first, b ∷ behind))

unfoldable pub item_at : Side → List ℕ → Result (Group × List ℕ) Fault
item_at side bytes = do
  first ← square_at 1 (king_at bytes).1
  last ← last_at first.0 first.1
  Ok (record { side = side; king = (king_at bytes).0; first = first.0; last = last.0 }, last.1)

abbrev pub without_blanks : List ℕ → List ℕ
without_blanks [] = []
without_blanks (b ∷ behind) = (if b == 32 then without_blanks behind else b ∷ behind)

-- behind a comma and its blanks, where a comma stands
abbrev pub after_comma : List ℕ → Option (List ℕ)
after_comma [] = None
after_comma (b ∷ behind) = (if b == 44 then Some (without_blanks behind) else None)

-- an item and the items behind it, of which there are fewer than n
unfoldable pub items_within : ℕ → Side → List ℕ → Result (List Group × List ℕ) Fault
items_within zero side bytes = Err End
items_within (suc n) side bytes = do
  item ← item_at side bytes
  option_map_or (λ next. items_within n side next >>= λ more. Ok (
    item.0
        ∷ more.0,
    more.1,
  )) (after_comma item.1) (Ok (item.0 ∷ [], item.1))

-- there are at most as many items as bytes
abbrev pub items_at : Side → List ℕ → Result (List Group × List ℕ) Fault
items_at side bytes = items_within (length bytes) side bytes

abbrev pub begins_item : List ℕ → Bool
begins_item [] = false
begins_item (b ∷ behind) = b == 75 || is_ascii_digit b

unfoldable pub list_at : Side → List ℕ → Result (List Group × List ℕ) Fault
list_at side bytes = (if begins_item bytes then items_at side bytes else Ok ([], bytes))

abbrev pub without_stop : List ℕ → List ℕ
without_stop [] = []
without_stop (b ∷ behind) = (if b == 46 then behind else b ∷ behind)

abbrev pub end_at : List ℕ → Result (Unit {0}) Fault
end_at [] = Ok tt
end_at (b ∷ behind) = Err (Letter (suc (length behind)))

-- the whole text: the side to move and all groups
unfoldable pub form_at : List ℕ → Result (Side × List Group) Fault
form_at bytes = do
  mover ← side_at bytes
  opened ← byte_at 58 mover.1
  colour ← side_at opened
  front ← list_at colour.0 colour.1
  turned ← byte_at 58 front.1
  second ← byte_at (letter_of (other colour.0)) turned
  back ← list_at (other colour.0) second
  over ← end_at (without_stop back.1)
  Ok (mover.0, front.0 ++ back.0)
