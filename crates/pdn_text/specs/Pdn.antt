-- What a whole text is: games, or refused.
use Rattle.std.specs.Prelude.{◌≡◌, ℕ, suc, ◌+◌, ◌≤◌, not, List, [], ◌∷◌, ◌++◌, length, drop, flat_map, option_to_list, if◌then◌else◌}
use Rattle.std.specs.Str.{bytes_eq}
use Rattle.std.specs.Prelude.{take}
use Rattle.std.specs.List.{position_or_len}
use Rattle.pdn_text.specs.Bytes.{is_skipped}
use Rattle.pdn_text.specs.Games.{Make}
use Rattle.pdn_text.specs.Grammar.{IsItemOfText, IsPdnFault, form_at}
use Rattle.pdn_text.specs.declared.TheConstants.{MOST_GAMES}
use Rattle.pdn_text.specs.declared.game.Game.{Game}
use Rattle.pdn_text.specs.declared.items.Item.{Item}
use Rattle.pdn_text.specs.declared.items.Sign.{Sign}
use Rattle.pdn_text.specs.declared.refusal.PdnRefusal.{PdnRefusal}
use Rattle.pdn_text.specs.declared.refusal.PdnRefusal.TheVariants.{TooManyGames}

-- where the items begin: behind the byte order mark, if one stands at the front
abbrev pub beginning : List ℕ → ℕ
beginning text = if bytes_eq (take 3 text) (239 ∷ 187 ∷ 191 ∷ []) then 3 else 0

-- behind the bytes from a place on that are items by themselves and say nothing
abbrev pub behind_skipped : List ℕ → ℕ → ℕ
behind_skipped text at = at + position_or_len (λ b. not (is_skipped b)) (drop at text)

-- Between two places the text is these items, one straight behind the other.
abbrev pub AreItemsOfText : List ℕ → ℕ → List Item → ℕ → Type 0
AreItemsOfText text at [] to = at ≡ to
AreItemsOfText text at (item ∷ items) to =
    IsItemOfText (form_at text at) at (drop at text) item × AreItemsOfText text item.end items to

-- what the items say of games, in order
abbrev pub signs : List Item → List Sign
signs items = flat_map (λ item. option_to_list item.sign) items

-- The text is items up to this place, and they make these games, which are not too many.
pub record ReadsTo (text : List ℕ) (place : ℕ) (items : List Item)
    (games : List Game) : Type 0 where
  pub are_items : AreItemsOfText text (beginning text) items place
  pub make : Make (signs items) games
  pub few : length games ≤ MOST_GAMES

-- the whole text is items, and they make these games
abbrev pub Reads : List ℕ → List Game → Type 0
Reads text games = (items : List Item) × ReadsTo text (length text) items games

-- The text is items up to a place before its end, and this fault stands there.
pub record StandsFirst (text : List ℕ) (fault : PdnRefusal) : Type 0 where
  pub place : ℕ
  pub items : List Item
  pub games : List Game
  pub before : ReadsTo text place items games
  pub inside : suc place ≤ length text
  pub stands : IsPdnFault (form_at text place) place (drop place text) fault

-- The text is items up to a place, they make as many games as a text may have, and the item there
-- begins one more.
pub record BeginsOneMore (text : List ℕ) : Type 0 where
  pub place : ℕ
  pub items : List Item
  pub games : List Game
  pub before : ReadsTo text place items games
  pub item : Item
  pub next : IsItemOfText (form_at text place) place (drop place text) item
  pub more : List Game
  pub make_more : Make (signs (items ++ item ∷ [])) more
  pub too_many : length more ≡ suc MOST_GAMES

-- the text is refused so
abbrev pub Refused : List ℕ → PdnRefusal → Type 0
Refused text TooManyGames = BeginsOneMore text
Refused text fault = StandsFirst text fault
