-- How a forest is stored as plain data, which a value that contracts see must be: nodes in
-- preorder, `None` at the end of each list. Nobody has to believe it.
use Rattle.std.specs.Prelude.{◌≡◌, ℕ, Bool, true, false, List, [], ◌∷◌, ◌++◌, Option, Some, None, refl, ◌⊎◌}
use Rattle.std.specs.Coded.{Coded, code_by, coded×, coded⊎, coded_ℕ, coded_bool, coded_list, coded_option}
use base.Stored.{coded_unit}
use Rattle.std.proofs.Common.{inl, inr, sym, ap, ◌∙◌, append_assoc, append-nil}
use Rattle.draughts_board.specs.Board.{Board}
use Rattle.draughts_board.specs.declared.pieces.Side.{Side}
use Rattle.draughts_board.specs.declared.pieces.Side.TheVariants.{Black, White}
use Rattle.draughts_board.specs.declared.pieces.Cell.{Cell}
use Rattle.draughts_board.specs.declared.pieces.Cell.TheVariants.{Empty, Man, King}
use Rattle.proof_numbers.specs.Known.{Known}
use Rattle.proof_tree.specs.declared.rows.Mark.{Mark}
use Rattle.proof_tree.specs.declared.rows.Mark.TheVariants.{Unexpanded, Expanded, Repeats}
use Rattle.proof_tree.specs.Forest.{Own, Forest, no_node, node}
use Rattle.proof_tree.specs.Sound.{TreeState}

abbrev pub from_side : Side → Bool
from_side Black = true
from_side White = false

abbrev pub to_side : Bool → Side
to_side true = Black
to_side false = White

pub side_back : (s : Side) → to_side (from_side s) ≡ s
side_back Black = refl
side_back White = refl

abbrev pub side_code : Coded Side
side_code = code_by Bool coded_bool from_side to_side side_back

abbrev pub from_cell : Cell → Unit {0} ⊎ (Bool × Bool)
from_cell Empty = inl tt
from_cell (Man s) = inr (true, from_side s)
from_cell (King s) = inr (false, from_side s)

abbrev pub to_cell : Unit {0} ⊎ (Bool × Bool) → Cell
to_cell (inl _) = Empty
to_cell (inr (true, b)) = Man (to_side b)
to_cell (inr (false, b)) = King (to_side b)

pub cell_back : (c : Cell) → to_cell (from_cell c) ≡ c
cell_back Empty = refl
cell_back (Man s) = ap Man (side_back s)
cell_back (King s) = ap King (side_back s)

abbrev pub cell_code : Coded Cell
cell_code =
    code_by (Unit {0} ⊎ (Bool × Bool))
    (coded⊎ coded_unit (coded× coded_bool coded_bool)) from_cell to_cell cell_back

abbrev pub board_code : Coded Board
board_code =
    code_by (List Cell × Side) (coded× (coded_list cell_code) side_code) (λ p. (p.cells, p.to_move))
    (λ t. record { cells = t.0; to_move = t.1 }) (λ _. refl)

abbrev pub known_code : Coded Known
known_code =
    code_by ((Bool × Bool) × (Bool × Bool))
    (coded× (coded× coded_bool coded_bool) (coded× coded_bool coded_bool))
    (λ f. ((f.black_wins, f.white_wins), (f.black_holds, f.white_holds)))
    (λ t. record {
      black_wins = t.0.0;
      white_wins = t.0.1;
      black_holds = t.1.0;
      white_holds = t.1.1;
    }) (λ _. refl)

abbrev pub from_mark : Mark → Bool × Bool
from_mark Unexpanded = (true, true)
from_mark Expanded = (true, false)
from_mark Repeats = (false, false)

abbrev pub to_mark : Bool × Bool → Mark
to_mark (true, true) = Unexpanded
to_mark (true, false) = Expanded
to_mark (false, b) = Repeats

pub mark_back : (m : Mark) → to_mark (from_mark m) ≡ m
mark_back Unexpanded = refl
mark_back Expanded = refl
mark_back Repeats = refl

abbrev pub mark_code : Coded Mark
mark_code = code_by (Bool × Bool) (coded× coded_bool coded_bool) from_mark to_mark mark_back

abbrev pub own_code : Coded Own
own_code =
    code_by ((ℕ × Board) × (Known × Mark))
    (coded× (coded× coded_ℕ board_code) (coded× known_code mark_code))
    (λ o. ((o.number, o.position), (o.facts, o.mark)))
    (λ t. record { number = t.0.0; position = t.0.1; facts = t.1.0; mark = t.1.1 }) (λ _. refl)

abbrev pub flat_forest : Forest → List (Option Own)
flat_forest no_node = None ∷ []
flat_forest (node own children others) = Some own ∷ (flat_forest children ++ flat_forest others)

-- read from the end: the lists read so far
abbrev pub put_node : Own → List Forest → List Forest
put_node own [] = []
put_node own (f ∷ []) = []
put_node own (f ∷ g ∷ more) = node own f g ∷ more

abbrev pub read_all : List (Option Own) → List Forest
read_all [] = []
read_all (None ∷ more) = no_node ∷ read_all more
read_all (Some own ∷ more) = put_node own (read_all more)

abbrev pub first_forest : List Forest → Forest
first_forest [] = no_node
first_forest (f ∷ more) = f

read-written : (f : Forest) (more : List (Option Own))
    → read_all (flat_forest f ++ more) ≡ f ∷ read_all more
read-written no_node more = refl
read-written (node own children others) more =
    ap (λ (ts : List (Option Own)). put_node own (read_all ts))
    (append_assoc (flat_forest children) (flat_forest others) more)
    ∙ ap (put_node own)
    (read-written children (flat_forest others ++ more)
    ∙ ap (λ (fs : List Forest). children ∷ fs) (read-written others more))

pub forest_back : (f : Forest) → first_forest (read_all (flat_forest f)) ≡ f
forest_back f =
    ap (λ (ts : List (Option Own)). first_forest (read_all ts)) (sym (append-nil (flat_forest f)))
    ∙ ap first_forest (read-written f [])

abbrev pub forest_code : Coded Forest
forest_code =
    code_by (List (Option Own)) (coded_list (coded_option own_code)) flat_forest
    (λ ts. first_forest (read_all ts)) forest_back

abbrev pub state_code : Coded TreeState
state_code =
    code_by (Forest × ℕ) (coded× forest_code coded_ℕ) (λ g. (g.forest, g.spare))
    (λ t. record { forest = t.0; spare = t.1 }) (λ _. refl)
