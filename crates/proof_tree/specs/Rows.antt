-- What the rows of the table mean. Nobody has to believe these definitions: that rows and forest
-- agree is proved.
use Rattle.std.specs.Prelude.{if◌then◌else◌, ◌≡◌, ◌≢◌, ℕ, zero, suc, ◌+◌, ◌-◌, ◌^◌, ◌<◌, ◌≤◌, false, List, [], ◌∷◌, map, length, take, drop, set, get_or, slice_get, Option, Some, None, is_some, IfSome, IsSome, IsSomeAnd, min, vec_len, vec_capacity}
use Rattle.draughts_board.specs.Board.{Board}
use Rattle.draughts_board.specs.declared.pieces.Side.{Side}
use Rattle.draughts_board.specs.declared.pieces.Side.TheVariants.{Black, White}
use Rattle.proof_numbers.specs.declared.numbers.Numbers.{Numbers}
use Rattle.proof_numbers.specs.declared.leaves.Child.{Child}
use Rattle.proof_numbers.specs.Facts.{known, no_facts}
use Rattle.proof_numbers.specs.Numbers.{refuted, leaf_numbers, mobility}
use Rattle.proof_tree.specs.declared.rows.NodeRow.{NodeRow}
use Rattle.proof_tree.specs.declared.stretches.Stretches.{Stretches}
use Rattle.proof_tree.specs.declared.rows.Mark.TheVariants.{Unexpanded, Expanded, Repeats}
use Rattle.proof_tree.specs.Changes.{stands_on, expand_own, new_nodes}
use Rattle.proof_tree.specs.Forest.{Own, Forest, no_node, Node, nodes, forest, numbers_at, node_numbers, value_of, size}
use Rattle.proof_tree.specs.Sound.{IsSoundForest}
use Rattle.std.specs.Map.{keys_of, values_of}
use Rattle.proof_tree.specs.declared.tree.TheConstants.{MOST_ROOTS}

-- what stands past the end: nothing that a reader has to believe depends on it
abbrev pub blank : NodeRow
blank =
    record {
      position = record { cells = []; to_move = Black };
      facts = no_facts;
      mark = Unexpanded;
      moves = 0;
      parent = None;
      first = 0;
      count = 0;
      black = refuted;
      white = refuted;
    }

abbrev pub row_at : List NodeRow → ℕ → NodeRow
row_at rows k = get_or rows k blank

abbrev pub own_of : ℕ → NodeRow → Own
own_of k row =
    record { number = k; position = row.position; facts = known row.facts; mark = row.mark }

abbrev pub blank_node : Node
blank_node = record { own = own_of 0 blank; children = no_node }

abbrev pub node_in : List Node → ℕ → Node
node_in xs k = get_or xs k blank_node

-- the children of the row among what stands for each row
abbrev pub slice_of : {A : Type 0} → NodeRow → List A → List A
slice_of row xs = take row.count (drop row.first xs)

-- the nodes that the rows from number k on mean
unfoldable pub nodes_from : ℕ → List NodeRow → List Node
nodes_from k [] = []
nodes_from k (row ∷ rows) =
    record {
      own = own_of k row;
      children = forest (take row.count (drop (row.first - suc k) (nodes_from (suc k) rows)));
    }
    ∷ nodes_from (suc k) rows

-- the forest of these rows with these roots
abbrev pub forest_of : List NodeRow → List ℕ → Forest
forest_of rows roots = forest (map (node_in (nodes_from 0 rows)) roots)

-- the numbers that a row keeps for the goal
abbrev pub kept_numbers : Side → NodeRow → Numbers
kept_numbers Black row = row.black
kept_numbers White row = row.white

-- the children of each row stand behind it, and name it as their parent
pub record AreLinked (rows : List NodeRow) : Type 0 where
  pub behind : (k : ℕ) → k < length rows → k < (row_at rows k).first
  pub within : (k : ℕ) → k < length rows
      → (row_at rows k).first + (row_at rows k).count ≤ length rows
  pub parents : (k i : ℕ) → k < length rows → i < (row_at rows k).count
      → (row_at rows ((row_at rows k).first + i)).parent ≡ Some k
  pub children : (k p : ℕ) → k < length rows → (row_at rows k).parent ≡ Some p
      → (p < k) × ((row_at rows p).first ≤ k) × (k < (row_at rows p).first + (row_at rows p).count)

-- the numbers that row k keeps are those that its children's kept numbers make
abbrev pub FitsRow : List NodeRow → Side → ℕ → Type 0
FitsRow rows goal k =
    kept_numbers goal (row_at rows k)
    ≡ numbers_at goal (own_of k (row_at rows k))
    (map (kept_numbers goal) (slice_of (row_at rows k) rows))

-- the positions from a row up to its root, nearest first; `m` bounds the steps
abbrev pub line : ℕ → List NodeRow → Option ℕ → List Board
line zero rows at = []
line (suc m) rows None = []
line (suc m) rows (Some k) = (row_at rows k).position ∷ line m rows (row_at rows k).parent

abbrev pub path : List NodeRow → Option ℕ → List Board
path rows at = line (length rows) rows at

-- there are fewer than 2^26 nodes below and at each row
abbrev pub AreSmall : List NodeRow → Type 0
AreSmall rows =
    (k : ℕ) → k < length rows → 1 + size (node_in (nodes_from 0 rows) k).children < 2 ^ 26

-- row k keeps the mobility of its position
abbrev pub IsCounted : List NodeRow → ℕ → Type 0
IsCounted rows k = (row_at rows k).moves ≡ mobility (row_at rows k).position

abbrev pub AreCounted : List NodeRow → Type 0
AreCounted rows = (k : ℕ) → k < length rows → IsCounted rows k

-- the second rows have the parents, children and moves of the first
pub record HaveSameLinks (rows after : List NodeRow) : Type 0 where
  pub as_long : length after ≡ length rows
  pub first : (k : ℕ) → (row_at after k).first ≡ (row_at rows k).first
  pub count : (k : ℕ) → (row_at after k).count ≡ (row_at rows k).count
  pub parent : (k : ℕ) → (row_at after k).parent ≡ (row_at rows k).parent
  pub moves : (k : ℕ) → (row_at after k).moves ≡ (row_at rows k).moves

-- nothing but kept numbers changed
pub record AreRekept (rows after : List NodeRow) : Type 0 where
  pub links : HaveSameLinks rows after
  pub own : (k : ℕ) → own_of k (row_at after k) ≡ own_of k (row_at rows k)

-- the numbers that row k keeps for both goals are those that its children's kept numbers make
pub record Fits (rows : List NodeRow) (k : ℕ) : Type 0 where
  pub black : FitsRow rows Black k
  pub white : FitsRow rows White k

-- the rows without a parent
abbrev pub if_root : Option ℕ → ℕ → List ℕ → List ℕ
if_root None k more = k ∷ more
if_root (Some p) k more = more

abbrev pub roots_from : ℕ → List NodeRow → List ℕ
roots_from k [] = []
roots_from k (row ∷ rows) = if_root row.parent k (roots_from (suc k) rows)

-- what every tree keeps: all rows keep right numbers, the roots are found by their positions, and
-- there is room for `spare` more
pub record IsTree (rows : List NodeRow) (entries : List (Board × ℕ))
    (space root_space spare : ℕ) : Type 0 where
  pub linked : AreLinked rows
  pub fits : (k : ℕ) → k < length rows → Fits rows k
  pub counted : AreCounted rows
  pub roots : values_of entries ≡ roots_from 0 rows
  pub keys : keys_of entries ≡ map (λ k. (row_at rows k).position) (values_of entries)
  pub sound : IsSoundForest (forest_of rows (values_of entries))
  pub few : length rows + spare < 2 ^ 26
  pub few_roots : length entries ≤ MOST_ROOTS
  pub room : length rows + spare ≤ space
  pub root_room : min spare (MOST_ROOTS - length entries) ≤ root_space

-- how many roots stand before the first that is unsettled
abbrev pub settled_front : List Node → ℕ
settled_front [] = 0
settled_front (root ∷ more) = (if is_some (value_of root) then suc (settled_front more) else 0)

-- the root at a place is settled, and so are all those of a stretch
abbrev pub IsSettledAt : List Node → ℕ → Type 0
IsSettledAt roots k = IsSomeAnd (slice_get roots k) (λ root. IsSome (value_of root))

abbrev pub AreSettled : List Node → ℕ → ℕ → Type 0
AreSettled roots from to = (k : ℕ) → from ≤ k → k < to → IsSettledAt roots k

-- What is noted of roots: of each a place up to which all from it on are settled, and one from which
-- on all up to it are.
pub record AreNoted (roots : List Node) (ends starts : List ℕ) : Type 0 where
  pub ahead : (k end : ℕ) → slice_get ends k ≡ Some end → AreSettled roots k end
  pub behind : (k start : ℕ) → slice_get starts k ≡ Some start → AreSettled roots start (suc k)

-- of how many more roots something can be noted without more memory
abbrev pub note_room : Stretches → ℕ
note_room s = min (vec_capacity s.ends - vec_len s.ends) (vec_capacity s.starts - vec_len s.starts)

-- what every tree keeps, with the place of its first unsettled root, what is noted of roots, and
-- room for what will be noted of more
pub record IsTreeFrom (rows : List NodeRow) (entries : List (Board × ℕ))
    (space root_space spare front : ℕ) (ends starts : List ℕ) (note_space : ℕ) : Type 0 where
  pub tree : IsTree rows entries space root_space spare
  pub settled : front ≡ settled_front (nodes (forest_of rows (values_of entries)))
  pub noted : AreNoted (nodes (forest_of rows (values_of entries))) ends starts
  pub note_room : min spare (MOST_ROOTS - length entries) ≤ note_space

-- row n is that of the node
pub record IsRowOf (n : ℕ) (row : NodeRow) (x : Node) : Type 0 where
  pub own : own_of n row ≡ x.own
  pub black : row.black ≡ node_numbers Black x
  pub white : row.white ≡ node_numbers White x
  pub children : row.count ≡ length (nodes x.children)
  pub child : (i : ℕ) → i < row.count
      → IfSome (slice_get (nodes x.children) i) (λ child. child.own.number ≡ row.first + i)
  pub within : row.first + row.count < 2 ^ 60

-- the row of a new node below the path
abbrev pub new_row : List Board → ℕ → ℕ → Child → NodeRow
new_row above parent number child =
    record {
      position = child.position;
      facts = child.facts;
      mark = (if stands_on above child.position then Repeats else Unexpanded);
      moves = child.moves;
      parent = Some parent;
      first = suc number;
      count = 0;
      black =
          leaf_numbers Black (known child.facts)
          (stands_on above child.position) child.position.to_move child.moves;
      white =
          leaf_numbers White (known child.facts)
          (stands_on above child.position) child.position.to_move child.moves;
    }

abbrev pub new_rows : List Board → ℕ → ℕ → List Child → List NodeRow
new_rows above parent next [] = []
new_rows above parent next (child ∷ more) =
    new_row above parent next child ∷ new_rows above parent (suc next) more

-- the rows after node n got these children
pub record AreExpanded (rows after : List NodeRow) (n : ℕ) (children : List Child) : Type 0 where
  pub as_long : length after ≡ length rows + length children
  pub old_own : (k : ℕ) → k < length rows → k ≢ n
      → own_of k (row_at after k) ≡ own_of k (row_at rows k)
  pub old_first : (k : ℕ) → k < length rows → k ≢ n → (row_at after k).first ≡ (row_at rows k).first
  pub old_count : (k : ℕ) → k < length rows → k ≢ n → (row_at after k).count ≡ (row_at rows k).count
  pub own : own_of n (row_at after n) ≡ expand_own n (own_of n (row_at rows n))
  pub first : (row_at after n).first ≡ length rows
  pub count : (row_at after n).count ≡ length children
  pub parent : (k : ℕ) → k < length rows → (row_at after k).parent ≡ (row_at rows k).parent
  pub new : (i : ℕ) → i < length children
      → own_of (length rows + i) (row_at after (length rows + i))
      ≡ (node_in (new_nodes (path rows (Some n)) (length rows) children) i).own
  pub leaf : (i : ℕ) → i < length children → (row_at after (length rows + i)).count ≡ 0
  pub behind : (i : ℕ) → i < length children
      → (row_at after (length rows + i)).first ≡ suc (length rows + i)
  pub parents : (i : ℕ) → i < length children → (row_at after (length rows + i)).parent ≡ Some n
  pub moves : (k : ℕ) → k < length rows → (row_at after k).moves ≡ (row_at rows k).moves
  pub counted : (i : ℕ) → i < length children → IsCounted after (length rows + i)

-- the rows after row n was marked as expanded, with these children
abbrev pub opened : List NodeRow → ℕ → NodeRow → ℕ → ℕ → List NodeRow
opened rows n row first count =
    set rows n (record row { mark = Expanded; first = first; count = count })

-- the row of a new root
abbrev pub root_row : ℕ → Child → NodeRow
root_row number root =
    record {
      position = root.position;
      facts = root.facts;
      mark = Unexpanded;
      moves = root.moves;
      parent = None;
      first = suc number;
      count = 0;
      black = leaf_numbers Black (known root.facts) false root.position.to_move root.moves;
      white = leaf_numbers White (known root.facts) false root.position.to_move root.moves;
    }
