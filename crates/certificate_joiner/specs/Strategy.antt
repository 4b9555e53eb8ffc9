-- Which nodes belong to a strategy, and how it goes on from them. Nobody has to believe it.
use Rattle.std.specs.Prelude.{◌≡◌, ◌⊎◌, ℕ, ◌+◌, ◌<◌, ◌≤◌, List, [], ◌∷◌, ◌++◌, length, drop, slice_index_or, Contains, All, Bool, true, false, sum_by, map, Option, Some, None, IsSome, if◌then◌else◌}
use Rattle.draughts_board.specs.Board.{Board, IsLawful, other, same_side}
use Rattle.draughts_board.specs.Game.{ShowsWin, ShowsHold}
use Rattle.draughts_board.specs.Draughts.{draughts}
use Rattle.draughts_board.specs.declared.pieces.Side.{Side}
use Rattle.strategy_certificate.specs.declared.claims.Claim.{Claim}
use Rattle.strategy_certificate.specs.declared.claims.Claim.TheVariants as claims
use Rattle.strategy_certificate.specs.declared.certificates.Part.{Part}
use Rattle.strategy_certificate.specs.declared.certificates.Part.TheVariants as part
use Rattle.strategy_certificate.specs.declared.certificates.Certificate.{Certificate}
use Rattle.strategy_certificate.specs.Claims.{TellsWin, TellsHold}
use Rattle.proof_numbers.specs.Known.{Known, knows_win, knows_hold}
use Rattle.proof_numbers.specs.Numbers.{is_zero}
use Rattle.proof_tree.specs.declared.rows.Mark.{Mark}
use Rattle.proof_tree.specs.declared.rows.Mark.TheVariants.{Unexpanded, Expanded, Repeats}
use Rattle.proof_tree.specs.Forest.{Forest, Node, nodes, node_at, node_numbers, size}
use Rattle.proof_tree.specs.Rows.{blank_node}
use Rattle.proof_tree.specs.Sound.{EachNode, IsSoundNode}
use Rattle.certificate_joiner.specs.declared.steps.Aim.{Aim}
use Rattle.certificate_joiner.specs.declared.steps.Aim.TheVariants.{Win, Hold}
use Rattle.certificate_joiner.specs.declared.steps.Step.{Step}
use Rattle.certificate_joiner.specs.declared.steps.Reason.{Reason}
use Rattle.certificate_joiner.specs.Shelf.{Put}
use Rattle.certificate_joiner.specs.Certified.{IsShelved, IsCertified}
use Rattle.certificate_joiner.specs.Steps.{IsUsable, ShowsWinBy, ShowsHoldBy, IsDistinctPart}

-- ---- nodes by their numbers

abbrev pub or_blank : Option Node → Node
or_blank None = blank_node
or_blank (Some x) = x

-- the node with this number, where there is one
abbrev pub named : Forest → ℕ → Node
named roots n = or_blank (node_at n roots)

abbrev pub IsNamed : Forest → ℕ → Type 0
IsNamed roots n = IsSome (node_at n roots)

-- P holds of the node and of each node below it
abbrev pub FromNode : (List Board → Node → Type 0) → List Board → Node → Type 0
FromNode P path x = P path x × EachNode P (x.own.position ∷ path) x.children

-- ---- what is shown

-- the number that shows it is 0
abbrev pub is_due : Aim → Side → Node → Bool
is_due Win s x = is_zero (node_numbers s x).proof
is_due Hold s x = is_zero (node_numbers (other s) x).disproof

abbrev pub knows : Aim → Side → Known → Bool
knows Win s facts = knows_win s facts
knows Hold s facts = knows_hold s facts

abbrev pub is_repeating : Mark → Bool
is_repeating Repeats = true
is_repeating Unexpanded = false
is_repeating Expanded = false

-- by the part the side wins, or holds
abbrev pub part_shows : Aim → Side → Part → Bool
part_shows Win s (part.Win list) = same_side list.side s
part_shows Win s (part.Hold list) = false
part_shows Hold s (part.Win list) = same_side list.side s
part_shows Hold s (part.Hold list) = same_side list.side s

-- a part of one of these certificates that shows it
pub record IsShowingPart (aim : Aim) (s : Side) (shown : List Certificate) (one : Part) : Type 0 where
  pub among : (c : Certificate) × (Contains shown c × Contains c.parts one)
  pub shows : part_shows aim s one ≡ true
  pub distinct : IsDistinctPart one

-- no part of these certificates shows it
abbrev pub ShowsNone : Aim → Side → Certificate → Type 0
ShowsNone aim s c = All (λ one. part_shows aim s one ≡ false) c.parts

abbrev pub ShowsBy : Aim → ℕ → Side → List Board → List Board → Board → Reason → Type 0
ShowsBy Win k s before later p reason = ShowsWinBy k s later p reason
ShowsBy Hold k s before later p reason = ShowsHoldBy k s before later p reason

-- the claim that the side wins, or holds
abbrev pub claim_sought : Aim → Side → Claim
claim_sought Win s = claims.Win s
claim_sought Hold s = claims.Hold s

-- a node of the strategy, below the positions of the path
pub record IsDueNode (k : ℕ) (puts : List Put) (aim : Aim) (s : Side) (path : List Board) (x : Node) : Type 0 where
  pub sound : FromNode IsSoundNode path x
  pub certified : FromNode (λ path. IsCertified k puts) path x
  pub due : is_due aim s x ≡ true

-- the claim says or implies it
abbrev pub Tells : Aim → Side → Claim → Type 0
Tells Win s claim = TellsWin s claim
Tells Hold s claim = TellsHold s claim

abbrev pub StandsAtSight : Aim → ℕ → Side → Board → Type 0
StandsAtSight Win k s p = ShowsWin draughts k s 0 p
StandsAtSight Hold k s p = ShowsHold draughts k s 0 [] p

-- it is known of the position, at sight or by one of these certificates
pub record IsKnown (k : ℕ) (aim : Aim) (s : Side) (p : Board) (shown : List Certificate) : Type 0 where
  pub lawful : IsLawful p
  pub shelved : All (IsShelved k p) shown
  pub fact : StandsAtSight aim k s p ⊎ ((c : Certificate) × (Contains shown c × Tells aim s c.claim))

-- ---- how a strategy goes on

-- how many nodes stand from here down
abbrev pub weight : Node → ℕ
weight x = 1 + size x.children

abbrev pub weights : List Node → ℕ
weights xs = sum_by weight xs

-- the first of these nodes that is due
abbrev pub first_due : Aim → Side → List Node → List Node
first_due aim s [] = []
first_due aim s (x ∷ xs) = (if is_due aim s x then x ∷ [] else first_due aim s xs)

-- The nodes at which the strategy goes on: where the side moves the first child that is due, else every child.
abbrev pub due_nodes : Aim → Side → Node → List Node
due_nodes aim s x =
    (if knows aim s x.own.facts then []
    else (if is_repeating x.own.mark then []
    else (if same_side x.own.position.to_move s then first_due aim s (nodes x.children) else nodes x.children)))

-- the step at a node, after which the strategy goes on at these nodes
pub record StrategyGoesOn (k : ℕ) (puts : List Put) (aim : Aim) (s : Side) (x : Node) (step : Step) (added : List Node) : Type 0 where
  pub position : step.position ≡ x.own.position
  pub usable : IsUsable s step.reason
  pub shows : (path before : List Board) → IsDueNode k puts aim s path x → ((q : Board) → Contains path q → Contains before q)
      → ShowsBy aim k s before (map (λ y. y.own.position) added) step.position step.reason

-- the list with the numbers of these nodes behind it
abbrev pub Added : (ℕ → Node) → (ℕ → Type 0) → List ℕ → List ℕ → List Node → Type 0
Added f Has old new xs = (ids : List ℕ) × ((new ≡ old ++ ids) × (All Has ids × (map f ids ≡ xs)))

-- the positions of the nodes with these numbers
abbrev pub places : (ℕ → Node) → List ℕ → List Board
places f ns = map (λ n. (f n).own.position) ns

-- the node is one of the strategy, and the position of each node above it stands before it
abbrev pub IsDueAfter : ℕ → List Put → Aim → Side → (ℕ → Node) → List ℕ → ℕ → Type 0
IsDueAfter k puts aim s f before n =
    (path : List Board) × (((q : Board) → Contains path q → Contains (places f before) q) × IsDueNode k puts aim s path (f n))

-- Numbers of nodes, the root's first: each is of the strategy if the root is, and the nodes at which one of the first i
-- goes on stand behind it.
pub record Collected (aim : Aim) (s : Side) (f : ℕ → Node) (Has : ℕ → Type 0) (root : ℕ) (ns : List ℕ) (i : ℕ) : Type 0 where
  pub within : i ≤ length ns
  pub begins : (rest : List ℕ) × (ns ≡ root ∷ rest)
  pub there : All Has ns
  pub due : (k : ℕ) (puts : List Put) → IsDueNode k puts aim s [] (f root)
      → (before : List ℕ) (n : ℕ) (after : List ℕ) → ns ≡ before ++ n ∷ after → IsDueAfter k puts aim s f before n
  pub closed : (j : ℕ) (d : ℕ) → j < i → (x : Node) → Contains (due_nodes aim s (f (slice_index_or ns j d))) x
      → Contains (map f (drop (j + 1) ns)) x
  pub lighter : weights (map f (drop i ns)) + i ≤ weight (f root)

-- Numbers of nodes of a strategy: each leads on to nodes behind it.
pub record IsStrategy (k : ℕ) (puts : List Put) (aim : Aim) (s : Side) (f : ℕ → Node) (Has : ℕ → Type 0) (ns : List ℕ) : Type 0 where
  pub there : All Has ns
  pub due : (before : List ℕ) (n : ℕ) (after : List ℕ) → ns ≡ before ++ n ∷ after → IsDueAfter k puts aim s f before n
  pub closed : (j : ℕ) (d : ℕ) → j < length ns → (x : Node) → Contains (due_nodes aim s (f (slice_index_or ns j d))) x
      → Contains (map f (drop (j + 1) ns)) x
