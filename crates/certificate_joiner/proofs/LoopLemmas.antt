-- The loops over the nodes of a strategy, from the last to the first.
use Rattle.std.proofs.Common.{◌≡◌, Option, ℕ, suc, ◌+◌, ◌≤◌, ◌<◌, ◌⊎◌, inl, inr, List, [], ◌∷◌, ◌++◌, refl, sym, ◌∙◌, ap, subst, map, take, drop, length, get_or, arith}
use Rattle.std.specs.Prelude.{Contains}
use Rattle.std.proofs.Math.Seq.{drop-cons}
use Rattle.std.proofs.lemmas.List.{take_more, map-append, drop_all, take-append-drop}
use Rattle.std.proofs.lemmas.List.Elements.{All-weaker, Contains-push_cases}
use Rattle.draughts_board.specs.Board.{Board}
use Rattle.draughts_board.specs.declared.pieces.Side.{Side}
use Rattle.draughts_board.proofs.Members.{Contains-map, Contains-from_map}
use Rattle.strategy_certificate.specs.declared.entries.TheConstants.{MOST_FOUND_RANK}
use Rattle.strategy_certificate.specs.Parts.{WinList, HoldList}
use Rattle.strategy_certificate.specs.Certificates.{due_positions}
use Rattle.certificate_joiner.specs.declared.steps.Aim.{Aim}
use Rattle.certificate_joiner.specs.declared.steps.Aim.TheVariants.{Win, Hold}
use Rattle.certificate_joiner.specs.declared.steps.Step.{Step}
use Rattle.certificate_joiner.specs.declared.steps.Reason.{Reason}
use Rattle.certificate_joiner.specs.declared.steps.Reason.TheVariants as reason
use Rattle.proof_tree.specs.Forest.{Node}
use Rattle.certificate_joiner.specs.Shelf.{Put}
use Rattle.certificate_joiner.proofs.Nodes.{position_of}
use Rattle.certificate_joiner.specs.Growing.{WinsAll, HoldsAllBut}
use Rattle.certificate_joiner.specs.Steps.{ByEachTable, PlaysTo, ShowsWinBy, JoinsWin, ShowsHoldBy, JoinsHold}
use Rattle.certificate_joiner.specs.Strategy.{ShowsBy, IsDueNode, IsDueAfter, due_nodes, StrategyGoesOn, IsStrategy}
use Rattle.certificate_joiner.proofs.Wins.{WinsAll-none}
use Rattle.certificate_joiner.proofs.Holds.{HoldsAllBut-none}

module _ (k : ℕ) (s : Side) where
  plays_within : (later more : List Board) → ((q : Board) → Contains later q → Contains more q) → (p : Board) (chosen : Option (List ℕ))
      → PlaysTo s later p chosen → PlaysTo s more p chosen
  plays_within later more within p chosen plays = record {
    lawful = plays.lawful;
    move = plays.move;
    leads = All-weaker (Contains later) (Contains more) within (due_positions p chosen) plays.leads;
  }

  -- a step shows as much where more positions come later
  shows_within : (before later more : List Board) → ((q : Board) → Contains later q → Contains more q) → (aim : Aim) (p : Board) (r : Reason) → ShowsBy aim k s before later p r → ShowsBy aim k s before more p r
  shows_within before later more within Win p reason.Table shows = shows
  shows_within before later more within Win p (reason.Shown one) shows = shows
  shows_within before later more within Win p (reason.Play chosen) shows = plays_within later more within p chosen shows
  shows_within before later more within Win p reason.Repeats shows = shows
  shows_within before later more within Hold p reason.Table shows = shows
  shows_within before later more within Hold p (reason.Shown one) shows = shows
  shows_within before later more within Hold p (reason.Play chosen) shows = plays_within later more within p chosen shows
  shows_within before later more within Hold p reason.Repeats shows = shows

module _ (k : ℕ) (puts : List Put) (aim : Aim) (s : Side) (f : ℕ → Node) (Has : ℕ → Type 0) (nodes : List ℕ) (strategy : IsStrategy k puts aim s f Has nodes) where
  abbrev pub place : ℕ → Board
  place n = position_of (f n)

  module _ (i n : ℕ) (more : i < length nodes) (is : n ≡ get_or nodes i n) where
    behind : drop i nodes ≡ n ∷ drop (i + 1) nodes
    behind =
        let next : suc i ≡ i + 1 = omega arith in
        drop-cons nodes i n more ∙ (ap (λ (m : ℕ). m ∷ drop (suc i) nodes) (sym is) ∙ ap (λ (m : ℕ). n ∷ drop m nodes) next)

    split : nodes ≡ take i nodes ++ n ∷ drop (i + 1) nodes
    split = sym (take-append-drop i nodes) ∙ ap (λ l. take i nodes ++ l) behind

    pub due_here : IsDueAfter k puts aim s f (take i nodes) n
    due_here = strategy.due (take i nodes) n (drop (i + 1) nodes) split

    pub due_path : (path : List Board) × IsDueNode k puts aim s path (f n)
    due_path = (due_here.0, due_here.1.1)

    module _ (step : Step) (goes : StrategyGoesOn k puts aim s (f n) step (due_nodes aim s (f n))) where
      places : (ms : List ℕ) → map position_of (map f ms) ≡ map place ms
      places [] = refl
      places (m ∷ ms) = ap (λ l. place m ∷ l) (places ms)

      goes_behind : (q : Board) → Contains (map position_of (due_nodes aim s (f n))) q → Contains (map place (drop (i + 1) nodes)) q
      goes_behind q there =
          let found = Contains-from_map position_of (due_nodes aim s (f n)) q there in
          let inside = strategy.closed i n more found.0 (subst (λ m. Contains (due_nodes aim s (f m)) found.0) is found.1.0) in
          subst (λ l. Contains l q) (places (drop (i + 1) nodes))
          (subst (Contains (map position_of (map f (drop (i + 1) nodes)))) found.1.1 (Contains-map position_of (map f (drop (i + 1) nodes)) found.0 inside))

      pub step_shows : ShowsBy aim k s (map place (take i nodes)) (map place (drop (i + 1) nodes)) step.position step.reason
      step_shows =
          shows_within k s (map place (take i nodes)) (map position_of (due_nodes aim s (f n))) (map place (drop (i + 1) nodes)) goes_behind aim step.position step.reason
          (goes.shows due_here.0 (map place (take i nodes)) due_here.1.1 due_here.1.0)

      pub place_now : step.position ∷ map place (drop (i + 1) nodes) ≡ map place (drop i nodes)
      place_now = ap (λ p. p ∷ map place (drop (i + 1) nodes)) goes.position ∙ sym (ap (map place) behind)

      pub opened : (q : Board) → Contains (map place (take (i + 1) nodes)) q → (step.position ≡ q) ⊎ Contains (map place (take i nodes)) q
      opened q there =
          let cut : map place (take (i + 1) nodes) ≡ map place (take i nodes) ++ place n ∷ [] =
          ap (map place) (take_more nodes i n more ∙ ap (λ (m : ℕ). take i nodes ++ m ∷ []) (sym is)) ∙ map-append place (take i nodes) (n ∷ []) in
          elim (Contains-push_cases (map place (take i nodes)) (place n) q (subst (λ ps. Contains ps q) cut there)) [ inl rest ↦ inr rest | inr same ↦ inl (goes.position ∙ same) ]

-- ---- the part so far, by each table

abbrev pub WinsFrom : ℕ → (ℕ → Node) → List ℕ → ℕ → ℕ → WinList → Type 0
WinsFrom k f nodes left n part = ByEachTable k (λ answer. WinsAll answer n (map (λ m. position_of (f m)) (drop left nodes)) part)

abbrev pub HoldsFrom : ℕ → (ℕ → Node) → List ℕ → ℕ → HoldList → Type 0
HoldsFrom k f nodes left part =
    ByEachTable k (λ answer. HoldsAllBut answer (map (λ m. position_of (f m)) (take left nodes)) (map (λ m. position_of (f m)) (drop left nodes)) part)

pub wins_none : (k : ℕ) (f : ℕ → Node) (nodes : List ℕ) (n : ℕ) (part : WinList) → part.entries ≡ [] → WinsFrom k f nodes (length nodes) n part
wins_none k f nodes n part none answer sound =
    subst (λ l. WinsAll answer n (map (λ m. position_of (f m)) l) part) (sym (drop_all (length nodes) nodes (omega arith))) (WinsAll-none answer n part none)

pub holds_none : (k : ℕ) (f : ℕ → Node) (nodes : List ℕ) (part : HoldList) → part.entries ≡ [] → HoldsFrom k f nodes (length nodes) part
holds_none k f nodes part none answer sound =
    subst (λ l. HoldsAllBut answer (map (λ m. position_of (f m)) (take (length nodes) nodes)) (map (λ m. position_of (f m)) l) part) (sym (drop_all (length nodes) nodes (omega arith)))
    (HoldsAllBut-none answer (map (λ m. position_of (f m)) (take (length nodes) nodes)) part none)

module _ (k : ℕ) (puts : List Put) (s : Side) (f : ℕ → Node) (Has : ℕ → Type 0) (nodes : List ℕ) (i n : ℕ) (more : i < length nodes) (is : n ≡ get_or nodes i n) (step : Step) where
  pub wins_one_more : (strategy : IsStrategy k puts Win s f Has nodes) → StrategyGoesOn k puts Win s (f n) step (due_nodes Win s (f n))
      → (rank : ℕ) (old new : WinList) → old.side ≡ s → MOST_FOUND_RANK ≤ rank → JoinsWin old step (rank + 1) new → WinsFrom k f nodes (i + 1) rank old → WinsFrom k f nodes i (rank + 1) new
  wins_one_more strategy goes rank old new mine high adds wins answer sound =
      subst (λ ps. WinsAll answer (rank + 1) ps new) (place_now k puts Win s f Has nodes strategy i n more is step goes)
      (adds k answer rank (map (λ m. position_of (f m)) (drop (i + 1) nodes)) sound high refl
      (subst (λ t. ShowsWinBy k t (map (λ m. position_of (f m)) (drop (i + 1) nodes)) step.position step.reason) (sym mine) (step_shows k puts Win s f Has nodes strategy i n more is step goes))
      (wins answer sound))

  pub holds_one_more : (strategy : IsStrategy k puts Hold s f Has nodes) → StrategyGoesOn k puts Hold s (f n) step (due_nodes Hold s (f n))
      → (old new : HoldList) → old.side ≡ s → JoinsHold old step new → HoldsFrom k f nodes (i + 1) old → HoldsFrom k f nodes i new
  holds_one_more strategy goes old new mine adds holds answer sound =
      subst (λ ps. HoldsAllBut answer (map (λ m. position_of (f m)) (take i nodes)) ps new) (place_now k puts Hold s f Has nodes strategy i n more is step goes)
      (adds k answer (map (λ m. position_of (f m)) (take (i + 1) nodes)) (map (λ m. position_of (f m)) (take i nodes)) (map (λ m. position_of (f m)) (drop (i + 1) nodes)) sound
      (opened k puts Hold s f Has nodes strategy i n more is step goes)
      (subst (λ t. ShowsHoldBy k t (map (λ m. position_of (f m)) (take i nodes)) (map (λ m. position_of (f m)) (drop (i + 1) nodes)) step.position step.reason) (sym mine)
      (step_shows k puts Hold s f Has nodes strategy i n more is step goes))
      (holds answer sound))
