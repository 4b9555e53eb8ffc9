-- What is known at sight is one thing, by the table.
use mathlib.Core.Bool.{Bool-set}
use Rattle.std.proofs.Common.{◌≡◌, ℕ, inl, inr, List, [], ◌∷◌, map, get_or, refl, ap, sym, ◌∙◌, subst, zero, suc}
use Rattle.std.proofs.Math.Logic.{∥∥₁_elim, ∥∥₁_map}
use Rattle.std.specs.Prelude.{◌↔◌, Bool, true, false, IsTrue, IsSome, is_some, Contains, All, Option, Some, None}
use Rattle.std.proofs.lemmas.List.Elements.{Contains-get_or}
use Rattle.draughts_board.specs.declared.pieces.Side.{Side}
use Rattle.draughts_board.specs.declared.pieces.Side.TheVariants.{Black, White}
use Rattle.draughts_board.specs.declared.pieces.Value.TheVariants as value
use Rattle.draughts_board.specs.Board.{Board, IsLawful, other}
use Rattle.draughts_board.specs.Draughts.{draughts}
use Rattle.draughts_board.specs.Game.{Wins, Holds, ShowsWin, ShowsHold, is_at_sight}
use Rattle.draughts_board.specs.Play.{successors_of}
use Rattle.draughts_board.proofs.Successors.{draughts_takes_turns, is_lawful-true, lawful-from_test}
use Rattle.draughts_board.proofs.Truth.{other-other}
use Rattle.strategy_certificate.specs.declared.oracle.Answer.{Answer}
use Rattle.strategy_certificate.specs.declared.oracle.Answer.TheVariants.{Win, Loss, Draw}
use Rattle.strategy_certificate.specs.Tables.{IsSoundTable, TableWins}
use Rattle.strategy_certificate.proofs.Tables.{TableWins-wins, TableHolds-holds}
use Rattle.proof_numbers.specs.declared.leaves.Child.{Child}
use Rattle.proof_numbers.specs.Facts.{known}
use Rattle.proof_numbers.specs.Known.{Known, win_known, value_known, nothing_known}
use Rattle.proof_numbers.specs.Sight.{AreFactsAtSight}
use Rattle.certificate_checker.specs.Sight.{IsAtSight}
use Rattle.certificate_checker.proofs.SightLemmas.{answered_at_sight, blocked_at_sight, not_at_sight, won_facts, drawn_facts, unknown_facts}
use Rattle.bench_core.proofs.Lists.{Contains-map}

-- ---- what a position at sight shows, at any depth

pub win_seen : (k : ℕ) (s : Side) (d : ℕ) (p : Board) → is_at_sight draughts k p ≡ true → Wins draughts s p → ShowsWin draughts k s d p
win_seen k s zero p sight wins = (sight, wins)
win_seen k s (suc d) p sight wins = inl (sight, wins)

pub hold_seen : (k : ℕ) (s : Side) (d : ℕ) (p : Board) → is_at_sight draughts k p ≡ true → Holds draughts s p → ShowsHold draughts k s d [] p
hold_seen k s zero p sight holds = inr (sight, holds)
hold_seen k s (suc d) p sight holds = inl (inr (sight, holds))

-- ---- the facts of a position

module _ (k : ℕ) (answer : Board → Option Answer) (sound : IsSoundTable draughts k answer) (p : Board) (lawful : IsLawful p) where
  abbrev Facts : Type 0
  Facts = (facts : Known) × AreFactsAtSight k p facts

  won : (s : Side) (r : ℕ) → TableWins draughts answer s r p → IsSome (answer p) → Facts
  won s r shown some = (win_known s, won_facts k p s (answered_at_sight k answer sound p some) (r, TableWins-wins draughts draughts_takes_turns k answer sound s r p shown))

  by_moves : (qs : List Board) → successors_of p ≡ qs → is_some (answer p) ≡ false → Facts
  by_moves [] none unanswered = (win_known (other p.to_move), won_facts k p (other p.to_move) (blocked_at_sight k p none) (0, (sym (other-other p.to_move), none)))
  by_moves (q ∷ qs) some unanswered = (nothing_known, unknown_facts k p (not_at_sight k answer sound p lawful unanswered (λ none. cc)))

  by_answer : (o : Option Answer) → answer p ≡ o → Facts
  by_answer None is = by_moves (successors_of p) refl (ap is_some is)
  by_answer (Some (Win r)) is = won p.to_move r (inl (refl, is)) (ap is_some is)
  by_answer (Some (Loss r)) is = won (other p.to_move) r (inr (sym (other-other p.to_move), is)) (ap is_some is)
  by_answer (Some Draw) is = (
    value_known value.Draw,
    drawn_facts k p (answered_at_sight k answer sound p (ap is_some is))
        (TableHolds-holds draughts draughts_takes_turns k answer sound Black p (inr is))
        (TableHolds-holds draughts draughts_takes_turns k answer sound White p (inr is)),
  )

  -- there are some
  pub facts_there : Facts
  facts_there = by_answer (answer p) refl

-- ---- facts that there are, taken back

one_way : (Y : Type 0) (a b : Bool) → (IsTrue a ↔ Y) → ∥ IsTrue b ↔ Y ∥₁ → IsTrue b ↔ Y
one_way Y a b one some = (
  (λ t. one.0 (∥∥₁_elim some (Bool-set a true) (λ x. one.1 (x.0 t)))),
  (λ y. ∥∥₁_elim some (Bool-set b true) (λ x. x.1 y)),
)

facts_back : (k : ℕ) (p : Board) (a b : Known) → AreFactsAtSight k p a → ∥ AreFactsAtSight k p b ∥₁ → AreFactsAtSight k p b
facts_back k p a b one some = record {
  black_wins = one_way (ShowsWin draughts k Black 0 p) a.black_wins b.black_wins one.black_wins (∥∥₁_map some (λ x. x.black_wins));
  white_wins = one_way (ShowsWin draughts k White 0 p) a.white_wins b.white_wins one.white_wins (∥∥₁_map some (λ x. x.white_wins));
  black_holds = one_way (ShowsHold draughts k Black 0 [] p) a.black_holds b.black_holds one.black_holds (∥∥₁_map some (λ x. x.black_holds));
  white_holds = one_way (ShowsHold draughts k White 0 [] p) a.white_holds b.white_holds one.white_holds (∥∥₁_map some (λ x. x.white_holds));
}

-- the children of a lawful position have their facts at sight, if that is so at all
pub children_back : (k : ℕ) (answer : Board → Option Answer) → IsSoundTable draughts k answer → (p : Board) → IsLawful p → (children : List Child) → map (λ child. child.position) children ≡ successors_of p
    → ∥ All (IsAtSight k) children ∥₁ → All (IsAtSight k) children
children_back k answer sound p lawful children are some i d low =
    let child = get_or children i d in
    let next : Contains (successors_of p) child.position = subst (λ qs. Contains qs child.position) are (Contains-map (λ (c : Child). c.position) children child (Contains-get_or children i d low)) in
    let good = lawful-from_test child.position (draughts_takes_turns.stays_position p child.position (is_lawful-true p lawful) next) in
    let one = facts_there k answer sound child.position good in
    facts_back k child.position one.0 (known child.facts) one.1 (∥∥₁_map some (λ all. all i d low))
