-- Successors and wins on the turned board.
use Rattle.std.proofs.Common.{ℕ, zero, suc, inl, inr, ◌∙◌, ap, subst}
use Rattle.std.specs.Prelude.{Contains}
use Rattle.draughts_board.specs.declared.pieces.Side.{Side}
use Rattle.draughts_board.specs.declared.pieces.Side.TheVariants.{Black, White}
use Rattle.draughts_board.specs.declared.pieces.Value.{Value}
use Rattle.draughts_board.specs.declared.pieces.Value.TheVariants.{BlackWins, WhiteWins, Draw}
use Rattle.draughts_board.specs.Board.{Board, IsLawful, other, turned}
use Rattle.draughts_board.specs.Play.{successors_of}
use Rattle.draughts_board.specs.Draughts.{draughts}
use Rattle.draughts_board.specs.Game.{by_move, by_every_reply, WinsIn, Wins, HasValue}
use Rattle.draughts_board.specs.Laws.{turned_path, turned_value}
use Rattle.draughts_board.proofs.Truth.{other-other, empty_from_none}
use Rattle.draughts_board.proofs.Members.{Contains-nil}
use Rattle.draughts_board.proofs.After.{after_is_lawful}
use Rattle.draughts_board.proofs.Successors.{successor-of_path, path-to_successor}
use Rattle.draughts_board.proofs.Turned.{turned_is_lawful}
use Rattle.draughts_board.proofs.TurnedMoves.{legal-turned, after-turned, turned-twice}

-- what a move leads to is a position
pub successor-lawful : (p q : Board) → IsLawful p → Contains (successors_of p) q → IsLawful q
successor-lawful p q lawful h = let r = path-to_successor p q lawful h in subst IsLawful r.1.1 (after_is_lawful p r.0 lawful r.1.0)

pub successor-turned : (p q : Board) → IsLawful p → Contains (successors_of p) q → Contains (successors_of (turned p)) (turned q)
successor-turned p q lawful h =
    let r = path-to_successor p q lawful h in
    subst (Contains (successors_of (turned p))) (after-turned p r.0 lawful r.1.0 ∙ ap turned r.1.1)
    (successor-of_path (turned p) (turned_path r.0) (turned_is_lawful p lawful) (legal-turned p lawful r.0 r.1.0))

-- a successor of the turned board is a turned successor
pub successor-back : (p q : Board) → IsLawful p → Contains (successors_of (turned p)) q → Contains (successors_of p) (turned q)
successor-back p q lawful h = subst (λ b. Contains (successors_of b) (turned q)) (turned-twice p lawful) (successor-turned (turned p) q (turned_is_lawful p lawful) h)

pub WinsIn-turned : (s : Side) (n : ℕ) (p : Board) → IsLawful p → WinsIn draughts s n p → WinsIn draughts (other s) n (turned p)
WinsIn-turned s zero p lawful w =
    (ap other w.0, empty_from_none (successors_of (turned p)) (λ q h. Contains-nil (turned q) (subst (λ qs. Contains qs (turned q)) w.1 (successor-back p q lawful h))))
WinsIn-turned s (suc n) p lawful (inl w) = inl (WinsIn-turned s n p lawful w)
WinsIn-turned s (suc n) p lawful (inr (by_move q mine next won)) =
    inr (by_move (turned q) (ap other mine) (successor-turned p q lawful next) (WinsIn-turned s n q (successor-lawful p q lawful next) won))
WinsIn-turned s (suc n) p lawful (inr (by_every_reply theirs all)) =
    inr (by_every_reply (ap other theirs) (λ q h.
    let back : Contains (successors_of p) (turned q) = successor-back p q lawful h in
    let lawful_q : IsLawful q = successor-lawful (turned p) q (turned_is_lawful p lawful) h in
    subst (WinsIn draughts (other s) n) (turned-twice q lawful_q) (WinsIn-turned s n (turned q) (turned_is_lawful q lawful_q) (all (turned q) back))))

pub WinsIn-back : (s : Side) (n : ℕ) (p : Board) → IsLawful p → WinsIn draughts (other s) n (turned p) → WinsIn draughts s n p
WinsIn-back s n p lawful w =
    subst (WinsIn draughts s n) (turned-twice p lawful) (subst (λ t. WinsIn draughts t n (turned (turned p))) (other-other s) (WinsIn-turned (other s) n (turned p) (turned_is_lawful p lawful) w))

pub Wins-turned : (s : Side) (p : Board) → IsLawful p → Wins draughts s p → Wins draughts (other s) (turned p)
Wins-turned s p lawful w = (w.0, WinsIn-turned s w.0 p lawful w.1)

pub Wins-back : (s : Side) (p : Board) → IsLawful p → Wins draughts (other s) (turned p) → Wins draughts s p
Wins-back s p lawful w = (w.0, WinsIn-back s w.0 p lawful w.1)

pub HasValue-turned : (v : Value) (p : Board) → IsLawful p → HasValue draughts p v → HasValue draughts (turned p) (turned_value v)
HasValue-turned BlackWins p lawful h = Wins-turned Black p lawful h
HasValue-turned WhiteWins p lawful h = Wins-turned White p lawful h
HasValue-turned Draw p lawful h = (λ w. h.1 (Wins-back Black p lawful w), λ w. h.0 (Wins-back White p lawful w))

pub HasValue-back : (v : Value) (p : Board) → IsLawful p → HasValue draughts (turned p) (turned_value v) → HasValue draughts p v
HasValue-back BlackWins p lawful h = Wins-back Black p lawful h
HasValue-back WhiteWins p lawful h = Wins-back White p lawful h
HasValue-back Draw p lawful h = (λ w. h.1 (Wins-turned White p lawful w), λ w. h.0 (Wins-turned Black p lawful w))
