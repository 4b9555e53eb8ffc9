use Rattle.std.proofs.Common.{◌≡◌, ℕ, ◌<◌, ◌^◌, ◌↔◌, inl, inr, length, Option, Some, None, refl, sym, subst, arith}
use Rattle.std.specs.Prelude.{MatchOption, IfSome}
use Rattle.draughts_board.specs.Board.{Board}
use Rattle.draughts_board.specs.declared.pieces.Side.{Side}
use Rattle.draughts_board.specs.Draughts.{draughts}
use Rattle.strategy_certificate.specs.declared.oracle.Answer.{Answer}
use Rattle.strategy_certificate.specs.Tables.{TableWins}
use Rattle.strategy_certificate.specs.Parts.{WinList, HasEntry}
use Rattle.strategy_certificate.specs.Certificates.{IsReached}
use Rattle.leaf_search.specs.Wins.{IsLowFor}
use Rattle.leaf_search.proofs.wins.shown_rank.Goals as goal

by_table : (answer : Board → Option Answer) (part : WinList) (p : Board) (side : Side) → side ≡ part.side → (HasEntry part.entries p → ⊥) → (o : Option ℕ)
    → ((r : ℕ) → (o ≡ Some r) ↔ TableWins draughts answer side r p) → IfSome o (λ r. r < 2 ^ 32)
    → MatchOption o ((r : ℕ) → IsReached part answer r p → ⊥) (λ r. IsReached part answer r p × IsLowFor (length part.entries) r)
by_table answer part p side is none None rank low = by
  where
    by : (r : ℕ) → IsReached part answer r p → ⊥
    by r (inl entry) = none (entry.0, entry.1.0)
    by r (inr table) = let found = (rank r).1 (subst (λ s. TableWins draughts answer s r p) (sym is) table) in cc
by_table answer part p side is none (Some r) rank low = (inr (subst (λ s. TableWins draughts answer s r p) is ((rank r).0 refl)), omega (arith, low))

pub returns-in-None : goal.returns-in-None
returns-in-None g c =
    by_table (g.O.Oracle.answer_at c.args.oracle.now) c.args.part.now c.args.p.now c.side.result c.side.ensures.value c.in-None.ensures
    c.table_rank.result c.table_rank.ensures.rank c.table_rank.ensures.low
