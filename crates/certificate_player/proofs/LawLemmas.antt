-- No play is longer than its first rank.
use Rattle.std.proofs.Common.{◌≡◌, ◌≢◌, ◌+◌, ◌≤◌, ◌<◌, ◌∷◌, ◌∙◌, ℕ, zero, suc, List, [], Option, Some, None, refl, sym, subst, ap, arith}
use Rattle.std.specs.Prelude.{All, Contains, IfSome}
use Rattle.std.proofs.lemmas.List.Elements.{All-contains}
use Rattle.draughts_board.specs.Board.{Board, other}
use Rattle.draughts_board.specs.Play.{successors_of}
use Rattle.draughts_board.specs.Game.{Holds, WinsIn}
use Rattle.draughts_board.specs.Draughts.{draughts}
use Rattle.draughts_board.proofs.Members.{Contains-head, Contains-tail}
use Rattle.draughts_board.proofs.Truth.{other-other}
use Rattle.strategy_certificate.specs.declared.oracle.Answer.{Answer}
use Rattle.certificate_player.specs.Laws.{LeadsIn, NeverStuck, WithinRank, WonAtLast}
use Rattle.certificate_player.specs.Plays.{IsPlay, Play, RankFalls, here, last_of, positions}

-- where the play stands is one of its positions
last_there : (p : Board) (later : List Board) → Contains (p ∷ later) (last_of p later)
last_there p [] = Contains-head p []
last_there p (q ∷ later) = Contains-tail p (last_of q later) (q ∷ later) (last_there q later)

pub never_stuck : NeverStuck
never_stuck v valid mine none =
    All-contains (Holds draughts v.side) (positions v) (here v) valid.holds (last_there v.certificate.position v.later)
    (0, (mine ∙ sym (other-other v.side), none))

falls_to : (before now : Option ℕ) (r : ℕ) → before ≡ Some r → RankFalls before now → (m : ℕ) × ((now ≡ Some m) × (m < r))
falls_to (Some q) (Some m) r is falls = (let e : q ≡ r = cc in (m, (refl, omega (arith, e, falls))))
falls_to (Some q) None r is falls = absurd falls
falls_to None now r is falls = cc

pub within_rank : WithinRank
within_rank answer zero r v w is leads = (r, (subst (λ (x : Play). x.rank ≡ Some r) leads is, omega arith))
within_rank answer (suc n) r v w is (u, (path, (goes, (valid, (falls, leads))))) =
    let first = falls_to v.rank u.rank r is falls in
    let more = within_rank answer n first.0 u w first.1.0 leads in
    (more.0, (more.1.0, omega (arith, first.1.1, more.1.1)))

pub won_at_last : WonAtLast
won_at_last v valid is = subst (λ (o : Option ℕ). IfSome o (λ r. WinsIn draughts v.side r (here v))) is valid.in_rank
