-- The one line that a run writes of what it found good.
use Rattle.std.specs.Prelude.{ℕ, List, [], ◌∷◌, ◌++◌, codes, decimal}
use Rattle.draughts_board.specs.Board.{Board}
use Rattle.strategy_certificate.specs.declared.claims.Claim.{Claim}
use Rattle.fen_text.specs.Printed.{fen_of}
use Rattle.certificate_text.specs.Lines.{claim_word}
use Rattle.opening_report.specs.Refusals.{numbered_twice}

-- `sound table K entries E`: a table of K pieces with E entries is sound
abbrev pub sound_text : ℕ → ℕ → List ℕ
sound_text pieces entries = numbered_twice (codes "sound table ") pieces (codes " entries ") entries

-- `verified F C`: the claim C on the position with the printed FEN F was verified
abbrev pub verified_text : Board → Claim → List ℕ
verified_text p c = codes "verified " ++ (fen_of p ++ 32 ∷ (claim_word c ++ 10 ∷ []))

-- `learnt N F C`: the journal has learnt the claim C on its root N, which has the printed FEN F
abbrev pub learnt_text : ℕ → Board → Claim → List ℕ
learnt_text n p c =
    codes "learnt " ++ (decimal n ++ 32 ∷ (fen_of p ++ 32 ∷ (claim_word c ++ 10 ∷ [])))
