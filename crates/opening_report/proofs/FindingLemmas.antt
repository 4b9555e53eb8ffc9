-- The lines on a claim that was verified, and on one that was learnt, are lines.
use Rattle.std.proofs.Common.{ℕ, ◌<◌, ◌^◌, List, [], ◌∷◌, ◌++◌, refl}
use Rattle.std.specs.Prelude.{codes, decimal}
use Rattle.draughts_board.specs.declared.pieces.Side.TheVariants.{Black, White}
use Rattle.draughts_board.specs.Board.{Board, IsLawful}
use Rattle.strategy_certificate.specs.declared.claims.Claim.{Claim}
use Rattle.strategy_certificate.specs.declared.claims.Claim.TheVariants as claims
use Rattle.fen_text.specs.Printed.{fen_of}
use Rattle.certificate_text.specs.Lines.{claim_word}
use Rattle.shared_words.specs.Bytes.{Lacks}
use Rattle.shared_words.proofs.Numerals.{Lacks-decimal}
use Rattle.opening_report.specs.Lines.{IsLine}
use Rattle.opening_report.specs.Findings.{learnt_text, verified_text}
use Rattle.opening_report.proofs.LineLemmas.{IsLine-append}
use Rattle.fen_text.proofs.Plain.{Lacks-fen}
use Rattle.opening_report.proofs.RefusalLemmas.{end_is_line}

Lacks-claim_word : (c : Claim) → Lacks 10 (claim_word c)
Lacks-claim_word (claims.Win Black) = refl
Lacks-claim_word (claims.Win White) = refl
Lacks-claim_word (claims.Hold Black) = refl
Lacks-claim_word (claims.Hold White) = refl
Lacks-claim_word claims.Draw = refl

-- a position and a claim
claim_is_line : (p : Board) (c : Claim) → IsLawful p → IsLine (fen_of p ++ 32 ∷ (claim_word c ++ 10 ∷ []))
claim_is_line p c lawful =
    let word : List ℕ = claim_word c ++ 10 ∷ [] in
    IsLine-append (fen_of p) (32 ∷ word) (Lacks-fen 10 p refl lawful)
    (IsLine-append (32 ∷ []) word refl (IsLine-append (claim_word c) (10 ∷ []) (Lacks-claim_word c) end_is_line))

pub verified_is_line : (p : Board) (c : Claim) → IsLawful p → IsLine (verified_text p c)
verified_is_line p c lawful = IsLine-append (codes "verified ") (fen_of p ++ 32 ∷ (claim_word c ++ 10 ∷ [])) refl (claim_is_line p c lawful)

pub learnt_is_line : (n : ℕ) (p : Board) (c : Claim) → n < 2 ^ 64 → IsLawful p → IsLine (learnt_text n p c)
learnt_is_line n p c small lawful =
    let rest : List ℕ = fen_of p ++ 32 ∷ (claim_word c ++ 10 ∷ []) in
    IsLine-append (codes "learnt ") (decimal n ++ 32 ∷ rest) refl
    (IsLine-append (decimal n) (32 ∷ rest) (Lacks-decimal 10 n refl small) (IsLine-append (32 ∷ []) rest refl (claim_is_line p c lawful)))
