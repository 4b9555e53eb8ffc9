-- When a certificate is refused, and how.
use Rattle.std.specs.Prelude.{◌≡◌, ℕ, Bool, true, false, List, Option, map}
use Rattle.draughts_board.specs.Board.{Board}
use Rattle.strategy_certificate.specs.declared.oracle.Answer.{Answer}
use Rattle.strategy_certificate.specs.declared.certificates.Part.{Part}
use Rattle.strategy_certificate.specs.declared.certificates.Certificate.{Certificate}
use Rattle.strategy_certificate.specs.Certificates.{claim_of, due_claims, IsGoodPart}
use Rattle.certificate_checker.specs.declared.faults.EntryFault.TheVariants as fault
use Rattle.certificate_checker.specs.declared.faults.PartFault.{PartFault}
use Rattle.certificate_checker.specs.declared.faults.PartFault.TheVariants as wrong
use Rattle.certificate_checker.specs.declared.refusals.CheckRefusal.{CheckRefusal}
use Rattle.certificate_checker.specs.declared.refusals.CheckRefusal.TheVariants.{BadRank, BadMove, Missing, StuckHolder, NoRoot, ClaimNotMet, Memory}
use Rattle.certificate_checker.specs.Faults.{IsNthAfter, HasPartFault}

-- the nth part, counted from 1, is the first with a fault for the position, and has this one
abbrev pub HasFaultAt : (Board → Option Answer) → Board → List Part → ℕ → PartFault → Type 0
HasFaultAt answer p parts n fault =
    (one : Part) × (IsNthAfter (IsGoodPart answer p) parts n one × HasPartFault answer p one fault)

-- the parts are those that the claim needs
abbrev pub HasDueParts : Certificate → Type 0
HasDueParts c = map claim_of c.parts ≡ due_claims c.claim

-- the parts are the due ones, and the nth is the first with a fault, and has this one
abbrev pub IsPartRefused : (Board → Option Answer) → Certificate → ℕ → PartFault → Type 0
IsPartRefused answer c n fault = HasDueParts c × HasFaultAt answer c.position c.parts n fault

-- memory ran out
abbrev pub check_wants_memory : CheckRefusal → Bool
check_wants_memory (Memory e) = true
check_wants_memory other = false

-- The certificate is refused so by these answers: for its claim, or for the first part with a
-- fault, and there for the first entry with one, or else for its root. Want of memory is no fault
-- of it.
abbrev pub IsRefusal : (Board → Option Answer) → Certificate → CheckRefusal → Type 0
IsRefusal answer c ClaimNotMet = HasDueParts c → ⊥
IsRefusal answer c (StuckHolder n entry) =
    IsPartRefused answer c n (wrong.Entry entry fault.StuckHolder)
IsRefusal answer c (BadMove n entry) = IsPartRefused answer c n (wrong.Entry entry fault.BadMove)
IsRefusal answer c (Missing n entry successor) =
    IsPartRefused answer c n (wrong.Entry entry (fault.Missing successor))
IsRefusal answer c (BadRank n entry) = IsPartRefused answer c n (wrong.Entry entry fault.BadRank)
IsRefusal answer c (NoRoot n) = IsPartRefused answer c n wrong.NoRoot
IsRefusal answer c (Memory e) = ⊥

-- the refusal for a fault of the nth part
abbrev pub part_refusal_at : ℕ → PartFault → CheckRefusal
part_refusal_at n (wrong.Entry entry fault.StuckHolder) = StuckHolder n entry
part_refusal_at n (wrong.Entry entry fault.BadMove) = BadMove n entry
part_refusal_at n (wrong.Entry entry (fault.Missing successor)) = Missing n entry successor
part_refusal_at n (wrong.Entry entry fault.BadRank) = BadRank n entry
part_refusal_at n wrong.NoRoot = NoRoot n
