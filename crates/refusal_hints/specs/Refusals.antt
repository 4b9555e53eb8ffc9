-- The byte of the source at which the text on a refusal begins.
use Rattle.std.specs.Prelude.{ℕ, Option, Some, None}
use Rattle.opening_report.specs.declared.refusals.Refusal.{Refusal}
use Rattle.opening_report.specs.declared.refusals.Refusal.TheVariants as refusal

-- the byte of the source that a refusal names, counted from 0, if it names one
abbrev pub fault_place : Refusal → Option ℕ
fault_place (refusal.PdnBadByte at) = Some at
fault_place (refusal.PdnOpenTag at) = Some at
fault_place (refusal.PdnOpenComment at) = Some at
fault_place (refusal.PdnOpenVariation at) = Some at
fault_place (refusal.PdnBadMove at) = Some at
fault_place (refusal.Illegal game ply at) = Some at
fault_place (refusal.Ambiguous game ply at) = Some at
fault_place other = None
