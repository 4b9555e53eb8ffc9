-- A text that opens is refused for want of memory alone.
use Rattle.std.proofs.Common.{◌≡◌, List, refl}
use Rattle.std.specs.Bool.{OnFalse}
use Rattle.std.specs.Prelude.{Result, Ok, Err}
use Rattle.opening_report.specs.Conversions.{of_openings, of_pdn}
use Rattle.opening_report.specs.declared.refusals.Refusal.TheVariants as refusal
use Rattle.pdn_openings.specs.Faults.{opening_wants_memory as is_opening_memory}
use Rattle.pdn_openings.specs.declared.opening.Opening.{Opening}
use Rattle.pdn_openings.specs.declared.refusal.OpeningRefusal.{OpeningRefusal}
use Rattle.pdn_openings.specs.declared.refusal.OpeningRefusal.TheVariants as opening
use Rattle.pdn_text.specs.Signs.{pdn_wants_memory as is_pdn_memory}
use Rattle.pdn_text.specs.declared.game.Game.{Game}
use Rattle.pdn_text.specs.declared.refusal.PdnRefusal.{PdnRefusal}
use Rattle.pdn_text.specs.declared.refusal.PdnRefusal.TheVariants as pdn

pub same_games : (a b : List Game) → ◌≡◌ {A = Result (List Game) PdnRefusal} (Ok a) (Ok b) → a ≡ b
same_games a b h = cc

no_games : (games : List Game) (r : PdnRefusal) → ◌≡◌ {A = Result (List Game) PdnRefusal} (Err r) (Ok games) → ⊥
no_games games r h = cc

no_openings : (openings : List Opening) (r : OpeningRefusal) → ◌≡◌ {A = Result (List Opening) OpeningRefusal} (Err r) (Ok openings) → ⊥
no_openings openings r h = cc

-- a text that is read is refused for want of memory alone, and so are games that have openings
pub pdn_only : (games : List Game) (r : PdnRefusal) → OnFalse (is_pdn_memory r) (◌≡◌ {A = Result (List Game) PdnRefusal} (Err r) (Ok games)) → of_pdn r ≡ refusal.Memory
pdn_only games (pdn.BadByte at) h = absurd (no_games games (pdn.BadByte at) h)
pdn_only games (pdn.OpenTag at) h = absurd (no_games games (pdn.OpenTag at) h)
pdn_only games (pdn.OpenComment at) h = absurd (no_games games (pdn.OpenComment at) h)
pdn_only games (pdn.OpenVariation at) h = absurd (no_games games (pdn.OpenVariation at) h)
pdn_only games (pdn.BadMove at) h = absurd (no_games games (pdn.BadMove at) h)
pdn_only games pdn.TooManyGames h = absurd (no_games games pdn.TooManyGames h)
pdn_only games (pdn.Memory error) h = refl

pub openings_only : (openings : List Opening) (r : OpeningRefusal) → OnFalse (is_opening_memory r) (◌≡◌ {A = Result (List Opening) OpeningRefusal} (Err r) (Ok openings))
    → of_openings r ≡ refusal.Memory
openings_only openings (opening.OtherGame game) h = absurd (no_openings openings (opening.OtherGame game) h)
openings_only openings (opening.Fen game fault) h = absurd (no_openings openings (opening.Fen game fault) h)
openings_only openings (opening.Illegal game ply at) h = absurd (no_openings openings (opening.Illegal game ply at) h)
openings_only openings (opening.Ambiguous game ply at) h = absurd (no_openings openings (opening.Ambiguous game ply at) h)
openings_only openings (opening.Memory error) h = refl
