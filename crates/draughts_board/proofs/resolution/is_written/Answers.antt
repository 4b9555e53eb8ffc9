use Rattle.std.proofs.Common.{◌≡◌, ◌∙◌, ◌==◌, ◌&&◌, Bool, true, false, sym, ap, List, ℕ}
use Rattle.draughts_board.specs.Rules.{first_square, last_square}
use Rattle.draughts_board.specs.Resolution.{is_written, lies_between}
use Rattle.draughts_board.proofs.Written.{written-test}
use Rattle.draughts_board.proofs.resolution.is_written.Goals as goal

-- the ends as the code tests them, and the rest
as_tested : (start : ℕ) (middle : List ℕ) (end : ℕ) (path : List ℕ) (b : Bool) → (first_square path == start && last_square path == end) ≡ b
    → (first_square path == start && last_square path == end && lies_between path middle) ≡ is_written start middle end path → (b && lies_between path middle) ≡ is_written start middle end path
as_tested start middle end path b e h = ap (λ t. t && lies_between path middle) (sym e) ∙ h

pub returns-then-has_ends : goal.returns-then-has_ends
returns-then-has_ends c =
    let path : List ℕ = c.args.m.now in
    let start : ℕ = c.args.«from» in
    let end : ℕ = c.args.to in
    let ends : (first_square path == start && last_square path == end) ≡ true =
    ap (λ (q : List ℕ). first_square q == start && last_square q == end) (sym c.path-path.ensures.value) ∙ sym c.has_ends.ensures ∙ c.if-has_ends.true in
    c.is_between_ends.ensures ∙ ap (λ (q : List ℕ). lies_between q c.args.middle.now) c.path-path.ensures.value
    ∙ as_tested start c.args.middle.now end path true ends (written-test start c.args.middle.now end path c.path-path.ensures.least)

pub returns-else-has_ends : goal.returns-else-has_ends
returns-else-has_ends c =
    let path : List ℕ = c.args.m.now in
    let start : ℕ = c.args.«from» in
    let end : ℕ = c.args.to in
    let ends : (first_square path == start && last_square path == end) ≡ false =
    ap (λ (q : List ℕ). first_square q == start && last_square q == end) (sym c.path-path.ensures.value) ∙ sym c.has_ends.ensures ∙ c.if-has_ends.false in
    c.if-has_ends.false ∙ as_tested start c.args.middle.now end path false ends (written-test start c.args.middle.now end path c.path-path.ensures.least)
