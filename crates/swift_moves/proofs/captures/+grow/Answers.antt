use Rattle.std.proofs.Common.{◌≡◌, ◌+◌, ◌-◌, ◌<◌, ◌≤◌, ◌∙◌, ◌++◌, ◌∷◌, [], List, ℕ, length, arith, rules, true, false, sym, ap, subst, refl, length-append}
use Rattle.std.specs.Prelude.{Contains, flat_map}
use Rattle.std.specs.Int.Bits.{bit_and}
use Rattle.draughts_board.specs.Rules.{further_jumps, goes_on, contains, jumped}
use Rattle.draughts_board.specs.Play.{grown, is_done, IsCapturePrefix}
use Rattle.draughts_board.proofs.Growth.{room-left, longer-prefix, grown-when_done, grown-step, further_goes_on}
use Rattle.draughts_board.specs.Masks.{IsMaskOf, squares_of}
use Rattle.draughts_board.proofs.OnSquares.{squares_of-test}
use Rattle.swift_moves.proofs.Loops.{rest-turn, rest-end}
use Rattle.swift_moves.proofs.CaptureMasks.{Every, every_self, apart-on}
use Rattle.swift_moves.proofs.GrowSteps.{grown-longer}
use Rattle.swift_moves.proofs.captures.+grow.Goals as goal

pub returns-then-is_done : goal.returns-then-is_done
returns-then-is_done t c =
    let p = c.args.p.now in
    let path : List ℕ = c.args.trail.now in
    let done : is_done p path ≡ true = ap (is_done p) (sym c.path-path.ensures.value) ∙ sym c.is_done.ensures ∙ c.if-is_done.true in
    c.in_ok-push.ensures.items ∙ ap (λ l. c.args.found.now.items ++ l) (sym (grown-when_done p (13 - length path) path done))

pub loop-left-init : goal.loop-left-init
loop-left-init t c =
    let p = c.args.p.now in
    let path : List ℕ = c.args.trail.now in
    let all : squares_of c.jump_targets-left.result ≡ further_jumps p path = squares_of-test (goes_on p c.path-path.result.now) c.jump_targets-left.result c.jump_targets-left.ensures ∙ ap (further_jumps p) c.path-path.ensures.value in
    (refl, subst (Every (Contains (further_jumps p path))) (sym all) (every_self (further_jumps p path)))

pub extended-longer-requires-clause-room : goal.extended-longer-requires-clause-room
extended-longer-requires-clause-room t c =
    let p = c.args.p.now in
    let path : List ℕ = c.args.trail.now in
    let going : is_done p path ≡ false = ap (is_done p) (sym c.path-path.ensures.value) ∙ sym c.is_done.ensures ∙ c.if-is_done.false in
    let least : 1 ≤ length path = omega (arith, c.path-path.ensures.least) in
    room-left p path least c.path-path.ensures.most c.requires.lawful c.requires.prefix going

pub with_jump-requires-clause-jump : goal.with_jump-requires-clause-jump
with_jump-requires-clause-jump t c =
    let p = c.args.p.now in
    let path : List ℕ = c.args.trail.now in
    let there : Every (Contains (further_jumps p path)) (c.lowest-to.result ∷ squares_of (bit_and c.loop-left.left (c.loop-left.left - 1))) = subst (Every (Contains (further_jumps p path))) c.lowest-to.ensures.first c.loop-left.invariant.1 in
    apart-on p c.path-path.result.now c.lowest-to.result (ap (λ q. goes_on p q c.lowest-to.result) c.path-path.ensures.value ∙ further_goes_on p path c.lowest-to.result there.0)

pub grow-requires : goal.grow-requires
grow-requires t c =
    let p = c.args.p.now in
    let path : List ℕ = c.args.trail.now in
    let to : ℕ = c.lowest-to.result in
    let going : is_done p path ≡ false = ap (is_done p) (sym c.path-path.ensures.value) ∙ sym c.is_done.ensures ∙ c.if-is_done.false in
    let least : 1 ≤ length path = omega (arith, c.path-path.ensures.least) in
    let room : length path < 13 = room-left p path least c.path-path.ensures.most c.requires.lawful c.requires.prefix going in
    let there : Every (Contains (further_jumps p path)) (to ∷ squares_of (bit_and c.loop-left.left (c.loop-left.left - 1))) = subst (Every (Contains (further_jumps p path))) c.lowest-to.ensures.first c.loop-left.invariant.1 in
    let longer : IsCapturePrefix p c.extended-longer.result = subst (λ q. IsCapturePrefix p q) (sym c.extended-longer.ensures) (longer-prefix p path to least c.requires.prefix going there.0) in
    let long : length c.extended-longer.result ≡ length path + 1 = ap length c.extended-longer.ensures ∙ length-append path (to ∷ []) in
    let same : c.path-path.result.now ++ to ∷ [] ≡ c.extended-longer.result = ap (λ (q : List ℕ). q ++ to ∷ []) c.path-path.ensures.value ∙ sym c.extended-longer.ensures in
    let taken : IsMaskOf (contains (jumped c.extended-longer.result)) c.with_jump.result = subst (λ (q : List ℕ). IsMaskOf (contains (jumped q)) c.with_jump.result) same c.with_jump.ensures in
    (search rules, (c.requires.forces, (c.requires.lawful, (longer, taken))))

pub loop-left-preserved : goal.loop-left-preserved
loop-left-preserved t c =
    let p = c.args.p.now in
    let path : List ℕ = c.args.trail.now in
    let to : ℕ = c.lowest-to.result in
    let later : ℕ = bit_and c.loop-left.left (c.loop-left.left - 1) in
    let there : Every (Contains (further_jumps p path)) (to ∷ squares_of later) = subst (Every (Contains (further_jumps p path))) c.lowest-to.ensures.first c.loop-left.invariant.1 in (
      rest-turn (λ z. grown (12 - length path) p (path ++ z ∷ [])) c.loop-left.found.items c.grow.new.found.items _ c.loop-left.left to later c.lowest-to.ensures.first c.loop-left.invariant.0
          (c.in_ok-grow.ensures ∙ ap (λ q. c.loop-left.found.items ++ grown (13 - length q) p q) c.extended-longer.ensures ∙ ap (λ l. c.loop-left.found.items ++ l) (grown-longer p path to)),
      there.1,
    )

pub returns : goal.returns
returns t c =
    let p = c.args.p.now in
    let path : List ℕ = c.args.trail.now in
    let going : is_done p path ≡ false = ap (is_done p) (sym c.path-path.ensures.value) ∙ sym c.is_done.ensures ∙ c.if-is_done.false in
    let least : 1 ≤ length path = omega (arith, c.path-path.ensures.least) in
    let room : length path < 13 = room-left p path least c.path-path.ensures.most c.requires.lawful c.requires.prefix going in
    let all : squares_of c.jump_targets-left.result ≡ further_jumps p path = squares_of-test (goes_on p c.path-path.result.now) c.jump_targets-left.result c.jump_targets-left.ensures ∙ ap (further_jumps p) c.path-path.ensures.value in
    rest-end (λ z. grown (12 - length path) p (path ++ z ∷ [])) c.loop-left.found.items _ c.loop-left.left c.loop-left-test.false c.loop-left.invariant.0
    ∙ ap (λ zs. c.args.found.now.items ++ flat_map (λ z. grown (12 - length path) p (path ++ z ∷ [])) zs) all
    ∙ ap (λ l. c.args.found.now.items ++ l) (sym (grown-step p path going room))
