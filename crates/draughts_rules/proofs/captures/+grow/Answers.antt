use Rattle.std.proofs.Common.{◌≡◌, ◌+◌, ◌-◌, ◌<◌, ◌∙◌, ◌++◌, ◌∷◌, [], List, ℕ, length, take, arith, rules, true, false, sym, ap, subst, inl, length-append}
use Rattle.std.specs.Prelude.{Contains, flat_map, IfSome}
use Rattle.std.proofs.lemmas.List.{append-nil, take_all}
use Rattle.draughts_board.specs.Rules.{further_jumps}
use Rattle.draughts_board.specs.Play.{grown, is_done, IsCapturePrefix}
use Rattle.draughts_board.proofs.Growth.{room-left, longer-prefix, grown-when_done, grown-step, flat_map-turn}
use Rattle.draughts_rules.proofs.captures.+grow.Goals as goal

pub returns-then-is_done : goal.returns-then-is_done
returns-then-is_done t c =
    let p = c.args.p.now in
    let path : List ℕ = c.args.trail.now in
    let done : is_done p path ≡ true = ap (is_done p) (sym c.as_slice-path.ensures.value) ∙ sym c.is_done.ensures ∙ c.if-is_done.true in
    let capture : c.unwrap-capture.result ≡ path = subst (λ o. IfSome o (λ m. m ≡ c.as_slice-path.result.now)) c.unwrap-capture.ensures c.of.ensures.some ∙ c.as_slice-path.ensures.value in
    c.in_ok-push.ensures.items ∙ ap (λ q. c.args.found.now.items ++ q ∷ []) capture ∙ ap (λ l. c.args.found.now.items ++ l) (sym (grown-when_done p (13 - length path) path done))

pub loop-to-init : goal.loop-to-init
loop-to-init t c = sym (append-nil c.args.found.now.items)

pub with-longer-requires : goal.with-longer-requires
with-longer-requires t c =
    let p = c.args.p.now in
    let path : List ℕ = c.args.trail.now in
    let going : is_done p path ≡ false = ap (is_done p) (sym c.as_slice-path.ensures.value) ∙ sym c.is_done.ensures ∙ c.if-is_done.false in
    room-left p path c.requires.least c.as_slice-path.ensures.most c.requires.lawful c.requires.prefix going

pub grow-requires : goal.grow-requires
grow-requires t c =
    let p = c.args.p.now in
    let path : List ℕ = c.args.trail.now in
    let going : is_done p path ≡ false = ap (is_done p) (sym c.as_slice-path.ensures.value) ∙ sym c.is_done.ensures ∙ c.if-is_done.false in
    let room : length path < 13 = room-left p path c.requires.least c.as_slice-path.ensures.most c.requires.lawful c.requires.prefix going in
    let jumps : c.as_slice-jumps.result.now ≡ further_jumps p path = c.as_slice-jumps.ensures.value ∙ c.further_jumps-further.ensures ∙ ap (further_jumps p) c.as_slice-path.ensures.value in
    let there : Contains c.as_slice-jumps.result.now c.to-item.result = (c.loop-to.to-index, c.loop-to-test.true, sym c.to-item.is) in
    let longer : IsCapturePrefix p c.with-longer.result = subst (λ q. IsCapturePrefix p q) (sym c.with-longer.ensures) (longer-prefix p path c.to-item.result c.requires.least c.requires.prefix going (subst (λ l. Contains l c.to-item.result) jumps there)) in
    let long : length c.with-longer.result ≡ length path + 1 = ap length c.with-longer.ensures ∙ length-append path (c.to-item.result ∷ []) in
    let least = c.requires.least in
    (search rules, (c.requires.lawful, (omega (arith, long), (longer, inl (omega (arith, long, least))))))

pub loop-to-preserved : goal.loop-to-preserved
loop-to-preserved t c =
    let p = c.args.p.now in
    let path : List ℕ = c.args.trail.now in
    c.in_ok-grow.ensures ∙ ap (λ q. c.loop-to.found.items ++ grown (13 - length q) p q) c.with-longer.ensures
    ∙ flat_map-turn p path c.args.found.now.items c.loop-to.found.items c.as_slice-jumps.result.now c.loop-to.to-index c.to-item.result c.loop-to-test.true c.to-item.is c.loop-to.invariant

pub returns : goal.returns
returns t c =
    let p = c.args.p.now in
    let path : List ℕ = c.args.trail.now in
    let going : is_done p path ≡ false = ap (is_done p) (sym c.as_slice-path.ensures.value) ∙ sym c.is_done.ensures ∙ c.if-is_done.false in
    let room : length path < 13 = room-left p path c.requires.least c.as_slice-path.ensures.most c.requires.lawful c.requires.prefix going in
    let jumps : c.as_slice-jumps.result.now ≡ further_jumps p path = c.as_slice-jumps.ensures.value ∙ c.further_jumps-further.ensures ∙ ap (further_jumps p) c.as_slice-path.ensures.value in
    let all : take c.loop-to.to-index c.as_slice-jumps.result.now ≡ c.as_slice-jumps.result.now = take_all c.loop-to.to-index c.as_slice-jumps.result.now c.loop-to-test.false in
    c.loop-to.invariant
    ∙ ap (λ zs. c.args.found.now.items ++ flat_map (λ z. grown (12 - length path) p (path ++ z ∷ [])) zs) (all ∙ jumps)
    ∙ ap (λ l. c.args.found.now.items ++ l) (sym (grown-step p path going room))
