use Rattle.std.proofs.Common.{List, ℕ, [], sym, subst, arith}
use Rattle.std.specs.Prelude.{Contains}
use Rattle.certificate_lines.proofs.LineLemmas.{replies_go_on, reply_is}
use Rattle.certificate_lines.proofs.plies.reply.Goals as goal

pub longest-requires-clause-legal : goal.longest-requires-clause-legal
longest-requires-clause-legal g c path there = c.in_ok-moves.ensures.rules.sound path (subst (λ (paths : List (List ℕ)). Contains paths path) c.deref.ensures.value there)

pub longest-requires-clause-on : goal.longest-requires-clause-on
longest-requires-clause-on g c path legal =
    replies_go_on (g.O.Oracle.answer_at c.args.oracle.now) c.args.part.now c.args.p.now c.args.rank c.requires.stands c.requires.lawful c.requires.turn path legal

pub unreachable-requires : goal.unreachable-requires
unreachable-requires g c =
    let by = c.requires.there in
    let there = subst (λ (paths : List (List ℕ)). Contains paths by.0) (sym c.deref.ensures.value) (c.in_ok-moves.ensures.rules.complete by.0 by.1) in
    let none : Contains [] by.0 = subst (λ (paths : List (List ℕ)). Contains paths by.0) c.in-None.ensures.none there in
    absurd (omega (arith, none.1))

pub returns : goal.returns
returns g c =
    reply_is (g.O.Oracle.answer_at c.args.oracle.now) c.args.part.now c.args.p.now c.args.rank c.deref.result.now c.in-Some.ply.path c.in-Some.ply.rank c.requires.turn
    (λ path legal. subst (λ (paths : List (List ℕ)). Contains paths path) (sym c.deref.ensures.value) (c.in_ok-moves.ensures.rules.complete path legal))
    c.in-Some.ensures.some
