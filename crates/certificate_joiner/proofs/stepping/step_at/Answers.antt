use Rattle.std.proofs.Common.{◌≡◌, ◌∙◌, [], true, false, sym, subst, refl, inl, inr, Some, None}
use Rattle.std.proofs.lemmas.Bool.{false≢true}
use Rattle.draughts_board.specs.Board.{Board, IsLawful, other}
use Rattle.draughts_board.proofs.Truth.{one_side}
use Rattle.draughts_board.proofs.Successors.{path-to_successor}
use Rattle.certificate_joiner.specs.declared.steps.Reason.TheVariants as reason
use Rattle.proof_tree.specs.Forest.{nodes}
use Rattle.certificate_joiner.specs.Strategy.{named, knows, is_repeating, StrategyGoesOn}
use Rattle.certificate_joiner.proofs.DueLemmas.{at_known, at_repeats, at_all, at_one, at_next, some_child, some_first, expands, due_nodes-known, due_nodes-repeats, due_nodes-mine, due_nodes-theirs}
use Rattle.draughts_board.proofs.Members.{Contains-head}
use Rattle.std.specs.Prelude.{Contains}
use Rattle.certificate_joiner.proofs.Named.{said_of, number_named}
use Rattle.certificate_joiner.proofs.stepping.step_at.Goals as goal

pub returns-then-is_known : goal.returns-then-is_known
returns-then-is_known c =
    let roots = c.args.tree.now.forest in
    let x = named roots c.args.n in
    let k = c.args.quest.pieces in
    let aim = c.args.quest.aim in
    let s = c.args.quest.side in
    let puts = c.args.shelf.now.puts in
    let p = c.position-position.result in
    let at = said_of roots c.args.n (λ y. p ≡ y.own.position) c.requires.there c.position-position.ensures in
    let r = c.known_reason-reason.result in
    let known : knows aim s x.own.facts ≡ true = sym c.is_known.ensures ∙ c.if-is_known.true in
    subst (StrategyGoesOn k puts aim s x (record { position = p; reason = r })) (sym (due_nodes-known aim s x known))
    (at_known k puts aim s x p at c.args.n r (sym (number_named roots c.args.n c.requires.there)) known c.known_reason-reason.ensures.usable c.known_reason-reason.ensures.shows)

pub returns-then-is_repeated : goal.returns-then-is_repeated
returns-then-is_repeated c =
    let roots = c.args.tree.now.forest in
    let x = named roots c.args.n in
    let k = c.args.quest.pieces in
    let aim = c.args.quest.aim in
    let s = c.args.quest.side in
    let puts = c.args.shelf.now.puts in
    let p = c.position-position.result in
    let at = said_of roots c.args.n (λ y. p ≡ y.own.position) c.requires.there c.position-position.ensures in
    let unknown : knows aim s x.own.facts ≡ false = sym c.is_known.ensures ∙ c.if-is_known.false in
    let repeats : is_repeating x.own.mark ≡ true = sym c.is_repeated.ensures ∙ c.if-is_repeated.true in
    subst (StrategyGoesOn k puts aim s x (record { position = p; reason = reason.Repeats })) (sym (due_nodes-repeats aim s x unknown repeats))
    (at_repeats k puts aim s x p at repeats unknown)

pub returns-then-not-is_mover : goal.returns-then-not-is_mover
returns-then-not-is_mover c =
    let roots = c.args.tree.now.forest in
    let x = named roots c.args.n in
    let k = c.args.quest.pieces in
    let aim = c.args.quest.aim in
    let s = c.args.quest.side in
    let puts = c.args.shelf.now.puts in
    let p = c.position-position.result in
    let at = said_of roots c.args.n (λ y. p ≡ y.own.position) c.requires.there c.position-position.ensures in
    let theirs : p.to_move ≡ other s = elim (one_side s p.to_move) [ inl mine ↦ absurd (false≢true (c.if-not-is_mover.ensures.1 mine)) | inr theirs ↦ theirs ] in
    let unknown : knows aim s x.own.facts ≡ false = sym c.is_known.ensures ∙ c.if-is_known.false in
    let once : is_repeating x.own.mark ≡ false = sym c.is_repeated.ensures ∙ c.if-is_repeated.false in
    subst (StrategyGoesOn k puts aim s x (record { position = p; reason = reason.Play None }))
    (sym (due_nodes-theirs aim s x unknown once (subst (λ (q : Board). q.to_move ≡ other s) at theirs)))
    (at_all k puts aim s x p at theirs unknown once)

pub unreachable-requires : goal.unreachable-requires
unreachable-requires c =
    let roots = c.args.tree.now.forest in
    let x = named roots c.args.n in
    let at = said_of roots c.args.n (λ y. c.position-position.result ≡ y.own.position) c.requires.there c.position-position.ensures in
    some_child c.args.quest.pieces c.args.shelf.now.puts c.args.quest.aim c.args.quest.side x c.position-position.result at c.requires.due.0 c.requires.due.1
    (sym c.is_known.ensures ∙ c.if-is_known.false) (sym c.is_repeated.ensures ∙ c.if-is_repeated.false) (c.if-not-is_mover.ensures.0 refl) c.in_default.ensures

pub unreachable-requires-in_default-2 : goal.unreachable-requires-in_default-2
unreachable-requires-in_default-2 c =
    let roots = c.args.tree.now.forest in
    let x = named roots c.args.n in
    let child = named roots c.in-Some.c in
    let k = c.args.quest.pieces in
    let aim = c.args.quest.aim in
    let s = c.args.quest.side in
    let puts = c.args.shelf.now.puts in
    let at = said_of roots c.args.n (λ y. c.position-position.result ≡ y.own.position) c.requires.there c.position-position.ensures in
    let next = said_of roots c.in-Some.c (λ y. c.position-next.result ≡ y.own.position) c.in-Some.ensures.0 c.position-next.ensures in
    let inside = some_first aim s (nodes x.children) child (subst (λ l. Contains l child) (sym c.in-Some.ensures.1) (Contains-head child [])) in
    let expanded = (expands k puts aim s c.requires.due.0 x c.requires.due.1 (sym c.is_known.ensures ∙ c.if-is_known.false) (sym c.is_repeated.ensures ∙ c.if-is_repeated.false)).0 in
    let there = at_next k puts aim s x c.position-position.result at child c.position-next.result expanded c.requires.due.0 c.requires.due.1 inside.0 next in
    let lawful : IsLawful c.position-position.result = subst IsLawful (sym at) c.requires.due.1.sound.0.lawful in
    let found = path-to_successor c.position-position.result c.position-next.result lawful there in
    (rw c.in_default-2.is at c.in_ok-m.ensures.none).0 refl found.0 found.1.0 found.1.1

pub returns : goal.returns
returns c =
    let roots = c.args.tree.now.forest in
    let x = named roots c.args.n in
    let child = named roots c.in-Some.c in
    let k = c.args.quest.pieces in
    let aim = c.args.quest.aim in
    let s = c.args.quest.side in
    let puts = c.args.shelf.now.puts in
    let p = c.position-position.result in
    let at = said_of roots c.args.n (λ y. p ≡ y.own.position) c.requires.there c.position-position.ensures in
    let next = said_of roots c.in-Some.c (λ y. c.position-next.result ≡ y.own.position) c.in-Some.ensures.0 c.position-next.ensures in
    let leads = rw c.in-Some-2.is at c.in_ok-m.ensures.some in
    let mine : p.to_move ≡ s = c.if-not-is_mover.ensures.0 refl in
    let unknown : knows aim s x.own.facts ≡ false = sym c.is_known.ensures ∙ c.if-is_known.false in
    let once : is_repeating x.own.mark ≡ false = sym c.is_repeated.ensures ∙ c.if-is_repeated.false in
    subst (StrategyGoesOn k puts aim s x (record { position = p; reason = reason.Play (Some c.in-Some-2.m) }))
    (sym (due_nodes-mine aim s x unknown once (subst (λ (q : Board). q.to_move ≡ s) at mine) ∙ c.in-Some.ensures.1))
    (at_one k puts aim s x p at child c.position-next.result c.in-Some-2.m mine next leads.0 leads.1)
