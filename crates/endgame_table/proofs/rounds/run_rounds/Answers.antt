use Rattle.std.proofs.Common.{◌≡◌, ◌≢◌, ℕ, suc, ◌+◌, ◌<◌, List, [], ◌∷◌, length, refl, sym, ◌∙◌, ap, subst, arith}
use Rattle.std.specs.Prelude.{All, flat_map, vec_len}
use Rattle.std.proofs.lemmas.Bool.{eqb-false, eqb-true}
use Rattle.endgame_table.specs.declared.origins.Origins.{Origins}
use Rattle.endgame_table.specs.Marking.{times, Marks, MarksLast}
use Rattle.endgame_table.specs.Origins.{origins_at}
use Rattle.endgame_table.specs.Rounds.{win, loss, undecided}
use Rattle.endgame_table.proofs.RoundLemmas.{in_round-first, in_turn, no_more, enough_wait, in_round, found_now, filled_now, small_now}
use Rattle.endgame_table.proofs.rounds.run_rounds.Goals as goal

-- the marks of the wins, and of the losses, as the lemmas have them
wins_marked : (rank : ℕ) (o : Origins) (targets lost_ones numbers mid found won_ones : List ℕ) → targets ≡ lost_ones → found ≡ []
    → Marks (win (rank + 1)) (flat_map (origins_at o) targets) numbers mid found won_ones → Marks (win (suc rank)) (flat_map (origins_at o) lost_ones) numbers mid [] won_ones
wins_marked rank o targets lost_ones numbers mid found won_ones same none marks =
    let next : rank + 1 ≡ suc rank = omega arith in
    subst (λ f. Marks (win (suc rank)) (flat_map (origins_at o) lost_ones) numbers mid f won_ones) none
    (subst (λ l. Marks (win (suc rank)) (flat_map (origins_at o) l) numbers mid found won_ones) same
    (subst (λ r. Marks (win r) (flat_map (origins_at o) targets) numbers mid found won_ones) next marks))

losses_marked : (rank : ℕ) (o : Origins) (targets won_ones waiting less mid new found lost_ones : List ℕ) → targets ≡ won_ones → found ≡ []
    → MarksLast (loss rank) (flat_map (origins_at o) targets) waiting less mid new found lost_ones → MarksLast (loss rank) (flat_map (origins_at o) won_ones) waiting less mid new [] lost_ones
losses_marked rank o targets won_ones waiting less mid new found lost_ones same none marks =
    subst (λ f. MarksLast (loss rank) (flat_map (origins_at o) won_ones) waiting less mid new f lost_ones) none
    (subst (λ l. MarksLast (loss rank) (flat_map (origins_at o) l) waiting less mid new found lost_ones) same marks)

no_items : (xs : List ℕ) → length xs ≡ 0 → xs ≡ []
no_items [] e = refl
no_items (x ∷ xs) e = absurd (omega (arith, e))

pub loop-won-init : goal.loop-won-init
loop-won-init g c = in_round-first g.moves.rows g.moves.first c.args.origins.now c.args.waiting.now c.args.numbers.now c.args.lost.items c.requires.0

pub find_losses-requires-clause-won : goal.find_losses-requires-clause-won
find_losses-requires-clause-won g c =
    let o = c.args.origins.now in
    let lost_ones = c.loop-won.lost.items in
    let some : length lost_ones ≢ 0 = λ z. eqb-false (vec_len c.loop-won.lost) 0 (sym c.is_empty.ensures ∙ c.loop-won-test.true) (omega (arith, z, c.loop-won.lost.ok.0)) in
    let marks = wins_marked c.loop-won.rank o c.deref.result.now lost_ones c.loop-won.numbers c.find_wins.new.numbers c.clear.new.self.items c.find_wins.new.won.items c.deref.ensures.value c.clear.ensures.items c.in_ok-find_wins.ensures in
    let turn = in_turn c.loop-won.rank g.moves.rows g.moves.first o c.loop-won.numbers c.loop-won.waiting lost_ones c.find_wins.new.numbers c.find_wins.new.won.items c.requires.1 c.loop-won.invariant some marks in
    let inside = subst (All (λ t. t < length g.moves.rows)) (sym c.deref-in-loop-won.ensures.value) turn.inside in
    λ k d l. let h = inside k d l in let each = turn.before.each in omega (arith, h, each)

pub find_losses-requires-clause-enough : goal.find_losses-requires-clause-enough
find_losses-requires-clause-enough g c =
    let o = c.args.origins.now in
    let lost_ones = c.loop-won.lost.items in
    let some : length lost_ones ≢ 0 = λ z. eqb-false (vec_len c.loop-won.lost) 0 (sym c.is_empty.ensures ∙ c.loop-won-test.true) (omega (arith, z, c.loop-won.lost.ok.0)) in
    let marks = wins_marked c.loop-won.rank o c.deref.result.now lost_ones c.loop-won.numbers c.find_wins.new.numbers c.clear.new.self.items c.find_wins.new.won.items c.deref.ensures.value c.clear.ensures.items c.in_ok-find_wins.ensures in
    let turn = in_turn c.loop-won.rank g.moves.rows g.moves.first o c.loop-won.numbers c.loop-won.waiting lost_ones c.find_wins.new.numbers c.find_wins.new.won.items c.requires.1 c.loop-won.invariant some marks in
    λ i. let e : times i (flat_map (origins_at o) c.deref-in-loop-won.result.now) ≡ times i (flat_map (origins_at o) c.find_wins.new.won.items) = ap (λ l. times i (flat_map (origins_at o) l)) c.deref-in-loop-won.ensures.value in
    let h = enough_wait (c.loop-won.rank + 2) g.moves.rows g.moves.first o c.find_wins.new.numbers c.loop-won.waiting c.find_wins.new.won.items turn i in
    omega (arith, e, h)

pub loop-won-smaller : goal.loop-won-smaller
loop-won-smaller g c =
    let o = c.args.origins.now in
    let lost_ones = c.loop-won.lost.items in
    let some : length lost_ones ≢ 0 = λ z. eqb-false (vec_len c.loop-won.lost) 0 (sym c.is_empty.ensures ∙ c.loop-won-test.true) (omega (arith, z, c.loop-won.lost.ok.0)) in
    let marks = wins_marked c.loop-won.rank o c.deref.result.now lost_ones c.loop-won.numbers c.find_wins.new.numbers c.clear.new.self.items c.find_wins.new.won.items c.deref.ensures.value c.clear.ensures.items c.in_ok-find_wins.ensures in
    let turn = in_turn c.loop-won.rank g.moves.rows g.moves.first o c.loop-won.numbers c.loop-won.waiting lost_ones c.find_wins.new.numbers c.find_wins.new.won.items c.requires.1 c.loop-won.invariant some marks in
    let later = losses_marked (c.loop-won.rank + 2) o c.deref-in-loop-won.result.now c.find_wins.new.won.items c.loop-won.waiting c.find_losses.new.waiting c.find_wins.new.numbers c.find_losses.new.numbers c.clear-in-loop-won.new.self.items c.find_losses.new.lost.items c.deref-in-loop-won.ensures.value c.clear-in-loop-won.ensures.items c.in_ok-find_losses.ensures in
    let fewer = no_more c.loop-won.rank g.moves.rows g.moves.first o c.loop-won.numbers c.loop-won.waiting lost_ones c.find_wins.new.numbers c.find_wins.new.won.items c.requires.1 c.loop-won.invariant some marks in
    let found = found_now (c.loop-won.rank + 2) g.moves.rows g.moves.first o c.find_wins.new.numbers c.loop-won.waiting c.find_wins.new.won.items c.find_losses.new.waiting c.find_losses.new.numbers c.find_losses.new.lost.items c.requires.1 turn later in
    let less : undecided c.find_losses.new.numbers + length c.find_losses.new.lost.items < undecided c.loop-won.numbers + length lost_ones = omega (arith, fewer, found, some) in
    less

pub loop-won-preserved : goal.loop-won-preserved
loop-won-preserved g c =
    let o = c.args.origins.now in
    let lost_ones = c.loop-won.lost.items in
    let some : length lost_ones ≢ 0 = λ z. eqb-false (vec_len c.loop-won.lost) 0 (sym c.is_empty.ensures ∙ c.loop-won-test.true) (omega (arith, z, c.loop-won.lost.ok.0)) in
    let marks = wins_marked c.loop-won.rank o c.deref.result.now lost_ones c.loop-won.numbers c.find_wins.new.numbers c.clear.new.self.items c.find_wins.new.won.items c.deref.ensures.value c.clear.ensures.items c.in_ok-find_wins.ensures in
    let turn = in_turn c.loop-won.rank g.moves.rows g.moves.first o c.loop-won.numbers c.loop-won.waiting lost_ones c.find_wins.new.numbers c.find_wins.new.won.items c.requires.1 c.loop-won.invariant some marks in
    let later = losses_marked (c.loop-won.rank + 2) o c.deref-in-loop-won.result.now c.find_wins.new.won.items c.loop-won.waiting c.find_losses.new.waiting c.find_wins.new.numbers c.find_losses.new.numbers c.clear-in-loop-won.new.self.items c.find_losses.new.lost.items c.deref-in-loop-won.ensures.value c.clear-in-loop-won.ensures.items c.in_ok-find_losses.ensures in
    in_round (c.loop-won.rank + 2) g.moves.rows g.moves.first o c.find_wins.new.numbers c.loop-won.waiting c.find_wins.new.won.items c.find_losses.new.waiting c.find_losses.new.numbers c.find_losses.new.lost.items c.requires.1 turn later

pub returns-clause-filled : goal.returns-clause-filled
returns-clause-filled g c =
    let none : c.loop-won.lost.items ≡ [] = no_items c.loop-won.lost.items (omega (arith, c.loop-won.lost.ok.0, eqb-true (vec_len c.loop-won.lost) 0 (sym c.is_empty.ensures ∙ c.loop-won-test.false))) in
    filled_now c.loop-won.rank g.moves.rows g.moves.first c.args.origins.now c.loop-won.numbers c.loop-won.waiting c.loop-won.lost.items c.requires.1 c.loop-won.invariant none

pub returns-clause-small : goal.returns-clause-small
returns-clause-small g c =
    let none : c.loop-won.lost.items ≡ [] = no_items c.loop-won.lost.items (omega (arith, c.loop-won.lost.ok.0, eqb-true (vec_len c.loop-won.lost) 0 (sym c.is_empty.ensures ∙ c.loop-won-test.false))) in
    small_now c.loop-won.rank g.moves.rows g.moves.first c.args.origins.now c.loop-won.numbers c.loop-won.waiting c.loop-won.lost.items c.requires.1 c.loop-won.invariant none
