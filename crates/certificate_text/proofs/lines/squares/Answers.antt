use Rattle.std.proofs.Common.{◌≡◌, ◌∙◌, ◌<◌, ◌++◌, ◌∷◌, ◌+◌, [], sym, ap, subst, arith, refl, take, set}
use Rattle.std.specs.Prelude.{All}
use Rattle.std.proofs.lemmas.List.{length-set, length-take}
use Rattle.std.proofs.lemmas.List.Elements.{All-push}
use Rattle.draughts_board.specs.Geometry.{IsSquare}
use Rattle.certificate_text.specs.Lines.{squares_text}
use Rattle.certificate_text.proofs.Squares.{ended, ended_next, ended_last, Left, Left-start, Left-step, Left-last, taken_next, too_many, path_some, no_path, same_square}
use Rattle.certificate_text.proofs.Fields.{if_none, for_none}
use Rattle.certificate_text.proofs.lines.squares.Goals as goal

pub loop-word-init : goal.loop-word-init
loop-word-init c = record { full = refl; few = omega arith; spelled = refl; each = λ k d lt. absurd (let h : k < 0 = lt in omega arith); only = λ full path same. Left-start c.args.separator full c.args.text.now path same }

pub loop-word-preserved : goal.loop-word-preserved
loop-word-preserved c =
    let sep = c.args.separator in
    let path = c.loop-word.path in
    let count = c.loop-word.count in
    let s = c.in_ok-path.field-0 in
    let found = c.in_ok-path.ensures.some in
    let so_far = c.loop-word.invariant in
    let next = taken_next path count s (omega (arith, so_far.full, so_far.few)) in
    record {
      full = length-set path count s ∙ so_far.full;
      few = omega (arith, so_far.few);
      spelled = so_far.spelled ∙ ap (λ t. ended sep (take count path) ++ t) (c.in-Some.ensures.whole ∙ ap (λ w. w ++ sep ∷ c.in-Some.behind.now) found.1)
          ∙ sym (ended_next sep (take count path) s c.in-Some.behind.now) ∙ ap (λ p. ended sep p ++ c.in-Some.behind.now) (sym next);
      each = subst (All IsSquare) (sym next) (All-push IsSquare (take count path) s so_far.each found.0);
      only = λ full whole same.
          let step = Left-step sep full (take count path) c.loop-word.rest.now c.in-Some.word.now c.in-Some.behind.now c.requires (so_far.only full whole same) c.in-Some.ensures.before c.in-Some.ensures.whole in
          let one : s ≡ step.square = same_square s step.square found.0 step.one (sym found.1 ∙ step.word_is) in
          subst (λ front. Left sep full front c.in-Some.behind.now) (ap (λ n. take count path ++ n ∷ []) (sym one) ∙ sym next) step.left;
    }

pub returns-then-count-eq12-clause-none : goal.returns-then-count-eq12-clause-none
returns-then-count-eq12-clause-none c path whole same =
    let so_far = c.loop-word.invariant in
    let front = take c.loop-word.count c.loop-word.path in
    let step = Left-step c.args.separator path front c.loop-word.rest.now c.in-Some.word.now c.in-Some.behind.now c.requires (so_far.only path whole same) c.in-Some.ensures.before c.in-Some.ensures.whole in
    too_many path front step.square step.left.here step.left.more step.left.whole (omega (arith, length-take c.loop-word.count c.loop-word.path, so_far.full, c.if-count-eq12.true)) whole.1

pub returns-in_err-path-clause-none : goal.returns-in_err-path-clause-none
returns-in_err-path-clause-none c =
    let so_far = c.loop-word.invariant in
    if_none c.from_residual.result _ (λ path whole same.
    let step = Left-step c.args.separator path (take c.loop-word.count c.loop-word.path) c.loop-word.rest.now c.in-Some.word.now c.in-Some.behind.now c.requires (so_far.only path whole same) c.in-Some.ensures.before c.in-Some.ensures.whole in
    c.in_err-path.ensures.none step.square step.one step.word_is)

pub returns-in_err-path-2-clause-none : goal.returns-in_err-path-2-clause-none
returns-in_err-path-2-clause-none c =
    let so_far = c.loop-word.invariant in
    if_none c.from_residual-in_err-path-2.result _ (λ path whole same.
    let last = Left-last c.args.separator path (take c.loop-word.count c.loop-word.path) c.loop-word.rest.now c.requires (so_far.only path whole same) c.in_default.ensures.none in
    c.in_err-path-2.ensures.none last.square last.one last.word_is)

pub returns-clause-some : goal.returns-clause-some
returns-clause-some c =
    let sep = c.args.separator in
    let path = c.loop-word.path in
    let count = c.loop-word.count in
    let s = c.in_ok-path-2.field-0 in
    let found = c.in_ok-path-2.ensures.some in
    let so_far = c.loop-word.invariant in
    let next = taken_next path count s (omega (arith, so_far.full, so_far.few)) in
    let text = so_far.spelled ∙ ap (λ t. ended sep (take count path) ++ t) found.1 ∙ ended_last sep (take count path) s ∙ ap (squares_text sep) (sym next) in
    let each = subst (All IsSquare) (sym next) (All-push IsSquare (take count path) s so_far.each found.0) in
    path_some c.of.result (take (count + 1) (set path count s)) sep c.args.text.now c.of.ensures.none c.of.ensures.some
    (omega (arith, length-take (count + 1) (set path count s), length-set path count s, so_far.full, so_far.few)) each text

pub returns-clause-none : goal.returns-clause-none
returns-clause-none c =
    let path = c.loop-word.path in
    let count = c.loop-word.count in
    let s = c.in_ok-path-2.field-0 in
    let found = c.in_ok-path-2.ensures.some in
    let so_far = c.loop-word.invariant in
    let next = taken_next path count s (omega (arith, so_far.full, so_far.few)) in
    for_none c.of.result _ (λ none full whole same.
    let last = Left-last c.args.separator full (take count path) c.loop-word.rest.now c.requires (so_far.only full whole same) c.in_default.ensures.none in
    let one : s ≡ last.square = same_square s last.square found.0 last.one (sym found.1 ∙ last.word_is) in
    no_path (take (count + 1) (set path count s)) full (c.of.ensures.none.0 none) whole (last.whole ∙ ap (λ n. take count path ++ n ∷ []) (sym one) ∙ sym next))
