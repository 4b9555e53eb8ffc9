use Rattle.std.proofs.Common.{◌≡◌, ◌∙◌, ◌++◌, ◌∷◌, [], ◌+◌, cond, sym, ap, List, ℕ, map, take}
use Rattle.std.specs.Prelude.{Contains}
use Rattle.std.specs.List.{list_any}
use Rattle.std.proofs.lemmas.List.{take_all, append-nil}
use Rattle.draughts_board.specs.Board.{Board, same_board}
use Rattle.draughts_board.specs.Rules.{after, first_places}
use Rattle.draughts_board.proofs.FirstPlaces.{first_places-turn}
use Rattle.swift_moves.proofs.next.add_distinct.Goals as goal
use Rattle.swift_moves.proofs.next.add_distinct.Goals.{then-not-contains+in_ok-push, else-not-contains}

pub apply-q-requires : goal.apply-q-requires
apply-q-requires c =
    let there : Contains c.args.moves.now c.m-item.result = (c.loop-m.m-index, c.loop-m-test.true, sym c.m-item.is) in
    c.requires.legal c.m-item.result there

pub loop-m-preserved : goal.loop-m-preserved
loop-m-preserved c =
    let p : Board = c.args.p.now in
    let path : List ℕ = c.m-item.result in
    let before : List Board = c.loop-m.next.items in
    let there : c.contains.result ≡ list_any (λ y. same_board y (after p path)) before =
    c.contains.ensures.value ∙ ap (λ l. list_any (λ y. same_board y c.apply-q.result) l) c.deref.ensures.value ∙ ap (λ q. list_any (λ y. same_board y q) before) c.apply-q.ensures in
    let turn : (now : List Board) → now ≡ before ++ cond c.contains.result [] (after p path ∷ []) → now ≡ first_places (map (after p) (take (c.loop-m.m-index + 1) c.args.moves.now)) =
    λ now more. first_places-turn (after p) before now c.args.moves.now c.loop-m.m-index path c.loop-m-test.true c.m-item.is c.loop-m.invariant (more ∙ ap (λ b. before ++ cond b [] (after p path ∷ [])) there) in
    elim c.if-not-contains.branch [
      | then-not-contains+in_ok-push w ↦ ap (λ (v : _). v.items) w.next-is ∙ turn w.push.new.self.items (w.in_ok-push.ensures.items ∙ ap (λ q. before ++ q ∷ []) c.apply-q.ensures ∙ ap (λ b. before ++ cond b [] (after p path ∷ [])) (sym w.if-not-contains.true))
      | else-not-contains w ↦ ap (λ (v : _). v.items) w.next-is ∙ turn before (sym (append-nil before) ∙ ap (λ b. before ++ cond b [] (after p path ∷ [])) (sym w.if-not-contains.false))
    ]

pub returns : goal.returns
returns c =
    let p : Board = c.args.p.now in
    c.loop-m.invariant ∙ ap (λ l. first_places (map (after p) l)) (take_all c.loop-m.m-index c.args.moves.now c.loop-m-test.false)
