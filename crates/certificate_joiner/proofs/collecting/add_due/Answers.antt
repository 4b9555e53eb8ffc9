use Rattle.std.proofs.Common.{◌≡◌, ◌∙◌, [], ◌∷◌, sym, subst, refl, inl, inr}
use Rattle.std.specs.Prelude.{OnOk}
use Rattle.std.proofs.lemmas.Bool.{false≢true}
use Rattle.std.proofs.lemmas.List.{append-nil}
use Rattle.std.proofs.lemmas.List.Elements.{All-nil, All-cons}
use Rattle.draughts_board.specs.Board.{Board, other}
use Rattle.draughts_board.proofs.Truth.{one_side}
use Rattle.proof_tree.specs.Forest.{nodes}
use Rattle.certificate_joiner.specs.Strategy.{named, IsNamed, Added}
use Rattle.certificate_joiner.proofs.DueLemmas.{due_nodes-known, due_nodes-repeats, due_nodes-mine, due_nodes-theirs, first_due-none}
use Rattle.certificate_joiner.proofs.Named.{said_of}
use Rattle.certificate_joiner.proofs.collecting.add_due.Goals as goal

pub returns-then-is_known : goal.returns-then-is_known
returns-then-is_known c =
    let roots = c.args.tree.now.forest in
    let none = due_nodes-known c.args.quest.aim c.args.quest.side (named roots c.args.n) (sym c.is_known.ensures ∙ c.if-is_known.true) in
    ([], (sym (append-nil c.args.to.now.items), (All-nil (IsNamed roots), sym none)))

pub returns-then-is_repeated : goal.returns-then-is_repeated
returns-then-is_repeated c =
    let roots = c.args.tree.now.forest in
    let none = due_nodes-repeats c.args.quest.aim c.args.quest.side (named roots c.args.n) (sym c.is_known.ensures ∙ c.if-is_known.false) (sym c.is_repeated.ensures ∙ c.if-is_repeated.true) in
    ([], (sym (append-nil c.args.to.now.items), (All-nil (IsNamed roots), sym none)))

pub returns-then-not-is_mover : goal.returns-then-not-is_mover
returns-then-not-is_mover c =
    let roots = c.args.tree.now.forest in
    let x = named roots c.args.n in
    let s = c.args.quest.side in
    let p = c.position.result in
    let at = said_of roots c.args.n (λ y. p ≡ y.own.position) c.requires.there c.position.ensures in
    let theirs : p.to_move ≡ other s = elim (one_side s p.to_move) [ inl mine ↦ absurd (false≢true (c.if-not-is_mover.ensures.1 mine)) | inr theirs ↦ theirs ] in
    let due = due_nodes-theirs c.args.quest.aim s x (sym c.is_known.ensures ∙ c.if-is_known.false) (sym c.is_repeated.ensures ∙ c.if-is_repeated.false) (subst (λ (q : Board). q.to_move ≡ other s) at theirs) in
    subst (λ xs. OnOk c.add_children.result (Added (named roots) (IsNamed roots) c.args.to.now.items c.add_children.new.to.items xs)) (sym due) c.add_children.ensures

pub returns-in_default : goal.returns-in_default
returns-in_default c =
    let roots = c.args.tree.now.forest in
    let x = named roots c.args.n in
    let s = c.args.quest.side in
    let at = said_of roots c.args.n (λ y. c.position.result ≡ y.own.position) c.requires.there c.position.ensures in
    let due = due_nodes-mine c.args.quest.aim s x (sym c.is_known.ensures ∙ c.if-is_known.false) (sym c.is_repeated.ensures ∙ c.if-is_repeated.false)
    (subst (λ (q : Board). q.to_move ≡ s) at (c.if-not-is_mover.ensures.0 refl)) in
    ([], (sym (append-nil c.args.to.now.items), (All-nil (IsNamed roots), sym (due ∙ first_due-none c.args.quest.aim s (nodes x.children) c.in_default.ensures))))

pub returns : goal.returns
returns c =
    let roots = c.args.tree.now.forest in
    let x = named roots c.args.n in
    let s = c.args.quest.side in
    let at = said_of roots c.args.n (λ y. c.position.result ≡ y.own.position) c.requires.there c.position.ensures in
    let due = due_nodes-mine c.args.quest.aim s x (sym c.is_known.ensures ∙ c.if-is_known.false) (sym c.is_repeated.ensures ∙ c.if-is_repeated.false)
    (subst (λ (q : Board). q.to_move ≡ s) at (c.if-not-is_mover.ensures.0 refl)) in
    (c.in-Some.c ∷ [], (c.in_ok-push.ensures.items, (All-cons (IsNamed roots) c.in-Some.c [] c.in-Some.ensures.0 (All-nil (IsNamed roots)), sym (due ∙ c.in-Some.ensures.1))))
