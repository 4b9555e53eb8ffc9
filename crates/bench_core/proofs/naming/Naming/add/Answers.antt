use Rattle.std.proofs.Common.{◌≡◌, ◌≤◌, ◌∙◌, ◌++◌, ◌∷◌, [], map, take, length, List, ℕ, ap, sym, subst}
use Rattle.draughts_board.specs.Board.{Board}
use Rattle.bench_records.specs.Names.{named_by}
use Rattle.bench_records.specs.Texts.{record_sheet}
use Rattle.bench_records.proofs.Numbering.{names_grow}
use Rattle.bench_core.specs.Naming.{NamingState, AreRising}
use Rattle.bench_core.proofs.NamingLemmas.{rising_push, seen_staged}
use Rattle.bench_core.proofs.naming.Naming.add.Goals as goal

pub invariant_of-self-2 : goal.invariant_of-self-2
invariant_of-self-2 c =
    let named : List Board = c.self.inside.named in
    let counts : List ℕ = c.self.inside.before.items in
    let sheet = (record_sheet c.args.r.now) in
    let items : c.push_reserved.new.self.items ≡ counts ++ length named ∷ [] =
    c.push_reserved.ensures.items ∙ (ap (λ (l : List ℕ). l ++ c.len-count.result ∷ []) c.reserve.ensures.items ∙ ap (λ n. counts ++ n ∷ []) c.len-count.ensures.value) in
    subst (λ (l : List Board). AreRising 0 c.push_reserved.new.self.items (length l)) (sym c.in_ok-add.ensures.names)
    (subst (λ (l : List ℕ). AreRising 0 l (length (named_by named sheet))) (sym items)
    (rising_push 0 (length named) (length (named_by named sheet)) counts c.self.invariant (names_grow named sheet)))

pub returns-clause-names : goal.returns-clause-names
returns-clause-names c =
    let named : List Board = c.self.inside.named in
    let counts : List ℕ = c.self.inside.before.items in
    let sheet = (record_sheet c.args.r.now) in
    let items : c.push_reserved.new.self.items ≡ counts ++ length named ∷ [] =
    c.push_reserved.ensures.items ∙ (ap (λ (l : List ℕ). l ++ c.len-count.result ∷ []) c.reserve.ensures.items ∙ ap (λ n. counts ++ n ∷ []) c.len-count.ensures.value) in
    (λ i. record { now = c.in_ok-add.ensures.names i; before = map (λ count. take count (c.in_ok-add.ensures.names i)) (items i) })
    ∙ ((λ i. record { now = named_by named sheet; before = seen_staged named sheet counts c.self.invariant i })
    ∙ ap (λ (n : NamingState). record { now = named_by n.now sheet; before = n.before ++ n.now ∷ [] }) c.self.view_is)
