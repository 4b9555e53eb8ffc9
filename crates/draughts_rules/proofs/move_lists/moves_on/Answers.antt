use Rattle.std.proofs.Common.{◌≡◌, ◌≢◌, ◌∙◌, List, ℕ, true, false, ap, sym, subst, length, vec_len, arith}
use Rattle.std.proofs.lemmas.Bool.{eqb-true, eq-eqb}
use Rattle.draughts_board.specs.Board.{Board, IsLawful}
use Rattle.draughts_board.specs.Rules.{AreLegalPaths}
use Rattle.draughts_board.specs.Play.{is_nil, captures, legal_paths}
use Rattle.draughts_board.proofs.Legal.{legal_paths_are_legal}
use Rattle.draughts_board.proofs.Turns.{if_ok_map}
use Rattle.draughts_board.proofs.NoCapture.{nil-by_length, some-by_length, legal-without_capture, legal-with_capture}
use Rattle.draughts_rules.proofs.move_lists.moves_on.Goals as goal

-- a list that is the legal paths has what the rules ask
by_rules : (p : Board) (paths : List (List ℕ)) → IsLawful p → paths ≡ legal_paths p → AreLegalPaths p paths
by_rules p paths lawful e = subst (AreLegalPaths p) (sym e) (legal_paths_are_legal p lawful)

pub returns-then-is_empty-clause-exact : goal.returns-then-is_empty-clause-exact
returns-then-is_empty-clause-exact c =
    let p : Board = c.args.p.now in
    let lawful : IsLawful p = c.own_squares-own.ensures.lawful in
    let none : length c.in_ok-found.found.items ≡ 0 = omega (arith, c.in_ok-found.found.ok.0, eqb-true _ 0 (sym c.is_empty.ensures ∙ c.if-is_empty.true)) in
    let nil : is_nil (captures p) ≡ true = ap is_nil (sym c.in_ok-found.ensures) ∙ nil-by_length c.in_ok-found.found.items none in
    if_ok_map _ _ c.steps.result (λ v e. e ∙ sym (legal-without_capture p lawful nil)) c.steps.ensures

pub returns-then-is_empty-clause-rules : goal.returns-then-is_empty-clause-rules
returns-then-is_empty-clause-rules c =
    let p : Board = c.args.p.now in
    let lawful : IsLawful p = c.own_squares-own.ensures.lawful in
    let none : length c.in_ok-found.found.items ≡ 0 = omega (arith, c.in_ok-found.found.ok.0, eqb-true _ 0 (sym c.is_empty.ensures ∙ c.if-is_empty.true)) in
    let nil : is_nil (captures p) ≡ true = ap is_nil (sym c.in_ok-found.ensures) ∙ nil-by_length c.in_ok-found.found.items none in
    if_ok_map _ _ c.steps.result (λ v e. by_rules p v.items lawful (e ∙ sym (legal-without_capture p lawful nil))) c.steps.ensures

pub returns-else-is_empty-clause-exact : goal.returns-else-is_empty-clause-exact
returns-else-is_empty-clause-exact c =
    let p : Board = c.args.p.now in
    let some : length c.in_ok-found.found.items ≢ 0 = λ zero_long. (let e : true ≡ false = sym (eq-eqb (vec_len c.in_ok-found.found) 0 (let n : vec_len c.in_ok-found.found ≡ 0 = omega (arith, c.in_ok-found.found.ok.0, zero_long) in n)) ∙ sym c.is_empty.ensures ∙ c.if-is_empty.false in cc) in
    c.in_ok-found.ensures ∙ sym (legal-with_capture p c.own_squares-own.ensures.lawful (ap is_nil (sym c.in_ok-found.ensures) ∙ some-by_length c.in_ok-found.found.items some))

pub returns-else-is_empty-clause-rules : goal.returns-else-is_empty-clause-rules
returns-else-is_empty-clause-rules c =
    let p : Board = c.args.p.now in
    let some : length c.in_ok-found.found.items ≢ 0 = λ zero_long. (let e : true ≡ false = sym (eq-eqb (vec_len c.in_ok-found.found) 0 (let n : vec_len c.in_ok-found.found ≡ 0 = omega (arith, c.in_ok-found.found.ok.0, zero_long) in n)) ∙ sym c.is_empty.ensures ∙ c.if-is_empty.false in cc) in
    by_rules p c.in_ok-found.found.items c.own_squares-own.ensures.lawful
    (c.in_ok-found.ensures ∙ sym (legal-with_capture p c.own_squares-own.ensures.lawful (ap is_nil (sym c.in_ok-found.ensures) ∙ some-by_length c.in_ok-found.found.items some)))
