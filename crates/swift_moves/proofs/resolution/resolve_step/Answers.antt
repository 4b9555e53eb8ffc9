use Rattle.std.proofs.Common.{◌≡◌, ◌∙◌, true, false, sym, ap, subst, [], ◌∷◌, inr, refl}
use Rattle.std.specs.Prelude.{Ok}
use Rattle.std.proofs.lemmas.Bool.{false≢true}
use Rattle.draughts_board.specs.Board.{Board}
use Rattle.draughts_board.specs.Rules.{IsLegal, IsStep, is_own, is_step}
use Rattle.swift_moves.proofs.StepMeaning.{step-meant, nothing-meant}
use Rattle.swift_moves.proofs.resolution.resolve_step.Goals as goal

pub returns-then-not-is_own-clause-exact : goal.returns-then-not-is_own-clause-exact
returns-then-not-is_own-clause-exact c =
    let p : Board = c.args.p.now in
    let none : is_own p c.args.«from» ≡ false = sym c.is_own.ensures ∙ c.if-not-is_own.true in
    nothing-meant p c.args.«from» c.args.to c.requires.no_jump (λ s. false≢true (sym none ∙ s.own))

pub returns-then-not-is_step-clause-exact : goal.returns-then-not-is_step-clause-exact
returns-then-not-is_step-clause-exact c =
    let p : Board = c.args.p.now in
    let none : is_step p c.args.«from» c.args.to ≡ false = sym c.is_step.ensures ∙ c.if-not-is_step.true in
    nothing-meant p c.args.«from» c.args.to c.requires.no_jump (λ s. false≢true (sym none ∙ s.step))

pub returns-clause-exact : goal.returns-clause-exact
returns-clause-exact c =
    let p : Board = c.args.p.now in
    let s : IsStep p (c.args.«from» ∷ c.args.to ∷ []) = record {
      two = refl;
      own = sym c.is_own.ensures ∙ c.if-not-is_own.false;
      step = sym c.is_step.ensures ∙ c.if-not-is_step.false;
      no_jump = c.requires.no_jump;
    } in
    ap Ok c.direct.ensures ∙ step-meant p c.args.«from» c.args.to c.requires.lawful s

pub returns-clause-legal : goal.returns-clause-legal
returns-clause-legal c =
    let p : Board = c.args.p.now in
    let s : IsStep p (c.args.«from» ∷ c.args.to ∷ []) = record {
      two = refl;
      own = sym c.is_own.ensures ∙ c.if-not-is_own.false;
      step = sym c.is_step.ensures ∙ c.if-not-is_step.false;
      no_jump = c.requires.no_jump;
    } in
    subst (IsLegal p) (sym c.direct.ensures) (inr s)
