use Rattle.std.proofs.Common.{◌≡◌, ◌∙◌, rules, sym, ap, subst, List, ℕ, Bool}
use Rattle.std.specs.Prelude.{filter, Contains, IfOk}
use Rattle.std.proofs.lemmas.Fn.{filter_same}
use Rattle.draughts_board.specs.Board.{Board}
use Rattle.draughts_board.specs.Rules.{AreLegalPaths, IsLegal}
use Rattle.draughts_board.specs.Play.{legal_paths}
use Rattle.draughts_board.proofs.Members.{Contains-from_filter}
use Rattle.draughts_board.specs.declared.resolution.ResolveRefusal.{ResolveRefusal}
use Rattle.draughts_board.specs.Resolution.{is_written, matches, meaning}
use Rattle.draughts_board.proofs.Written.{meaning-among, unless-memory, behind-map_err}
use Rattle.draughts_board.proofs.generators.resolve.Goals as goal

pub meaning-requires : goal.meaning-requires
meaning-requires g c =
    let p : Board = c.args.p.now in
    let test : List ℕ → Bool = is_written c.args.«from» c.args.middle.now c.args.to in
    let kept : c.retain.new.self.items ≡ filter test c.in_ok-moves.moves.items = filter_same _ _ _ (λ x b f' k. search rules) _ _ c.retain.ensures.filtered in
    let legal : AreLegalPaths p c.in_ok-moves.moves.items = behind-map_err ResolveRefusal c.legal_moves.result c.in_ok-moves.moves _ (λ v. AreLegalPaths p v.items) c.in_ok-moves.ensures.cases (λ e h. h) c.legal_moves.ensures.rules in
    λ path h. legal.sound path (Contains-from_filter test c.in_ok-moves.moves.items path (subst (λ l. Contains l path) (c.deref.ensures.value ∙ kept) h))

pub returns-clause-exact : goal.returns-clause-exact
unfolding matches
returns-clause-exact g c =
    let p : Board = c.args.p.now in
    let test : List ℕ → Bool = is_written c.args.«from» c.args.middle.now c.args.to in
    let kept : c.retain.new.self.items ≡ filter test c.in_ok-moves.moves.items = filter_same _ _ _ (λ x b f' k. search rules) _ _ c.retain.ensures.filtered in
    let exact : c.in_ok-moves.moves.items ≡ legal_paths p = behind-map_err ResolveRefusal c.legal_moves.result c.in_ok-moves.moves _ (λ v. v.items ≡ legal_paths p) c.in_ok-moves.ensures.cases (λ e h. h) c.legal_moves.ensures.exact in
    unless-memory c.meaning.result _ (c.meaning.ensures ∙ ap (meaning p) (c.deref.ensures.value ∙ kept ∙ ap (filter test) exact))

pub returns-clause-legal : goal.returns-clause-legal
returns-clause-legal g c =
    let p : Board = c.args.p.now in
    let test : List ℕ → Bool = is_written c.args.«from» c.args.middle.now c.args.to in
    let kept : c.retain.new.self.items ≡ filter test c.in_ok-moves.moves.items = filter_same _ _ _ (λ x b f' k. search rules) _ _ c.retain.ensures.filtered in
    let legal : AreLegalPaths p c.in_ok-moves.moves.items = behind-map_err ResolveRefusal c.legal_moves.result c.in_ok-moves.moves _ (λ v. AreLegalPaths p v.items) c.in_ok-moves.ensures.cases (λ e h. h) c.legal_moves.ensures.rules in
    subst (λ r. IfOk r (IsLegal p)) (sym c.meaning.ensures)
    (meaning-among p c.deref.result.now (IsLegal p)
    (λ path h. legal.sound path (Contains-from_filter test c.in_ok-moves.moves.items path (subst (λ l. Contains l path) (c.deref.ensures.value ∙ kept) h))))
