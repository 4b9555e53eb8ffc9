use Rattle.std.proofs.Common.{◌≡◌, ◌++◌, List, IfOk, rules, subst}
use Rattle.std.proofs.lemmas.Result.{IfOk-weaker}
use Rattle.pdn_text.specs.declared.game.Tag.{Tag}
use Rattle.strict_games.proofs.Printed.{text_of_draft}
use Rattle.strict_games.specs.Drafts.{IsTextOf}
use Rattle.strict_games.specs.Pages.{AreTagsBefore, IsPrinted}
use Rattle.strict_games.proofs.draft.Draft.text.Goals as goal

pub returns : goal.returns
returns c =
    let old = c.self.inside in
    let tags : c.as_slice.result.now ≡ old.tags.items = search rules in
    let moves : c.as_slice-2.result.now ≡ old.moves.items = search rules in
    let found = subst (λ ts. IfOk c.printed.result (λ text. (before : List Tag) × (AreTagsBefore old.set_up before × IsPrinted text.items (before ++ ts) old.moves.items))) tags
    (subst (λ ms. IfOk c.printed.result (λ text. (before : List Tag) × (AreTagsBefore old.set_up before × IsPrinted text.items (before ++ c.as_slice.result.now) ms))) moves c.printed.ensures) in
    IfOk-weaker c.printed.result (λ text. (before : List Tag) × (AreTagsBefore old.set_up before × IsPrinted text.items (before ++ old.tags.items) old.moves.items)) (λ text. IsTextOf c.args.self.now text.items)
    (λ text found. text_of_draft old.set_up old.tags.items old.moves.items old.here c.args.self.now text.items c.self.view_is c.self.invariant found) found
