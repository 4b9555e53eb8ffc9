use Rattle.std.proofs.Common.{◌≡◌, ◌∙◌, length, slice_get, Some, refl, sym, ap}
use Rattle.std.proofs.lemmas.Option.{slice_get_read}
use Rattle.proof_tree.proofs.stretches.Stretches.end_of.Goals as goal

pub returns-in-Some : goal.returns-in-Some
returns-in-Some c roots noted k from to =
    let list = c.deref.result.now in
    let known : slice_get c.args.self.now.ends.items c.args.place ≡ Some c.in-Some.end.now =
    ap (λ l. slice_get l c.args.place) (sym c.deref.ensures.value) ∙ slice_get_read list (length list) c.args.place c.in-Some.end.now refl c.in-Some.ensures.lookup.3.0 c.in-Some.ensures.lookup.1 in
    noted.ahead c.args.place c.in-Some.end.now known k from to
