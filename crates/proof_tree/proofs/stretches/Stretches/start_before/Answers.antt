use Rattle.std.proofs.Common.{◌≡◌, ◌∙◌, length, slice_get, Some, refl, sym, ap, arith}
use Rattle.std.proofs.lemmas.Option.{slice_get_read}
use Rattle.proof_tree.proofs.stretches.Stretches.start_before.Goals as goal

pub returns-in-Some-get-clause-settled : goal.returns-in-Some-get-clause-settled
returns-in-Some-get-clause-settled c roots noted k from to =
    let list = c.deref.result.now in
    let before = c.in-Some.before in
    let start = c.in-Some-get.start.now in
    let known : slice_get c.args.self.now.starts.items before ≡ Some start =
    ap (λ l. slice_get l before) (sym c.deref.ensures.value) ∙ slice_get_read list (length list) before start refl c.in-Some-get.ensures.lookup.3.0 c.in-Some-get.ensures.lookup.1 in
    let least = c.min.ensures in
    let last = c.in-Some.ensures in
    noted.behind before start known k (omega (arith, least, from, to)) (omega (arith, last, to))
