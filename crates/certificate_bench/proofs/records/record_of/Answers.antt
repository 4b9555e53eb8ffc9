use Rattle.std.proofs.Common.{rules, ◌≡◌, ◌≤◌, ◌∷◌, [], List, length, sym, subst, arith}
use Rattle.std.specs.Prelude.{All}
use Rattle.std.proofs.lemmas.List.Elements.{All-cons, All-nil}
use Rattle.strategy_certificate.specs.declared.certificates.Certificate.{Certificate}
use Rattle.bench_records.specs.Texts.{IsShown}
use Rattle.certificate_bench.proofs.records.record_of.Goals as goal

pub encode-requires : goal.encode-requires
encode-requires c =
    let P = IsShown 2 c.args.c.position in
    let some : 1 ≤ 1 = omega arith in
    let few : 1 ≤ 4 = omega arith in
    let one : c.from_vec.result ≡ c.args.c ∷ [] = search rules in
    (2, subst (λ (shown : List Certificate). (1 ≤ length shown) × ((length shown ≤ 4) × All P shown)) (sym one) (some, (few, All-cons P c.args.c [] c.requires (All-nil P))))
